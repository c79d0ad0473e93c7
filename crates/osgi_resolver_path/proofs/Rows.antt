-- The rows of the wirings with the steps of marks are those of the wirings with what is decided.
use Rattle.std.proofs.Common.{◌≡◌, ℕ, inl, inr, List, [], ◌∷◌, ◌++◌, map, refl, sym, ◌∙◌, subst}
use Rattle.osgi_base.specs.declared.ids.RevisionId.{RevisionId}
use Rattle.osgi_world.specs.Decisions.{Step, attached, wired}
use Rattle.osgi_world.specs.Lists.{In}
use Rattle.osgi_world.specs.Partial.{partial}
use Rattle.osgi_world.specs.declared.problem.Problem.{Problem}
use Rattle.osgi_world.specs.declared.wiring.Wiring.{Wiring}
use Rattle.osgi_world.specs.declared.world.Known.{Known}
use Rattle.osgi_resolver_theory.proofs.Agree.{Part, bundle-part, package-part, reexport-part}
use Rattle.osgi_resolver_theory.proofs.Lists.{in-append_cases, in-append_left, in-append_right}
use Rattle.osgi_resolver_theory.proofs.Steps.{steps-from, steps-to}
use Rattle.osgi_resolver_theory.specs.Steps as choice
use Rattle.osgi_resolver_theory.specs.Steps.{all_steps, wiring_of}
use Rattle.osgi_space_rows.specs.Agree.{AreRowsOf, id}
use Rattle.osgi_space_rows.specs.Rows.{RowLists}
use Rattle.osgi_space_rows.specs.Steps.{step_wiring, after_steps}
use Rattle.osgi_space_rows.specs.Worlds.{AreRowsIn, WorldLists}
use Rattle.osgi_resolver_path.proofs.Next.{right-state}
use Rattle.osgi_resolver_path.proofs.Viewing.{steps-all}
use Rattle.osgi_resolver_path.specs.computed.Courses.{CourseLists, IsRight, made_of, steps_of}
use Rattle.osgi_resolver_path.specs.declared.course.Mark.{Mark}

-- rows say the same of wirings that hold the same
rows-same : (K : List Known) (W V : List Wiring) (N : ℕ → List ℕ) (R : RowLists) → ((r : RevisionId) → Part K W V r) → ((r : RevisionId) → Part K V W r) → AreRowsOf K W N R → AreRowsOf K V N R
rows-same K W V N R to from rows = record {
  names = rows.names;
  imports_to = λ r p x i. package-part (to (id r)) (rows.imports_to r p x i);
  imports_from = λ r x p w. rows.imports_from r x p (package-part (from (id r)) w);
  requires = λ r x. (λ i. bundle-part (to (id r)) ((rows.requires r x).0 i), λ w. (rows.requires r x).1 (bundle-part (from (id r)) w));
  reexports = λ r x. (λ i. reexport-part (to (id r)) ((rows.reexports r x).0 i), λ w. (rows.reexports r x).1 (reexport-part (from (id r)) w));
  attaches = λ h f. (λ i. (to (id h)).attached (id f) ((rows.attaches h f).0 i), λ a. (rows.attaches h f).1 ((from (id h)).attached (id f) a));
  exports_to = rows.exports_to;
  exports_from = rows.exports_from;
  uses_to = rows.uses_to;
  uses_from = rows.uses_from;
}

all-part : (K : List Known) (W V : List Wiring) → ((g : Wiring) → In g W → In g V) → (r : RevisionId) → Part K W V r
all-part K W V all r = record {
  attached = λ f h. record { wiring = h.wiring; stands = all h.wiring h.stands; revision = h.revision; has = h.has };
  wires = λ w h t. record { wiring = h.wiring; stands = all h.wiring h.stands; revision = h.revision; has = h.has };
}

-- ---- steps, the last first or last

same-wiring : (s : Step) → step_wiring s ≡ wiring_of s
same-wiring (attached h f) = refl
same-wiring (wired r w) = refl

onward : (W : List Wiring) (h : Wiring) (gs : List Wiring) (g : Wiring) → In g (W ++ gs) → In g (W ++ h ∷ gs)
onward W h gs g i = elim (in-append_cases W gs g i) [ inl a ↦ in-append_left W (h ∷ gs) g a | inr b ↦ in-append_right W (h ∷ gs) g (inr b) ]

to-choice : (W : List Wiring) (steps : List Step) (g : Wiring) → In g (after_steps W steps) → In g (choice.with_steps W steps)
to-choice W [] g i = in-append_left W [] g i
to-choice W (s ∷ steps) g i = elim (in-append_cases (after_steps W steps) (step_wiring s ∷ []) g i) [
  | inl a ↦ onward W (wiring_of s) (map wiring_of steps) g (to-choice W steps g a)
  | inr (inl e) ↦ in-append_right W (map wiring_of (s ∷ steps)) g (inl (e ∙ same-wiring s))
  | inr (inr x) ↦ elim x [ ]
]

old-in : (W : List Wiring) (steps : List Step) (g : Wiring) → In g W → In g (after_steps W steps)
old-in W [] g i = i
old-in W (s ∷ steps) g i = in-append_left (after_steps W steps) (step_wiring s ∷ []) g (old-in W steps g i)

new-in : (W : List Wiring) (steps : List Step) (g : Wiring) → In g (map wiring_of steps) → In g (after_steps W steps)
new-in W [] g i = elim i [ ]
new-in W (s ∷ steps) g (inl e) = in-append_right (after_steps W steps) (step_wiring s ∷ []) g (inl (e ∙ sym (same-wiring s)))
new-in W (s ∷ steps) g (inr i) = in-append_left (after_steps W steps) (step_wiring s ∷ []) g (new-in W steps g i)

from-choice : (W : List Wiring) (steps : List Step) (g : Wiring) → In g (choice.with_steps W steps) → In g (after_steps W steps)
from-choice W steps g i = elim (in-append_cases W (map wiring_of steps) g i) [ inl a ↦ old-in W steps g a | inr b ↦ new-in W steps g b ]

-- ---- the rows of what is decided

pub rows-seen : (P : Problem) (ms : List Mark) (F : CourseLists) → IsRight P ms F → (rows : WorldLists) → rows.known ≡ P.world.known → AreRowsIn rows (after_steps P.world.wirings (steps_of ms)) → AreRowsIn rows (partial P (made_of ms))
rows-seen P ms F r rows known are =
    let K = P.world.known in
    let W = P.world.wirings in
    let D = made_of ms in
    let s = right-state P ms F r in
    let steps = all_steps P D in
    let first : AreRowsIn rows (after_steps W steps) = subst (λ x. AreRowsIn rows (after_steps W x)) (steps-all P ms r.steps) are in
    let second : AreRowsIn rows (choice.with_steps W steps) = rows-same rows.known (after_steps W steps) (choice.with_steps W steps) _ rows.rows (all-part rows.known _ _ (to-choice W steps)) (all-part rows.known _ _ (from-choice W steps)) first in
    rows-same rows.known (choice.with_steps W steps) (partial P D) _ rows.rows
    (λ x. subst (λ k. Part k (choice.with_steps W steps) (partial P D) x) (sym known) (steps-to P D s x))
    (λ x. subst (λ k. Part k (partial P D) (choice.with_steps W steps) x) (sym known) (steps-from P D x)) second
