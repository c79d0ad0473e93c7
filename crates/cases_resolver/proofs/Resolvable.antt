-- A revision may be resolved where it is known, current, no fragment and not in force, and what is found may be put in force.
use Rattle.std.proofs.Common.{◌≡◌, ◌∙◌, ℕ, Bor, inr, List, [], ◌∷◌, ◌++◌, map, ap, refl, sym, subst}
use Rattle.std.specs.Prelude.{◌==◌, false, is_some, Option, None, Some, true}
use Rattle.std.specs.List.Sorted.{IsNonDecreasing}
use Rattle.std.specs.Option.{option_copied, option_map_or}
use Rattle.std.proofs.lemmas.Bool.{eq-eqb}
use Rattle.osgi_base.specs.declared.ids.RevisionId.{RevisionId}
use Rattle.osgi_resolver_theory.proofs.Ordered.{partial-ordered}
use Rattle.osgi_resolver.specs.Answers.{IsAnswerTo}
use Rattle.osgi_resolver.specs.declared.answer.Answer.TheVariants.{Found}
use Rattle.osgi_wiring.proofs.Kept.{none-in}
use Rattle.osgi_wiring.specs.States.{MayExtend, wiring_at}
use Rattle.osgi_world.specs.Candidates.{IsUnresolved}
use Rattle.osgi_world.specs.ChoiceWords.{made_by}
use Rattle.osgi_world.specs.Consistency.{Extends}
use Rattle.osgi_world.specs.Lists.{In}
use Rattle.osgi_world.specs.Lookups.{bundle_of, known_at}
use Rattle.osgi_world.specs.Partial.{added}
use Rattle.osgi_world.specs.Wirings.{InForce}
use Rattle.osgi_world.specs.declared.wiring.Wiring.{Wiring}
use Rattle.osgi_world.specs.declared.world.Known.{Known}
use Rattle.osgi_world.specs.declared.world.World.{World}

-- what has no wiring is not in force
not_wired : (W : List Wiring) (r : RevisionId) → wiring_at W r ≡ None → ¬ InForce W r
not_wired W r none i = none-in (λ (v : Wiring). v.revision.0 == r.0) W i.wiring none i.stands (ap (λ (s : RevisionId). s.0 == r.0) i.revision ∙ eq-eqb r.0 r.0 refl)

pub none_copied : {X : Type 0} (o : Option (Bor X)) (w : Option X) → option_copied o ≡ w → is_some o ≡ false → w ≡ None
none_copied None w is none = sym is
none_copied (Some x) w is none = absurd (cc none)

pub unresolved : (W : World) (r : RevisionId) (k : Known) → Some k ≡ known_at W.known r → k.current ≡ true → is_some k.revision.host ≡ false → wiring_at W.wirings r ≡ None → IsUnresolved W.known W.wirings r
unresolved W r k is current whole none = record {
  current = ap (λ o. option_map_or (λ (k : Known). k.current) o false) (sym is) ∙ current;
  no_fragment = λ t. let there : is_some k.revision.host ≡ true = rw (sym is) at t in cc (there, whole);
  not_in_force = not_wired W.wirings r none;
}

in_right : {X : Type 0} (xs ys : List X) (x : X) → In x ys → In x (xs ++ ys)
in_right [] ys x i = i
in_right (y ∷ xs) ys x i = inr (in_right xs ys x i)

-- the wirings that are found may be added
pub found_extends : (W : World) (root : RevisionId) (n : ℕ) (word : List ℕ) (wirings : List Wiring) → IsAnswerTo W root n (Found word wirings) → MayExtend W wirings
found_extends W root n word wirings a =
    let P = a.problem in
    let D = made_by P word in
    let here : Extends W.known W.wirings (W.wirings ++ added P D) P.root = subst (λ (w : World). Extends w.known w.wirings (w.wirings ++ added P D) P.root) a.world a.is.0.good.2 in
    record {
      root = P.root;
      extends = subst (λ l. Extends W.known W.wirings (W.wirings ++ l) P.root) (sym a.is.2) here;
      fragments_ordered = λ g there.
          subst (λ (w : World). IsNonDecreasing (map (bundle_of w.known) g.fragments)) a.world ((partial-ordered P a.is_problem D).fragments_ordered g (in_right P.world.wirings (added P D) g (subst (In g) a.is.2 there)));
    }
