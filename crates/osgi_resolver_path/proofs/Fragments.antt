-- Attached fragments, by the rows of the wirings.
use Rattle.std.proofs.Common.{◌≡◌, ◌≢◌, ◌↔◌, ℕ, ◌+◌, ◌<◌, ◌≤◌, inl, inr, true, false, cond, IsTrue, if◌then◌else◌, List, [], ◌∷◌, ◌++◌, length, get_or, take, filter, reverse, Some, refl, sym, ◌∙◌, ap, subst, arith, append-nil, Any, Contains}
use Rattle.std.specs.Prelude.{Bool, ◌==◌, ◌&&◌}
use Rattle.std.proofs.lemmas.Bool.{ne_eqb}
use Rattle.std.proofs.lemmas.List.{take_all}
use Rattle.std.proofs.lemmas.List.Elements.{filter_more}
use Rattle.osgi_base.specs.declared.ids.RevisionId.{RevisionId}
use Rattle.osgi_resolver_decisions.specs.DecisionOf.{decision_of}
use Rattle.osgi_resolver_decisions.specs.declared.decision_ref.DecisionRef.{DecisionRef}
use Rattle.osgi_resolver_path.proofs.After.{next-is, state}
use Rattle.osgi_resolver_path.proofs.Joining.{both-ways}
use Rattle.osgi_resolver_path.proofs.Rows.{rows-seen}
use Rattle.osgi_resolver_path.specs.computed.Attached.{AreAttached, AreNumbers}
use Rattle.osgi_resolver_path.specs.computed.Courses.{IsRight, lists_of, made_of, steps_of}
use Rattle.osgi_resolver_path.specs.computed.Nexts.{IsNextOf}
use Rattle.osgi_resolver_path.specs.declared.course.Course.{Course}
use Rattle.osgi_resolver_theory.proofs.States.{due-host, member-new, next-due}
use Rattle.osgi_resolver_theory.proofs.Values.{some-yes, value-head, yes-some}
use Rattle.osgi_resolver_theory.proofs.Views.{attached-cases, attached-made}
use Rattle.osgi_resolver_theory.specs.States.{State}
use Rattle.osgi_space_rows.specs.Agree.{id}
use Rattle.osgi_space_rows.specs.Rows.{Attaches, RowLists, attached_to}
use Rattle.osgi_space_rows.specs.Steps.{after_steps}
use Rattle.osgi_space_rows.specs.Worlds.{AreRowsIn, WorldLists}
use Rattle.osgi_space_rows.specs.declared.rows.Attachment.{Attachment}
use Rattle.osgi_space_sources.proofs.Rows.{some-attached}
use Rattle.osgi_space_sources.specs.laws.Adding.{adds-push, any-more, any-none}
use Rattle.osgi_world.specs.Candidates.{IsProblem}
use Rattle.osgi_world.specs.Decisions.{Made, attaching, host, is_yes, same_decision, value_made}
use Rattle.osgi_world.specs.DueDecisions.{members}
use Rattle.osgi_world.specs.Lists.{In}
use Rattle.osgi_world.specs.Partial.{partial}
use Rattle.osgi_world.specs.declared.problem.Problem.{Problem}

-- ---- the numbers of rows

-- the list has the numbers of the fragments of these rows
abbrev pub AreOf : List ℕ → List Attachment → Type 0
AreOf numbers rows = (n : ℕ) → Contains numbers n ↔ Any (λ (row : Attachment). row.fragment ≡ n) rows

pub no-row : (numbers : List ℕ) → numbers ≡ [] → AreOf numbers []
no-row numbers e n = (
  λ has. let none : Contains [] n = subst (λ (xs : List ℕ). Contains xs n) e has in absurd (omega (arith, none.1)),
  λ any. absurd (any-none (λ (row : Attachment). row.fragment ≡ n) any),
)

pub row-more : (numbers : List ℕ) (rows : List Attachment) (i : ℕ) (row : Attachment) → i < length rows → row ≡ get_or rows i row → AreOf numbers (take i rows) → AreOf (numbers ++ row.fragment ∷ []) (take (i + 1) rows)
row-more numbers rows i row within at before n =
    let put = (adds-push numbers row.fragment).exact n in
    let more = any-more (λ (r : Attachment). r.fragment ≡ n) rows i row within at in (
      λ has. elim (put.0 has) [ inl old ↦ more.1 (inl ((before n).0 old)) | inr e ↦ more.1 (inr (sym e)) ],
      λ any. elim (more.0 any) [ inl old ↦ put.1 (inl ((before n).1 old)) | inr e ↦ put.1 (inr (sym e)) ],
    )

pub all-rows : (R : RowLists) (h : ℕ) (numbers : List ℕ) (rows : List Attachment) (i : ℕ) → rows ≡ attached_to R h → length rows ≤ i → AreOf numbers (take i rows) → (n : ℕ) → Contains numbers n ↔ Attaches R h n
all-rows R h numbers rows i are past before n =
    let some = some-attached R (λ f. f ≡ n) h in
    let now : AreOf numbers (attached_to R h) = subst (AreOf numbers) are (subst (AreOf numbers) (take_all i rows past) before) in (
      λ has. let at = some.0 ((now n).0 has) in subst (Attaches R h) at.2 at.1,
      λ a. (now n).1 (some.1 (n, a, refl)),
    )

-- ---- what is decided

-- the numbers of rows are those of the fragments that are attached
pub numbers-made : (numbers : List ℕ) (R : RowLists) (D : Made) (h : RevisionId) → ((n : ℕ) → Contains numbers n ↔ Attaches R h.0 n) → AreAttached R D h → AreNumbers numbers D h
numbers-made numbers R D h are at n = (λ has. (at (id n)).0 ((are n).0 has), λ e. (are n).1 ((at (id n)).1 e))

-- whether a number is there says whether the decision is yes
pub has-yes : (numbers : List ℕ) (D : Made) (h f : RevisionId) (b : Bool) → AreNumbers numbers D h → IsTrue b ↔ Contains numbers f.0 → b ≡ is_yes (value_made D (attaching h f))
has-yes numbers D h f b are has = both-ways b _ (λ t. some-yes _ ((are f.0).0 (has.0 t))) (λ t. has.1 ((are f.0).1 (yes-some _ t)))

pub head-yes : (D : Made) (h d f : RevisionId) (v : ℕ) (b : Bool) → d.0 ≡ f.0 → b ≡ is_yes (Some v) → b ≡ is_yes (value_made ((attaching h d, v) ∷ D) (attaching h f))
head-yes D h d f v b same is = is ∙ ap is_yes (sym (subst (λ (g : RevisionId). value_made ((attaching h d, v) ∷ D) (attaching h g) ≡ Some v) (ap id same) (value-head D (attaching h d) v)))

and-false : (b : Bool) → (b && false) ≡ false
and-false true = refl
and-false false = refl

pub tail-value : (D : Made) (h d f : RevisionId) (v : ℕ) → d.0 ≢ f.0 → value_made ((attaching h d, v) ∷ D) (attaching h f) ≡ value_made D (attaching h f)
tail-value D h d f v apart =
    let other : same_decision (attaching h d) (attaching h f) ≡ false = ap (λ b. (h.0 == h.0) && b) (ne_eqb d.0 f.0 apart) ∙ and-false (h.0 == h.0) in
    ap (λ (b : Bool). if b then Some v else value_made D (attaching h f)) other

-- ---- one fragment more

module _ (p : RevisionId → Bool) (xs : List RevisionId) (i : ℕ) (x : RevisionId) (within : i < length xs) (at : x ≡ get_or xs i x) (list : List RevisionId) (before : list ≡ filter p (take i xs)) where
  then-is : filter p (take i xs) ++ cond (p x) (x ∷ []) [] ≡ filter p (take (i + 1) xs)
  then-is = ap (λ y. filter p (take i xs) ++ cond (p y) (y ∷ []) []) at ∙ sym (filter_more p xs i x within)

  pub yes-more : true ≡ p x → list ++ x ∷ [] ≡ filter p (take (i + 1) xs)
  yes-more is = ap (λ l. l ++ x ∷ []) before ∙ ap (λ b. filter p (take i xs) ++ cond b (x ∷ []) []) is ∙ then-is

  pub no-more : false ≡ p x → list ≡ filter p (take (i + 1) xs)
  no-more is = before ∙ sym (append-nil (filter p (take i xs))) ∙ ap (λ b. filter p (take i xs) ++ cond b (x ∷ []) []) is ∙ then-is

-- ---- the rows of what is decided

pub attached-rows : (P : Problem) → IsProblem P → (D : Made) → State P D → (rows : WorldLists) → AreRowsIn rows (partial P D) → (h : RevisionId) → In h (members P D) → AreAttached rows.rows D h
attached-rows P L D s rows are h i f = (
  λ a. elim (attached-cases P D h f ((are.attaches h.0 f.0).0 a)) [
    | inl old ↦ absurd (member-new P L.root_is.not_in_force D h i (record { wiring = old.wiring; stands = old.stands; revision = old.revision }))
    | inr new ↦ new.2
  ],
  λ e. (are.attaches h.0 f.0).1 (attached-made P D s h f e),
)

-- before the next decision of a course
pub attached-next : (P : Problem) (L : IsProblem P) (c : Course) (ids : List RevisionId) (decision : DecisionRef) (value : ℕ) → IsRight P (reverse c.marks.items) (record (lists_of c) { ids = ids }) → IsNextOf P c ids decision value →
    (rows : WorldLists) → rows.known ≡ P.world.known → AreRowsIn rows (after_steps P.world.wirings (steps_of (reverse c.marks.items))) → AreAttached rows.rows (made_of (reverse c.marks.items)) (host (decision_of decision))
attached-next P L c ids decision value r n rows known are =
    let ms = reverse c.marks.items in
    let D = made_of ms in
    let d = decision_of decision in
    let y = next-due P D d (next-is P L c ids decision value r n) in
    let member : In (host d) (members P D) = subst (λ m. In m (members P D)) (sym (due-host P D y.0 d y.2)) y.1 in
    attached-rows P L D (state P L c ids decision value r n) rows (rows-seen P ms (record (lists_of c) { ids = ids }) r rows known are) (host d) member
