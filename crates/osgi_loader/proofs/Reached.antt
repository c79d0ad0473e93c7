-- The loop over bundles that are reached along reexports.
use Rattle.std.proofs.Common.{◌≡◌, ◌↔◌, ◌⊎◌, inl, inr, ℕ, ◌+◌, ◌<◌, ◌≤◌, Bool, true, false, cond, List, [], ◌∷◌, ◌++◌, length, get_or, refl, sym, ◌∙◌, ap, subst, arith, Contains, append_assoc, append-nil, length-append, below_more}
use Rattle.std.specs.Prelude.{nat_eq}
use Rattle.std.specs.List.{list_any}
use Rattle.std.proofs.lemmas.Bool.{eqb-true}
use Rattle.std.proofs.lemmas.List.{get_or_append_left, get_or_default}
use Rattle.std.proofs.lemmas.List.Elements.{Contains-append_left, Contains-push, Contains-push_cases}
use Rattle.std.proofs.lemmas.List.Folds.{Any-from_list_any}
use Rattle.indexmap.specs.IndexSet.{insert_all, insert_key}
use Rattle.osgi_ops.specs.laws.Members.{Contains-cases, Contains-first, Contains-more, Contains-none}
use Rattle.osgi_world.specs.declared.world.World.{World}
use Rattle.osgi_loader.specs.computed.Wires.{IsReached, start, reexported, reexports}

-- ---- keys that are inserted in turn

abbrev Grows : List ℕ → List ℕ → Type 0
Grows old new = (more : List ℕ) × (new ≡ old ++ more)

grows-key : (ks : List ℕ) (k : ℕ) → Grows ks (insert_key nat_eq ks k)
grows-key ks k = by (list_any (nat_eq k) ks)
  where
    by : (t : Bool) → Grows ks (cond t ks (ks ++ k ∷ []))
    by true = ([], sym (append-nil ks))
    by false = (k ∷ [], refl)

pub grows-all : (ks xs : List ℕ) → Grows ks (insert_all nat_eq ks xs)
grows-all ks [] = ([], sym (append-nil ks))
grows-all ks (x ∷ xs) =
    let first = grows-key ks x in
    let rest = grows-all (insert_key nat_eq ks x) xs in
    (first.0 ++ rest.0, rest.1 ∙ ap (λ l. l ++ rest.0) first.1 ∙ append_assoc ks first.0 rest.0)

key-there : (ks : List ℕ) (k : ℕ) → list_any (nat_eq k) ks ≡ true → Contains ks k
key-there ks k e = let any = Any-from_list_any (nat_eq k) ks e in subst (Contains ks) (sym (eqb-true k any.1 any.4)) (any.0, any.2, any.3)

has-key : (ks : List ℕ) (k x : ℕ) → Contains (insert_key nat_eq ks k) x ↔ (Contains ks x ⊎ (k ≡ x))
has-key ks k x = by (list_any (nat_eq k) ks) refl
  where
    by : (t : Bool) → list_any (nat_eq k) ks ≡ t → Contains (cond t ks (ks ++ k ∷ [])) x ↔ (Contains ks x ⊎ (k ≡ x))
    by true e = (λ c. inl c, λ either. elim either [ inl c ↦ c | inr s ↦ subst (Contains ks) s (key-there ks k e) ])
    by false e = (
      λ c. elim (Contains-push_cases ks k x c) [ inl c ↦ inl c | inr s ↦ inr s ],
      λ either. elim either [ inl c ↦ Contains-append_left ks (k ∷ []) x c | inr s ↦ subst (Contains (ks ++ k ∷ [])) s (Contains-push ks k) ],
    )

pub has-all : (ks xs : List ℕ) (x : ℕ) → Contains (insert_all nat_eq ks xs) x ↔ (Contains ks x ⊎ Contains xs x)
has-all ks [] x = (λ c. inl c, λ either. elim either [ inl c ↦ c | inr none ↦ absurd (Contains-none x none) ])
has-all ks (y ∷ ys) x =
    let rest = has-all (insert_key nat_eq ks y) ys x in
    let first = has-key ks y x in (
      λ c. elim (rest.0 c) [
        | inl k ↦ elim (first.0 k) [ inl old ↦ inl old | inr s ↦ inr (subst (Contains (y ∷ ys)) s (Contains-first y ys)) ]
        | inr later ↦ inr (Contains-more y ys x later)
      ],
      λ either. elim either [
        | inl old ↦ rest.1 (inl (first.1 (inl old)))
        | inr new ↦ elim (Contains-cases y ys x new) [ inl s ↦ rest.1 (inl (first.1 (inr s))) | inr later ↦ rest.1 (inr later) ]
      ],
    )

-- ---- the loop

-- what is there is reached, what begins is there, and what the bundles before `next` reexport is there
pub record IsWorklist (world : World) (starts all : List ℕ) (next : ℕ) : Type 0 where
  pub reached : (x : ℕ) → Contains all x → IsReached world starts x
  pub begins : (x : ℕ) → Contains starts x → Contains all x
  pub closed : (k : ℕ) → k < next → (x y : ℕ) → k < length all → get_or all k x ≡ x → Contains (reexports world x) y → Contains all y

module _ (world : World) (starts : List ℕ) where
  pub worklist-init : (all : List ℕ) → all ≡ insert_all nat_eq [] starts → IsWorklist world starts all 0
  worklist-init all is =
      let same = λ (x : ℕ). subst (λ l. Contains l x ↔ (Contains [] x ⊎ Contains starts x)) (sym is) (has-all [] starts x) in
      record {
        reached = λ x c. elim ((same x).0 c) [ inl none ↦ absurd (Contains-none x none) | inr s ↦ start s ];
        begins = λ x s. (same x).1 (inr s);
        closed = λ k h. absurd (omega arith);
      }

  pub worklist-step : (old new : List ℕ) (next from : ℕ) → next < length old → from ≡ get_or old next from → new ≡ insert_all nat_eq old (reexports world from) → IsWorklist world starts old next → IsWorklist world starts new (next + 1)
  worklist-step old new next from h at is before =
      let same = λ (x : ℕ). subst (λ l. Contains l x ↔ (Contains old x ⊎ Contains (reexports world from) x)) (sym is) (has-all old (reexports world from) x) in
      let grown : Grows old new = subst (Grows old) (sym is) (grows-all old (reexports world from)) in
      let longer : length new ≡ length old + length grown.0 = ap length grown.1 ∙ length-append old grown.0 in
      let kept = λ (k : ℕ) (x : ℕ) (lt : k < length old). ap (λ (l : List ℕ). get_or l k x) grown.1 ∙ get_or_append_left old grown.0 x k lt in
      record {
        reached = λ x c. elim ((same x).0 c) [ inl o ↦ before.reached x o | inr s ↦ reexported (before.reached from (next, h, sym at)) s ];
        begins = λ x s. (same x).1 (inl (before.begins x s));
        closed = below_more (λ k. (x y : ℕ) → k < length new → get_or new k x ≡ x → Contains (reexports world x) y → Contains new y) next
            (λ k lt x y in_new is s. (same y).1 (inl (before.closed k lt x y (omega arith) (sym (kept k x (omega arith)) ∙ is) s)))
            (λ x y in_new is s.
            let same_node : x ≡ from = sym is ∙ kept next x h ∙ get_or_default old next x from h ∙ sym at in
            (same y).1 (inr (subst (λ z. Contains (reexports world z) y) same_node s)));
      }

  all-reached : (all : List ℕ) (next : ℕ) → length all ≤ next → IsWorklist world starts all next → (x : ℕ) → IsReached world starts x → Contains all x
  all-reached all next h w x (start s) = w.begins x s
  all-reached all next h w x (reexported {b = b} r s) =
      let there = all-reached all next h w b r in
      w.closed there.0 (omega (arith, there.1)) b x there.1 there.2 s

  pub worklist-done : (all : List ℕ) (next : ℕ) → length all ≤ next → IsWorklist world starts all next → (x : ℕ) → Contains all x ↔ IsReached world starts x
  worklist-done all next h w x = (w.reached x, all-reached all next h w x)
