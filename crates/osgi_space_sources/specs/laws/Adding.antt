-- What a list gains step by step, and over a loop.
use Rattle.std.proofs.Common.{◌≡◌, ◌↔◌, ◌⊎◌, inl, inr, ℕ, ◌+◌, ◌<◌, ◌≤◌, List, [], ◌∷◌, ◌++◌, length, get_or, take, refl, sym, ◌∙◌, ap, subst, arith, append_assoc, append-nil, All, Contains, Any}
use Rattle.std.proofs.lemmas.List.{get_or_default, take_all, take_more}
use Rattle.std.proofs.lemmas.List.Elements.{All-more, All-contains, Contains-append_left, Contains-push, Contains-push_cases}
use Rattle.osgi_space_sources.specs.computed.Adds.{Adds}

pub any-of : {X : Type 0} (P : X → Type 0) (xs : List X) (x : X) → Contains xs x → P x → Any P xs
any-of P xs x at p = (at.0, x, at.1, at.2, p)

pub any-in : {X : Type 0} (P : X → Type 0) (xs : List X) (any : Any P xs) → Contains xs any.1
any-in P xs any = (any.0, any.2, any.3)

pub any-none : {X : Type 0} (P : X → Type 0) → ¬ Any P []
any-none P any = omega (arith, any.2)

any-push : {X : Type 0} (P : X → Type 0) (xs : List X) (y : X) → Any P (xs ++ y ∷ []) ↔ (Any P xs ⊎ P y)
any-push P xs y = (
  λ any. elim (Contains-push_cases xs y any.1 (any-in P _ any)) [ inl old ↦ inl (any-of P xs any.1 old any.4) | inr e ↦ inr (subst P (sym e) any.4) ],
  λ either. elim either [
    | inl any ↦ any-of P _ any.1 (Contains-append_left xs (y ∷ []) any.1 (any-in P xs any)) any.4
    | inr p ↦ any-of P _ y (Contains-push xs y) p
  ],
)

pub any-more : {X : Type 0} (P : X → Type 0) (xs : List X) (i : ℕ) (y : X) → i < length xs → y ≡ get_or xs i y → Any P (take (i + 1) xs) ↔ (Any P (take i xs) ⊎ P y)
any-more P xs i y h at =
    let more : take (i + 1) xs ≡ take i xs ++ y ∷ [] = take_more xs i y h ∙ ap (λ z. take i xs ++ z ∷ []) (sym at) in
    rw more (any-push P (take i xs) y)

pub contains-more : {X : Type 0} (xs : List X) (i : ℕ) (y : X) → i < length xs → y ≡ get_or xs i y → (x : X) → Contains (take (i + 1) xs) x ↔ (Contains (take i xs) x ⊎ (x ≡ y))
contains-more xs i y h at x =
    let more : take (i + 1) xs ≡ take i xs ++ y ∷ [] = take_more xs i y h ∙ ap (λ z. take i xs ++ z ∷ []) (sym at) in
    rw more (
      λ c. elim (Contains-push_cases (take i xs) y x c) [ inl old ↦ inl old | inr e ↦ inr (sym e) ],
      λ either. elim either [ inl old ↦ Contains-append_left (take i xs) (y ∷ []) x old | inr e ↦ subst (Contains (take i xs ++ y ∷ [])) (sym e) (Contains-push (take i xs) y) ],
    )

-- the item of the list at the place, as a slice of it has it
pub item-at : {X : Type 0} (list slice : List X) (i : ℕ) (y : X) → slice ≡ list → i < length list → get_or slice i y ≡ get_or list i (get_or slice i y)
item-at list slice i y same within = ap (λ xs. get_or xs i y) same ∙ get_or_default list i y (get_or slice i y) within

-- ---- steps

pub adds-nothing : {T : Type 0} (Q : T → Type 0) (xs : List T) → ((t : T) → ¬ Q t) → Adds Q xs xs
adds-nothing Q xs none = record {
  grown = ([], sym (append-nil xs));
  exact = λ t. (λ c. inl c, λ either. elim either [ inl c ↦ c | inr q ↦ absurd (none t q) ]);
}

pub adds-push : {T : Type 0} (xs : List T) (x : T) → Adds (λ t. t ≡ x) xs (xs ++ x ∷ [])
adds-push xs x = record {
  grown = (x ∷ [], refl);
  exact = λ t. (
    λ c. elim (Contains-push_cases xs x t c) [ inl old ↦ inl old | inr e ↦ inr (sym e) ],
    λ either. elim either [ inl old ↦ Contains-append_left xs (x ∷ []) t old | inr e ↦ subst (Contains (xs ++ x ∷ [])) (sym e) (Contains-push xs x) ],
  );
}

pub adds-same : {T : Type 0} {Q S : T → Type 0} {old new : List T} → ((t : T) → Q t ↔ S t) → Adds Q old new → Adds S old new
adds-same same adds = record {
  grown = adds.grown;
  exact = λ t. (
    λ c. elim ((adds.exact t).0 c) [ inl o ↦ inl o | inr q ↦ inr ((same t).0 q) ],
    λ either. (adds.exact t).1 (elim either [ inl o ↦ inl o | inr s ↦ inr ((same t).1 s) ]),
  );
}

pub adds-then : {T : Type 0} {Q S : T → Type 0} {old mid new : List T} → Adds Q old mid → Adds S mid new → Adds (λ t. Q t ⊎ S t) old new
adds-then {old = old} {new = new} first second = record {
  grown = (first.grown.0 ++ second.grown.0, second.grown.1 ∙ ap (λ xs. xs ++ second.grown.0) first.grown.1 ∙ append_assoc old first.grown.0 second.grown.0);
  exact = λ t. (
    λ c. elim ((second.exact t).0 c) [ inl m ↦ elim ((first.exact t).0 m) [ inl o ↦ inl o | inr q ↦ inr (inl q) ] | inr s ↦ inr (inr s) ],
    λ either. elim either [
      | inl o ↦ (second.exact t).1 (inl ((first.exact t).1 (inl o)))
      | inr e ↦ elim e [ inl q ↦ (second.exact t).1 (inl ((first.exact t).1 (inr q))) | inr s ↦ (second.exact t).1 (inr s) ]
    ],
  );
}

-- where the old list is replaced by an equal one
pub adds-from : {T : Type 0} {Q : T → Type 0} {old new : List T} → old ≡ [] → Adds Q old new → (t : T) → Contains new t ↔ Q t
adds-from {T} {Q} {old} {new} empty adds t = (
  λ c. elim ((adds.exact t).0 c) [ inl o ↦ let none : Contains [] t = subst (λ xs. Contains xs t) empty o in absurd (omega (arith, none.1)) | inr q ↦ q ],
  λ q. (adds.exact t).1 (inr q),
)

-- ---- loops

-- what each of these adds
abbrev pub Each : {X T : Type 0} → (X → T → Type 0) → List X → T → Type 0
Each P xs t = Any (λ x. P x t) xs

module _ {X T : Type 0} (P : X → T → Type 0) (xs : List X) where
  pub adds-start : (old : List T) → Adds (Each P (take 0 xs)) old old
  adds-start old = adds-nothing _ old (λ t any. any-none (λ x. P x t) any)

  pub adds-more : (i : ℕ) (x : X) → i < length xs → x ≡ get_or xs i x → {old mid new : List T} → Adds (Each P (take i xs)) old mid → Adds (P x) mid new → Adds (Each P (take (i + 1) xs)) old new
  adds-more i x h at before step =
      adds-same (λ t. let more = any-more (λ y. P y t) xs i x h at in (more.1, more.0)) (adds-then before step)

  pub adds-whole : (i : ℕ) → length xs ≤ i → {old new : List T} → Adds (Each P (take i xs)) old new → Adds (Each P xs) old new
  adds-whole i h {old} {new} adds = subst (λ ys. Adds (Each P ys) old new) (take_all i xs h) adds

-- ---- loops that look for an item

module _ {X : Type 0} (P : X → Type 0) (xs : List X) where
  pub none-start : ¬ Any P (take 0 xs)
  none-start any = any-none P any

  pub none-more : (i : ℕ) (x : X) → i < length xs → x ≡ get_or xs i x → ¬ Any P (take i xs) → ¬ P x → ¬ Any P (take (i + 1) xs)
  none-more i x h at before other any = elim ((any-more P xs i x h at).0 any) [ inl old ↦ before old | inr p ↦ other p ]

  pub none-whole : (i : ℕ) → length xs ≤ i → ¬ Any P (take i xs) → ¬ Any P xs
  none-whole i h before = subst (λ ys. ¬ Any P ys) (take_all i xs h) before

  pub any-at : (i : ℕ) (x : X) → i < length xs → x ≡ get_or xs i x → P x → Any P xs
  any-at i x h at p = any-of P xs x (i, h, sym at) p

-- ---- loops after which something holds of each item

pub all-more : {X : Type 0} (P Q : X → Type 0) (xs : List X) (i : ℕ) (x : X) → i < length xs → x ≡ get_or xs i x → ((y : X) → P y → Q y) → All P (take i xs) → Q x → All Q (take (i + 1) xs)
all-more P Q xs i x h at kept before here = All-more Q xs i x h (λ k d lt. kept _ (before k d lt)) (subst Q at here)

pub all-of : {X : Type 0} (P : X → Type 0) (xs : List X) (i : ℕ) → length xs ≤ i → All P (take i xs) → (x : X) → Contains xs x → P x
all-of P xs i h before x at = All-contains P xs x (subst (All P) (take_all i xs h) before) at
