-- What stands under names, and what one more known revision adds.
use Rattle.std.proofs.Common.{◌≡◌, ◌↔◌, ◌⊎◌, inl, inr, ℕ, ◌+◌, ◌<◌, ◌≤◌, length, List, [], ◌∷◌, ◌++◌, refl, sym, ◌∙◌, ap, subst, arith}
use Rattle.std.specs.Prelude.{Bool, true, false, cond, IsTrue, Option, None, Some, slice_get}
use Rattle.std.specs.BTreeMap.{is_at}
use Rattle.std.proofs.lemmas.Cmp.{eq_by_cmp_equiv}
use Rattle.std.proofs.lemmas.Map.Views.{tells_apart}
use Rattle.std.proofs.lemmas.Option.{slice_get_within}
use Rattle.osgi_base.specs.computed.Texts.{text_cmp}
use Rattle.osgi_base.specs.declared.ids.RevisionId.{RevisionId}
use Rattle.osgi_candidates.specs.computed.Names.{GrowsBy, capability_added, fragment_added, place_at, values_of}
use Rattle.osgi_candidates.specs.declared.names.Place.{Place}
use Rattle.osgi_resolver_theory.proofs.Lists.{in-append_cases, in-append_left, in-append_right}
use Rattle.osgi_space_rules.proofs.Exact.{text_exact, text_total}
use Rattle.osgi_space_rows.specs.computed.Groups.{Adds}
use Rattle.osgi_space_rows.specs.declared.grouped.Grouped.{Grouped}
use Rattle.osgi_world.specs.Lists.{In}
use Rattle.osgi_world.specs.declared.capability.Capability.{Capability}
use Rattle.osgi_world.specs.declared.requirement.Requirement.{Requirement}
use Rattle.osgi_world.specs.declared.world.Known.{Known}

-- ---- one more value

cond-in : {V : Type 0} (here : Bool) (v r : V) → In r (cond here (v ∷ []) []) → (here ≡ true) × (r ≡ v)
cond-in true v r (inl e) = (refl, e)
cond-in true v r (inr i) = elim i [ ]
cond-in false v r i = elim i [ ]

in-cond : {V : Type 0} (here : Bool) (v : V) → here ≡ true → In v (cond here (v ∷ []) [])
in-cond true v e = inl refl
in-cond false v e = absurd (cc e)

same-name : (name n : List ℕ) → n ≡ name → is_at (text_cmp name) n ≡ true
same-name name n e = subst (λ m. is_at (text_cmp name) m ≡ true) (sym e) ((eq_by_cmp_equiv text_total).refl name)

module _ {V : Type 0} (old new : Grouped (List ℕ) V) (name : List ℕ) (v : V) (adds : Adds text_cmp old new name v) where
  pub adds_in : (n : List ℕ) (r : V) → In r (values_of new n) ↔ (In r (values_of old n) ⊎ (n ≡ name) × (r ≡ v))
  adds_in n r = (
    λ i. elim (in-append_cases (values_of old n) (cond (is_at (text_cmp name) n) (v ∷ []) []) r (subst (λ xs. In r xs) (adds n) i)) [
      | inl o ↦ inl o
      | inr c ↦ let p = cond-in (is_at (text_cmp name) n) v r c in inr (sym (tells_apart text_exact name n p.0), p.1)
    ],
    λ e. subst (λ xs. In r xs) (sym (adds n)) (elim e [
      | inl o ↦ in-append_left (values_of old n) (cond (is_at (text_cmp name) n) (v ∷ []) []) r o
      | inr p ↦ subst (λ x. In x (values_of old n ++ cond (is_at (text_cmp name) n) (v ∷ []) [])) (sym p.1)
          (in-append_right (values_of old n) (cond (is_at (text_cmp name) n) (v ∷ []) []) v (in-cond (is_at (text_cmp name) n) v (same-name name n p.0)))
    ]),
  )

  pub adds_kept : (n : List ℕ) (r : V) → In r (values_of old n) → In r (values_of new n)
  adds_kept n r i = (adds_in n r).1 (inl i)

-- ---- the capabilities and the fragment of a known revision

-- the capabilities at places below i
abbrev pub AddedBelow : Known → ℕ → List ℕ → Place → Type 0
AddedBelow k i n p = capability_added k n p × (p.index < i)

below-split : (i j : ℕ) → j < i + 1 → (j < i) ⊎ (j ≡ i)
below-split i j h = grind (arith, h)

some-same : {X : Type 0} (x y : X) (o : Option X) → o ≡ Some x → o ≡ Some y → x ≡ y
some-same x y o e f = cc

pub none_added : (k : Known) (old : Grouped (List ℕ) Place) → GrowsBy old old (AddedBelow k 0)
none_added k old = record { kept = λ n v i. i; added = λ n p a. absurd (let h : p.index < 0 = a.1 in omega (arith, h)) }

pub capability_more : (k : Known) (old before after : Grouped (List ℕ) Place) (i : ℕ) (c : Capability) → slice_get k.revision.capabilities i ≡ Some c → Adds text_cmp before after c.name (place_at k.id i) →
    GrowsBy old before (AddedBelow k i) → GrowsBy old after (AddedBelow k (i + 1))
capability_more k old before after i c at adds grown = record {
  kept = λ n v o. adds_kept before after c.name (place_at k.id i) adds n v (grown.kept n v o);
  added = λ n p a. elim (below-split i p.index a.1) [
    | inl less ↦ adds_kept before after c.name (place_at k.id i) adds n p (grown.added n p (a.0, less))
    | inr same ↦ (
        let is = a.0.1 in
        let one : a.0.0 ≡ c = some-same a.0.0 c (slice_get k.revision.capabilities i) (subst (λ j. slice_get k.revision.capabilities j ≡ Some a.0.0) same is) at in
        let name : n ≡ c.name = sym a.0.2 ∙ ap (λ (x : Capability). x.name) one in
        let place : p ≡ place_at k.id i = λ j. place_at (a.0.3 j) (same j) in
        (adds_in before after c.name (place_at k.id i) adds n p).1 (inr (name, place)))
  ];
}

pub capabilities_all : (k : Known) (old now : Grouped (List ℕ) Place) (i : ℕ) → ((j : ℕ) (c : Capability) → slice_get k.revision.capabilities j ≡ Some c → j < i) → GrowsBy old now (AddedBelow k i) → GrowsBy old now (capability_added k)
capabilities_all k old now i within grown = record {
  kept = grown.kept;
  added = λ n p a. grown.added n p (a, within p.index a.0 a.1);
}

pub no_fragment : (k : Known) (old : Grouped (List ℕ) RevisionId) → ¬ IsTrue k.current → GrowsBy old old (fragment_added k)
no_fragment k old n = record { kept = λ m v i. i; added = λ m r a. absurd (n a.0) }

pub no_host : (k : Known) (old : Grouped (List ℕ) RevisionId) → k.revision.host ≡ None → GrowsBy old old (fragment_added k)
no_host k old none = record { kept = λ m v i. i; added = λ m r a. absurd (let e : None ≡ Some a.1.0 = sym none ∙ a.1.1 in cc e) }

pub one_fragment : (k : Known) (old new : Grouped (List ℕ) RevisionId) (asked : Requirement) → k.revision.host ≡ Some asked → Adds text_cmp old new asked.name k.id → GrowsBy old new (fragment_added k)
one_fragment k old new asked is adds = record {
  kept = adds_kept old new asked.name k.id adds;
  added = λ n r a.
      let same : a.1.0 ≡ asked = some-same a.1.0 asked k.revision.host a.1.1 is in
      (adds_in old new asked.name k.id adds n r).1 (inr (sym a.1.2 ∙ ap (λ (x : Requirement). x.name) same, a.2));
}

-- ---- places in a list

pub got_below : {X : Type 0} (xs : List X) (i : ℕ) → length xs ≤ i → (j : ℕ) (x : X) → slice_get xs j ≡ Some x → j < i
got_below xs i past j x at = let within : j < length xs = slice_get_within xs j x at in omega (arith, within, past)
