-- The wires and fragments of wirings with one wiring more.
use Rattle.std.proofs.Common.{◌≡◌, ◌↔◌, ◌⊎◌, inl, inr, List, [], ◌∷◌, ◌++◌, refl, sym, ◌∙◌, ap, subst}
use Rattle.osgi_base.specs.declared.ids.RevisionId.{RevisionId}
use Rattle.osgi_world.specs.Lists.{In}
use Rattle.osgi_world.specs.Wirings.{Attached, HasWire}
use Rattle.osgi_world.specs.declared.wiring.Wire.{Wire}
use Rattle.osgi_world.specs.declared.wiring.Wiring.{Wiring}

pub in-append : {X : Type 0} (x : X) (xs ys : List X) → In x xs → In x (xs ++ ys)
in-append x [] ys at = absurd at
in-append x (y ∷ xs) ys (inl same) = inl same
in-append x (y ∷ xs) ys (inr later) = inr (in-append x xs ys later)

pub in-append_right : {X : Type 0} (x : X) (xs ys : List X) → In x ys → In x (xs ++ ys)
in-append_right x [] ys at = at
in-append_right x (y ∷ xs) ys at = inr (in-append_right x xs ys at)

pub in-append_cases : {X : Type 0} (x : X) (xs ys : List X) → In x (xs ++ ys) → In x xs ⊎ In x ys
in-append_cases x [] ys at = inr at
in-append_cases x (y ∷ xs) ys (inl same) = inl (inl same)
in-append_cases x (y ∷ xs) ys (inr later) = elim (in-append_cases x xs ys later) [ inl old ↦ inl (inr old) | inr new ↦ inr new ]

pub in-push : {X : Type 0} (x : X) (xs : List X) → In x (xs ++ x ∷ [])
in-push x xs = in-append_right x xs (x ∷ []) (inl refl)

pub in-one : {X : Type 0} (x y : X) → In x (y ∷ []) → x ≡ y
in-one x y (inl same) = same
in-one x y (inr none) = absurd none

-- the wirings have the same wires and the same fragments
pub record AreAlike (V W : List Wiring) : Type 0 where
  pub wires : (r : RevisionId) (w : Wire) → HasWire V r w ↔ HasWire W r w
  pub fragments : (h f : RevisionId) → Attached V h f ↔ Attached W h f

-- ---- one wiring more

module _ (W : List Wiring) (g : Wiring) where
  pub wire-kept : (r : RevisionId) (w : Wire) → HasWire W r w → HasWire (W ++ g ∷ []) r w
  wire-kept r w h = record { wiring = h.wiring; stands = in-append h.wiring W (g ∷ []) h.stands; revision = h.revision; has = h.has }

  pub wire-new : (r : RevisionId) (w : Wire) → g.revision ≡ r → In w g.wires → HasWire (W ++ g ∷ []) r w
  wire-new r w of has = record { wiring = g; stands = in-push g W; revision = of; has = has }

  pub wire-cases : (r : RevisionId) (w : Wire) → HasWire (W ++ g ∷ []) r w → HasWire W r w ⊎ ((g.revision ≡ r) × In w g.wires)
  wire-cases r w h = elim (in-append_cases h.wiring W (g ∷ []) h.stands) [
    | inl old ↦ inl (record { wiring = h.wiring; stands = old; revision = h.revision; has = h.has })
    | inr new ↦
        let same = in-one h.wiring g new in
        inr (ap (λ (k : Wiring). k.revision) (sym same) ∙ h.revision, subst (λ (k : Wiring). In w k.wires) same h.has)
  ]

  pub fragment-kept : (h f : RevisionId) → Attached W h f → Attached (W ++ g ∷ []) h f
  fragment-kept h f a = record { wiring = a.wiring; stands = in-append a.wiring W (g ∷ []) a.stands; revision = a.revision; has = a.has }

  pub fragment-new : (h f : RevisionId) → g.revision ≡ h → In f g.fragments → Attached (W ++ g ∷ []) h f
  fragment-new h f of has = record { wiring = g; stands = in-push g W; revision = of; has = has }

  pub fragment-cases : (h f : RevisionId) → Attached (W ++ g ∷ []) h f → Attached W h f ⊎ ((g.revision ≡ h) × In f g.fragments)
  fragment-cases h f a = elim (in-append_cases a.wiring W (g ∷ []) a.stands) [
    | inl old ↦ inl (record { wiring = a.wiring; stands = old; revision = a.revision; has = a.has })
    | inr new ↦
        let same = in-one a.wiring g new in
        inr (ap (λ (k : Wiring). k.revision) (sym same) ∙ a.revision, subst (λ (k : Wiring). In f k.fragments) same a.has)
  ]

-- ---- wirings of one revision, one after another

-- a wiring that has what two others of the same revision have
module _ (W : List Wiring) (a b g : Wiring) (of_a : a.revision ≡ g.revision) (of_b : b.revision ≡ g.revision)
    (wires : (w : Wire) → In w g.wires ↔ (In w a.wires ⊎ In w b.wires)) (fragments : (f : RevisionId) → In f g.fragments ↔ (In f a.fragments ⊎ In f b.fragments)) where
  joined-wire : (r : RevisionId) (w : Wire) → HasWire ((W ++ a ∷ []) ++ b ∷ []) r w → HasWire (W ++ g ∷ []) r w
  joined-wire r w h = elim (wire-cases (W ++ a ∷ []) b r w h) [
    | inl old ↦ elim (wire-cases W a r w old) [ inl before ↦ wire-kept W g r w before | inr first ↦ wire-new W g r w (sym of_a ∙ first.0) ((wires w).1 (inl first.1)) ]
    | inr second ↦ wire-new W g r w (sym of_b ∙ second.0) ((wires w).1 (inr second.1))
  ]

  split-wire : (r : RevisionId) (w : Wire) → HasWire (W ++ g ∷ []) r w → HasWire ((W ++ a ∷ []) ++ b ∷ []) r w
  split-wire r w h = elim (wire-cases W g r w h) [
    | inl before ↦ wire-kept (W ++ a ∷ []) b r w (wire-kept W a r w before)
    | inr new ↦ elim ((wires w).0 new.1) [
      | inl first ↦ wire-kept (W ++ a ∷ []) b r w (wire-new W a r w (of_a ∙ new.0) first)
      | inr second ↦ wire-new (W ++ a ∷ []) b r w (of_b ∙ new.0) second
    ]
  ]

  joined-fragment : (h f : RevisionId) → Attached ((W ++ a ∷ []) ++ b ∷ []) h f → Attached (W ++ g ∷ []) h f
  joined-fragment r f h = elim (fragment-cases (W ++ a ∷ []) b r f h) [
    | inl old ↦ elim (fragment-cases W a r f old) [ inl before ↦ fragment-kept W g r f before | inr first ↦ fragment-new W g r f (sym of_a ∙ first.0) ((fragments f).1 (inl first.1)) ]
    | inr second ↦ fragment-new W g r f (sym of_b ∙ second.0) ((fragments f).1 (inr second.1))
  ]

  split-fragment : (h f : RevisionId) → Attached (W ++ g ∷ []) h f → Attached ((W ++ a ∷ []) ++ b ∷ []) h f
  split-fragment r f h = elim (fragment-cases W g r f h) [
    | inl before ↦ fragment-kept (W ++ a ∷ []) b r f (fragment-kept W a r f before)
    | inr new ↦ elim ((fragments f).0 new.1) [
      | inl first ↦ fragment-kept (W ++ a ∷ []) b r f (fragment-new W a r f (of_a ∙ new.0) first)
      | inr second ↦ fragment-new (W ++ a ∷ []) b r f (of_b ∙ new.0) second
    ]
  ]

  pub joined : AreAlike ((W ++ a ∷ []) ++ b ∷ []) (W ++ g ∷ [])
  joined = record { wires = λ r w. (joined-wire r w, split-wire r w); fragments = λ h f. (joined-fragment h f, split-fragment h f) }

-- a wiring that has nothing
pub nothing-more : (W : List Wiring) (r : RevisionId) → AreAlike W (W ++ record { revision = r; wires = []; fragments = [] } ∷ [])
nothing-more W r = let g : Wiring = record { revision = r; wires = []; fragments = [] } in record {
  wires = λ a w. (wire-kept W g a w, λ h. elim (wire-cases W g a w h) [ inl old ↦ old | inr new ↦ absurd new.1 ]);
  fragments = λ h f. (fragment-kept W g h f, λ a. elim (fragment-cases W g h f a) [ inl old ↦ old | inr new ↦ absurd new.1 ]);
}
