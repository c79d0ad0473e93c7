-- What known revisions and wirings at the end of others change.
use Rattle.std.proofs.Common.{◌≡◌, ◌==◌, ◌↔◌, ◌⊎◌, inl, inr, ℕ, ◌-◌, ◌<◌, length, List, [], ◌∷◌, ◌++◌, take, drop, refl, sym, ◌∙◌, ap, subst, length-drop, arith}
use Rattle.std.specs.Prelude.{false, IsSome, IsTrue, Option, None, Some, slice_get, option_and_then}
use Rattle.std.specs.BTreeMap.{get}
use Rattle.std.specs.BTreeSet.{BTreeSet, contains}
use Rattle.std.specs.Option.{option_map, option_map_or, option_or}
use Rattle.std.specs.Ordering.{nat_cmp}
use Rattle.std.proofs.Math.Seq.{drop-append_seam}
use Rattle.std.proofs.lemmas.List.{append-nil, take_all}
use Rattle.std.proofs.lemmas.List.Folds.{find-append}
use Rattle.osgi_base.specs.declared.ids.RevisionId.{RevisionId}
use Rattle.osgi_candidates.specs.Following.{AreOwnersKnown, Covers, CoversFirst}
use Rattle.osgi_candidates.specs.computed.Halfway.{IsHalfway}
use Rattle.osgi_candidates.specs.computed.Holding.{AreHeld, IsElsewhere}
use Rattle.osgi_candidates.specs.computed.InUses.{AreInUse, HasRevision, IsUsedBy}
use Rattle.osgi_candidates.specs.computed.Texts.{IsTextOf}
use Rattle.osgi_candidates.specs.computed.Names.{AddsKnown, AreNames, AreOnce, HasNone, capability_added, fragment_added}
use Rattle.osgi_candidates.specs.declared.held.HeldWirings.{HeldWirings}
use Rattle.osgi_candidates.specs.declared.names.KnownNames.{KnownNames}
use Rattle.osgi_candidates.specs.declared.offer_index.OfferIndex.{OfferIndex}
use Rattle.osgi_candidates.proofs.Standing.{held_none}
use Rattle.osgi_resolver_theory.proofs.Lists.{in-append_cases, in-append_left, in-append_right}
use Rattle.osgi_resolver_theory.proofs.Values.{find-some, rev-eq, rev-same}
use Rattle.osgi_space_rules.specs.computed.Growing.{Grows}
use Rattle.osgi_world.specs.Consistency.{Consistent}
use Rattle.osgi_world.specs.Lists.{In, Two}
use Rattle.osgi_world.specs.Lookups.{IsKnown, known_at, symbolic_name}
use Rattle.osgi_world.specs.Satisfaction.{is_package}
use Rattle.osgi_world.specs.Wirings.{InUse}
use Rattle.osgi_world.specs.declared.capability.Capability.{Capability}
use Rattle.osgi_world.specs.declared.revision.Revision.{Revision}
use Rattle.osgi_world.specs.declared.wiring.Wire.{Wire}
use Rattle.osgi_world.specs.declared.wiring.Wiring.{Wiring}
use Rattle.osgi_world.specs.declared.world.Known.{Known}

-- ---- two places

two_left : {X : Type 0} (R : X → X → Type 0) (xs ys : List X) → Two R xs → Two R (xs ++ ys)
two_left R [] ys two = elim two [ ]
two_left R (x ∷ xs) ys (inl one) = inl (one.0, in-append_left xs ys one.0 one.1, one.2)
two_left R (x ∷ xs) ys (inr two) = inr (two_left R xs ys two)

two_across : {X : Type 0} (R : X → X → Type 0) (xs ys : List X) (x y : X) → In x xs → In y ys → R x y → Two R (xs ++ ys)
two_across R [] ys x y i j r = elim i [ ]
two_across R (z ∷ xs) ys x y (inl e) j r = inl (y, in-append_right xs ys y j, subst (λ v. R v y) e r)
two_across R (z ∷ xs) ys x y (inr i) j r = inr (two_across R xs ys x y i j r)

-- ---- what is known of a revision

some-of : {X : Type 0} (o : Option X) → IsSome o → (x : X) × (o ≡ Some x)
some-of None s = absurd (cc s)
some-of (Some x) s = (x, refl)

-- a revision that is known keeps what is known of it
pub known_kept : (K D : List Known) (r : RevisionId) (k : Known) → known_at K r ≡ Some k → known_at (K ++ D) r ≡ Some k
known_kept K D r k e = find-append (λ (x : Known). x.id.0 == r.0) K D ∙ ap (λ o. option_or o (known_at D r)) e

known_last : (K D : List Known) (r : RevisionId) → known_at K r ≡ None → known_at (K ++ D) r ≡ known_at D r
known_last K D r e = find-append (λ (x : Known). x.id.0 == r.0) K D ∙ ap (λ o. option_or o (known_at D r)) e

found : (K : List Known) (r : RevisionId) (k : Known) → known_at K r ≡ Some k → In k K × (k.id ≡ r)
found K r k e = let f = find-some (λ (x : Known). x.id.0 == r.0) K k e in (f.0, rev-eq k.id r f.1)

name_at : (K : List Known) (r : RevisionId) (k : Known) → known_at K r ≡ Some k → symbolic_name K r ≡ k.revision.name
name_at K r k e = ap (λ o. option_map_or (λ (v : Revision). v.name) (option_map (λ (x : Known). x.revision) o) []) e

-- ---- the names of one more revision

module _ (K : List Known) (k : Known) (once : AreOnce (K ++ k ∷ [])) where
  fresh_go : (o : Option Known) → known_at K k.id ≡ o → known_at K k.id ≡ None
  fresh_go None e = e
  fresh_go (Some y) e = let f = found K k.id y e in absurd (once (two_across (λ (x y : Known). x.id ≡ y.id) K (k ∷ []) y k f.0 (inl refl) f.1))

  fresh : known_at K k.id ≡ None
  fresh = fresh_go (known_at K k.id) refl

  single : known_at (k ∷ []) k.id ≡ Some k
  single = rw (rev-same k.id k.id refl) refl

  itself : known_at (K ++ k ∷ []) k.id ≡ Some k
  itself = known_last K (k ∷ []) k.id fresh ∙ single

  -- what is known was known before, or is the new one
  looked_go : (r : RevisionId) (x : Known) (o : Option Known) → known_at K r ≡ o → known_at (K ++ k ∷ []) r ≡ Some x → (known_at K r ≡ Some x) ⊎ ((x ≡ k) × (r ≡ k.id))
  looked_go r x None e at =
      let f = found (k ∷ []) r x (sym (known_last K (k ∷ []) r e) ∙ at) in
      let same : x ≡ k = elim f.0 [ inl s ↦ s | inr n ↦ absurd n ] in
      inr (same, sym f.1 ∙ ap (λ (y : Known). y.id) same)
  looked_go r x (Some y) e at = let f : Some y ≡ Some x = sym (known_kept K (k ∷ []) r y e) ∙ at in inl (e ∙ f)

  looked : (r : RevisionId) (x : Known) → known_at (K ++ k ∷ []) r ≡ Some x → (known_at K r ≡ Some x) ⊎ ((x ≡ k) × (r ≡ k.id))
  looked r x at = looked_go r x (known_at K r) refl at

  pub names_grow : (before after : KnownNames) → AddsKnown k before after → AreNames K before → AreNames (K ++ k ∷ []) after
  names_grow before after adds are = record {
    capabilities = λ id x e n p a. elim (looked id x e) [
      | inl o ↦ adds.capabilities.kept n p (are.capabilities id x o n p a)
      | inr s ↦ adds.capabilities.added n p (subst (λ z. capability_added z n p) s.0 a)
    ];
    texts = λ id x e n a t p is. elim (looked id x e) [
      | inl o ↦ adds.texts.kept n a t p (are.texts id x o n a t p is)
      | inr s ↦ adds.texts.added n a t p (subst (λ z. IsTextOf z n a t p) s.0 is)
    ];
    fragments = λ id x e n r a. elim (looked id x e) [
      | inl o ↦ adds.fragments.kept n r (are.fragments id x o n r a)
      | inr s ↦ adds.fragments.added n r (subst (λ z. fragment_added z n r) s.0 a)
    ];
    revisions = λ n r. (
      λ i. elim ((adds.revisions n r).0 i) [
        | inl o ↦ (
            let was = (are.revisions n r).0 o in
            let x = some-of (known_at K r) was.0 in
            let now = known_kept K (k ∷ []) r x.0 x.1 in
            (subst IsSome (sym now) refl, name_at (K ++ k ∷ []) r x.0 now ∙ sym (name_at K r x.0 x.1) ∙ was.1))
        | inr s ↦ (
            let now : known_at (K ++ k ∷ []) r ≡ Some k = subst (λ q. known_at (K ++ k ∷ []) q ≡ Some k) (sym s.1) itself in
            (subst IsSome (sym now) refl, name_at (K ++ k ∷ []) r k now ∙ sym s.0))
      ],
      λ is.
          let x = some-of (known_at (K ++ k ∷ []) r) is.0 in
          let name = sym is.1 ∙ name_at (K ++ k ∷ []) r x.0 x.1 in
          (adds.revisions n r).1 (elim (looked r x.0 x.1) [
            | inl o ↦ inl ((are.revisions n r).1 (subst IsSome (sym o) refl, name_at K r x.0 o ∙ sym name))
            | inr s ↦ inr (name ∙ ap (λ (y : Known). y.revision.name) s.0, s.1)
          ]),
    );
  }

-- the names of nothing
pub names_empty : (names : KnownNames) → HasNone names → AreNames [] names
names_empty names none = record {
  capabilities = λ id k e. absurd (cc e);
  texts = λ id k e. absurd (cc e);
  fragments = λ id k e. absurd (cc e);
  revisions = λ n r. (λ i. absurd (subst (λ xs. In r xs) (none.revisions n) i), λ x. absurd (cc x.0));
}

-- ---- the wirings, with more known revisions

known_same : (K D : List Known) (r : RevisionId) → IsKnown K r → known_at (K ++ D) r ≡ known_at K r
known_same K D r is = let k = some-of (known_at K r) is in known_kept K D r k.0 k.1 ∙ sym k.1

-- the capability at this place of what is known is an export of the package
abbrev ExportOf : ℕ → List ℕ → Option Known → Type 0
ExportOf index p o =
    IsTrue (is_package (option_map_or (λ (c : Capability). c.namespace) (option_and_then (λ (v : Revision). slice_get v.capabilities index) (option_map (λ (k : Known). k.revision) o)) []))
    × (option_map_or (λ (c : Capability). c.name) (option_and_then (λ (v : Revision). slice_get v.capabilities index) (option_map (λ (k : Known). k.revision) o)) [] ≡ p)

elsewhere_kept : (K D : List Known) (r : RevisionId) (w : Wire) (p : List ℕ) → IsKnown K w.capability.owner → IsElsewhere K r w p ↔ IsElsewhere (K ++ D) r w p
elsewhere_kept K D r w p is =
    let same = known_same K D w.capability.owner is in (
      λ e. (e.0, subst (ExportOf w.capability.index p) (sym same) e.1),
      λ e. (e.0, subst (ExportOf w.capability.index p) same e.1),
    )

pub held_kept : (K D : List Known) (W : List Wiring) (held : HeldWirings) → AreOwnersKnown K W → AreHeld K W held → AreHeld (K ++ D) W held
held_kept K D W held owners are = record {
  each = are.each;
  only = λ r h e.
      let f = are.only r h e in
      let g = f.0 in (
        g,
        f.1,
        f.2,
        record {
          fragments = f.3.fragments;
          elsewhere = λ p. (
            λ has. let w = (f.3.elsewhere p).0 has in (w.0, w.1, (elsewhere_kept K D g.revision w.0 p (owners g f.1 w.0 w.1)).0 w.2),
            λ w. (f.3.elsewhere p).1 (w.0, w.1, (elsewhere_kept K D g.revision w.0 p (owners g f.1 w.0 w.1)).1 w.2),
          );
        },
      );
}

-- ---- the revisions in use, with more wirings

force_left : (W V : List Wiring) (r : RevisionId) → InUse W r → InUse (W ++ V) r
force_left W V r (inl f) = inl (record { wiring = f.wiring; stands = in-append_left W V f.wiring f.stands; revision = f.revision })
force_left W V r (inr a) = inr (a.0, record { wiring = a.1.wiring; stands = in-append_left W V a.1.wiring a.1.stands; revision = a.1.revision; has = a.1.has })

used_right : (W V : List Wiring) (g : Wiring) (r : RevisionId) → In g V → IsUsedBy g r → InUse (W ++ V) r
used_right W V g r i (inl e) = inl (record { wiring = g; stands = in-append_right W V g i; revision = sym e })
used_right W V g r i (inr h) = inr (g.revision, record { wiring = g; stands = in-append_right W V g i; revision = refl; has = h })

use_cases : (W V : List Wiring) (r : RevisionId) → InUse (W ++ V) r → InUse W r ⊎ ((g : Wiring) × In g V × IsUsedBy g r)
use_cases W V r (inl f) = elim (in-append_cases W V f.wiring f.stands) [
  | inl o ↦ inl (inl (record { wiring = f.wiring; stands = o; revision = f.revision }))
  | inr n ↦ inr (f.wiring, n, inl (sym f.revision))
]
use_cases W V r (inr a) = elim (in-append_cases W V a.1.wiring a.1.stands) [
  | inl o ↦ inl (inr (a.0, record { wiring = a.1.wiring; stands = o; revision = a.1.revision; has = a.1.has }))
  | inr n ↦ inr (a.1.wiring, n, inr a.1.has)
]

pub in_use_grow : (W V : List Wiring) (old new : BTreeSet ℕ) → Grows (HasRevision old) (HasRevision new) IsUsedBy V → AreInUse W old → AreInUse (W ++ V) new
in_use_grow W V old new grown are r = (
  λ h. elim ((grown r).0 h) [
    | inl o ↦ force_left W V r ((are r).0 o)
    | inr some ↦ used_right W V some.0 r some.1 some.2
  ],
  λ used. (grown r).1 (elim (use_cases W V r used) [ inl o ↦ inl ((are r).1 o) | inr some ↦ inr some ]),
)

pub used_none : (set : BTreeSet ℕ) → set.keys ≡ [] → AreInUse [] set
used_none set none r = (
  λ h. absurd (let e : contains nat_cmp set r.0 ≡ false = ap (λ (ks : List ℕ). contains nat_cmp (record { keys = ks }) r.0) none in cc (sym e ∙ h)),
  λ used. elim used [ inl f ↦ absurd f.stands | inr a ↦ absurd a.1.stands ],
)

-- ---- the parts of the world

pub once_before : (K D : List Known) → AreOnce (K ++ D) → AreOnce K
once_before K D once two = once (two_left (λ (k l : Known). k.id ≡ l.id) K D two)

-- the items from a place on
pub part_from : {X : Type 0} (xs : List X) (n : ℕ) → take (length xs - n) (drop n xs) ≡ drop n xs
part_from xs n = take_all (length xs - n) (drop n xs) (omega (arith, length-drop n xs))

-- what stands after the first items
pub rest_is : {X : Type 0} (all first later : List X) (n : ℕ) → all ≡ first ++ later → n ≡ length first → first ++ drop n all ≡ all
rest_is all first later n are at = ap (λ l. first ++ drop n l) are ∙ ap (λ m. first ++ drop m (first ++ later)) at ∙ ap (λ l. first ++ l) (drop-append_seam first later) ∙ sym are

-- ---- which worlds an index follows

-- the capability of each wire is on offer, so its owner is known
count_known : (i : ℕ) (o : Option Known) → i < option_map_or (λ (v : Revision). length v.capabilities) (option_map (λ (k : Known). k.revision) o) 0 → IsSome o
count_known i None h = absurd (omega (arith, h))
count_known i (Some k) h = refl

pub owners_known : (K : List Known) (W : List Wiring) → Consistent K W → AreOwnersKnown K W
owners_known K W consistent g i w j =
    let offer = consistent.coherent.rules.offered g.revision w (record { wiring = g; stands = i; revision = refl; has = j }) in
    count_known w.capability.index (known_at K w.capability.owner) offer.has.1

-- an index that covers a world follows it
pub follows_covered : (index : OfferIndex) (K : List Known) (W : List Wiring) → AreOwnersKnown K W → Covers index K W → CoversFirst index K W
follows_covered index K W owners covers = record {
  known = K;
  later_known = [];
  wirings = W;
  later_wirings = [];
  known_are = sym (append-nil K);
  wirings_are = sym (append-nil W);
  owners = owners;
  covers = covers;
}

-- the same of a consistent world
pub follows_consistent : (index : OfferIndex) (K : List Known) (W : List Wiring) → Consistent K W → Covers index K W → CoversFirst index K W
follows_consistent index K W consistent covers = follows_covered index K W (owners_known K W consistent) covers

-- an index of nothing follows each world
pub follows_none : (index : OfferIndex) → index.known ≡ 0 → index.wirings ≡ 0 → HasNone index.names → ((r : RevisionId) → get nat_cmp index.held.wirings r.0 ≡ None) → index.in_use.keys ≡ [] → (K : List Known) (W : List Wiring) → CoversFirst index K W
follows_none index known wirings names held in_use K W = record {
  known = [];
  later_known = K;
  wirings = [];
  later_wirings = W;
  known_are = refl;
  wirings_are = refl;
  owners = λ g i. elim i [ ];
  covers = record {
    known = known;
    wirings = wirings;
    names = names_empty index.names names;
    held = held_none [] index.held held;
    in_use = used_none index.in_use in_use;
  };
}

-- ---- following

-- all known revisions are added
pub halfway_is : (old new : OfferIndex) (K : List Known) (W : List Wiring) → CoversFirst old K W → AreOnce K → new.known ≡ length K → new.wirings ≡ old.wirings → new.held ≡ old.held → new.in_use ≡ old.in_use →
    ((D : List Known) → AreOnce (D ++ drop old.known K) → AreNames D old.names → AreNames (D ++ drop old.known K) new.names) → IsHalfway new K W
halfway_is old new K W f once known wirings held in_use added =
    let c = f.covers in
    let whole = rest_is K f.known f.later_known old.known f.known_are c.known in
    record {
      wirings = f.wirings;
      later = f.later_wirings;
      are = f.wirings_are;
      covers = record {
        known = known;
        wirings = wirings ∙ c.wirings;
        names = subst (λ (L : List Known). AreNames L new.names) whole (added f.known (subst AreOnce (sym whole) once) c.names);
        held = subst (λ h. AreHeld K f.wirings h) (sym held) (subst (λ (L : List Known). AreHeld L f.wirings old.held) (sym f.known_are) (held_kept f.known f.later_known f.wirings old.held f.owners c.held));
        in_use = subst (λ s. AreInUse f.wirings s) (sym in_use) c.in_use;
      };
    }

-- all wirings are added
pub covered_now : (old new : OfferIndex) (K : List Known) (W : List Wiring) → IsHalfway old K W → new.known ≡ old.known → new.names ≡ old.names → new.wirings ≡ length W →
    ((V : List Wiring) → AreHeld K V old.held → AreHeld K (V ++ drop old.wirings W) new.held) → ((V : List Wiring) → AreInUse V old.in_use → AreInUse (V ++ drop old.wirings W) new.in_use) → Covers new K W
covered_now old new K W h known names wirings held in_use =
    let c = h.covers in
    let whole = rest_is W h.wirings h.later old.wirings h.are c.wirings in
    record {
      known = known ∙ c.known;
      wirings = wirings;
      names = subst (λ n. AreNames K n) (sym names) c.names;
      held = subst (λ (V : List Wiring). AreHeld K V new.held) whole (held h.wirings c.held);
      in_use = subst (λ (V : List Wiring). AreInUse V new.in_use) whole (in_use h.wirings c.in_use);
    }
