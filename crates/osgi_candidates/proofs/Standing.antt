-- The wirings in force, one after another.
use Rattle.std.proofs.Common.{◌≡◌, ◌≢◌, ◌↔◌, ◌⊎◌, inl, inr, ℕ, List, [], ◌∷◌, ◌++◌, refl, sym, ◌∙◌, ap, subst}
use Rattle.std.specs.Prelude.{Bool, true, false, cond, IsSome, Option, None, Some}
use Rattle.std.specs.BTreeMap.{get, is_at, Updates}
use Rattle.std.specs.BTreeSet as sets
use Rattle.std.specs.BTreeSet.{BTreeSet}
use Rattle.std.specs.Ordering.{nat_cmp}
use Rattle.std.proofs.lemmas.Cmp.{eq_by_cmp_equiv, nat_cmp_total}
use Rattle.std.proofs.lemmas.Map.Lookups.{exact_unsigned}
use Rattle.std.proofs.lemmas.Map.Views.{tells_apart}
use Rattle.osgi_base.specs.computed.Texts.{text_cmp}
use Rattle.osgi_base.specs.declared.ids.RevisionId.{RevisionId}
use Rattle.osgi_candidates.specs.computed.Holding.{AreElsewhere, AreFragments, AreHeld, Holds, IsElsewhere, PutsElsewhere}
use Rattle.osgi_candidates.specs.declared.held.Held.{Held}
use Rattle.osgi_candidates.specs.declared.held.HeldWirings.{HeldWirings}
use Rattle.osgi_resolver_theory.proofs.Lists.{in-append_left, in-append_right}
use Rattle.osgi_space_rules.proofs.Exact.{inserted, text_exact, text_total}
use Rattle.osgi_space_rules.proofs.Grow.{in_either}
use Rattle.osgi_space_rules.specs.computed.Growing.{Grows, Has, Nothing}
use Rattle.osgi_world.specs.Lists.{In}
use Rattle.osgi_world.specs.Wirings.{InForce, IsExport}
use Rattle.osgi_world.specs.declared.wiring.Wire.{Wire}
use Rattle.osgi_world.specs.declared.wiring.Wiring.{Wiring}
use Rattle.osgi_world.specs.declared.world.Known.{Known}

-- ---- one wiring

abbrev pub IsId : RevisionId → ℕ → Type 0
IsId f n = n ≡ f.0

pub fragments_are : (fragments : List RevisionId) (set : BTreeSet ℕ) → Grows Nothing (Has nat_cmp set) IsId fragments → AreFragments fragments set
fragments_are fragments set grown f = (
  λ h. elim ((grown f.0).0 h) [
    | inl n ↦ absurd n
    | inr some ↦ (let same : f ≡ some.0 = λ i. record { 0 = some.2 i } in subst (λ x. In x fragments) (sym same) some.1)
  ],
  λ i. (grown f.0).1 (inr (f, i, refl)),
)

pub elsewhere_are : (K : List Known) (r : RevisionId) (wires : List Wire) (set : BTreeSet (List ℕ)) → Grows Nothing (Has text_cmp set) (λ w p. IsElsewhere K r w p) wires → AreElsewhere K r wires set
elsewhere_are K r wires set grown p = (
  λ h. elim ((grown p).0 h) [ inl n ↦ absurd n | inr some ↦ some ],
  λ some. (grown p).1 (inr some),
)

pub puts_none : (set : BTreeSet (List ℕ)) (Put : List ℕ → Type 0) → ((p : List ℕ) → ¬ Put p) → PutsElsewhere set set Put
puts_none set Put never p = (λ h. inl h, λ e. elim e [ inl h ↦ h | inr q ↦ absurd (never p q) ])

pub puts_one : (old new : BTreeSet (List ℕ)) (key : List ℕ) (Put : List ℕ → Type 0) → ((p : List ℕ) → (p ≡ key) ↔ Put p) → sets.Updates text_cmp old new key true → PutsElsewhere old new Put
puts_one old new key Put is updates p =
    let added = inserted text_total text_exact old new key updates p in (
      λ h. elim (added.0 h) [ inl o ↦ inl o | inr e ↦ inr ((is p).0 e) ],
      λ e. added.1 (elim e [ inl o ↦ inl o | inr q ↦ inr ((is p).1 q) ]),
    )

-- a wire to another revision, that is for a package or not
pub elsewhere_none : (K : List Known) (r : RevisionId) (w : Wire) → ((p : List ℕ) → (None ≡ Some p) ↔ IsExport K w.capability.owner w.capability.index p) → (p : List ℕ) → ¬ IsElsewhere K r w p
elsewhere_none K r w is p e = let f = (is p).1 e.1 in cc f

pub elsewhere_one : (K : List Known) (r : RevisionId) (w : Wire) (name key : List ℕ) → key ≡ name → w.capability.provider ≢ r → ((p : List ℕ) → (Some name ≡ Some p) ↔ IsExport K w.capability.owner w.capability.index p) →
    (p : List ℕ) → (p ≡ key) ↔ IsElsewhere K r w p
elsewhere_one K r w name key made other is p = (
  λ e. (other, (is p).0 (ap Some (sym (e ∙ made)))),
  λ x. let f : Some name ≡ Some p = (is p).1 x.1 in (let g : name ≡ p = cc f in sym g ∙ sym made),
)

-- ---- one wiring more

abbrev at : HeldWirings → RevisionId → Option Held
at held r = get nat_cmp held.wirings r.0

some-cond : (here : Bool) (h : Held) (old : Option Held) → (here ≡ true) ⊎ IsSome old → IsSome (cond here (Some h) old)
some-cond true h old e = refl
some-cond false h old (inl e) = absurd (cc e)
some-cond false h old (inr s) = s

cond-some : (here : Bool) (h x : Held) (old : Option Held) → cond here (Some h) old ≡ Some x → (here ≡ true) × (h ≡ x) ⊎ (old ≡ Some x)
cond-some true h x old e = inl (refl, cc e)
cond-some false h x old e = inr e

pub held_none : (K : List Known) (held : HeldWirings) → ((r : RevisionId) → at held r ≡ None) → AreHeld K [] held
held_none K held none = record { each = λ g i. elim i [ ]; only = λ r h e. absurd (let f : None ≡ Some h = sym (none r) ∙ e in cc f) }

pub held_more : (K : List Known) (W : List Wiring) (old new : HeldWirings) (g : Wiring) (h : Held) → Holds K g h → Updates nat_cmp old.wirings new.wirings g.revision.0 (Some h) → AreHeld K W old → AreHeld K (W ++ g ∷ []) new
held_more K W old new g h holds updates are = record {
  each = λ x i.
      let here = is_at (nat_cmp g.revision.0) x.revision.0 in
      subst IsSome (sym (updates.0 x.revision.0)) (some-cond here h (at old x.revision) (elim (in_either W g x i) [
        | inl o ↦ inr (are.each x o)
        | inr e ↦ inl (subst (λ (y : Wiring). is_at (nat_cmp g.revision.0) y.revision.0 ≡ true) (sym e) ((eq_by_cmp_equiv nat_cmp_total).refl g.revision.0))
      ]));
  only = λ r x e.
      let here = is_at (nat_cmp g.revision.0) r.0 in
      elim (cond-some here h x (at old r) (sym (updates.0 r.0) ∙ e)) [
        | inl now ↦ (
            let same : g.revision.0 ≡ r.0 = tells_apart exact_unsigned g.revision.0 r.0 now.0 in
            (g, in-append_right W (g ∷ []) g (inl refl), ap (λ n. record { 0 = n }) same, subst (Holds K g) now.1 holds))
        | inr o ↦ (let f = are.only r x o in (f.0, in-append_left W (g ∷ []) f.0 f.1, f.2, f.3))
      ];
}

-- a revision is in force where it is held
pub in_force_is : (K : List Known) (W : List Wiring) (held : HeldWirings) → AreHeld K W held → (r : RevisionId) → IsSome (at held r) ↔ InForce W r
in_force_is K W held are r = (
  λ s. let h = some-held (at held r) s in let f = are.only r h.0 h.1 in record { wiring = f.0; stands = f.1; revision = f.2 },
  λ x. subst (λ y. IsSome (at held y)) x.revision (are.each x.wiring x.stands),
)
  where
    some-held : (o : Option Held) → IsSome o → (h : Held) × (o ≡ Some h)
    some-held None s = absurd (cc s)
    some-held (Some h) s = (h, refl)
