-- What is found along wires is what the rules of wirings say, in a world that keeps them.
use Rattle.std.proofs.Common.{◌≡◌, ◌≢◌, ◌==◌, ◌↔◌, ◌⊎◌, inl, inr, ℕ, ◌<◌, Bool, true, false, cond, List, [], ◌∷◌, length, arith, refl, sym, ◌∙◌, ap, subst, Contains, IsTrue}
use Rattle.std.specs.Prelude.{◌&&◌, ◌||◌, None, Option, Some, bytes_eq, filter, find, map, option_and_then, slice_get, unwrap_or}
use Rattle.std.specs.List.{list_any}
use Rattle.std.specs.Option.{option_map, option_map_or}
use Rattle.std.proofs.lemmas.Bool.{and_parts, eq-eqb, eqb-true, or_left, or_right}
use Rattle.std.proofs.lemmas.List.Folds.{Any-from_list_any, list_any-from_Any}
use Rattle.std.proofs.lemmas.Option.{slice_get_cases, slice_get_read}
use Rattle.std.proofs.lemmas.Slice.Eq.{bytes_eq-Decides}
use Rattle.osgi_base.specs.declared.ids.RevisionId.{RevisionId}
use Rattle.osgi_ops.specs.laws.Items.{In-contains, In-filter, In-kept, In-map, In-mapped, contains-In, find-some, found-in, not-two}
use Rattle.osgi_wiring.specs.States.{IsKeptWorld, wiring_at}
use Rattle.osgi_world.specs.Lists.{In}
use Rattle.osgi_world.specs.Lookups.{capability_at, capability_namespace, is_reexport, revision_at}
use Rattle.osgi_world.specs.Satisfaction.{is_bundle, is_package}
use Rattle.osgi_world.specs.Sources.{GivesPackage, Sources, itself, substituted}
use Rattle.osgi_world.specs.Sources as relation
use Rattle.osgi_world.specs.Wirings.{Attached, BundleWire, Exports, HasExport, HasWire, IsExport, Owns, PackageWire, Reexports}
use Rattle.osgi_world.specs.declared.capability.Capability.{Capability}
use Rattle.osgi_world.specs.declared.revision.Revision.{Revision}
use Rattle.osgi_world.specs.declared.wiring.Wire.{Wire}
use Rattle.osgi_world.specs.declared.wiring.Wiring.{Wiring}
use Rattle.osgi_world.specs.declared.world.Known.{Known}
use Rattle.osgi_world.specs.declared.world.World.{World}
use Rattle.osgi_loader.specs.computed.Wires.{IsGiven, IsReached, IsUnwiredSource, start, reexported, fragments_of, given_by, has_export, is_export_of, is_import, is_reexported, is_required, number_of, numbered, owns_export, provider_of, reexports, required_by, wires_of}

both-true : (s t : Bool) → s ≡ true → t ≡ true → (s && t) ≡ true
both-true true t e f = f
both-true false t e f = absurd (cc e)

either-true : (s t : Bool) → (s || t) ≡ true → (s ≡ true) ⊎ (t ≡ true)
either-true true t e = inl refl
either-true false t e = inr e

-- ---- capabilities

-- a capability, where there is one, is an export of p
export-is : (p : List ℕ) (o : Option Capability) → (option_map_or (is_export_of p) o false ≡ true) ↔ (IsTrue (is_package (option_map_or (λ (c : Capability). c.namespace) o [])) × (option_map_or (λ (c : Capability). c.name) o [] ≡ p))
export-is p None = (λ e. absurd (cc e), λ b. let bad : false ≡ true = b.0 in absurd (cc bad))
export-is p (Some c) = (
  λ e. let parts = and_parts (is_package c.namespace) (bytes_eq c.name p) e in (parts.0, (bytes_eq-Decides c.name p).0 parts.1),
  λ b. both-true (is_package c.namespace) (bytes_eq c.name p) b.0 ((bytes_eq-Decides c.name p).1 b.1),
)

import-is : (K : List Known) (p : List ℕ) (w : Wire) → (is_import K p w ≡ true) ↔ IsExport K w.capability.owner w.capability.index p
import-is K p w = export-is p (capability_at K w.capability.owner w.capability.index)

bundle-is : (o : Option Capability) → option_map_or (λ (c : Capability). is_bundle c.namespace) o false ≡ is_bundle (option_map_or (λ (c : Capability). c.namespace) o [])
bundle-is None = refl
bundle-is (Some c) = refl

pub required-is : (K : List Known) (w : Wire) → is_required K w ≡ is_bundle (capability_namespace K w.capability.owner w.capability.index)
required-is K w = bundle-is (capability_at K w.capability.owner w.capability.index)

-- what is known of the owner has an export of p at this place
abbrev ExportAt : List ℕ → Option Revision → ℕ → Type 0
ExportAt p o index =
    let at : Option Capability = option_and_then (λ (v : Revision). slice_get v.capabilities index) o in
    (index < option_map_or (λ (v : Revision). length v.capabilities) o 0)
    × (IsTrue (is_package (option_map_or (λ (c : Capability). c.namespace) at [])) × (option_map_or (λ (c : Capability). c.name) at [] ≡ p))

owns-is : (p : List ℕ) (o : Option Revision) → (option_map_or (λ (v : Revision). list_any (is_export_of p) v.capabilities) o false ≡ true) ↔ ((index : ℕ) × ExportAt p o index)
owns-is p None = (λ e. absurd (cc e), λ s. absurd (omega (arith, s.1.0)))
owns-is p (Some v) = (
  λ e.
      let any = Any-from_list_any (is_export_of p) v.capabilities e in
      let is : slice_get v.capabilities any.0 ≡ Some any.1 = slice_get_read v.capabilities (length v.capabilities) any.0 any.1 refl any.2 (sym any.3) in
      (any.0, (any.2, subst (λ (o : Option Capability). IsTrue (is_package (option_map_or (λ (c : Capability). c.namespace) o [])) × (option_map_or (λ (c : Capability). c.name) o [] ≡ p)) (sym is) ((export-is p (Some any.1)).0 any.4))),
  λ s. elim (slice_get_cases v.capabilities s.0).1 [
    | inl there ↦
        let passes = subst (λ (o : Option Capability). IsTrue (is_package (option_map_or (λ (c : Capability). c.namespace) o [])) × (option_map_or (λ (c : Capability). c.name) o [] ≡ p)) there.2 s.1.1 in
        list_any-from_Any (is_export_of p) v.capabilities (s.0, there.0, there.1, there.3, (export-is p (Some there.0)).1 passes)
    | inr past ↦ absurd (omega (arith, past.0, s.1.0))
  ],
)

-- ---- what a wiring has

module _ (world : World) (issued : ℕ) (kept : IsKeptWorld world issued) where
  abbrev K : List Known
  K = world.known

  abbrev W : List Wiring
  W = world.wirings

  is-of : (r : RevisionId) (g : Wiring) → g.revision ≡ r → (g.revision.0 == r.0) ≡ true
  is-of r g e = eq-eqb g.revision.0 r.0 (ap (λ (s : RevisionId). s.0) e)

  of-it : (r : RevisionId) (g : Wiring) → (g.revision.0 == r.0) ≡ true → g.revision ≡ r
  of-it r g e = λ i. record { 0 = eqb-true g.revision.0 r.0 e i }

  wiring-found : (r : RevisionId) (g : Wiring) → In g W → g.revision ≡ r → wiring_at W r ≡ Some g
  wiring-found r g i e =
      let found = find-some (λ (h : Wiring). h.revision.0 == r.0) W g i (is-of r g e) in
      let there = found-in (λ (h : Wiring). h.revision.0 == r.0) W found.0 found.1 in
      let same : found.0 ≡ g = not-two (λ (g h : Wiring). g.revision ≡ h.revision) (λ x y s. sym s) W kept.is_world.once found.0 g there.0 i (of-it r found.0 there.1 ∙ sym e) in
      found.1 ∙ ap Some same

  module _ {X : Type 0} (f : Wiring → List X) (r : RevisionId) (x : X) where
    listed-in : (g : Wiring) → In g W → g.revision ≡ r → In x (f g) → In x (option_map_or f (wiring_at W r) [])
    listed-in g i e at = subst (λ (o : Option Wiring). In x (option_map_or f o [])) (sym (wiring-found r g i e)) at

    in-listed : In x (option_map_or f (wiring_at W r) []) → (g : Wiring) × In g W × (g.revision ≡ r) × In x (f g)
    in-listed at = by (wiring_at W r) refl at
      where
        by : (o : Option Wiring) → wiring_at W r ≡ o → In x (option_map_or f o []) → (g : Wiring) × In g W × (g.revision ≡ r) × In x (f g)
        by None is at = elim at [ ]
        by (Some g) is at = let there = found-in (λ (h : Wiring). h.revision.0 == r.0) W g is in (g, there.0, of-it r g there.1, at)

  wire-of : (r : RevisionId) (w : Wire) → HasWire W r w → In w (wires_of world r)
  wire-of r w h = listed-in (λ (g : Wiring). g.wires) r w h.wiring h.stands h.revision h.has

  of-wire : (r : RevisionId) (w : Wire) → In w (wires_of world r) → HasWire W r w
  of-wire r w at = let g = in-listed (λ (g : Wiring). g.wires) r w at in record { wiring = g.0; stands = g.1; revision = g.2; has = g.3 }

  fragment-of : (r f : RevisionId) → Attached W r f → In f (fragments_of world r)
  fragment-of r f a = listed-in (λ (g : Wiring). g.fragments) r f a.wiring a.stands a.revision a.has

  of-fragment : (r f : RevisionId) → In f (fragments_of world r) → Attached W r f
  of-fragment r f at = let g = in-listed (λ (g : Wiring). g.fragments) r f at in record { wiring = g.0; stands = g.1; revision = g.2; has = g.3 }

  -- ---- the wire for a package

  module _ (p : List ℕ) (r : RevisionId) where
    pub provider-wire : (x : RevisionId) → provider_of world p r ≡ Some x → PackageWire K W r p x
    provider-wire x is = by (find (is_import K p) (wires_of world r)) refl is
      where
        by : (o : Option Wire) → find (is_import K p) (wires_of world r) ≡ o → option_map (λ (w : Wire). w.capability.provider) o ≡ Some x → PackageWire K W r p x
        by None found is = absurd (cc is)
        by (Some w) found is =
            let there = found-in (is_import K p) (wires_of world r) w found in
            record { wire = w; has = of-wire r w there.0; export = (import-is K p w).0 there.1; provider = cc is }

    wire-found : (x : RevisionId) → PackageWire K W r p x → (y : RevisionId) × (provider_of world p r ≡ Some y)
    wire-found x w =
        let found = find-some (is_import K p) (wires_of world r) w.wire (wire-of r w.wire w.has) ((import-is K p w.wire).1 w.export) in
        (found.0.capability.provider, ap (option_map (λ (w : Wire). w.capability.provider)) found.1)

    pub no-wire : provider_of world p r ≡ None → (x : RevisionId) → PackageWire K W r p x → ⊥
    no-wire none x w = let found = wire-found x w in let bad : None ≡ Some found.0 = sym none ∙ found.1 in cc bad

    pub wire-provider : (x : RevisionId) → PackageWire K W r p x → provider_of world p r ≡ Some x
    wire-provider x w = let found = wire-found x w in found.1 ∙ ap Some (kept.consistent.coherent.rules.one_provider r p found.0 x (provider-wire found.0 found.1) w)

    -- ---- exports

    owned : (o : RevisionId) → owns_export world p o ≡ true → Owns W r o → HasExport K W r p
    owned o e owns = let at = (owns-is p (revision_at K o)).0 e in record { owner = o; index = at.0; has = (owns, at.1.0); export = at.1.1 }

    pub exported : has_export world p r ≡ true → HasExport K W r p
    exported e = elim (either-true (owns_export world p r) (list_any (owns_export world p) (fragments_of world r)) e) [
      | inl own ↦ owned r own (inl refl)
      | inr some ↦
          let any = Any-from_list_any (owns_export world p) (fragments_of world r) some in
          owned any.1 any.4 (inr (of-fragment r any.1 (contains-In (fragments_of world r) any.1 (any.0, any.2, any.3))))
    ]

    pub exporting : HasExport K W r p → has_export world p r ≡ true
    exporting h =
        let own : owns_export world p h.owner ≡ true = (owns-is p (revision_at K h.owner)).1 (h.index, (h.has.1, h.export)) in
        elim h.has.0 [
          | inl e ↦ or_left (owns_export world p r) _ (ap (owns_export world p) (sym e) ∙ own)
          | inr a ↦
              let at = In-contains (fragments_of world r) h.owner (fragment-of r h.owner a) in
              or_right (owns_export world p r) _ (list_any-from_Any (owns_export world p) (fragments_of world r) (at.0, h.owner, at.1, at.2, own))
        ]

    -- ---- what the revision gives by its own import and export

    abbrev GivesDirectly : RevisionId → Type 0
    GivesDirectly x = (PackageWire K W r p x × (x ≢ r) × HasExport K W r p) ⊎ ((x ≡ r) × Exports K W r p)

    -- the one that it imports from is another, or itself
    imported-direct : (y : RevisionId) → PackageWire K W r p y → HasExport K W r p → (t : Bool) → (y.0 == r.0) ≡ t → GivesDirectly y
    imported-direct y w h true e =
        let same : y ≡ r = λ i. record { 0 = eqb-true y.0 r.0 e i } in
        inr (same, record { exported = h; stays = λ i. i.elsewhere (kept.consistent.coherent.rules.one_provider r p i.from y i.imports w ∙ same) })
    imported-direct y w h false e =
        inl (w, (λ same. let bad : true ≡ false = sym (eq-eqb y.0 r.0 (ap (λ (s : RevisionId). s.0) same)) ∙ e in cc bad), h)

    own-direct : provider_of world p r ≡ None → HasExport K W r p → GivesDirectly r
    own-direct none h = inr (refl, record { exported = h; stays = λ i. no-wire none i.from i.imports })

    pub given-direct : (x : RevisionId) → given_by world p r ≡ Some x → GivesDirectly x
    given-direct x is = by (has_export world p r) (provider_of world p r) refl refl is
      where
        by : (t : Bool) (o : Option RevisionId) → has_export world p r ≡ t → provider_of world p r ≡ o → cond t (Some (unwrap_or o r)) None ≡ Some x → GivesDirectly x
        by false o has from is = absurd (cc is)
        by true None has from is = let same : r ≡ x = cc is in subst GivesDirectly same (own-direct from (exported has))
        by true (Some y) has from is = let same : y ≡ x = cc is in subst GivesDirectly same (imported-direct y (provider-wire y from) (exported has) (y.0 == r.0) refl)

    direct-by : (x : RevisionId) → has_export world p r ≡ true → unwrap_or (provider_of world p r) r ≡ x → given_by world p r ≡ Some x
    direct-by x has is = ap (λ t. cond t (Some (unwrap_or (provider_of world p r) r)) None) has ∙ ap Some is

    pub direct-given : (x : RevisionId) → GivesDirectly x → given_by world p r ≡ Some x
    direct-given x (inl w) = direct-by x (exporting w.2) (ap (λ o. unwrap_or o r) (wire-provider x w.0))
    direct-given x (inr e) = direct-by x (exporting e.1.exported) (by (provider_of world p r) refl)
      where
        by : (o : Option RevisionId) → provider_of world p r ≡ o → unwrap_or (provider_of world p r) r ≡ x
        by None from = ap (λ o. unwrap_or o r) from ∙ sym e.0
        by (Some y) from = ap (λ o. unwrap_or o r) from ∙ same (y.0 == r.0) refl ∙ sym e.0
          where
            same : (t : Bool) → (y.0 == r.0) ≡ t → y ≡ r
            same true q = λ i. record { 0 = eqb-true y.0 r.0 q i }
            same false q = absurd (e.1.stays (record { from = y; imports = provider-wire y from; elsewhere = λ s. let bad : true ≡ false = sym (eq-eqb y.0 r.0 (ap (λ (z : RevisionId). z.0) s)) ∙ q in cc bad }))

  -- ---- the bundles that are required

  numbered-in : (q : Wire → Bool) (r : RevisionId) (c : ℕ) → Contains (map number_of (filter q (wires_of world r))) c → (w : Wire) × HasWire W r w × (q w ≡ true) × (w.capability.provider ≡ numbered c)
  numbered-in q r c at =
      let w = In-map number_of (filter q (wires_of world r)) c (contains-In _ c at) in
      let there = In-filter q (wires_of world r) w.0 w.1 in
      (w.0, of-wire r w.0 there.0, there.1, λ i. record { 0 = sym w.2 i })

  in-numbered : (q : Wire → Bool) (r : RevisionId) (w : Wire) → HasWire W r w → q w ≡ true → Contains (map number_of (filter q (wires_of world r))) w.capability.provider.0
  in-numbered q r w h e = In-contains _ w.capability.provider.0 (In-mapped number_of (filter q (wires_of world r)) w (In-kept q (wires_of world r) w (wire-of r w h) e))

  pub requires-to : (r : RevisionId) (c : ℕ) → Contains (required_by world r) c → BundleWire K W r (numbered c)
  requires-to r c at = let w = numbered-in (is_required K) r c at in record { wire = w.0; has = w.1; bundle = sym (required-is K w.0) ∙ w.2; provider = w.3 }

  pub requires-from : (r c : RevisionId) → BundleWire K W r c → Contains (required_by world r) c.0
  requires-from r c b = subst (λ (x : RevisionId). Contains (required_by world r) x.0) b.provider (in-numbered (is_required K) r b.wire b.has (required-is K b.wire ∙ b.bundle))

  pub reexports-to : (b c : ℕ) → Contains (reexports world b) c → Reexports K W (numbered b) (numbered c)
  reexports-to b c at =
      let w = numbered-in (is_reexported K) (numbered b) c at in
      let parts = and_parts (is_required K w.0) (is_reexport K w.0.requirement) w.2 in
      record { wire = w.0; has = w.1; bundle = sym (required-is K w.0) ∙ parts.0; provider = w.3; reexport = parts.1 }

  pub reexports-from : (b c : RevisionId) → Reexports K W b c → Contains (reexports world b.0) c.0
  reexports-from b c x =
      subst (λ (y : RevisionId). Contains (reexports world b.0) y.0) x.provider
      (in-numbered (is_reexported K) b x.wire x.has (both-true (is_required K x.wire) (is_reexport K x.wire.requirement) (required-is K x.wire ∙ x.bundle) x.reexport))

  -- ---- what they give

  module _ (p : List ℕ) (starts : List ℕ) where
    gives-direct : (b x : RevisionId) → GivesDirectly p b x → GivesPackage K W p b x
    gives-direct b x (inl w) = substituted w.0 w.1 w.2
    gives-direct b x (inr e) = subst (GivesPackage K W p b) (sym e.0) (itself e.1)

    -- what a bundle gives that is reached, one of the first gives
    gives-first : {b : ℕ} (x : RevisionId) → IsReached world starts b → GivesPackage K W p (numbered b) x → (c : ℕ) × Contains starts c × GivesPackage K W p (numbered c) x
    gives-first x (start {b = b} s) g = (b, s, g)
    gives-first x (reexported {b = b} {c = c} r s) g = gives-first x r (relation.reexported (reexports-to b c s) g)

    pub given-gives : (x : RevisionId) → IsGiven world p starts x.0 → (c : ℕ) × Contains starts c × GivesPackage K W p (numbered c) x
    given-gives x (b, reached, is) = gives-first x reached (gives-direct (numbered b) x (given-direct p (numbered b) x is))

    pub gives-given : {b x : RevisionId} → IsReached world starts b.0 → GivesPackage K W p b x → IsGiven world p starts x.0
    gives-given reached (substituted {b = b} {x = x} w other has) = (b.0, reached, direct-given p b x (inl (w, other, has)))
    gives-given reached (itself {b = b} e) = (b.0, reached, direct-given p b b (inr (refl, e)))
    gives-given reached (relation.reexported {b = b} {c = c} s g) = gives-given (reexported reached (reexports-from b c s)) g

  -- a bundle alone
  pub given-alone : (p : List ℕ) (c x : RevisionId) → IsGiven world p (c.0 ∷ []) x.0 ↔ GivesPackage K W p c x
  given-alone p c x = (
    λ given.
        let g = given-gives p (c.0 ∷ []) x given in
        let same : c ≡ numbered g.0 = λ i. record { 0 = only g.0 g.1 i } in
        subst (λ (b : RevisionId). GivesPackage K W p b x) (sym same) g.2,
    λ gives. gives-given p (c.0 ∷ []) (start (In-contains (c.0 ∷ []) c.0 (inl refl))) gives,
  )
    where
      only : (n : ℕ) → Contains (c.0 ∷ []) n → c.0 ≡ n
      only n at = elim (contains-In (c.0 ∷ []) n at) [ inl e ↦ sym e | inr none ↦ elim none [ ] ]

  -- ---- sources

  module _ (p : List ℕ) (r : RevisionId) where
    pub wired-sources : (x y : RevisionId) → provider_of world p r ≡ Some y → (x ≡ y) ↔ Sources K W r p x
    wired-sources x y is = (
      λ e. inl (subst (PackageWire K W r p) (sym e) (provider-wire p r y is)),
      λ s. elim s [
        | inl w ↦ kept.consistent.coherent.rules.one_provider r p x y w (provider-wire p r y is)
        | inr rest ↦ absurd (rest.0 (y, provider-wire p r y is))
      ],
    )

    pub unwired-sources : (x : RevisionId) → provider_of world p r ≡ None → IsUnwiredSource world p r x.0 ↔ Sources K W r p x
    unwired-sources x none =
        let alone = λ (y : (y : RevisionId) × PackageWire K W r p y). no-wire p r none y.0 y.1 in (
          λ either. elim either [
            | inl given ↦ let g = given-gives p (required_by world r) x given in inr (alone, inl (numbered g.0, requires-to r g.0 g.1, g.2))
            | inr own ↦ inr (alone, inr ((λ i. record { 0 = own.1 i }), record { exported = exported p r own.0; stays = λ i. no-wire p r none i.from i.imports }))
          ],
          λ s. elim s [
            | inl w ↦ absurd (no-wire p r none x w)
            | inr rest ↦ elim rest.1 [
              | inl required ↦ inl (gives-given p (required_by world r) (start (requires-from r required.0 required.1)) required.2)
              | inr own ↦ inr (exporting p r own.1.exported, ap (λ (y : RevisionId). y.0) own.0)
            ]
          ],
        )
