-- Each candidate is among the capabilities that are tried: its place stands under its name, and its provider is the owner or
-- has the name that the owner asks of its host.
use Rattle.std.proofs.Common.{◌≡◌, ◌==◌, ◌⊎◌, inl, inr, ℕ, ◌+◌, ◌<◌, ◌&&◌, not, nat_lt, List, [], refl, sym, ◌∙◌, ap, subst, arith}
use Rattle.std.proofs.lemmas.Slice.Eq.{bytes_eq-Decides}
use Rattle.std.specs.Prelude.{Bool, true, false, IsSome, IsTrue, bytes_eq, option_and_then, Option, None, Some, slice_get}
use Rattle.std.specs.Option.{option_map, option_map_or}
use Rattle.osgi_base.specs.declared.ids.RevisionId.{RevisionId}
use Rattle.osgi_candidates.specs.computed.Collecting.{Asks, Collects, Extends, IsAt, IsAtOf, IsAtSome, IsOf}
use Rattle.osgi_candidates.specs.computed.Fitting.{IsFit, bare}
use Rattle.osgi_candidates.specs.computed.Names.{AreNames, values_of}
use Rattle.osgi_candidates.specs.computed.Texts.{AsksText, IsListed, attribute_cmp, key_cmp}
use Rattle.osgi_candidates.specs.declared.names.KnownNames.{KnownNames}
use Rattle.osgi_candidates.specs.declared.names.Place.{Place}
use Rattle.osgi_candidates.specs.declared.ranked.Ranked.{Ranked}
use Rattle.osgi_candidates.specs.declared.texts.TextKey.{TextKey}
use Rattle.osgi_candidates.proofs.Collected.{extends_like, extends_two}
use Rattle.osgi_candidates.proofs.Tested.{matching_is}
use Rattle.osgi_resolver_theory.proofs.Lists.{and-cases}
use Rattle.osgi_resolver_theory.proofs.Values.{find-some, rev-eq}
use Rattle.std.specs.BTreeSet.{BTreeSet}
use Rattle.osgi_space_rows.specs.computed.Groups as groups
use Rattle.osgi_version.specs.RangeValues.{is_within, range_parts}
use Rattle.osgi_version.specs.VersionValues.{parts}
use Rattle.std.specs.Prelude.{is_none}
use Rattle.osgi_world.specs.Candidates.{CanBeAsked, IsCandidate}
use Rattle.osgi_world.specs.Lists.{In}
use Rattle.osgi_world.specs.Lookups.{IsKnown, SatisfiesAs, dynamic_count, is_dynamic, is_effective, is_host_of, known_at, requirement_at, requirement_count, revision_at, symbolic_name}
use Rattle.osgi_world.specs.Satisfaction.{Satisfies, is_host_for, matches_host}
use Rattle.osgi_world.specs.declared.capability.Capability.{Capability}
use Rattle.osgi_world.specs.declared.requirement.Requirement.{Requirement}
use Rattle.osgi_world.specs.declared.revision.Revision.{Revision}
use Rattle.osgi_world.specs.declared.wiring.CapRef.{CapRef}
use Rattle.osgi_world.specs.declared.wiring.ReqRef.{ReqRef}
use Rattle.osgi_world.specs.declared.world.Known.{Known}
use Rattle.osgi_world.specs.declared.world.World.{World}

some-same : {X : Type 0} (x y : X) (o : Option X) → o ≡ Some x → o ≡ Some y → x ≡ y
some-same x y o e f = cc

bytes-same : (a b : List ℕ) → IsTrue (bytes_eq a b) → a ≡ b
bytes-same a b t = (bytes_eq-Decides a b).0 t

-- ---- hosts

-- a revision asks for a host of this name
pub record AsksHost (K : List Known) (f h : RevisionId) : Type 0 where
  pub fragment : Revision
  pub asked : Requirement
  pub is : revision_at K f ≡ Some fragment
  pub host : fragment.host ≡ Some asked
  pub known : IsKnown K h
  pub name : symbolic_name K h ≡ asked.name

asks-go : (K : List Known) (f h : RevisionId) (v : Option Revision) (k : Option Known) → revision_at K f ≡ v → known_at K h ≡ k →
    IsTrue (option_map_or (λ fragment. option_map_or (λ host. matches_host fragment host) (option_map (λ (x : Known). x.revision) k) false) v false) → AsksHost K f h
asks-go K f h None k e g t = absurd (cc t)
asks-go K f h (Some v) None e g t = absurd (cc t)
asks-go K f h (Some v) (Some k) e g t = go v.host refl t
  where
    go : (o : Option Requirement) → v.host ≡ o → IsTrue (option_map_or (λ asked. is_host_for asked k.revision) o false) → AsksHost K f h
    go None at u = absurd (cc u)
    go (Some asked) at u = record {
      fragment = v;
      asked = asked;
      is = e;
      host = at;
      known = subst (λ (o : Option Known). IsSome o) (sym g) refl;
      name = ap (λ o. option_map_or (λ (x : Revision). x.name) (option_map (λ (x : Known). x.revision) o) []) g
          ∙ sym (bytes-same asked.name k.revision.name (and-cases (bytes_eq asked.name k.revision.name) (is_within (range_parts asked.range) (parts k.revision.version) && (k.revision.attach && is_none k.revision.host)) u).0);
    }

pub asks_host : (K : List Known) (f h : RevisionId) → IsTrue (is_host_of K f h) → AsksHost K f h
asks_host K f h t = asks-go K f h (revision_at K f) (known_at K h) refl refl t

module _ (w : World) (fit : IsFit w) (names : KnownNames) (are : AreNames w.known names) where
  -- the provider is the owner, or a host that the owner asks for
  abbrev pub IsProposed : CapRef → Type 0
  IsProposed c = (c.provider ≡ c.owner) ⊎ AsksHost w.known c.owner c.provider

  pub proposed : (q : ReqRef) (c : CapRef) → IsCandidate (bare w) q c → IsProposed c
  proposed q c x = elim x.stands [
    | inl o ↦ elim o.1.has.0 [ inl own ↦ inl (sym own) | inr a ↦ inr (asks_host w.known c.owner c.provider (fit.consistent.coherent.rules.attached c.provider c.owner a)) ]
    | inr n ↦ elim n.1 [ inl own ↦ inl (sym own) | inr m ↦ inr (asks_host w.known c.owner c.provider ((matching_is w fit c.owner c.provider).0 m).1) ]
  ]

  same-asked : (f h : RevisionId) (v : Revision) (asked : Requirement) → revision_at w.known f ≡ Some v → v.host ≡ Some asked → (a : AsksHost w.known f h) → a.asked ≡ asked
  same-asked f h v asked is host a =
      let e = some-same a.fragment v (revision_at w.known f) a.is is in
      some-same a.asked asked v.host (ap (λ (x : Revision). x.host) (sym e) ∙ a.host) host

  module _ (q : ReqRef) (p : Place) (old new : BTreeSet Ranked) (added : Extends w q old new (IsOf p p.owner)) where
    own-at : (c : CapRef) → IsAt p c → c.provider ≡ c.owner → IsOf p p.owner c
    own-at c at e = (e ∙ at.0, at)

    -- an owner that asks for no host
    pub place_alone : ((h : RevisionId) → ¬ AsksHost w.known p.owner h) → Extends w q old new (IsAt p)
    place_alone alone = extends_like w q old new (IsOf p p.owner) (IsAt p) (λ c at x. elim (proposed q c x) [
      | inl own ↦ own-at c at own
      | inr a ↦ absurd (alone c.provider (subst (λ r. AsksHost w.known r c.provider) at.0 a))
    ]) added

    -- and one that asks for one
    pub place_hosted : (last : BTreeSet Ranked) (v : Revision) (asked : Requirement) → revision_at w.known p.owner ≡ Some v → v.host ≡ Some asked → Extends w q new last (IsAtOf p (values_of names.revisions asked.name)) → Extends w q old last (IsAt p)
    place_hosted last v asked is host more = extends_like w q old last (λ c. IsOf p p.owner c ⊎ IsAtOf p (values_of names.revisions asked.name) c) (IsAt p) (λ c at x. elim (proposed q c x) [
      | inl own ↦ inl (own-at c at own)
      | inr a ↦ (
          let b : AsksHost w.known p.owner c.provider = subst (λ r. AsksHost w.known r c.provider) at.0 a in
          let same = same-asked p.owner c.provider v asked is host b in
          let listed = (are.revisions asked.name c.provider).1 (b.known, b.name ∙ ap (λ (n : Requirement). n.name) same) in
          inr (listed, at))
    ]) (extends_two w q old new last (IsOf p p.owner) (IsAtOf p (values_of names.revisions asked.name)) added more)

  -- ---- places

  abbrev place-of : CapRef → Place
  place-of c = record { owner = c.owner; index = c.index }

  capability-known : (r : RevisionId) (i : ℕ) (a : Capability) (k : Option Known) → known_at w.known r ≡ k → option_and_then (λ (v : Revision). slice_get v.capabilities i) (option_map (λ (x : Known). x.revision) k) ≡ Some a →
      (x : Known) × (known_at w.known r ≡ Some x) × (slice_get x.revision.capabilities i ≡ Some a)
  capability-known r i a None e at = absurd (cc at)
  capability-known r i a (Some k) e at = (k, e, at)

  as-name : (b : Bool) (n : Requirement) (c : Capability) (v : Revision) → b ≡ false → SatisfiesAs b n c v → n.name ≡ c.name
  as-name false n c v e s = s.name
  as-name true n c v e s = absurd (cc e)

  pub place_stands : (q : ReqRef) (n : Requirement) → Asks w q n → (c : CapRef) → IsCandidate (bare w) q c → In (record { owner = c.owner; index = c.index }) (values_of names.capabilities n.name)
  place_stands q n asks c x =
      let s = x.satisfies in
      let k = capability-known c.owner c.index s.capability (known_at w.known c.owner) refl s.capability_is in
      let found = find-some (λ (y : Known). y.id.0 == c.owner.0) w.known k.0 k.1 in
      let id : c.owner ≡ k.0.id = sym (rev-eq k.0.id c.owner found.1) in
      let same = some-same s.requirement n (requirement_at w.known q) s.requirement_is asks.requirement in
      let named : s.capability.name ≡ n.name = sym (as-name _ s.requirement s.capability s.provider asks.plain s.satisfies) ∙ ap (λ (y : Requirement). y.name) same in
      are.capabilities c.owner k.0 k.1 n.name (record { owner = c.owner; index = c.index }) (s.capability, k.2, named, id)

  -- where each candidate was tried, all are there
  collects_tried : (q : ReqRef) (Tried : CapRef → Type 0) → ((c : CapRef) → IsCandidate (bare w) q c → Tried c) → (none found : BTreeSet Ranked) → none.keys ≡ [] → Extends w q none found Tried → Collects w q found
  collects_tried q Tried tried none found empty x = record {
    good = x.good (λ r i. absurd (subst (λ l. In r l) empty i));
    all = λ c is. x.stored c (tried c is) is;
  }

  pub collects_all : (q : ReqRef) (n : Requirement) → Asks w q n → (none found : BTreeSet Ranked) → none.keys ≡ [] → Extends w q none found (IsAtSome (values_of names.capabilities n.name)) → Collects w q found
  collects_all q n asks = collects_tried q (IsAtSome (values_of names.capabilities n.name)) (λ c is. (place-of c, place_stands q n asks c is, (refl, refl)))

  -- ---- places of a text

  as-satisfied : (b : Bool) (n : Requirement) (c : Capability) (v : Revision) → b ≡ false → SatisfiesAs b n c v → Satisfies n c v.name v.version
  as-satisfied false n c v e s = s
  as-satisfied true n c v e s = absurd (cc e)

  text_stands : (q : ReqRef) (n : Requirement) (k : TextKey) → Asks w q n → AsksText n k → (c : CapRef) → IsCandidate (bare w) q c → IsListed names.texts k.attribute.name k.attribute.attribute k.text (place-of c)
  text_stands q n k asks text c x =
      let s = x.satisfies in
      let known = capability-known c.owner c.index s.capability (known_at w.known c.owner) refl s.capability_is in
      let found = find-some (λ (y : Known). y.id.0 == c.owner.0) w.known known.0 known.1 in
      let id : c.owner ≡ known.0.id = sym (rev-eq known.0.id c.owner found.1) in
      let same = some-same s.requirement n (requirement_at w.known q) s.requirement_is asks.requirement in
      let is : Satisfies n s.capability s.provider.name s.provider.version = subst (λ y. Satisfies y s.capability s.provider.name s.provider.version) same (as-satisfied _ s.requirement s.capability s.provider asks.plain s.satisfies) in
      are.texts c.owner known.0 known.1 k.attribute.name k.attribute.attribute k.text (place-of c) (record {
        capability = s.capability;
        stands = known.2;
        owner = id;
        name = sym is.name ∙ sym text.name;
        has = text.asked s.capability s.provider.name s.provider.version is;
      })

  -- the capabilities in the three places where those with a text stand
  abbrev IsAtText : TextKey → CapRef → Type 0
  IsAtText k c = (IsAtSome (groups.values_of key_cmp names.texts.texts k) c ⊎ IsAtSome (groups.values_of attribute_cmp names.texts.others k.attribute) c) ⊎ IsAtSome (values_of names.texts.many k.attribute.name) c

  pub collects_text : (q : ReqRef) (n : Requirement) (k : TextKey) → Asks w q n → AsksText n k → (none one two found : BTreeSet Ranked) → none.keys ≡ [] → Extends w q none one (IsAtSome (groups.values_of key_cmp names.texts.texts k)) → Extends w q one two (IsAtSome (groups.values_of attribute_cmp names.texts.others k.attribute)) →
      Extends w q two found (IsAtSome (values_of names.texts.many k.attribute.name)) → Collects w q found
  collects_text q n k asks text none one two found empty x y z =
      let T = IsAtSome (groups.values_of key_cmp names.texts.texts k) in
      let O = IsAtSome (groups.values_of attribute_cmp names.texts.others k.attribute) in
      let M = IsAtSome (values_of names.texts.many k.attribute.name) in
      collects_tried q (IsAtText k) (λ c is. elim (text_stands q n k asks text c is) [
        | inl here ↦ inl (inl (place-of c, here, (refl, refl)))
        | inr rest ↦ elim rest [
          | inl o ↦ inl (inr (place-of c, o, (refl, refl)))
          | inr m ↦ inr (place-of c, m, (refl, refl))
        ]
      ]) none found empty (extends_two w q none two found (λ c. T c ⊎ O c) M (extends_two w q none one two T O x y) z)

-- ---- requirements that can be asked

less-not : (a b : ℕ) → a < b → (not (nat_lt a b)) ≡ false
less-not a b h = grind (arith, h)

-- they are no dynamic imports
pub has_requirement : (K : List Known) (q : ReqRef) → CanBeAsked K q → is_dynamic K q ≡ false
has_requirement K q has = ap (λ b. b && nat_lt q.index (requirement_count K q.owner + dynamic_count K q.owner)) (less-not q.index (requirement_count K q.owner) has.known)

-- and they are there
pub no_candidates : (K : List Known) (q : ReqRef) → requirement_at K q ≡ None → ¬ CanBeAsked K q
no_candidates K q none has =
    let no : is_effective K q ≡ false = ap (λ o. option_map_or (λ (n : Requirement). n.effective) o false) none in
    let yes : is_effective K q ≡ true = has.effective in
    cc (sym no ∙ yes)

-- ---- owners without a host

pub not_known : (K : List Known) (f : RevisionId) → revision_at K f ≡ None → (h : RevisionId) → ¬ AsksHost K f h
not_known K f none h a = let e : None ≡ Some a.fragment = sym none ∙ a.is in cc e

pub no_host : (K : List Known) (f : RevisionId) (v : Revision) → revision_at K f ≡ Some v → v.host ≡ None → (h : RevisionId) → ¬ AsksHost K f h
no_host K f v is none h a =
    let same = some-same a.fragment v (revision_at K f) a.is is in
    let e : None ≡ Some a.asked = sym none ∙ (ap (λ (x : Revision). x.host) (sym same) ∙ a.host) in
    cc e
