-- Sets to which candidates are added, and the list that is made of one.
use Rattle.std.proofs.Common.{◌≡◌, ◌⊎◌, inl, inr, ℕ, ◌+◌, ◌<◌, List, [], get_or, length, map, reverse, take, sym, ◌∙◌, ap, subst}
use Rattle.std.specs.BTreeSet.{BTreeSet, insert_key, IsOrdered}
use Rattle.osgi_base.specs.declared.ids.RevisionId.{RevisionId}
use Rattle.osgi_candidates.specs.computed.Collecting.{AreCandidates, Collects, Extends, IsAt, IsAtOf, IsAtSome, IsGood, IsOf}
use Rattle.osgi_candidates.specs.computed.Fitting.{IsFit, bare}
use Rattle.osgi_candidates.specs.computed.Ranking.{IsRankOf, capability_of, ranked_cmp}
use Rattle.osgi_candidates.specs.declared.names.Place.{Place}
use Rattle.osgi_candidates.specs.declared.ranked.Ranked.{Ranked}
use Rattle.osgi_candidates.proofs.Preferring.{preferred_is, tied_same}
use Rattle.osgi_candidates.proofs.Sets.{in_reverse, put_in, put_kept, put_stored, reverse_in, two_below, two_reverse}
use Rattle.osgi_resolver_theory.proofs.Lists.{in-map, map-in}
use Rattle.osgi_resolver_theory.proofs.Twos.{two-map}
use Rattle.osgi_space_rules.proofs.Grow.{in_more}
use Rattle.osgi_world.specs.Candidates.{IsCandidate, IsPreferred}
use Rattle.osgi_world.specs.Lists.{In, Two}
use Rattle.osgi_world.specs.declared.wiring.CapRef.{CapRef}
use Rattle.osgi_world.specs.declared.wiring.ReqRef.{ReqRef}
use Rattle.osgi_world.specs.declared.world.World.{World}

module _ (w : World) (q : ReqRef) where
  -- ---- steps

  pub extends_none : (set : BTreeSet Ranked) (Tried : CapRef → Type 0) → ((c : CapRef) → Tried c → ¬ IsCandidate (bare w) q c) → Extends w q set set Tried
  extends_none set Tried never = record { good = λ g. g; kept = λ r i. i; stored = λ c t x. absurd (never c t x) }

  pub extends_one : (old new : BTreeSet Ranked) (c : CapRef) (r : Ranked) (Tried : CapRef → Type 0) → IsCandidate (bare w) q c → IsRankOf w c r → ((d : CapRef) → Tried d → d ≡ c) → new.keys ≡ insert_key ranked_cmp old.keys r → Extends w q old new Tried
  extends_one old new c r Tried is rank only keys = record {
    good = λ g x i. elim (put_in ranked_cmp r old.keys x (subst (λ ks. In x ks) keys i)) [ inl e ↦ subst (IsGood w q) (sym e) one | inr o ↦ g x o ];
    kept = λ x i. subst (λ ks. In x ks) (sym keys) (put_kept ranked_cmp r old.keys x i);
    stored = λ d t x.
        let z = put_stored ranked_cmp r old.keys in
        let same : capability_of z.0 ≡ capability_of r = elim z.2 [ inl e ↦ ap capability_of e | inr tie ↦ tied_same r z.0 tie ] in
        (z.0, subst (λ ks. In z.0 ks) (sym keys) z.1, same ∙ (rank.capability ∙ sym (only d t)));
  }
    where
      one : IsGood w q r
      one = record {
        candidate = subst (IsCandidate (bare w) q) (sym rank.capability) is;
        rank = subst (λ d. IsRankOf w d r) (sym rank.capability) rank;
      }

  pub extends_like : (old new : BTreeSet Ranked) (Tried Also : CapRef → Type 0) → ((c : CapRef) → Also c → IsCandidate (bare w) q c → Tried c) → Extends w q old new Tried → Extends w q old new Also
  extends_like old new Tried Also from x = record { good = x.good; kept = x.kept; stored = λ c a is. x.stored c (from c a is) is }

  pub extends_two : (a b d : BTreeSet Ranked) (T S : CapRef → Type 0) → Extends w q a b T → Extends w q b d S → Extends w q a d (λ c. T c ⊎ S c)
  extends_two a b d T S x y = record {
    good = λ g. y.good (x.good g);
    kept = λ r i. y.kept r (x.kept r i);
    stored = λ c either is. elim either [ inl t ↦ (let s = x.stored c t is in (s.0, y.kept s.0 s.1, s.2)) | inr s ↦ y.stored c s is ];
  }

  pub hosts_none : (set : BTreeSet Ranked) (p : Place) → Extends w q set set (IsAtOf p [])
  hosts_none set p = extends_none set (IsAtOf p []) (λ c t. absurd t.0)

  -- one host more
  pub hosts_more : (a b d : BTreeSet Ranked) (p : Place) (hosts : List RevisionId) (i : ℕ) (h : RevisionId) → i < length hosts → h ≡ get_or hosts i h → Extends w q a b (IsAtOf p (take i hosts)) → Extends w q b d (IsOf p h) → Extends w q a d (IsAtOf p (take (i + 1) hosts))
  hosts_more a b d p hosts i h within at x y =
      extends_like a d (λ c. IsAtOf p (take i hosts) c ⊎ IsOf p h c) (IsAtOf p (take (i + 1) hosts))
      (λ c t is. elim ((in_more hosts i h within at c.provider).0 t.0) [ inl o ↦ inl (o, t.1) | inr e ↦ inr (e, t.1) ])
      (extends_two a b d (IsAtOf p (take i hosts)) (IsOf p h) x y)

  pub places_none : (set : BTreeSet Ranked) → Extends w q set set (IsAtSome [])
  places_none set = extends_none set (IsAtSome []) (λ c t. absurd t.1)

  pub places_more : (a b d : BTreeSet Ranked) (places : List Place) (i : ℕ) (p : Place) → i < length places → p ≡ get_or places i p → Extends w q a b (IsAtSome (take i places)) → Extends w q b d (IsAt p) → Extends w q a d (IsAtSome (take (i + 1) places))
  places_more a b d places i p within at x y =
      extends_like a d (λ c. IsAtSome (take i places) c ⊎ IsAt p c) (IsAtSome (take (i + 1) places))
      (λ c t is. elim ((in_more places i p within at t.0).0 t.1) [ inl o ↦ inl (t.0, o, t.2) | inr e ↦ inr (subst (λ z. IsAt z c) e t.2) ])
      (extends_two a b d (IsAtSome (take i places)) (IsAt p) x y)

  -- ---- the list

  pub listed_are : IsFit w → (set : BTreeSet Ranked) (cs : List CapRef) → cs ≡ reverse (map capability_of set.keys) → IsOrdered ranked_cmp set → Collects w q set → AreCandidates w q cs
  listed_are fit set cs is up all = record {
    are = λ c. (
      λ i.
          let m = map-in capability_of set.keys c (in_reverse (map capability_of set.keys) c (subst (λ l. In c l) is i)) in
          subst (IsCandidate (bare w) q) (sym m.2) (all.good m.0 m.1).candidate,
      λ x.
          let s = all.all c x in
          subst (λ l. In c l) (sym is) (reverse_in (map capability_of set.keys) c (subst (λ d. In d (map capability_of set.keys)) s.2 (in-map capability_of set.keys s.0 s.1))),
    );
    ordered = λ t.
        let R : CapRef → CapRef → Type 0 = λ c d. ¬ IsPreferred (bare w) c d in
        let two : Two (λ (a b : Ranked). R (capability_of b) (capability_of a)) set.keys = two-map capability_of (λ c d. R d c) set.keys (two_reverse R (map capability_of set.keys) (subst (λ l. Two R l) is t)) in
        let b = two_below ranked_cmp (λ a b. R (capability_of b) (capability_of a)) set.keys up two in
        let low = all.good b.low b.low_in in
        let high = all.good b.high b.high_in in
        b.related (preferred_is w fit.ordered.one_current b.low b.high low.rank high.rank low.candidate.current high.candidate.current b.less);
  }
