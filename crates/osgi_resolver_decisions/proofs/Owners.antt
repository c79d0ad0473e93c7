-- What is known of an owner.
use Rattle.std.proofs.Common.{◌⊎◌, inl, inr, Bool, true, false, ap, subst, ◌≡◌, ◌<◌, ℕ, IsTrue, List, Bor, Option, None, Some, filter, length, refl, sym, ◌∙◌}
use Rattle.std.specs.Prelude.{◌==◌, ◌≢◌, cond, slice_get}
use Rattle.std.specs.Global.{Vec}
use Rattle.std.specs.Option.{option_map}
use Rattle.std.specs.Slice.{IsItemAt}
use Rattle.std.proofs.lemmas.Option.{slice_get_read}
use Rattle.osgi_base.specs.declared.ids.RevisionId.{RevisionId}
use Rattle.std.proofs.lemmas.Bool.{eqb-true}
use Rattle.osgi_base.specs.NumberMaps.{HoldsSame, Puts, value_at}
use Rattle.osgi_base.specs.declared.number_map.NumberMap.{NumberMap}
use Rattle.osgi_resolver_theory.proofs.Preferred.{candidates-one}
use Rattle.osgi_resolver_theory.proofs.Values.{some-inj}
use Rattle.osgi_world.specs.Candidates.{CanBeAsked, IsCandidate, IsPreferred, candidates}
use Rattle.osgi_world.specs.Lists.{In, Two}
use Rattle.osgi_world.specs.Lookups.{SatisfiesAt, capability_count, capability_namespace, is_current, is_fragment, is_host_of}
use Rattle.osgi_world.specs.Payloads.{current_fragments}
use Rattle.osgi_world.specs.Satisfaction.{is_bundle}
use Rattle.osgi_world.specs.Wirings.{InForce, OnOffer}
use Rattle.osgi_world.specs.declared.problem.Problem.{Problem}
use Rattle.osgi_world.specs.declared.wiring.CapRef.{CapRef}
use Rattle.osgi_world.specs.declared.wiring.ReqRef.{ReqRef}
use Rattle.osgi_world.specs.declared.world.World.{World}
use Rattle.osgi_resolver_decisions.specs.computed.Known.{FoundOut, IsProblemIn, IsRightOf, KnowsMore}
use Rattle.osgi_resolver_decisions.specs.computed.Sureness.{items_of, list_at}
use Rattle.osgi_resolver_decisions.specs.declared.owned.Owned.{Owned}

-- the list at a place, where one stands there
pub listed-at : (lists : List (Vec CapRef)) (n : ℕ) (cs : List CapRef) → option_map (λ (list : Vec CapRef). list.items) (slice_get lists n) ≡ Some cs → list_at lists n ≡ cs
listed-at lists n cs e = go (slice_get lists n) e
  where
    go : (o : Option (Vec CapRef)) → option_map (λ (list : Vec CapRef). list.items) o ≡ Some cs → items_of o ≡ cs
    go None e = cc
    go (Some list) e = some-inj list.items cs e

-- the list that is lent of a place
pub lent-listed : (lists : List (Vec CapRef)) (n : ℕ) (list : Bor (Vec CapRef)) (cs : List CapRef) → IsItemAt lists n (Some list) → option_map (λ (list : Vec CapRef). list.items) (slice_get lists n) ≡ Some cs → list.now.items ≡ cs
lent-listed lists n list cs got e =
    let there : slice_get lists n ≡ Some list.now = slice_get_read lists (length lists) n list.now refl got.3.0 (got.3.1 list.now) in
    some-inj list.now.items cs (sym (ap (option_map (λ (list : Vec CapRef). list.items)) there) ∙ e)

-- ---- two problems of one world

candidate-same : (P Q : Problem) → P.world ≡ Q.world → (q : ReqRef) (c : CapRef) → IsCandidate P q c → IsCandidate Q q c
candidate-same P Q e q c x = record {
  satisfies = subst (λ (W : World). SatisfiesAt W.known q c) e x.satisfies;
  current = subst (λ (W : World). IsTrue (is_current W.known c.provider)) e x.current;
  no_fragment = subst (λ (W : World). ¬ IsTrue (is_fragment W.known c.provider)) e x.no_fragment;
  not_owner = subst (λ (W : World). IsTrue (is_bundle (capability_namespace W.known c.owner c.index)) → c.provider ≢ q.owner) e x.not_owner;
  stands = subst (λ (W : World). (InForce W.wirings c.provider × OnOffer W.known W.wirings c)
      ⊎ (¬ InForce W.wirings c.provider) × ((c.owner ≡ c.provider) ⊎ In c.owner (filter (λ f. is_host_of W.known f c.provider) (current_fragments W.known))) × (c.index < capability_count W.known c.owner)) e x.stands;
}

-- they have the same candidates
pub same-candidates : (W : World) (P Q : Problem) → IsProblemIn W P → IsProblemIn W Q → (q : ReqRef) → CanBeAsked P.world.known q → CanBeAsked Q.world.known q → candidates P q ≡ candidates Q q
same-candidates W P Q p r q a b =
    let e : P.world ≡ Q.world = p.world ∙ sym r.world in
    let ordered : ¬ Two (λ (c d : CapRef). ¬ IsPreferred Q c d) (candidates P q) = subst (λ (W : World). ¬ Two (λ (c d : CapRef). ¬ IsPreferred (record Q { world = W }) c d) (candidates P q)) e (p.is.candidates_ordered q) in
    candidates-one Q r.is q b (candidates P q) (λ c. (
      λ i. candidate-same P Q e q c ((p.is.candidates_are q c a).0 i),
      λ x. (p.is.candidates_are q c a).1 (candidate-same Q P (sym e) q c x),
    )) ordered

-- ---- one owner more

cond-cases : {X : Type 0} (b : Bool) (x y : X) (o : Option X) → cond b (Some x) o ≡ Some y → (b ≡ true) × (x ≡ y) ⊎ (o ≡ Some y)
cond-cases true x y o e = inl (refl, some-inj x y e)
cond-cases false x y o e = inr e

-- once one more is known
pub right-more : (P : Problem) (old new : NumberMap Owned) (key : RevisionId) (owned : Owned) → Puts old new key.0 owned → IsRightOf P key owned →
    ((owner : RevisionId) (of : Owned) → value_at old owner.0 ≡ Some of → IsRightOf P owner of) → (owner : RevisionId) (of : Owned) → value_at new owner.0 ≡ Some of → IsRightOf P owner of
right-more P old new key owned puts is before owner of at = elim (cond-cases (key.0 == owner.0) owned of (value_at old owner.0) (sym (puts owner.0) ∙ at)) [
  | inl now ↦
      let same : key.0 ≡ owner.0 = eqb-true key.0 owner.0 now.0 in
      subst (λ (r : RevisionId). IsRightOf P r of) (ap (λ n. record { 0 = n }) same) (subst (IsRightOf P key) now.1 is)
  | inr o ↦ before owner of o
]

-- where an insertion ran out of memory
pub right-same : (P : Problem) (old new : NumberMap Owned) → HoldsSame old new →
    ((owner : RevisionId) (of : Owned) → value_at old owner.0 ≡ Some of → IsRightOf P owner of) → (owner : RevisionId) (of : Owned) → value_at new owner.0 ≡ Some of → IsRightOf P owner of
right-same P old new same before owner of at = before owner of (sym (same owner.0) ∙ at)

-- ---- what stays known

pub still-all : (old more new : FoundOut) → KnowsMore old more → KnowsMore more new → KnowsMore old new
still-all old more new a b = record { offers = b.offers ∙ a.offers; owners = λ o k. b.owners o (a.owners o k) }
