-- Two requirements that the same satisfies have the same candidates: imports of one package that ask for nothing else, and those that
-- ask for the same.
use Rattle.std.proofs.Common.{◌≡◌, ℕ, false, IsTrue, List, [], sym, ◌∙◌, ap, subst}
use Rattle.std.proofs.lemmas.Bool.{false≢true}
use Rattle.std.proofs.lemmas.List.Elements.{All-weaker}
use Rattle.std.proofs.lemmas.Slice.Eq.{bytes_eq-Decides}
use Rattle.std.specs.Option.{option_map_or}
use Rattle.std.specs.Prelude.{All, Bool, IfSome, IsSome, Option, None, Some, bytes_eq, codes}
use Rattle.osgi_candidates.proofs.Proposed.{has_requirement}
use Rattle.osgi_model.specs.Matching.{OneOf, Matches, attribute_value}
use Rattle.osgi_model.specs.declared.filter.Filter.{Filter}
use Rattle.osgi_model.specs.declared.value.Attribute.{Attribute}
use Rattle.osgi_resolver_decisions.specs.computed.Plain.{IsPlain, IsPlainFor}
use Rattle.osgi_resolver_decisions.specs.computed.Same.{AskTheSame}
use Rattle.osgi_resolver_theory.proofs.Preferred.{candidates-one}
use Rattle.osgi_resolver_theory.proofs.Values.{some-inj}
use Rattle.osgi_version.specs.RangeValues.{is_within}
use Rattle.osgi_version.specs.Ranges.{RangeParts}
use Rattle.osgi_version.specs.VersionValues.{parts}
use Rattle.osgi_version.specs.declared.version.Version.{Version}
use Rattle.osgi_world.specs.Candidates.{CanBeAsked, IsCandidate, IsProblem, candidates}
use Rattle.osgi_world.specs.Lookups.{SatisfiesAs, SatisfiesAt, capability_namespace, is_dynamic, requirement_at}
use Rattle.osgi_world.specs.Satisfaction.{IsGiven, Satisfies, SatisfiesImport, is_bundle, is_package, version_in}
use Rattle.osgi_world.specs.Satisfaction.IsGiven.{ordinary, version, bundle_version, bundle_name}
use Rattle.osgi_world.specs.declared.capability.Capability.{Capability}
use Rattle.osgi_world.specs.declared.problem.Problem.{Problem}
use Rattle.osgi_world.specs.declared.requirement.Requirement.{Requirement}
use Rattle.osgi_world.specs.declared.wiring.CapRef.{CapRef}
use Rattle.osgi_world.specs.declared.wiring.ReqRef.{ReqRef}
use Rattle.osgi_world.specs.declared.world.Known.{Known}

-- what holds of an answer, if there is one, is changed
pub some-like : {X : Type 0} (A B : X → Type 0) (o : Option X) → ((x : X) → A x → B x) → IfSome o A → IfSome o B
some-like A B None f s = tt
some-like A B (Some x) f s = f x s

-- ---- the namespace

package-is : (namespace : List ℕ) → IsTrue (is_package namespace) → namespace ≡ codes "osgi.wiring.package"
package-is namespace t = (bytes_eq-Decides namespace (codes "osgi.wiring.package")).0 t

no-bundle : (namespace : List ℕ) → IsTrue (is_package namespace) → ¬ IsTrue (is_bundle namespace)
no-bundle namespace t b = false≢true (subst (λ (n : List ℕ). IsTrue (is_bundle n)) (package-is namespace t) b)

-- ---- what a plain import gives

none-given : (n : Requirement) → IsPlain n → (name : List ℕ) → ¬ IsGiven n name
none-given n p name (ordinary o one) = subst (OneOf (λ (a : Attribute). a.name ≡ name)) p.equal one
none-given n p name (version given) = given p.range
none-given n p name (bundle_version given) = given p.from_range
none-given n p name (bundle_name some) = false≢true (subst (λ (o : Option (List ℕ)). IsSome o) p.from_name some)

import-like : (n m : Requirement) → IsPlain n → IsPlain m → (c : Capability) (name : List ℕ) (v : Version) → SatisfiesImport n c name v → SatisfiesImport m c name v
import-like n m p r c name v s = record {
  version = subst (λ (x : RangeParts). IsTrue (is_within x (version_in c.attributes))) (p.range ∙ sym r.range) s.version;
  exporter = subst (λ (o : Option (List ℕ)). IfSome o (λ asked. asked ≡ name)) (p.from_name ∙ sym r.from_name) s.exporter;
  exporter_version = subst (λ (x : RangeParts). IsTrue (is_within x (parts v))) (p.from_range ∙ sym r.from_range) s.exporter_version;
  equal = subst (λ (l : List Attribute). All (λ (a : Attribute). attribute_value bytes_eq a.name c.attributes ≡ Some a.value) l) (p.equal ∙ sym r.equal) s.equal;
  mandatory = All-weaker (IsGiven n) (IsGiven m) (λ x given. absurd (none-given n p x given)) c.mandatory s.mandatory;
}

satisfies-like : (n m : Requirement) → IsPlain n → IsPlain m → n.name ≡ m.name → (c : Capability) (name : List ℕ) (v : Version) → Satisfies n c name v → Satisfies m c name v
satisfies-like n m p r same c name v s = record {
  namespace = package-is m.namespace r.import ∙ sym (package-is n.namespace p.import) ∙ s.namespace;
  name = sym same ∙ s.name;
  of_bundle = λ b. absurd (no-bundle m.namespace r.import b);
  of_package = λ t. import-like n m p r c name v (s.of_package p.import);
  of_other = λ b t. absurd (t r.import);
}

-- ---- candidates

-- whatever satisfies the one requirement satisfies the other, and is no bundle
record IsLike (n m : Requirement) : Type 0 where
  no_bundle : ¬ IsTrue (is_bundle n.namespace)
  satisfies : (c : Capability) (name : List ℕ) (v : Version) → Satisfies n c name v → Satisfies m c name v

-- they stand at these places, and neither is a dynamic import
module _ (K : List Known) (q o : ReqRef) (n m : Requirement) (one : requirement_at K q ≡ Some n) (other : requirement_at K o ≡ Some m) (like : IsLike n m) (asks : is_dynamic K q ≡ false) (asked : is_dynamic K o ≡ false) where
  satisfied : (c : CapRef) (s : SatisfiesAt K q c) → Satisfies n s.capability s.provider.name s.provider.version
  satisfied c s =
      let same : s.requirement ≡ n = some-inj s.requirement n (sym s.requirement_is ∙ one) in
      let there : Satisfies s.requirement s.capability s.provider.name s.provider.version = subst (λ (b : Bool). SatisfiesAs b s.requirement s.capability s.provider) asks s.satisfies in
      subst (λ (x : Requirement). Satisfies x s.capability s.provider.name s.provider.version) same there

  at-like : (c : CapRef) → SatisfiesAt K q c → SatisfiesAt K o c
  at-like c s = record {
    requirement = m;
    capability = s.capability;
    provider = s.provider;
    requirement_is = other;
    capability_is = s.capability_is;
    provider_is = s.provider_is;
    satisfies = subst (λ (b : Bool). SatisfiesAs b m s.capability s.provider) (sym asked) (like.satisfies s.capability s.provider.name s.provider.version (satisfied c s));
  }

  no-bundle-at : (c : CapRef) → SatisfiesAt K q c → ¬ IsTrue (is_bundle (capability_namespace K c.owner c.index))
  no-bundle-at c s b =
      let namespace : capability_namespace K c.owner c.index ≡ s.capability.namespace = ap (λ (x : Option Capability). option_map_or (λ (y : Capability). y.namespace) x []) s.capability_is in
      like.no_bundle (subst (λ (l : List ℕ). IsTrue (is_bundle l)) (namespace ∙ sym (satisfied c s).namespace) b)

candidate-like : (P : Problem) (q o : ReqRef) (n m : Requirement) → requirement_at P.world.known q ≡ Some n → requirement_at P.world.known o ≡ Some m → IsLike n m →
    CanBeAsked P.world.known q → CanBeAsked P.world.known o → (c : CapRef) → IsCandidate P q c → IsCandidate P o c
candidate-like P q o n m one other like asks asked c x =
    let K = P.world.known in
    let same = at-like K q o n m one other like (has_requirement K q asks) (has_requirement K o asked) c x.satisfies in
    record {
      satisfies = same;
      current = x.current;
      no_fragment = x.no_fragment;
      not_owner = λ b. absurd (no-bundle-at K q o n m one other like (has_requirement K q asks) (has_requirement K o asked) c x.satisfies b);
      stands = x.stands;
    }

one-list : (P : Problem) → IsProblem P → (q o : ReqRef) (n m : Requirement) → requirement_at P.world.known q ≡ Some n → requirement_at P.world.known o ≡ Some m → IsLike n m → IsLike m n →
    CanBeAsked P.world.known q → CanBeAsked P.world.known o → candidates P o ≡ candidates P q
one-list P L q o n m one other like back asks asked =
    candidates-one P L q asks (candidates P o)
    (λ c. (
      λ i. candidate-like P o q m n other one back asked asks c ((L.candidates_are o c asked).0 i),
      λ x. (L.candidates_are o c asked).1 (candidate-like P q o n m one other like asks asked c x),
    ))
    (L.candidates_ordered o)

-- ---- imports that ask for one package and for nothing else

plain-like : (n m : Requirement) → IsPlain n → IsPlain m → n.name ≡ m.name → IsLike n m
plain-like n m p r same = record { no_bundle = no-bundle n.namespace p.import; satisfies = satisfies-like n m p r same }

pub same-list : (P : Problem) → IsProblem P → (q o : ReqRef) (name : List ℕ) → IsPlainFor P.world.known q name → IsPlainFor P.world.known o name → CanBeAsked P.world.known q → CanBeAsked P.world.known o → candidates P o ≡ candidates P q
same-list P L q o name p r asks asked =
    one-list P L q o p.requirement r.requirement p.requirement_is r.requirement_is
    (plain-like p.requirement r.requirement p.plain r.plain (p.name_is ∙ sym r.name_is))
    (plain-like r.requirement p.requirement r.plain p.plain (r.name_is ∙ sym p.name_is))
    asks asked

-- ---- those that ask for the same

asks-like : (n m : Requirement) → AskTheSame n m → IsLike n m
asks-like n m e = record {
  no_bundle = λ b. false≢true (sym e.no_bundle ∙ b);
  satisfies = λ c name v s. record {
    namespace = sym e.namespace ∙ s.namespace;
    name = sym e.name ∙ s.name;
    of_bundle = λ b. absurd (false≢true (sym e.no_bundle ∙ ap is_bundle e.namespace ∙ b));
    of_package = λ t. absurd (false≢true (sym e.no_package ∙ ap is_package e.namespace ∙ t));
    of_other = λ b t. subst (λ (f : Option Filter). IfSome f (Matches bytes_eq c.attributes)) e.filter (s.of_other (λ b. false≢true (sym e.no_bundle ∙ b)) (λ t. false≢true (sym e.no_package ∙ t)));
  };
}

asks-back : (n m : Requirement) → AskTheSame n m → AskTheSame m n
asks-back n m e = record {
  no_bundle = sym (ap is_bundle e.namespace) ∙ e.no_bundle;
  no_package = sym (ap is_package e.namespace) ∙ e.no_package;
  namespace = sym e.namespace;
  name = sym e.name;
  filter = sym e.filter;
}

pub same-asked : (P : Problem) → IsProblem P → (q o : ReqRef) (n m : Requirement) → requirement_at P.world.known q ≡ Some n → requirement_at P.world.known o ≡ Some m → AskTheSame n m →
    CanBeAsked P.world.known q → CanBeAsked P.world.known o → candidates P o ≡ candidates P q
same-asked P L q o n m one other e asks asked = one-list P L q o n m one other (asks-like n m e) (asks-like m n (asks-back n m e)) asks asked
