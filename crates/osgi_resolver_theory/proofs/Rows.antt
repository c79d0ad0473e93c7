-- Small worlds: what the definitions say of them.
use Rattle.std.proofs.Common.{◌≡◌, ◌≢◌, ℕ, inl, inr, true, false, IsTrue, List, [], ◌∷◌, None, Some, refl, ap, arith, lit≤}
use Rattle.std.specs.Prelude.{codes, bytes_eq}
use Rattle.std.specs.Cmp.Lexicographic.{other_text}
use Rattle.std.proofs.lemmas.List.Elements.{All-nil, All-cons, All-head}
use Rattle.osgi_base.specs.declared.ids.RevisionId.{RevisionId}
use Rattle.osgi_version.specs.declared.version.Version.{Version}
use Rattle.osgi_version.specs.RangeValues.{range_parts}
use Rattle.osgi_version.specs.Ranges.{RangeParts, at_least_zero}
use Rattle.osgi_version.specs.declared.range.VersionRange.{VersionRange}
use Rattle.osgi_world.specs.Candidates.{IsCandidate, is_higher, matching}
use Rattle.osgi_world.specs.ChoiceWords.{IsComplete, IsWord, made_by}
use Rattle.osgi_world.specs.Decisions.{attaching, choose}
use Rattle.osgi_world.specs.DueDecisions.{members, next_decision}
use Rattle.osgi_world.specs.Partial.{partial}
use Rattle.osgi_world.specs.Payloads.{current_fragments, by_bundle}
use Rattle.osgi_model.specs.Matching.{attribute_value}
use Rattle.osgi_world.specs.Satisfaction.{is_bundle, IsGiven, ordinary, version, bundle_version, bundle_name, Satisfies, SatisfiesImport, StandsForPackage, prefixed}
use Rattle.osgi_world.specs.declared.capability.Capability.{Capability}
use Rattle.osgi_world.specs.declared.problem.Problem.{Problem}
use Rattle.osgi_world.specs.declared.requirement.Requirement.{Requirement}
use Rattle.osgi_world.specs.declared.revision.Revision.{Revision}
use Rattle.osgi_model.specs.declared.value.Attribute.{Attribute}
use Rattle.osgi_model.specs.declared.value.Value.TheVariants as value
use Rattle.osgi_world.specs.declared.wiring.CapRef.{CapRef}
use Rattle.osgi_world.specs.declared.wiring.ReqRef.{ReqRef}
use Rattle.osgi_world.specs.declared.world.Known.{Known}

-- ---- data

abbrev zero_version : Version
zero_version = record { major = 0; minor = 0; micro = 0; qualifier = []; in_range = (lit≤ tt, lit≤ tt, lit≤ tt) }

abbrev one : Version
one = record { major = 1; minor = 0; micro = 0; qualifier = []; in_range = (lit≤ tt, lit≤ tt, lit≤ tt) }

abbrev two : Version
two = record { major = 2; minor = 0; micro = 0; qualifier = []; in_range = (lit≤ tt, lit≤ tt, lit≤ tt) }

abbrev every_version : VersionRange
every_version = record { low = zero_version; low_in = true; high = None; high_in = false }

-- [1,2)
abbrev one_to_two : VersionRange
one_to_two = record { low = one; low_in = true; high = Some two; high_in = false }

abbrev needs : List ℕ → List ℕ → Requirement
needs kind named = record {
  namespace = kind;
  name = named;
  range = every_version;
  from_name = None;
  from_range = every_version;
  equal = [];
  filter = None;
  optional = false;
  multiple = false;
  reexport = false;
  effective = true;
}

abbrev has : List ℕ → List ℕ → List Attribute → List (List ℕ) → Capability
has kind named given uses = record { namespace = kind; name = named; attributes = given; uses = uses; mandatory = [] }

abbrev bundles : List ℕ
bundles = codes "osgi.wiring.bundle"

abbrev packages : List ℕ
packages = codes "osgi.wiring.package"

abbrev is_version : Version → Attribute
is_version v = record { name = codes "version"; value = value.Version v }

abbrev export_of : List ℕ → Version → Capability
export_of named v = has packages named (is_version v ∷ []) []

abbrev import_of : List ℕ → VersionRange → Requirement
import_of named range = record (needs packages named) { range = range }

-- ---- satisfaction

bundle-not_package : IsTrue (is_bundle packages) → ⊥
bundle-not_package t = cc

within-two : SatisfiesImport (import_of (codes "log") one_to_two) (export_of (codes "log") one) (codes "l1") one
within-two = record { version = refl; exporter = tt; exporter_version = refl; equal = All-nil _; mandatory = All-nil _ }

not-two : ¬ SatisfiesImport (import_of (codes "log") one_to_two) (export_of (codes "log") two) (codes "l2") one
not-two s = let t = s.version in cc

log-satisfied : Satisfies (import_of (codes "log") one_to_two) (export_of (codes "log") one) (codes "l1") one
log-satisfied = record { namespace = refl; name = refl; of_bundle = λ t. absurd (bundle-not_package t); of_package = λ t. within-two; of_other = λ b p. absurd (p refl) }

-- an import of the export's name from another exporter
not-from : ¬ SatisfiesImport (record (import_of (codes "log") one_to_two) { from_name = Some (codes "other") }) (export_of (codes "log") one) (codes "l1") one
not-from s = let e = s.exporter in cc

-- a mandatory attribute is given by an equal one, or, where it is the exporter's name or version, by asking for it
abbrev vendor : Attribute
vendor = record { name = codes "vendor"; value = value.Text (codes "acme") }

abbrev strict : Capability
strict = record (has packages (codes "log") (is_version one ∷ vendor ∷ []) []) { mandatory = codes "vendor" ∷ codes "bundle-version" ∷ [] }

abbrev asking : Requirement
asking = record (import_of (codes "log") every_version) { equal = vendor ∷ []; from_range = one_to_two }

not-every : range_parts one_to_two ≢ at_least_zero
not-every e = let n = ap (λ (r : RangeParts). r.low.major) e in omega (arith, n)

abbrev Equal : Attribute → Type 0
Equal a = attribute_value bytes_eq a.name strict.attributes ≡ Some a.value

given : SatisfiesImport asking strict (codes "l1") one
given = record {
  version = refl;
  exporter = tt;
  exporter_version = refl;
  equal = All-cons Equal vendor [] refl (All-nil Equal);
  mandatory =
      All-cons (IsGiven asking) (codes "vendor") (codes "bundle-version" ∷ [])
      (ordinary (other_text (codes "vendor") (codes "version") refl, other_text (codes "vendor") (codes "bundle-version") refl, other_text (codes "vendor") (codes "bundle-symbolic-name") refl) (inl refl))
      (All-cons (IsGiven asking) (codes "bundle-version") [] (bundle_version not-every) (All-nil (IsGiven asking)));
}

-- the attribute that is missing is not given
not-given : ¬ SatisfiesImport (record asking { equal = [] }) strict (codes "l1") one
not-given s = lacking (All-head (IsGiven (record asking { equal = [] })) (codes "vendor") (codes "bundle-version" ∷ []) s.mandatory)
  where
    named : (name : List ℕ) → name ≡ codes "vendor" → IsGiven (record asking { equal = [] }) name → ⊥
    named name e (ordinary o h) = elim h [ ]
    named name e (version n) = cc
    named name e (bundle_version n) = cc
    named name e (bundle_name n) = cc

    lacking : IsGiven (record asking { equal = [] }) (codes "vendor") → ⊥
    lacking g = named (codes "vendor") refl g

-- the names of dynamic imports
below-it : StandsForPackage (codes "a.*") (codes "a.b")
below-it = prefixed (codes "a") (codes "b")

-- ---- h (1); f (2), a fragment of h that provides x; u (3), which requires the bundle h, and x

abbrev kind_x : List ℕ
kind_x = codes "x"

abbrev revision_h : Revision
revision_h = record {
  name = codes "h";
  version = one;
  singleton = false;
  attach = true;
  host = None;
  activator = None;
  capabilities = has bundles (codes "h") [] [] ∷ [];
  requirements = [];
  dynamics = [];
  lazy = None;
  files = [];
  capabilities_fit = lit≤ tt;
  requirements_fit = lit≤ tt;
}

abbrev revision_f : Revision
revision_f = record {
  name = codes "f";
  version = one;
  singleton = false;
  attach = true;
  host = Some (record (needs bundles (codes "h")) { range = one_to_two });
  activator = None;
  capabilities = has kind_x kind_x [] [] ∷ [];
  requirements = [];
  dynamics = [];
  lazy = None;
  files = [];
  capabilities_fit = lit≤ tt;
  requirements_fit = lit≤ tt;
}

-- in the manifest's order x stands after the bundle
abbrev revision_u : Revision
revision_u = record {
  name = codes "u";
  version = one;
  singleton = false;
  attach = true;
  host = None;
  activator = None;
  capabilities = has bundles (codes "u") [] [] ∷ [];
  requirements = needs kind_x kind_x ∷ needs bundles (codes "h") ∷ [];
  dynamics = [];
  lazy = None;
  files = [];
  capabilities_fit = lit≤ tt;
  requirements_fit = lit≤ tt;
}

abbrev id : ℕ → RevisionId
id n = record { 0 = n }

abbrev known : ℕ → ℕ → Revision → Known
known r b v = record { id = id r; bundle = record { 0 = b }; current = true; revision = v }

abbrev from_h : ℕ → CapRef
from_h owner = record { provider = id 1; owner = id owner; index = 0 }

abbrev of_u : ℕ → ReqRef
of_u index = record { owner = id 3; index = index }

abbrev row : Problem
row = record {
  world = record { known = known 1 1 revision_h ∷ known 2 2 revision_f ∷ known 3 3 revision_u ∷ []; wirings = [] };
  root = id 3;
  choices = record { requirement = of_u 0; candidates = from_h 2 ∷ [] } ∷ record { requirement = of_u 1; candidates = from_h 1 ∷ [] } ∷ [];
}

fragments : current_fragments row.world.known ≡ id 2 ∷ []
fragments = refl

matches : matching row (id 1) ≡ id 2 ∷ []
matches = refl

none-for_u : matching row (id 3) ≡ []
none-for_u = refl

-- by bundle id, also where a later revision is of an earlier bundle
in-order : by_bundle (known 1 2 revision_h ∷ known 4 1 revision_u ∷ []) ≡ known 4 1 revision_u ∷ known 1 2 revision_h ∷ []
in-order = refl

-- the fragment's capability is a candidate while nobody is in force
x-candidate : IsCandidate row (of_u 0) (from_h 2)
x-candidate = record {
  satisfies = record {
    requirement = needs kind_x kind_x;
    capability = has kind_x kind_x [] [];
    provider = revision_h;
    requirement_is = refl;
    capability_is = refl;
    provider_is = refl;
    satisfies = record { namespace = refl; name = refl; of_bundle = λ t. cc; of_package = λ t. cc; of_other = λ b p. tt };
  };
  current = refl;
  no_fragment = λ t. cc;
  not_owner = λ t. cc;
  stands = inr ((λ i. elim i.stands [ ]), inr (inl refl), lit≤ tt);
}

first-decision : next_decision row (made_by row []) ≡ Some (choose (id 3) (of_u 1))
first-decision = refl

second-decision : next_decision row (made_by row (0 ∷ [])) ≡ Some (choose (id 3) (of_u 0))
second-decision = refl

members-then : members row (made_by row (0 ∷ [])) ≡ id 3 ∷ id 1 ∷ []
members-then = refl

third-decision : next_decision row (made_by row (0 ∷ 0 ∷ [])) ≡ Some (attaching (id 1) (id 2))
third-decision = refl

complete : IsComplete row (0 ∷ 0 ∷ 0 ∷ [])
complete = refl

not-attached : IsComplete row (0 ∷ 0 ∷ 1 ∷ [])
not-attached = refl

is-word : IsWord row (0 ∷ 0 ∷ 0 ∷ [])
is-word = (omega arith, (omega arith, (omega arith, tt)))

-- the wires stand in the order of the payload
wirings-then : partial row (made_by row (0 ∷ 0 ∷ 0 ∷ [])) ≡
    record { revision = id 3; wires = record { requirement = of_u 0; capability = from_h 2 } ∷ record { requirement = of_u 1; capability = from_h 1 } ∷ []; fragments = [] }
    ∷ record { revision = id 1; wires = []; fragments = id 2 ∷ [] } ∷ []
wirings-then = refl

-- ---- the higher version is preferred: an export's is its attribute

abbrev revision_l : List ℕ → Version → Revision
revision_l named v = record {
  name = named;
  version = one;
  singleton = false;
  attach = true;
  host = None;
  activator = None;
  capabilities = has bundles named [] [] ∷ export_of (codes "log") v ∷ [];
  requirements = [];
  dynamics = [];
  lazy = None;
  files = [];
  capabilities_fit = lit≤ tt;
  requirements_fit = lit≤ tt;
}

abbrev logs : List Known
logs = known 1 1 (revision_l (codes "l1") one) ∷ known 2 2 (revision_l (codes "l2") two) ∷ []

abbrev place : ℕ → ℕ → CapRef
place r index = record { provider = id r; owner = id r; index = index }

higher-export : is_higher logs (place 2 1) (place 1 1) ≡ true
higher-export = refl

same-bundles : is_higher logs (place 2 0) (place 1 0) ≡ false
same-bundles = refl
