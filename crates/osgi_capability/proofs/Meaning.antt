-- What is computed is true just where the capability satisfies the requirement.
use Rattle.std.proofs.Common.{◌≡◌, ◌≢◌, ℕ, ◌⊎◌, inl, inr, List, [], ◌∷◌, ap, sym, ◌∙◌, refl, subst}
use Rattle.std.specs.Prelude.{if◌then◌else◌, Bool, true, false, not, IsTrue, IfSome, IsSome, All, codes, bytes_eq, is_none, is_some, Option, Some, None}
use Rattle.std.specs.Bool.{Decides}
use Rattle.std.specs.Option.{option_map_or}
use Rattle.std.proofs.lemmas.Bool.{false≢true}
use Rattle.std.proofs.lemmas.Bool.Decides.{Decides-and, Decides-by_and, Decides-eqb, Decides-like, Decides-not, Decides-or}
use Rattle.std.proofs.lemmas.Slice.Eq.{bytes_eq-Decides}
use Rattle.osgi_version.specs.RangeValues.{is_within, range_parts}
use Rattle.osgi_version.specs.Ranges.{RangeParts, at_least_zero}
use Rattle.osgi_version.specs.VersionValues.{parts}
use Rattle.osgi_version.specs.Versions.{Parts, numbered}
use Rattle.osgi_version.specs.declared.version.Version.{Version}
use Rattle.osgi_model.specs.Comparing.{exact_value, value_eq}
use Rattle.osgi_model.specs.Matching.{attribute_value, Matches, OneOf}
use Rattle.osgi_world.specs.Satisfaction.{is_bundle, is_package, IsGiven, IsOrdinary, Satisfies, SatisfiesImport, ordinary, version, bundle_version, bundle_name}
use Rattle.osgi_model.specs.laws.Decided.{matches_decides}
use Rattle.osgi_world.specs.declared.capability.Capability.{Capability}
use Rattle.osgi_model.specs.declared.filter.Filter.{Filter}
use Rattle.osgi_world.specs.declared.requirement.Requirement.{Requirement}
use Rattle.osgi_model.specs.declared.value.Attribute.{Attribute}
use Rattle.osgi_model.specs.declared.value.Value.{Value}
use Rattle.osgi_capability.specs.computed.Satisfied.{all_equal, all_given, fits_filter, fits_import, has_equal, is_at_least_zero, is_given, is_listed, is_satisfied, is_zero, meets}

-- ---- the range at least 0.0.0

none_decides : {A : Type 0} (o : Option A) → Decides (is_none o) (o ≡ None)
none_decides None = (λ _. refl, λ _. refl)
none_decides (Some v) = (λ e. absurd (false≢true e), λ e. absurd (cc e))

itself : (b : Bool) → Decides b (b ≡ true)
itself b = (λ e. e, λ e. e)

fails : (b : Bool) → Decides (not b) (b ≡ false)
fails true = (λ e. absurd (false≢true e), λ e. absurd (false≢true (sym e)))
fails false = (λ _. refl, λ _. refl)

zero_decides : (v : Parts) → Decides (is_zero v) (v ≡ numbered 0 0 0)
zero_decides v =
    Decides-like (is_zero v) (λ e i. record { major = e.0 i; minor = e.1.0 i; micro = e.1.1.0 i; qualifier = e.1.1.1 i })
    (λ e. (ap (λ (p : Parts). p.major) e, (ap (λ (p : Parts). p.minor) e, (ap (λ (p : Parts). p.micro) e, ap (λ (p : Parts). p.qualifier) e))))
    (Decides-and _ _ (Decides-eqb v.major 0) (Decides-and _ _ (Decides-eqb v.minor 0) (Decides-and _ _ (Decides-eqb v.micro 0) (bytes_eq-Decides v.qualifier []))))

pub any_decides : (r : RangeParts) → Decides (is_at_least_zero r) (r ≡ at_least_zero)
any_decides r =
    Decides-like (is_at_least_zero r) (λ e i. record { low = e.0 i; low_in = e.1.0 i; high = e.1.1.0 i; high_in = e.1.1.1 i })
    (λ e. (ap (λ (p : RangeParts). p.low) e, (ap (λ (p : RangeParts). p.low_in) e, (ap (λ (p : RangeParts). p.high) e, ap (λ (p : RangeParts). p.high_in) e))))
    (Decides-and _ _ (zero_decides r.low) (Decides-and _ _ (itself r.low_in) (Decides-and _ _ (none_decides r.high) (fails r.high_in))))

-- ---- attributes

listed_decides : (attributes : List Attribute) (name : List ℕ) → Decides (is_listed attributes name) (OneOf (λ (a : Attribute). a.name ≡ name) attributes)
listed_decides [] name = (λ e. absurd (false≢true e), λ none. absurd none)
listed_decides (a ∷ rest) name = Decides-or (bytes_eq a.name name) (is_listed rest name) (bytes_eq-Decides a.name name) (listed_decides rest name)

equal_by : (o : Option Value) (asked : Value) → Decides (option_map_or (λ value. value_eq value asked) o false) (o ≡ Some asked)
equal_by None asked = (λ e. absurd (false≢true e), λ e. absurd (cc e))
equal_by (Some v) asked = Decides-like (value_eq v asked) (λ e. ap Some e) (λ e. cc e) (exact_value v asked)

equal_decides : (attributes : List Attribute) (asked : Attribute) → Decides (has_equal attributes asked) (attribute_value bytes_eq asked.name attributes ≡ Some asked.value)
equal_decides attributes asked = equal_by (attribute_value bytes_eq asked.name attributes) asked.value

all_equal_decides : (attributes asked : List Attribute) → Decides (all_equal attributes asked) (All (λ (a : Attribute). attribute_value bytes_eq a.name attributes ≡ Some a.value) asked)
all_equal_decides attributes asked =
    Decides-by_and (has_equal attributes) (λ (a : Attribute). attribute_value bytes_eq a.name attributes ≡ Some a.value) (all_equal attributes) (equal_decides attributes) refl (λ _ _. refl)
    asked

-- ---- names that an import gives

some_decides : {A : Type 0} (o : Option A) → Decides (is_some o) (IsSome o)
some_decides o = itself (is_some o)

abbrev Listed : Requirement → List ℕ → Type 0
Listed q name = OneOf (λ (a : Attribute). a.name ≡ name) q.equal

-- the four ways in which a name is given
abbrev Ways : Requirement → List ℕ → Type 0
Ways q name =
    (IsOrdinary name × Listed q name)
    ⊎ (((name ≡ codes "version") × (range_parts q.range ≢ at_least_zero))
    ⊎ (((name ≡ codes "bundle-version") × (range_parts q.from_range ≢ at_least_zero))
    ⊎ ((name ≡ codes "bundle-symbolic-name") × IsSome q.from_name)))

ways : (q : Requirement) (name : List ℕ) → IsGiven q name → Ways q name
ways q name (ordinary is listed) = inl (is, listed)
ways q name (version is) = inr (inl (refl, is))
ways q name (bundle_version is) = inr (inr (inl (refl, is)))
ways q name (bundle_name is) = inr (inr (inr (refl, is)))

by_version : (q : Requirement) (name : List ℕ) → name ≡ codes "version" → range_parts q.range ≢ at_least_zero → IsGiven q name
by_version q name e is = subst (IsGiven q) (sym e) (version is)

by_bundle_version : (q : Requirement) (name : List ℕ) → name ≡ codes "bundle-version" → range_parts q.from_range ≢ at_least_zero → IsGiven q name
by_bundle_version q name e is = subst (IsGiven q) (sym e) (bundle_version is)

by_bundle_name : (q : Requirement) (name : List ℕ) → name ≡ codes "bundle-symbolic-name" → IsSome q.from_name → IsGiven q name
by_bundle_name q name e is = subst (IsGiven q) (sym e) (bundle_name is)

apart : {a b : List ℕ} {name : List ℕ} → name ≡ a → name ≡ b → bytes_eq a b ≡ false → ⊥
apart {a} {b} is other differ = false≢true (sym differ ∙ (bytes_eq-Decides a b).1 (sym is ∙ other))

as_version : (q : Requirement) (name : List ℕ) → name ≡ codes "version" → Ways q name → range_parts q.range ≢ at_least_zero
as_version q name e (inl is) = absurd (is.0.0 e)
as_version q name e (inr (inl is)) = is.1
as_version q name e (inr (inr (inl is))) = absurd (apart e is.0 refl)
as_version q name e (inr (inr (inr is))) = absurd (apart e is.0 refl)

as_bundle_version : (q : Requirement) (name : List ℕ) → name ≡ codes "bundle-version" → Ways q name → range_parts q.from_range ≢ at_least_zero
as_bundle_version q name e (inl is) = absurd (is.0.1 e)
as_bundle_version q name e (inr (inl is)) = absurd (apart e is.0 refl)
as_bundle_version q name e (inr (inr (inl is))) = is.1
as_bundle_version q name e (inr (inr (inr is))) = absurd (apart e is.0 refl)

as_bundle_name : (q : Requirement) (name : List ℕ) → name ≡ codes "bundle-symbolic-name" → Ways q name → IsSome q.from_name
as_bundle_name q name e (inl is) = absurd (is.0.2 e)
as_bundle_name q name e (inr (inl is)) = absurd (apart e is.0 refl)
as_bundle_name q name e (inr (inr (inl is))) = absurd (apart e is.0 refl)
as_bundle_name q name e (inr (inr (inr is))) = is.1

as_ordinary : (q : Requirement) (name : List ℕ) → IsOrdinary name → Ways q name → Listed q name
as_ordinary q name is (inl listed) = listed.1
as_ordinary q name is (inr (inl given)) = absurd (is.0 given.0)
as_ordinary q name is (inr (inr (inl given))) = absurd (is.1 given.0)
as_ordinary q name is (inr (inr (inr given))) = absurd (is.2 given.0)

differs : (name other : List ℕ) → bytes_eq name other ≡ false → name ≢ other
differs name other e is = false≢true (sym e ∙ (bytes_eq-Decides name other).1 is)

if_decides : {P : Type 0} (test x y : Bool) → (test ≡ true → Decides x P) → (test ≡ false → Decides y P) → Decides (if test then x else y) P
if_decides true x y holds otherwise = holds refl
if_decides false x y holds otherwise = otherwise refl

given_decides : (q : Requirement) (name : List ℕ) → Decides (is_given q name) (IsGiven q name)
given_decides q name =
    if_decides (bytes_eq name (codes "version")) _ _
    (λ e.
    let is = (bytes_eq-Decides name (codes "version")).0 e in
    Decides-like _ (by_version q name is) (λ given. as_version q name is (ways q name given)) (Decides-not _ (any_decides (range_parts q.range))))
    (λ no_version. if_decides (bytes_eq name (codes "bundle-version")) _ _
    (λ e.
    let is = (bytes_eq-Decides name (codes "bundle-version")).0 e in
    Decides-like _ (by_bundle_version q name is) (λ given. as_bundle_version q name is (ways q name given)) (Decides-not _ (any_decides (range_parts q.from_range))))
    (λ no_bundle_version. if_decides (bytes_eq name (codes "bundle-symbolic-name")) _ _
    (λ e.
    let is = (bytes_eq-Decides name (codes "bundle-symbolic-name")).0 e in
    Decides-like _ (by_bundle_name q name is) (λ given. as_bundle_name q name is (ways q name given)) (some_decides q.from_name))
    (λ no_bundle_name.
    let is : IsOrdinary name = (differs name (codes "version") no_version, differs name (codes "bundle-version") no_bundle_version, differs name (codes "bundle-symbolic-name") no_bundle_name) in
    Decides-like _ (ordinary is) (λ given. as_ordinary q name is (ways q name given)) (listed_decides q.equal name))))

all_given_decides : (q : Requirement) (names : List (List ℕ)) → Decides (all_given q names) (All (IsGiven q) names)
all_given_decides q names = Decides-by_and (is_given q) (IsGiven q) (all_given q) (given_decides q) refl (λ _ _. refl) names

-- ---- imports

name_decides : (o : Option (List ℕ)) (name : List ℕ) → Decides (option_map_or (λ asked. bytes_eq asked name) o true) (IfSome o (λ asked. asked ≡ name))
name_decides None name = (λ _. tt, λ _. refl)
name_decides (Some asked) name = bytes_eq-Decides asked name

import_decides : (q : Requirement) (c : Capability) (name : List ℕ) (v : Version) → Decides (fits_import q c name v) (SatisfiesImport q c name v)
import_decides q c name v =
    Decides-like (fits_import q c name v)
    (λ e. record { version = e.0; exporter = e.1.0.0; exporter_version = e.1.0.1; equal = e.1.1.0; mandatory = e.1.1.1 })
    (λ is. (is.version, ((is.exporter, is.exporter_version), (is.equal, is.mandatory))))
    (Decides-and _ _ (itself _)
    (Decides-and _ _ (Decides-and _ _ (name_decides q.from_name name) (itself _)) (Decides-and _ _ (all_equal_decides c.attributes q.equal) (all_given_decides q c.mandatory))))

-- ---- all namespaces

filter_decides : (filter : Option Filter) (attributes : List Attribute) → Decides (fits_filter filter attributes) (IfSome filter (Matches bytes_eq attributes))
filter_decides None attributes = (λ _. tt, λ _. refl)
filter_decides (Some filter) attributes = matches_decides bytes_eq attributes filter

not_both : (namespace : List ℕ) → is_bundle namespace ≡ true → is_package namespace ≡ true → ⊥
not_both namespace of_bundle of_package =
    apart ((bytes_eq-Decides namespace (codes "osgi.wiring.bundle")).0 of_bundle) ((bytes_eq-Decides namespace (codes "osgi.wiring.package")).0 of_package) refl

-- what a capability of the same namespace and name has to meet
record Meets (q : Requirement) (c : Capability) (name : List ℕ) (v : Version) : Type 0 where
  of_bundle : IsTrue (is_bundle q.namespace) → IsTrue (is_within (range_parts q.range) (parts v))
  of_package : IsTrue (is_package q.namespace) → SatisfiesImport q c name v
  other : ¬ IsTrue (is_bundle q.namespace) → ¬ IsTrue (is_package q.namespace) → IfSome q.filter (Matches bytes_eq c.attributes)

meets_decides : (q : Requirement) (c : Capability) (name : List ℕ) (v : Version) → Decides (meets q c name v) (Meets q c name v)
meets_decides q c name v =
    if_decides (is_bundle q.namespace) _ _
    (λ of_bundle.
    Decides-like _ (λ within. record { of_bundle = λ _. within; of_package = λ of_package. absurd (not_both q.namespace of_bundle of_package); other = λ none _. absurd (none of_bundle) })
    (λ meets. meets.of_bundle of_bundle) (itself _))
    (λ no_bundle. if_decides (is_package q.namespace) _ _
    (λ of_package.
    Decides-like _ (λ fits. record { of_bundle = λ of_bundle. absurd (not_both q.namespace of_bundle of_package); of_package = λ _. fits; other = λ _ none. absurd (none of_package) })
    (λ meets. meets.of_package of_package) (import_decides q c name v))
    (λ no_package.
    Decides-like _
    (λ fits. record {
      of_bundle = λ of_bundle. absurd (false≢true (sym no_bundle ∙ of_bundle));
      of_package = λ of_package. absurd (false≢true (sym no_package ∙ of_package));
      other = λ _ _. fits;
    })
    (λ meets. meets.other (λ of_bundle. false≢true (sym no_bundle ∙ of_bundle)) (λ of_package. false≢true (sym no_package ∙ of_package)))
    (filter_decides q.filter c.attributes)))

pub satisfied_decides : (q : Requirement) (c : Capability) (name : List ℕ) (v : Version) → Decides (is_satisfied q c name v) (Satisfies q c name v)
satisfied_decides q c name v =
    Decides-like (is_satisfied q c name v)
    (λ e. record { namespace = e.0; name = e.1.0; of_bundle = e.1.1.of_bundle; of_package = e.1.1.of_package; of_other = e.1.1.other })
    (λ is. (is.namespace, (is.name, record { of_bundle = is.of_bundle; of_package = is.of_package; other = is.of_other })))
    (Decides-and _ _ (bytes_eq-Decides q.namespace c.namespace) (Decides-and _ _ (bytes_eq-Decides q.name c.name) (meets_decides q c name v)))
