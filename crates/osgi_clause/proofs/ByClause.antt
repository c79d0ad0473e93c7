-- What a clause makes, or its first fault, by what was computed of it.
use Rattle.std.proofs.Common.{◌≡◌, ℕ, List, [], ◌∷◌, sym, ◌∙◌, refl, subst, arith}
use Rattle.std.specs.Prelude.{⊤, Bool, true, false, codes, All, IsSomeAnd, MatchBool, None, Option, Some, Result, Ok, Err, IfSome}
use Rattle.std.specs.List.{AllZip, list_any}
use Rattle.std.proofs.lemmas.Bool.{false≢true}
use Rattle.std.proofs.lemmas.List.Elements.{All-cons, All-head, All-nil, All-tail}
use Rattle.osgi_base.specs.Verdict.{Where, answers, refuses}
use Rattle.osgi_base.specs.laws.Verdicts.{gives_rest}
use Rattle.osgi_header.specs.declared.clause.Clause.{Clause}
use Rattle.osgi_header.specs.declared.clause.Typed.{Typed}
use Rattle.osgi_model.specs.Filters.{IsReadableFilter}
use Rattle.osgi_model.specs.declared.filter.Filter.{Filter}
use Rattle.osgi_world.specs.declared.manifest_fault.ManifestKind.{ManifestKind}
use Rattle.osgi_world.specs.declared.manifest_fault.ManifestKind.TheVariants as fault
use Rattle.osgi_world.specs.declared.requirement.Requirement.{Requirement}
use Rattle.osgi_model.specs.declared.value.Attribute.{Attribute}
use Rattle.osgi_version.specs.declared.range.VersionRange.{VersionRange}
use Rattle.osgi_version.specs.Ranges.{IsReadableRange, plain}
use Rattle.osgi_version.specs.RangeValues.{range_parts}
use Rattle.osgi_version.specs.Versions.{blank}
use Rattle.osgi_package.specs.Only.{IsOnly}
use Rattle.osgi_package.specs.Parameters.{IsReadableAttribute, IsAttribute, directive_value, is_double, version_text}
use Rattle.osgi_package.specs.laws.Verdicts.{first_only, rest_only}
use Rattle.osgi_clause.specs.ClauseFaults.{HasNone}
use Rattle.osgi_clause.specs.Walks.{IsTheFirst}
use Rattle.osgi_clause.specs.computed.Templates.{AreAttributesRead, IsAnyRange, IsBundleIn, bad, bundle_of, directed_of, double, good, named_of, provided_in, provided_of, required_in, required_of}
use Rattle.osgi_clause.specs.Faults.{bundle_faults, is_reserved, provided_faults, required_faults}
use Rattle.osgi_clause.specs.Members.{IsFilterOf, IsHost, IsProvided, IsRequired, IsRequiredBundle}
use Rattle.osgi_clause.specs.Directives.{Repeats}

pub so : (P : Type 0) (test : Bool) → test ≡ true → MatchBool test P (¬ P) → P
so P true e is = is
so P false e is = absurd (false≢true e)

pub not_so : (P : Type 0) (test : Bool) → test ≡ false → MatchBool test P (¬ P) → ¬ P
not_so P true e is = absurd (false≢true (sym e))
not_so P false e is = is

-- ---- ranges

pub nothing_readable : IsReadableRange []
nothing_readable = (_, plain (record { spells = blank tt; fits = record { major = omega arith; minor = omega arith; micro = omega arith } }))

-- ---- bundles

abbrev Unranged : Clause → Type 0
Unranged clause = ¬ IsReadableRange (version_text (codes "bundle-version") clause)

pub bundle_none : (clause : Clause) (bundle : Requirement) → ¬ Repeats clause → IsBundleIn clause bundle → HasNone (bundle_faults [] clause)
bundle_none clause bundle once is =
    gives_rest fault.BadClause (Repeats clause) (Where fault.BadRange (Unranged clause) ∷ []) (λ (fine : Unit {0}). ⊤) (answers tt) once
    (gives_rest fault.BadRange (Unranged clause) [] (λ (fine : Unit {0}). ⊤) (answers tt) (λ fails. fails (range_parts is.range, is.is_range.holds)) tt)

required_by : (clause : Clause) (bundle : Requirement) (is : IsBundleIn clause bundle) (path : List ℕ) →
    IsOnly (IsRequiredBundle clause path) (named_of (directed_of clause (bundle_of is.range is.any)) path)
required_by clause bundle is path = record {
  holds = record {
    required = record {
      namespace = refl;
      name = refl;
      range = is.is_range.holds;
      any_exporter = refl;
      any_version = is.is_any.holds;
      no_attributes = refl;
      unfiltered = refl;
      single = refl;
      effective = refl;
    };
    optional = refl;
    reexport = refl;
  };
  only = only;
}
  where
    only : (other : Requirement) → IsRequiredBundle clause path other → other ≡ named_of (directed_of clause (bundle_of is.range is.any)) path
    only other has =
        let range : other.range ≡ is.range = is.is_range.only other.range has.required.range in
        let any : other.from_range ≡ is.any = is.is_any.only other.from_range has.required.any_version in
        λ i. record {
          namespace = has.required.namespace i;
          name = has.required.name i;
          range = range i;
          from_name = has.required.any_exporter i;
          from_range = any i;
          equal = has.required.no_attributes i;
          filter = has.required.unfiltered i;
          optional = has.optional i;
          multiple = has.required.single i;
          reexport = has.reexport i;
          effective = has.required.effective i;
        }

pub required_bundle : (clause : Clause) (bundle : Requirement) → IsBundleIn clause bundle → (path : List ℕ) → IsOnly (IsRequiredBundle clause path) (named_of (directed_of clause bundle) path)
required_bundle clause bundle is path =
    subst (λ (b : Requirement). IsOnly (IsRequiredBundle clause path) (named_of (directed_of clause b) path)) (sym is.is) (required_by clause bundle is path)

host_by : (clause : Clause) (bundle : Requirement) (is : IsBundleIn clause bundle) (path : List ℕ) → IsOnly (IsHost clause path) (named_of (bundle_of is.range is.any) path)
host_by clause bundle is path = record {
  holds = record {
    required = record {
      namespace = refl;
      name = refl;
      range = is.is_range.holds;
      any_exporter = refl;
      any_version = is.is_any.holds;
      no_attributes = refl;
      unfiltered = refl;
      single = refl;
      effective = refl;
    };
    mandatory = refl;
    private = refl;
  };
  only = only;
}
  where
    only : (other : Requirement) → IsHost clause path other → other ≡ named_of (bundle_of is.range is.any) path
    only other has =
        let range : other.range ≡ is.range = is.is_range.only other.range has.required.range in
        let any : other.from_range ≡ is.any = is.is_any.only other.from_range has.required.any_version in
        λ i. record {
          namespace = has.required.namespace i;
          name = has.required.name i;
          range = range i;
          from_name = has.required.any_exporter i;
          from_range = any i;
          equal = has.required.no_attributes i;
          filter = has.required.unfiltered i;
          optional = has.mandatory i;
          multiple = has.required.single i;
          reexport = has.private i;
          effective = has.required.effective i;
        }

pub host_bundle : (clause : Clause) (bundle : Requirement) → IsBundleIn clause bundle → (path : List ℕ) → IsOnly (IsHost clause path) (named_of bundle path)
host_bundle clause bundle is path = subst (λ (b : Requirement). IsOnly (IsHost clause path) (named_of b path)) (sym is.is) (host_by clause bundle is path)

-- ---- requirements

abbrev Unfiltered : Clause → Type 0
Unfiltered clause = IsSomeAnd (directive_value (codes "filter") clause) (λ text. ¬ IsReadableFilter text)

abbrev IsReserved : Clause → Type 0
IsReserved clause = list_any is_reserved clause.paths ≡ true

pub required_none : (clause : Clause) → ¬ Repeats clause → ¬ Unfiltered clause → ¬ IsReserved clause → HasNone (required_faults [] clause)
required_none clause once filtered free =
    gives_rest fault.BadClause (Repeats clause) (Where fault.BadFilter (Unfiltered clause) ∷ Where fault.ReservedNamespace (IsReserved clause) ∷ []) (λ (fine : Unit {0}). ⊤) (answers tt) once
    (gives_rest fault.BadFilter (Unfiltered clause) (Where fault.ReservedNamespace (IsReserved clause) ∷ []) (λ (fine : Unit {0}). ⊤) (answers tt) filtered
    (gives_rest fault.ReservedNamespace (IsReserved clause) [] (λ (fine : Unit {0}). ⊤) (answers tt) free tt))

pub required_capability : (clause : Clause) (filter : Option Filter) (first second : VersionRange) → IsOnly (IsFilterOf (directive_value (codes "filter") clause)) filter → IsAnyRange first →
    IsAnyRange second → (path : List ℕ) → IsOnly (IsRequired clause path) (required_in (required_of clause filter first second) path)
required_capability clause filter first second filtered is_first is_second path = record {
  holds = record {
    space = refl;
    name = refl;
    any_version = is_first.holds;
    any_exporter = refl;
    any_exporters_version = is_second.holds;
    no_attributes = refl;
    filtered = filtered.holds;
    optional = refl;
    multiple = refl;
    private = refl;
    effective = refl;
  };
  only = only;
}
  where
    only : (other : Requirement) → IsRequired clause path other → other ≡ required_in (required_of clause filter first second) path
    only other has =
        let range : other.range ≡ first = is_first.only other.range has.any_version in
        let any : other.from_range ≡ second = is_second.only other.from_range has.any_exporters_version in
        let same : other.filter ≡ filter = filtered.only other.filter has.filtered in
        λ i. record {
          namespace = has.space i;
          name = has.name i;
          range = range i;
          from_name = has.any_exporter i;
          from_range = any i;
          equal = has.no_attributes i;
          filter = same i;
          optional = has.optional i;
          multiple = has.multiple i;
          reexport = has.private i;
          effective = has.effective i;
        }

-- ---- capabilities

pub all_values : (typed : List Typed) (attributes : List Attribute) → AllZip IsAttribute typed attributes → All IsReadableAttribute typed
all_values [] [] are = All-nil IsReadableAttribute
all_values [] (a ∷ attributes) are = absurd are
all_values (t ∷ typed) [] are = absurd are
all_values (t ∷ typed) (a ∷ attributes) are = All-cons IsReadableAttribute t typed (a, are.0) (all_values typed attributes are.1)

pub values_all : (typed : List Typed) → All IsReadableAttribute typed → (attributes : List Attribute) × AllZip IsAttribute typed attributes
values_all [] all = ([], tt)
values_all (t ∷ typed) all =
    let first = All-head IsReadableAttribute t typed all in
    let rest = values_all typed (All-tail IsReadableAttribute t typed all) in
    (first.0 ∷ rest.0, (first.1, rest.1))

same_some : {A : Type 0} (a b : A) → ◌≡◌ {A = Option A} (Some a) (Some b) → b ≡ a
same_some a b e = cc e

pub attributes_read : (clause : Clause) (given : List Typed) (attributes : List Attribute) (read : Option (List Attribute)) → given ≡ clause.attributes → read ≡ Some attributes →
    list_any is_double given ≡ false → IfSome read (AllZip IsAttribute given) → ((others : List Attribute) → AllZip IsAttribute given others → read ≡ Some others) →
    AreAttributesRead clause (Ok attributes)
attributes_read clause given attributes read same is plain_values reads only =
    let are : AllZip IsAttribute clause.attributes attributes
    = subst (λ l. AllZip IsAttribute l attributes) same (subst (λ r. IfSome r (AllZip IsAttribute given)) is reads) in
    good (subst (λ l. list_any is_double l ≡ false) same plain_values) (all_values clause.attributes attributes are)
    (record { holds = are; only = λ others all. same_some attributes others (sym is ∙ only others (subst (λ l. AllZip IsAttribute l others) (sym same) all)) })

pub attributes_bad : (clause : Clause) (given : List Typed) (read : Option (List Attribute)) → given ≡ clause.attributes → read ≡ None → list_any is_double given ≡ false →
    ((others : List Attribute) → AllZip IsAttribute given others → read ≡ Some others) → AreAttributesRead clause (Err fault.BadValue)
attributes_bad clause given read same is plain_values only =
    bad (subst (λ l. list_any is_double l ≡ false) same plain_values)
    (λ all.
    let values = values_all clause.attributes all in
    cc (sym is ∙ only values.0 (subst (λ l. AllZip IsAttribute l values.0) (sym same) values.1)))

module _ (clause : Clause) where
  abbrev IsDouble : Type 0
  IsDouble = list_any is_double clause.attributes ≡ true

  abbrev Unvalued : Type 0
  Unvalued = ¬ All IsReadableAttribute clause.attributes

  abbrev after_values : List (ManifestKind → Type 0)
  after_values = Where fault.ReservedNamespace (IsReserved clause) ∷ []

  abbrev after_doubles : List (ManifestKind → Type 0)
  after_doubles = Where fault.BadValue Unvalued ∷ after_values

  abbrev after_repeats : List (ManifestKind → Type 0)
  after_repeats = Where fault.DoubleType IsDouble ∷ after_doubles

  not_double : list_any is_double clause.attributes ≡ false → ¬ IsDouble
  not_double e f = false≢true (sym e ∙ f)

  pub provided_bad : (r : Result (List Attribute) ManifestKind) (kind : ManifestKind) → ¬ Repeats clause → AreAttributesRead clause r → r ≡ Err kind → IsTheFirst (provided_faults [] clause) kind
  provided_bad r kind once (double e) is =
      let same : fault.DoubleType ≡ kind = cc is in
      subst (IsTheFirst (provided_faults [] clause)) same
      (rest_only fault.BadClause (Repeats clause) after_repeats (λ (fine : Unit {0}). ⊤) (refuses fault.DoubleType) once
      (first_only fault.DoubleType IsDouble after_doubles (λ (fine : Unit {0}). ⊤) e))
  provided_bad r kind once (bad e fails) is =
      let same : fault.BadValue ≡ kind = cc is in
      subst (IsTheFirst (provided_faults [] clause)) same
      (rest_only fault.BadClause (Repeats clause) after_repeats (λ (fine : Unit {0}). ⊤) (refuses fault.BadValue) once
      (rest_only fault.DoubleType IsDouble after_doubles (λ (fine : Unit {0}). ⊤) (refuses fault.BadValue) (not_double e)
      (first_only fault.BadValue Unvalued after_values (λ (fine : Unit {0}). ⊤) fails)))
  provided_bad r kind once (good e all are) is = absurd (cc is)

  record AreGood (attributes : List Attribute) : Type 0 where
    pub plain : list_any is_double clause.attributes ≡ false
    pub all : All IsReadableAttribute clause.attributes
    pub are : IsOnly (AllZip IsAttribute clause.attributes) attributes

  are_good : (r : Result (List Attribute) ManifestKind) (attributes : List Attribute) → AreAttributesRead clause r → r ≡ Ok attributes → AreGood attributes
  are_good r attributes (double e) is = absurd (cc is)
  are_good r attributes (bad e fails) is = absurd (cc is)
  are_good r attributes (good {attributes = read} e all are) is =
      let same : read ≡ attributes = cc is in
      record { plain = e; all = all; are = subst (IsOnly (AllZip IsAttribute clause.attributes)) same are }

  pub provided_reserved : (r : Result (List Attribute) ManifestKind) (attributes : List Attribute) → ¬ Repeats clause → AreAttributesRead clause r → r ≡ Ok attributes → IsReserved clause →
      IsTheFirst (provided_faults [] clause) fault.ReservedNamespace
  provided_reserved r attributes once read is reserved =
      let values = are_good r attributes read is in
      rest_only fault.BadClause (Repeats clause) after_repeats (λ (fine : Unit {0}). ⊤) (refuses fault.ReservedNamespace) once
      (rest_only fault.DoubleType IsDouble after_doubles (λ (fine : Unit {0}). ⊤) (refuses fault.ReservedNamespace) (not_double values.plain)
      (rest_only fault.BadValue Unvalued after_values (λ (fine : Unit {0}). ⊤) (refuses fault.ReservedNamespace) (λ fails. fails values.all)
      (first_only fault.ReservedNamespace (IsReserved clause) [] (λ (fine : Unit {0}). ⊤) reserved)))

  pub provided_none : (r : Result (List Attribute) ManifestKind) (attributes : List Attribute) → ¬ Repeats clause → AreAttributesRead clause r → r ≡ Ok attributes → ¬ IsReserved clause →
      HasNone (provided_faults [] clause)
  provided_none r attributes once read is free =
      let values = are_good r attributes read is in
      gives_rest fault.BadClause (Repeats clause) after_repeats (λ (fine : Unit {0}). ⊤) (answers tt) once
      (gives_rest fault.DoubleType IsDouble after_doubles (λ (fine : Unit {0}). ⊤) (answers tt) (not_double values.plain)
      (gives_rest fault.BadValue Unvalued after_values (λ (fine : Unit {0}). ⊤) (answers tt) (λ fails. fails values.all)
      (gives_rest fault.ReservedNamespace (IsReserved clause) [] (λ (fine : Unit {0}). ⊤) (answers tt) free tt)))

  pub provided_capability : (r : Result (List Attribute) ManifestKind) (attributes : List Attribute) → AreAttributesRead clause r → r ≡ Ok attributes → (path : List ℕ) →
      IsOnly (IsProvided clause path) (provided_in (provided_of attributes) path)
  provided_capability r attributes read is path =
      let values = are_good r attributes read is in
      record {
        holds = record { space = refl; name = refl; attributes = values.are.holds; no_uses = refl; no_mandatory = refl };
        only = λ other has.
            let same : other.attributes ≡ attributes = values.are.only other.attributes has.attributes in
            λ i. record { namespace = has.space i; name = has.name i; attributes = same i; uses = has.no_uses i; mandatory = has.no_mandatory i };
      }
