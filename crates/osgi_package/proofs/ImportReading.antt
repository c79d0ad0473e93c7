-- A clause of Import-Package says what the reader makes of it.
use Rattle.std.proofs.Common.{◌≡◌, ◌≢◌, ◌<◌, ◌+◌, ℕ, List, [], ◌∷◌, ◌++◌, length, take, drop, get_or, ap, sym, ◌∙◌, refl, subst, inl, inr, arith, append_assoc, append-nil, length-append}
use Rattle.std.specs.Prelude.{Bool, true, false, cond, not, ◌⊎◌, ◌||◌, All, AllPairs, codes, filter, map, Option, None, Some, Result, Ok, Err}
use Rattle.std.specs.Bool.{OnTrue}
use Rattle.std.specs.BTreeMap.{is_at}
use Rattle.std.specs.BTreeSet.{BTreeSet, contains}
use Rattle.std.specs.Cmp.Lexicographic.{slice_cmp}
use Rattle.std.specs.List.{AllZip, list_any}
use Rattle.std.specs.Ordering.{nat_cmp}
use Rattle.std.specs.Str.{bytes_eq}
use Rattle.std.proofs.Math.ListN.{get_or-append}
use Rattle.std.proofs.Math.Seq.{get_or-append_seam}
use Rattle.std.proofs.lemmas.Bool.{false≢true}
use Rattle.std.proofs.lemmas.Cmp.{nat_list_eq_equiv}
use Rattle.std.proofs.lemmas.List.Concat.{flat_map-append}
use Rattle.std.proofs.lemmas.List.Folds.{Any-from_list_any, list_any-append, list_any_at}
use Rattle.std.proofs.lemmas.List.Quantifiers.{all_pairs_push}
use Rattle.std.proofs.lemmas.Map.Text.{is_eq-slice_cmp}
use Rattle.std.proofs.lemmas.Slice.Eq.{bytes_eq-Decides}
use Rattle.osgi_base.specs.Verdict.{Where, answers, refuses}
use Rattle.osgi_header.specs.declared.clause.Clause.{Clause}
use Rattle.osgi_world.specs.declared.requirement.Requirement.{Requirement}
use Rattle.osgi_model.specs.declared.value.Attribute.{Attribute}
use Rattle.osgi_version.specs.Ranges.{IsReadableRange}
use Rattle.osgi_version.specs.RangeValues.{range_parts}
use Rattle.osgi_version.specs.declared.range.VersionRange.{VersionRange}
use Rattle.osgi_package.specs.computed.Answers.{IsTheAnswer}
use Rattle.osgi_package.specs.Only.{IsOnly}
use Rattle.osgi_package.specs.computed.AttributeReader.{attributes_of}
use Rattle.osgi_package.specs.computed.ImportReader.{AreNew, AreRanges, AreSeen, IsAdded, IsTemplate, requirements_of, template_by, template_of, template_with}
use Rattle.osgi_package.specs.declared.fault.PackageKind.{PackageKind}
use Rattle.osgi_package.specs.declared.fault.PackageKind.TheVariants.{BadValue, BadVersion, DoubleType, Duplicate}
use Rattle.osgi_package.specs.Imports.{AreImportsOf, IsImport, SaysImports}
use Rattle.osgi_package.specs.Packages.{is_java, packages}
use Rattle.osgi_package.specs.Parameters.{IsReadableAttribute, IsAttribute, is_double, is_plain_attribute, version_text}
use Rattle.osgi_package.specs.laws.Splits.{split_at, take_next}
use Rattle.osgi_package.specs.laws.Verdicts.{end_only, first_only, rest_only}
use Rattle.osgi_package.proofs.Answering.{answer_more}
use Rattle.osgi_package.proofs.Reading.{attributes_one}
use Rattle.osgi_package.proofs.Valued.{Valued, bad, bad_value, double, double_value, good, past_values, valued}

-- ---- the requirements of a clause

module _ (clause : Clause) (ranges : VersionRange × VersionRange) (equal : List Attribute) (are : AreRanges clause (Some ranges))
    (valued_as : AllZip IsAttribute (filter is_plain_attribute clause.attributes) equal) where
  abbrev template : Requirement
  template = template_of clause ranges.0 ranges.1 equal

  import_holds : (path : List ℕ) → IsImport clause path (record template { name = path })
  import_holds path = record {
    namespace = refl;
    name = refl;
    range = are.0.holds;
    from_name = refl;
    from_range = are.1.holds;
    equal = valued_as;
    optional = refl;
    unfiltered = refl;
    single = refl;
    private = refl;
    effective = refl;
  }

  import_only : (path : List ℕ) (r : Requirement) → IsImport clause path r → r ≡ record template { name = path }
  import_only path r is =
      let own : r.range ≡ ranges.0 = are.0.only r.range is.range in
      let exporter : r.from_range ≡ ranges.1 = are.1.only r.from_range is.from_range in
      let others : r.equal ≡ equal = attributes_one (filter is_plain_attribute clause.attributes) r.equal equal is.equal valued_as in
      λ i. record {
        namespace = is.namespace i;
        name = is.name i;
        range = own i;
        from_name = is.from_name i;
        from_range = exporter i;
        equal = others i;
        filter = is.unfiltered i;
        optional = is.optional i;
        multiple = is.single i;
        reexport = is.private i;
        effective = is.effective i;
      }

  imports_hold : (paths : List (List ℕ)) → AllZip (IsImport clause) paths (map (λ path. record template { name = path }) paths)
  imports_hold [] = tt
  imports_hold (path ∷ paths) = (import_holds path, imports_hold paths)

  imports_only : (paths : List (List ℕ)) (others : List Requirement) → AllZip (IsImport clause) paths others → others ≡ map (λ path. record template { name = path }) paths
  imports_only [] [] is = refl
  imports_only [] (r ∷ others) is = absurd is
  imports_only (path ∷ paths) [] is = absurd is
  imports_only (path ∷ paths) (r ∷ others) is = λ i. import_only path r is.0 i ∷ imports_only paths others is.1 i

  imports_of : IsOnly (AreImportsOf clause) (requirements_of template clause.paths)
  imports_of = record { holds = imports_hold (filter (λ path. not (is_java path)) clause.paths); only = imports_only (filter (λ path. not (is_java path)) clause.paths) }

-- ---- what a clause says

abbrev AreBad : Clause → Type 0
AreBad clause = (¬ IsReadableRange (version_text (codes "version") clause)) ⊎ (¬ IsReadableRange (version_text (codes "bundle-version") clause))

abbrev Apart : List Clause → Clause → Type 0
Apart before clause = AllPairs ◌≢◌ (packages before ++ clause.paths)

-- what a clause says by what is asked of each of its packages
abbrev pub SaidBy : List Clause → Clause → Result Requirement PackageKind → Type 0
SaidBy before clause (Err kind) = IsOnly (SaysImports before clause) (refuses kind)
SaidBy before clause (Ok asked) =
    (AllPairs ◌≢◌ (packages before ++ clause.paths) → IsOnly (SaysImports before clause) (answers (requirements_of asked clause.paths)))
    × ((¬ AllPairs ◌≢◌ (packages before ++ clause.paths)) → IsOnly (SaysImports before clause) (refuses Duplicate))

not_bad : (clause : Clause) (ranges : VersionRange × VersionRange) → AreRanges clause (Some ranges) → ¬ AreBad clause
not_bad clause ranges are (inl fails) = fails (range_parts ranges.0, are.0.holds)
not_bad clause ranges are (inr fails) = fails (range_parts ranges.1, are.1.holds)

abbrev after_values : List Clause → Clause → List (PackageKind → Type 0)
after_values before clause = Where Duplicate (¬ Apart before clause) ∷ []

abbrev after_versions : List Clause → Clause → List (PackageKind → Type 0)
after_versions before clause =
    Where DoubleType (list_any is_double clause.attributes ≡ true) ∷ Where BadValue (¬ All IsReadableAttribute clause.attributes) ∷ after_values before clause

said_with : (before : List Clause) (clause : Clause) (ranges : VersionRange × VersionRange) (values : Result (List Attribute) PackageKind) → AreRanges clause (Some ranges) →
    Valued clause values → SaidBy before clause (template_with clause ranges values)
said_with before clause ranges values are (double e) =
    rest_only BadVersion (AreBad clause) (after_versions before clause) (AreImportsOf clause) (refuses DoubleType) (not_bad clause ranges are)
    (double_value clause (after_values before clause) (AreImportsOf clause) e)
said_with before clause ranges values are (bad plain fails) =
    rest_only BadVersion (AreBad clause) (after_versions before clause) (AreImportsOf clause) (refuses BadValue) (not_bad clause ranges are)
    (bad_value clause (after_values before clause) (AreImportsOf clause) plain fails)
said_with before clause ranges values are (good {others = equal} plain all valued_as) =
    let asked : List Requirement = requirements_of (template_of clause ranges.0 ranges.1 equal) clause.paths in (
      λ apart.
          rest_only BadVersion (AreBad clause) (after_versions before clause) (AreImportsOf clause) (answers asked) (not_bad clause ranges are)
          (past_values clause (after_values before clause) (AreImportsOf clause) (answers asked) plain all
          (rest_only Duplicate (¬ Apart before clause) [] (AreImportsOf clause) (answers asked) (λ twice. twice apart)
          (end_only (AreImportsOf clause) asked (imports_of clause ranges equal are valued_as)))),
      λ twice.
          rest_only BadVersion (AreBad clause) (after_versions before clause) (AreImportsOf clause) (refuses Duplicate) (not_bad clause ranges are)
          (past_values clause (after_values before clause) (AreImportsOf clause) (refuses Duplicate) plain all
          (first_only Duplicate (¬ Apart before clause) [] (AreImportsOf clause) twice)),
    )

said_by : (before : List Clause) (clause : Clause) (ranges : Option (VersionRange × VersionRange)) → AreRanges clause ranges → SaidBy before clause (template_by clause ranges)
said_by before clause None bad_ranges = first_only BadVersion (AreBad clause) (after_versions before clause) (AreImportsOf clause) bad_ranges
said_by before clause (Some ranges) are = said_with before clause ranges (attributes_of clause) are (valued clause)

pub said : (before : List Clause) (clause : Clause) (asked : Result Requirement PackageKind) → IsTemplate clause asked → SaidBy before clause asked
said before clause asked is = subst (SaidBy before clause) (sym is.2) (said_by before clause is.0 is.1)

-- ---- packages that were seen

or_last : (a b c : Bool) → a ≡ c → cond a true b ≡ (b || (c || false))
or_last true true true e = refl
or_last true false true e = refl
or_last false true false e = refl
or_last false false false e = refl
or_last true b false e = absurd (false≢true (sym e))
or_last false b true e = absurd (false≢true e)

among : (before : List (List ℕ)) (path : List ℕ) (k : ℕ) (d : List ℕ) → k < length before → get_or before k d ≡ path → list_any (bytes_eq path) before ≡ true
among before path k d below is = list_any_at (bytes_eq path) before k d below ((bytes_eq-Decides path (get_or before k d)).1 (sym is))

pub seen_more : (old new : BTreeSet (List ℕ)) (before : List (List ℕ)) (path : List ℕ) → AreSeen old before → contains (slice_cmp nat_cmp) old path ≡ false →
    ((q : List ℕ) → contains (slice_cmp nat_cmp) new q ≡ cond (is_at (slice_cmp nat_cmp path) q) true (contains (slice_cmp nat_cmp) old q)) → AreSeen new (before ++ path ∷ [])
seen_more old new before path seen unseen updates = record {
  has = λ q.
      updates q ∙ ap (λ t. cond t true (contains (slice_cmp nat_cmp) old q)) (is_eq-slice_cmp path q ∙ nat_list_eq_equiv.symm path q) ∙ ap (cond (bytes_eq q path) true) (seen.has q)
      ∙ or_last (bytes_eq q path) (list_any (bytes_eq q) before) (bytes_eq q path) refl ∙ sym (list_any-append (bytes_eq q) before (path ∷ []));
  apart = all_pairs_push ◌≢◌ before path seen.apart (λ k d below same. false≢true (sym unseen ∙ seen.has path ∙ among before path k d below same));
}

pub seen_again : (old : BTreeSet (List ℕ)) (before rest : List (List ℕ)) (path : List ℕ) → AreSeen old before → contains (slice_cmp nat_cmp) old path ≡ true →
    ¬ AllPairs ◌≢◌ (before ++ path ∷ rest)
seen_again old before rest path seen again apart =
    let (k, x, below, is, passes) = Any-from_list_any (bytes_eq path) before (sym (seen.has path) ∙ again) in
    let same : path ≡ x = (bytes_eq-Decides path x).0 passes in
    let within : length before < length (before ++ path ∷ rest) = omega (arith, length-append before (path ∷ rest)) in
    apart k (length before) x below within (get_or-append before (path ∷ rest) x k below ∙ is ∙ sym same ∙ sym (get_or-append_seam before path rest x))

-- ---- one item more

pub no_packages : (seen : BTreeSet (List ℕ)) → seen.keys ≡ [] → AreSeen seen []
no_packages seen empty = record { has = λ q. rw empty refl; apart = λ i j d less below. absurd (omega arith) }

pub one_package : (old new : BTreeSet (List ℕ)) (before paths : List (List ℕ)) (i : ℕ) (path key : List ℕ) → i < length paths → path ≡ get_or paths i path → key ≡ path →
    AreSeen old (before ++ take i paths) → contains (slice_cmp nat_cmp) old key ≡ false →
    ((q : List ℕ) → contains (slice_cmp nat_cmp) new q ≡ cond (is_at (slice_cmp nat_cmp key) q) true (contains (slice_cmp nat_cmp) old q)) →
    AreSeen new (before ++ take (i + 1) paths)
one_package old new before paths i path key below is copy seen unseen updates =
    subst (AreSeen new)
    (append_assoc before (take i paths) (key ∷ []) ∙ ap (λ k. before ++ (take i paths ++ k ∷ [])) copy ∙ ap (λ l. before ++ l) (sym (take_next paths i path below is)))
    (seen_more old new (before ++ take i paths) key seen unseen updates)

pub twice_among : (old : BTreeSet (List ℕ)) (before paths : List (List ℕ)) (i : ℕ) (path key : List ℕ) → i < length paths → path ≡ get_or paths i path → key ≡ path →
    AreSeen old (before ++ take i paths) → contains (slice_cmp nat_cmp) old key ≡ true → ¬ AllPairs ◌≢◌ (before ++ paths)
twice_among old before paths i path key below is copy seen again apart =
    let whole : (before ++ take i paths) ++ key ∷ drop (i + 1) paths ≡ before ++ paths
    = append_assoc before (take i paths) (key ∷ drop (i + 1) paths) ∙ ap (λ k. before ++ (take i paths ++ k ∷ drop (i + 1) paths)) copy
    ∙ ap (λ l. before ++ l) (split_at paths i path below is) in
    seen_again old (before ++ take i paths) (drop (i + 1) paths) key seen again (subst (λ l. AllPairs ◌≢◌ l) (sym whole) apart)

-- whether a package was new
pub was_new : (added has : Bool) → added ≡ not has → added ≡ true → has ≡ false
was_new true false e is = refl
was_new true true e is = e
was_new false true e is = sym is
was_new false false e is = refl

pub was_seen : (added has : Bool) → added ≡ not has → added ≡ false → has ≡ true
was_seen false true e is = refl
was_seen false false e is = e
was_seen true false e is = sym is
was_seen true true e is = refl

-- ---- one clause more

packages_push : (before : List Clause) (clause : Clause) → packages (before ++ clause ∷ []) ≡ packages before ++ clause.paths
packages_push before clause = flat_map-append (λ (c : Clause). c.paths) before (clause ∷ []) ∙ ap (λ l. packages before ++ l) (append-nil clause.paths)

-- what is known when so many clauses were read
pub record AreRead (clauses : List Clause) (requirements : List Requirement) (set : BTreeSet (List ℕ)) : Type 0 where
  pub answer : IsTheAnswer SaysImports clauses (Ok requirements)
  pub seen : AreSeen set (packages clauses)

pub read_more : (clauses : List Clause) (n : ℕ) (clause : Clause) (old new : List Requirement) (seen : BTreeSet (List ℕ)) → n < length clauses → clause ≡ get_or clauses n clause →
    IsTheAnswer SaysImports (take n clauses) (Ok old) → IsAdded old new seen (take n clauses) clause None → AreRead (take (n + 1) clauses) new seen
read_more clauses n clause old new seen below is answer added =
    let prefix : take (n + 1) clauses ≡ take n clauses ++ clause ∷ [] = take_next clauses n clause below is in
    record {
      answer = answer_more SaysImports clauses n clause old new added.0 below is added.1 answer added.2;
      seen = subst (AreSeen seen) (sym (ap packages prefix ∙ packages_push (take n clauses) clause)) added.3;
    }

-- ---- the clause that is added

pub said_fault : (before : List Clause) (clause : Clause) (r : Result Requirement PackageKind) (kind : PackageKind) → IsTemplate clause r → r ≡ Err kind →
    IsOnly (SaysImports before clause) (refuses kind)
said_fault before clause r kind asked is = said before clause (Err kind) (subst (IsTemplate clause) is asked)

module _ (before : List Clause) (clause : Clause) (r : Result Requirement PackageKind) (asked : Requirement) (paths : List (List ℕ)) (old new : List Requirement)
    (seen : BTreeSet (List ℕ)) (same : paths ≡ clause.paths) (is : IsTemplate clause r) (ok : r ≡ Ok asked) where
  pub all_added : (is_new : Bool) → is_new ≡ true → AreNew seen (packages before ++ paths) is_new → OnTrue is_new (new ≡ old ++ requirements_of asked paths) →
      IsAdded old new seen before clause None
  all_added false e news added = absurd (false≢true e)
  all_added true e news added =
      let seen_all : AreSeen seen (packages before ++ clause.paths) = subst (λ l. AreSeen seen (packages before ++ l)) same news in (
        requirements_of asked clause.paths,
        added ∙ ap (λ l. old ++ requirements_of asked l) same,
        (said before clause (Ok asked) (subst (IsTemplate clause) ok is)).0 seen_all.apart,
        seen_all,
      )

  pub said_twice : (is_new : Bool) → is_new ≡ false → AreNew seen (packages before ++ paths) is_new → IsOnly (SaysImports before clause) (refuses Duplicate)
  said_twice true e news = absurd (false≢true (sym e))
  said_twice false e news =
      (said before clause (Ok asked) (subst (IsTemplate clause) ok is)).1 (subst (λ l. ¬ AllPairs ◌≢◌ (packages before ++ l)) same news)
