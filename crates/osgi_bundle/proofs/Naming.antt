-- The row that a target names: that of an id, or that of a name with the highest version.
use Rattle.std.proofs.Common.{◌≡◌, inl, inr, ◌<◌, ◌≤◌, ℕ, List, get_or, ap, sym, subst, ◌∙◌, refl, arith, Result, Ok, Err, Bor}
use Rattle.std.specs.Prelude.{true, false, Option, None, Some, is_some, IfOk, IsSome, MatchOption, Contains}
use Rattle.std.specs.Bool.{then_some}
use Rattle.std.specs.Option.{option_copied}
use Rattle.std.specs.BTreeMap.{BTreeMap, get}
use Rattle.std.specs.Ordering.{is_eq, is_gt, is_lt, ordering_reverse}
use Rattle.std.specs.declared.cmp.Ordering.{Ordering}
use Rattle.std.specs.declared.cmp.Ordering.TheVariants.{Less, Equal, Greater}
use Rattle.std.proofs.lemmas.Bool.{cases_eq, cases_lt}
use Rattle.std.proofs.lemmas.List.{get_or_default}
use Rattle.std.proofs.lemmas.List.Elements.{All-contains, All-contains_itself}
use Rattle.osgi_base.specs.declared.ids.BundleId.{BundleId}
use Rattle.osgi_bundle.specs.Rows.{AreApart, bundle_number, row_at}
use Rattle.osgi_bundle.specs.Targets.{IsFirstRow, IsNamedRow, IsTargetRow}
use Rattle.osgi_bundle.specs.computed.Kept.{bundle_name, HasNoVersion, IsHighest, IsIndexOf, name_cmp, named}
use Rattle.osgi_bundle.specs.declared.directory.BundleName.{BundleName}
use Rattle.osgi_bundle.specs.declared.kept.BundleKept.{BundleKept}
use Rattle.osgi_ops.specs.declared.refusal.Refusal.TheVariants.{DuplicateBundle}
use Rattle.osgi_ops.specs.declared.target.Target.TheVariants.{Id}
use Rattle.osgi_version.specs.Comparing.{version_cmp, version_total}
use Rattle.osgi_version.specs.declared.version.Version.{Version}
use Rattle.osgi_bundle.proofs.Finding.{none_named, twin_of}
use Rattle.osgi_bundle.proofs.Names.{decides_version}

-- live bundles of one name and version are the same
same_row : (rows : List BundleKept) → AreApart rows → (a b : BundleKept) → Contains rows a → Contains rows b → a.name ≡ b.name → a.version ≡ b.version → a ≡ b
same_row rows apart a b (i, within, is) (j, inside, at) name version = elim (cases_eq i j) [
  | inl same ↦ sym is ∙ get_or_default rows i a b within ∙ ap (λ k. get_or rows k b) same ∙ at
  | inr differs ↦ elim (cases_lt i j) [
    | inl before ↦ absurd (apart i j b before inside (ap (λ (r : BundleKept). r.name) first ∙ name ∙ ap (λ (r : BundleKept). r.name) (sym at))
        (ap (λ (r : BundleKept). r.version) first ∙ version ∙ ap (λ (r : BundleKept). r.version) (sym at)))
    | inr after ↦ absurd (apart j i b (let below : j < i = above i j after differs in below) within (ap (λ (r : BundleKept). r.name) at ∙ sym name ∙ ap (λ (r : BundleKept). r.name) (sym first))
        (ap (λ (r : BundleKept). r.version) at ∙ sym version ∙ ap (λ (r : BundleKept). r.version) (sym first)))
  ]
]
  where
    first : get_or rows i b ≡ a
    first = get_or_default rows i b a within ∙ is

    above : (i j : ℕ) → j ≤ i → ¬ (i ≡ j) → j < i
    above i j le differs = elim (cases_lt j i) [ inl less ↦ less | inr least ↦ absurd (differs (omega (arith, le, least))) ]

module _ (rows : List BundleKept) (names : BTreeMap BundleName BundleId) (name : List ℕ) (index : IsIndexOf name_cmp bundle_name names rows) where
  -- a live bundle of the name stands in the index
  stands : (other : BundleKept) → Contains rows other → other.name ≡ name → get name_cmp names (named name other.version) ≡ None → ⊥
  stands other there same none =
      All-contains (λ r. ¬ (named name other.version ≡ bundle_name r)) rows other (none_named (named name other.version) rows (sym (index (named name other.version)) ∙ none)) there (λ i. named (sym same i) other.version)

  -- no bundle of the name is live, if none stands there
  pub none_named_so : HasNoVersion names name → (id : BundleId) → ¬ (IsNamedRow name rows id)
  none_named_so none id is = stands is.row is.live is.named (none is.row.version)

  some_of : (o : Option BundleId) → ¬ (o ≡ None) → IsSome o
  some_of None some = absurd (some refl)
  some_of (Some b) some = refl

  first_by : AreApart rows → (row other : BundleKept) → Contains rows row → Contains rows other → row.name ≡ other.name → is_lt (version_cmp row.version other.version) ≡ false → IsFirstRow row other
  first_by apart row other live there same not_less = by (version_cmp row.version other.version) refl
    where
      by : (o : Ordering) → version_cmp row.version other.version ≡ o → IsFirstRow row other
      by Less is = absurd (let bad : true ≡ false = sym (ap is_lt is) ∙ not_less in cc bad)
      by Greater is = inl (ap is_gt is)
      by Equal is =
          let one : row ≡ other = same_row rows apart row other live there same ((decides_version row.version other.version).0 (ap is_eq is)) in
          let number : bundle_number row ≡ bundle_number other = ap bundle_number one in
          inr (ap is_gt (version_total.antisymm other.version row.version ∙ ap ordering_reverse is), omega (arith, number))

  -- the bundle of the highest version is the one that the name stands for
  pub named_so : AreApart rows → (bundle : BundleId) → IsHighest names name bundle → IsNamedRow name rows bundle
  named_so apart bundle highest =
      let twin = twin_of name highest.version rows bundle (sym (index (named name highest.version)) ∙ highest.stands) in
      let each : (other : BundleKept) → Contains rows other → other.name ≡ name → IsFirstRow twin.other other = λ other there same.
      first_by apart twin.other other twin.live there (twin.same_name ∙ sym same)
      (subst (λ (v : Version). is_lt (version_cmp v other.version) ≡ false) (sym twin.same_version)
      (highest.highest other.version (some_of (get name_cmp names (named name other.version)) (stands other there same)))) in
      record {
        row = twin.other;
        live = twin.live;
        is = (let says : DuplicateBundle twin.other.bundle ≡ DuplicateBundle bundle = sym twin.says in cc says);
        named = twin.same_name;
        first = λ k d within. each (get_or rows k d) (All-contains_itself rows k d within);
      }

  -- as the index answers
  pub named_as : {E : Type 0} → AreApart rows → (r : Result (Option BundleId) E) → IfOk r (λ found. MatchOption found (HasNoVersion names name) (IsHighest names name)) →
      IfOk r (λ found. MatchOption found ((id : BundleId) → ¬ IsNamedRow name rows id) (IsNamedRow name rows))
  named_as apart (Ok None) none = none_named_so none
  named_as apart (Ok (Some bundle)) highest = named_so apart bundle highest
  named_as apart (Err e) answer = answer

-- by its id a bundle is the target if it has a row
pub id_target : (id : BundleId) (rows : List BundleKept) (o : Option (Bor BundleKept)) → option_copied o ≡ row_at id rows →
    MatchOption (then_some (is_some o) id) ((bundle : BundleId) → ¬ IsTargetRow (Id id) rows bundle) (IsTargetRow (Id id) rows)
id_target id rows None at = λ bundle is. is.1 (sym at)
id_target id rows (Some row) at = (refl, λ none. (let bad : Some row.now ≡ None = at ∙ none in cc bad))
