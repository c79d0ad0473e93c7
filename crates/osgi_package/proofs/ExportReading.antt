-- A clause of Export-Package says what the reader makes of it.
use Rattle.std.proofs.Common.{◌≡◌, ℕ, List, [], ◌∷◌, ◌++◌, sym, ◌∙◌, refl, subst}
use Rattle.std.specs.Prelude.{Bool, true, false, cond, All, codes, filter, Option, None, Some, Result, Ok, Err}
use Rattle.std.specs.List.{AllZip, list_any}
use Rattle.std.proofs.lemmas.Bool.{false≢true}
use Rattle.osgi_base.specs.Verdict.{Gives, Where, answers, refuses}
use Rattle.osgi_header.specs.declared.clause.Clause.{Clause}
use Rattle.osgi_model.specs.computed.VersionReader.{version_of}
use Rattle.osgi_world.specs.declared.capability.Capability.{Capability}
use Rattle.osgi_model.specs.declared.value.Attribute.{Attribute}
use Rattle.osgi_model.specs.laws.VersionTexts.{version_read, version_sound}
use Rattle.osgi_version.specs.declared.version.Version.{Version}
use Rattle.osgi_version.specs.Versions.{IsReadableVersion}
use Rattle.osgi_package.specs.Only.{IsOnly}
use Rattle.osgi_package.specs.computed.AttributeReader.{attributes_of}
use Rattle.osgi_package.specs.computed.ExportReader.{IsOfferOf, capabilities_of, named_fault}
use Rattle.osgi_package.specs.declared.fault.PackageKind.{PackageKind}
use Rattle.osgi_package.specs.declared.fault.PackageKind.TheVariants.{BadValue, BadVersion, DoubleType, ImplicitAttribute, JavaExport}
use Rattle.osgi_package.specs.Exports.{AreExported, AreExportsOf, IsExportOf, SaysExports, version_attribute}
use Rattle.osgi_package.specs.Packages.{is_java}
use Rattle.osgi_package.specs.Parameters.{IsReadableAttribute, IsAttribute, is_double, is_plain_attribute, is_implicit, version_text}
use Rattle.osgi_package.specs.laws.Versions.{readable, unread}
use Rattle.osgi_package.specs.laws.Verdicts.{end_only, first_only, rest_only}
use Rattle.osgi_package.proofs.Reading.{attributes_one}
use Rattle.osgi_package.proofs.Valued.{Valued, bad, bad_value, double, double_value, good, past_values, valued}

-- ---- the version

abbrev own_version : Clause → List ℕ
own_version clause = version_text (codes "version") clause

-- ---- the conditions after the version

abbrev BadOne : Clause → Type 0
BadOne clause = ¬ IsReadableVersion (own_version clause)

abbrev after_values : Clause → List (PackageKind → Type 0)
after_values clause = Where JavaExport (list_any is_java clause.paths ≡ true) ∷ Where ImplicitAttribute (list_any is_implicit clause.attributes ≡ true) ∷ []

abbrev after_version : Clause → List (PackageKind → Type 0)
after_version clause =
    Where DoubleType (list_any is_double clause.attributes ≡ true) ∷ Where BadValue (¬ All IsReadableAttribute clause.attributes) ∷ after_values clause

pub no_version : (clause : Clause) (version : Option Version) → version ≡ version_of (own_version clause) → version ≡ None → IsOnly (SaysExports [] clause) (refuses BadVersion)
no_version clause version e none =
    first_only BadVersion (BadOne clause) (after_version clause) (AreExportsOf clause) (unread (own_version clause) (sym e ∙ none))

module _ (clause : Clause) (version : Version) (known : version_of (own_version clause) ≡ Some version) where
  past_version : (v : _) → IsOnly (Gives (after_version clause) (AreExportsOf clause)) v → IsOnly (SaysExports [] clause) v
  past_version v is = rest_only BadVersion (BadOne clause) (after_version clause) (AreExportsOf clause) v (λ fails. fails (readable (own_version clause) version known)) is

  bad_values : (values : Result (List Attribute) PackageKind) → Valued clause values → (kind : PackageKind) → values ≡ Err kind → IsOnly (SaysExports [] clause) (refuses kind)
  bad_values values (double e) kind is =
      let same : DoubleType ≡ kind = cc is in
      subst (λ k. IsOnly (SaysExports [] clause) (refuses k)) same (past_version (refuses DoubleType) (double_value clause (after_values clause) (AreExportsOf clause) e))
  bad_values values (bad plain fails) kind is =
      let same : BadValue ≡ kind = cc is in
      subst (λ k. IsOnly (SaysExports [] clause) (refuses k)) same (past_version (refuses BadValue) (bad_value clause (after_values clause) (AreExportsOf clause) plain fails))
  bad_values values (good plain all are) kind is = absurd (cc is)

  record Good (others : List Attribute) : Type 0 where
    plain : list_any is_double clause.attributes ≡ false
    all : All IsReadableAttribute clause.attributes
    are : AllZip IsAttribute (filter is_plain_attribute clause.attributes) others

  good_values : (values : Result (List Attribute) PackageKind) → Valued clause values → (others : List Attribute) → values ≡ Ok others → Good others
  good_values values (double e) others is = absurd (cc is)
  good_values values (bad plain fails) others is = absurd (cc is)
  good_values values (good {others = some} plain all are) others is =
      let same : some ≡ others = cc is in
      record { plain = plain; all = all; are = subst (AllZip IsAttribute (filter is_plain_attribute clause.attributes)) same are }

  -- ---- names

  named_by : (java its : Bool) → list_any is_java clause.paths ≡ java → list_any is_implicit clause.attributes ≡ its → (others : List Attribute) → Good others → (kind : PackageKind) →
      cond java (Some JavaExport) (cond its (Some ImplicitAttribute) None) ≡ Some kind → IsOnly (SaysExports [] clause) (refuses kind)
  named_by true its e f others is kind found =
      let same : JavaExport ≡ kind = cc found in
      subst (λ k. IsOnly (SaysExports [] clause) (refuses k)) same
      (past_version (refuses JavaExport)
      (past_values clause (after_values clause) (AreExportsOf clause) (refuses JavaExport) is.plain is.all
      (first_only JavaExport (list_any is_java clause.paths ≡ true) (Where ImplicitAttribute (list_any is_implicit clause.attributes ≡ true) ∷ []) (AreExportsOf clause) e)))
  named_by false true e f others is kind found =
      let same : ImplicitAttribute ≡ kind = cc found in
      subst (λ k. IsOnly (SaysExports [] clause) (refuses k)) same
      (past_version (refuses ImplicitAttribute)
      (past_values clause (after_values clause) (AreExportsOf clause) (refuses ImplicitAttribute) is.plain is.all
      (rest_only JavaExport (list_any is_java clause.paths ≡ true) (Where ImplicitAttribute (list_any is_implicit clause.attributes ≡ true) ∷ []) (AreExportsOf clause) (refuses ImplicitAttribute)
      (λ java. false≢true (sym e ∙ java))
      (first_only ImplicitAttribute (list_any is_implicit clause.attributes ≡ true) [] (AreExportsOf clause) f))))
  named_by false false e f others is kind found = absurd (cc found)

  unnamed : (java its : Bool) → list_any is_java clause.paths ≡ java → list_any is_implicit clause.attributes ≡ its → cond java (Some JavaExport) (cond its (Some ImplicitAttribute) None) ≡ None →
      (java ≡ false) × (its ≡ false)
  unnamed true its e f none = absurd (cc none)
  unnamed false true e f none = absurd (cc none)
  unnamed false false e f none = (refl, refl)

  -- ---- the capabilities of a clause

  module _ (others : List Attribute) (is : Good others) (template : Capability) (of : IsOfferOf clause (others ++ version_attribute version ∷ []) template) where
    export_holds : (path : List ℕ) → IsExportOf clause path (record template { name = path })
    export_holds path = record {
      namespace = of.namespace;
      name = refl;
      attributes = record { version = version; others = others; are = of.attributes; reads = version_sound (own_version clause) version known; each = is.are };
      uses = of.uses.holds;
      mandatory = of.mandatory.holds;
    }

    same_attributes : (attributes : List Attribute) → AreExported clause attributes → attributes ≡ template.attributes
    same_attributes attributes are =
        let versions : are.version ≡ version = cc (sym (version_read (own_version clause) are.version are.reads) ∙ known) in
        let all : are.others ≡ others = attributes_one (filter is_plain_attribute clause.attributes) are.others others are.each is.are in
        are.are ∙ (λ i. all i ++ version_attribute (versions i) ∷ []) ∙ sym of.attributes

    export_only : (path : List ℕ) (c : Capability) → IsExportOf clause path c → c ≡ record template { name = path }
    export_only path c exported =
        let spaces : c.namespace ≡ template.namespace = exported.namespace ∙ sym of.namespace in
        let all : c.attributes ≡ template.attributes = same_attributes c.attributes exported.attributes in
        let uses : c.uses ≡ template.uses = of.uses.only c.uses exported.uses in
        let mandatory : c.mandatory ≡ template.mandatory = of.mandatory.only c.mandatory exported.mandatory in
        λ i. record { namespace = spaces i; name = exported.name i; attributes = all i; uses = uses i; mandatory = mandatory i }

    exports_hold : (paths : List (List ℕ)) → AllZip (IsExportOf clause) paths (capabilities_of template paths)
    exports_hold [] = tt
    exports_hold (path ∷ paths) = (export_holds path, exports_hold paths)

    exports_only : (paths : List (List ℕ)) (cs : List Capability) → AllZip (IsExportOf clause) paths cs → cs ≡ capabilities_of template paths
    exports_only [] [] all = refl
    exports_only [] (c ∷ cs) all = absurd all
    exports_only (path ∷ paths) [] all = absurd all
    exports_only (path ∷ paths) (c ∷ cs) all = λ i. export_only path c all.0 i ∷ exports_only paths cs all.1 i

    exports_of : (java its : Bool) → list_any is_java clause.paths ≡ java → list_any is_implicit clause.attributes ≡ its → (java ≡ false) × (its ≡ false) →
        IsOnly (SaysExports [] clause) (answers (capabilities_of template clause.paths))
    exports_of java its e f neither =
        past_version (answers (capabilities_of template clause.paths))
        (past_values clause (after_values clause) (AreExportsOf clause) (answers (capabilities_of template clause.paths)) is.plain is.all
        (rest_only JavaExport (list_any is_java clause.paths ≡ true) (Where ImplicitAttribute (list_any is_implicit clause.attributes ≡ true) ∷ []) (AreExportsOf clause)
        (answers (capabilities_of template clause.paths)) (λ yes_java. false≢true (sym (e ∙ neither.0) ∙ yes_java))
        (rest_only ImplicitAttribute (list_any is_implicit clause.attributes ≡ true) [] (AreExportsOf clause) (answers (capabilities_of template clause.paths))
        (λ yes_its. false≢true (sym (f ∙ neither.1) ∙ yes_its))
        (end_only (AreExportsOf clause) (capabilities_of template clause.paths) (record { holds = exports_hold clause.paths; only = exports_only clause.paths })))))

  -- ---- what is said, by what was computed

  pub said_values : (values : Result (List Attribute) PackageKind) (kind : PackageKind) → values ≡ attributes_of clause → values ≡ Err kind → IsOnly (SaysExports [] clause) (refuses kind)
  said_values values kind computed is = bad_values values (subst (Valued clause) (sym computed) (valued clause)) kind is

  pub said_names : (values : Result (List Attribute) PackageKind) (others : List Attribute) (fault : Option PackageKind) (kind : PackageKind) → values ≡ attributes_of clause → values ≡ Ok others →
      fault ≡ named_fault clause → fault ≡ Some kind → IsOnly (SaysExports [] clause) (refuses kind)
  said_names values others fault kind computed is named found =
      named_by (list_any is_java clause.paths) (list_any is_implicit clause.attributes) refl refl others
      (good_values values (subst (Valued clause) (sym computed) (valued clause)) others is) kind (sym named ∙ found)

  pub said_all : (values : Result (List Attribute) PackageKind) (others : List Attribute) (fault : Option PackageKind) (template : Capability) (attributes : List Attribute) →
      values ≡ attributes_of clause → values ≡ Ok others → fault ≡ named_fault clause → fault ≡ None → attributes ≡ others ++ version_attribute version ∷ [] → IsOfferOf clause attributes template →
      IsOnly (SaysExports [] clause) (answers (capabilities_of template clause.paths))
  said_all values others fault template attributes computed is named found made_of of =
      exports_of others (good_values values (subst (Valued clause) (sym computed) (valued clause)) others is) template (subst (λ l. IsOfferOf clause l template) made_of of)
      (list_any is_java clause.paths) (list_any is_implicit clause.attributes) refl refl
      (unnamed (list_any is_java clause.paths) (list_any is_implicit clause.attributes) refl refl (sym named ∙ found))
