-- The revision that is made of all that a manifest says is the only one that its headers mean.
use Rattle.std.proofs.Common.{◌≡◌, ℕ, List, [], ◌∷◌, ◌++◌, length, ◌+◌, ap, sym, ◌∙◌, refl, subst}
use Rattle.std.proofs.Math.Bridge.{le_prop}
use Rattle.std.proofs.Math.Path.{to_path_p}
use Rattle.std.specs.Prelude.{◌≤◌, false, codes, is_some, MatchOption, None, Ok, Option, Some}
use Rattle.osgi_base.specs.declared.folder.Folder.{Folder}
use Rattle.osgi_base.specs.Verdict.{Gives, answers}
use Rattle.osgi_header.specs.Clauses.{AreClausesOf}
use Rattle.osgi_header.specs.declared.clause.Clause.{Clause}
use Rattle.osgi_header.specs.declared.header.Header.{Header}
use Rattle.osgi_world.specs.declared.capability.Capability.{Capability}
use Rattle.osgi_world.specs.declared.requirement.Requirement.{Requirement}
use Rattle.osgi_world.specs.declared.revision.Revision.{Revision}
use Rattle.osgi_world.specs.declared.revision.TheConstants.{MAX_MEMBERS}
use Rattle.osgi_version.specs.Versions.{ReadsVersion}
use Rattle.osgi_version.specs.VersionValues.{parts}
use Rattle.osgi_package.specs.Only.{IsOnly}
use Rattle.osgi_manifest.specs.computed.Answers.{CallNone}
use Rattle.osgi_manifest.specs.computed.Lone.{IsHostIn}
use Rattle.osgi_clause.specs.Lone.{IsLone, SaysHost}
use Rattle.osgi_manifest.specs.computed.Readings.{AnswersOnly}
use Rattle.osgi_manifest.specs.computed.Revisions.{IsMadeOf, itself_of, own_of}
use Rattle.osgi_manifest.specs.computed.Steps.{AreMembers, IsSaid}
use Rattle.osgi_manifest.specs.declared.meaning.Meaning.{Meaning}
use Rattle.osgi_manifest.specs.declared.members.Members.{Members}
use Rattle.osgi_manifest.specs.declared.said.Said.{Said}
use Rattle.osgi_clause.specs.declared.naming.Naming.{Naming}
use Rattle.osgi_manifest.specs.Manifests.{AreOwn, HasCapabilities, HasHost, HasRequirements, IsRevisionOf, IsScriptOf, activator, manifest_faults, own_version, IsOwn}
use Rattle.osgi_manifest.specs.Values.{header_value}
use Rattle.osgi_manifest.proofs.Identities.{hosted_holds, named_holds, named_only}
use Rattle.osgi_manifest.proofs.Stages.{answers_only}

-- ---- equal revisions

-- what is said of all fields of a revision
pub same_revision : (a b : Revision) → a.name ≡ b.name → a.version ≡ b.version → a.singleton ≡ b.singleton → a.attach ≡ b.attach → a.host ≡ b.host → a.activator ≡ b.activator →
    a.capabilities ≡ b.capabilities → a.requirements ≡ b.requirements → a.dynamics ≡ b.dynamics → a.lazy ≡ b.lazy → a.files ≡ b.files → a ≡ b
same_revision a b name version singleton attach host activator capabilities requirements dynamics lazy files = λ i. record {
  name = name i;
  version = version i;
  singleton = singleton i;
  attach = attach i;
  host = host i;
  activator = activator i;
  capabilities = capabilities i;
  requirements = requirements i;
  dynamics = dynamics i;
  lazy = lazy i;
  files = files i;
  capabilities_fit = to_path_p (λ j. length (capabilities j) ≤ MAX_MEMBERS) {a = a.capabilities_fit} {b = b.capabilities_fit} (le_prop _ _) i;
  requirements_fit = to_path_p (λ j. length (requirements j) + length (dynamics j) ≤ MAX_MEMBERS) {a = a.requirements_fit} {b = b.requirements_fit} (le_prop _ _) i;
}

-- ---- what a bundle offers itself

own_is : (name : List ℕ) (own : Capability) → IsOwn name own → own ≡ own_of name
own_is name own is = λ i. record { namespace = is.namespace i; name = is.name i; attributes = is.no_attributes i; uses = is.no_uses i; mandatory = is.no_mandatory i }

own_holds : (host : Option Requirement) (name : List ℕ) → AreOwn host name (itself_of (is_some host) name)
own_holds None name = (own_of name, record { namespace = refl; name = refl; no_attributes = refl; no_uses = refl; no_mandatory = refl }, refl)
own_holds (Some host) name = refl

own_one : (host : Option Requirement) (name : List ℕ) (own : List Capability) → AreOwn host name own → own ≡ itself_of (is_some host) name
own_one None name own are = are.2 ∙ ap (λ c. c ∷ []) (own_is name are.0 are.1)
own_one (Some host) name own are = are

-- ---- the host

unhosted : (value : Option (List ℕ)) → false ≡ is_some value → HasHost value None
unhosted None e = refl
unhosted (Some text) e = absurd (cc e)

host_holds : (headers : List Header) (host : Option Requirement) → IsHostIn headers host → HasHost (header_value (codes "Fragment-Host") headers) host
host_holds headers None is = unhosted (header_value (codes "Fragment-Host") headers) is.1
host_holds headers (Some host) is =
    let has = is.0.holds in
    hosted_holds (header_value (codes "Fragment-Host") headers) host has.0 has.1 has.2

host_made : (host : Option Requirement) (value : Option (List ℕ)) → HasHost value host →
    (clauses : List Clause) × MatchOption value (clauses ≡ []) (λ text. AreClausesOf text clauses) × IsLone SaysHost clauses host
host_made host None none = ([], refl, subst (IsLone SaysHost []) (sym none) refl)
host_made host (Some text) hosted =
    (hosted.clause ∷ [], hosted.one, subst (IsLone SaysHost (hosted.clause ∷ [])) (sym hosted.host_is) (hosted.clause, refl, (hosted.path, hosted.one_path, hosted.is)))

host_one : (headers : List Header) (host other : Option Requirement) → IsHostIn headers host → HasHost (header_value (codes "Fragment-Host") headers) other → other ≡ host
host_one headers host other is has = is.0.only other (host_made other (header_value (codes "Fragment-Host") headers) has)

-- ---- capabilities and requirements

module _ (headers : List Header) (members : Members) (are : AreMembers headers members) (revision : Revision) where
  module _ (host : Option Requirement) (name : List ℕ) (hosted : revision.host ≡ host) (named : revision.name ≡ name) where
    offers : revision.capabilities ≡ itself_of (is_some host) name ++ (members.exports ++ members.provided) → HasCapabilities headers revision
    offers all =
        let exports = are.exports.holds in
        let provided = are.provided.holds in
        record {
          export_clauses = exports.0;
          provided_clauses = provided.0;
          own = itself_of (is_some host) name;
          exports = members.exports;
          provided = members.provided;
          in_exports = exports.1;
          in_provided = provided.1;
          are_own = subst (λ h. AreOwn h revision.name (itself_of (is_some host) name)) (sym hosted)
              (subst (λ n. AreOwn host n (itself_of (is_some host) name)) (sym named) (own_holds host name));
          are_exports = exports.2;
          are_provided = provided.2;
          are = all;
        }

    offers_only : HasCapabilities headers revision → revision.capabilities ≡ itself_of (is_some host) name ++ (members.exports ++ members.provided)
    offers_only has =
        let own : has.own ≡ itself_of (is_some host) name
        = own_one host name has.own
        (subst (λ n. AreOwn host n has.own) named (subst (λ h. AreOwn h revision.name has.own) hosted has.are_own)) in
        let exports : has.exports ≡ members.exports = are.exports.only has.exports (has.export_clauses, has.in_exports, has.are_exports) in
        let provided : has.provided ≡ members.provided = are.provided.only has.provided (has.provided_clauses, has.in_provided, has.are_provided) in
        has.are ∙ (λ i. own i ++ (exports i ++ provided i))

  asks : revision.requirements ≡ members.bundles ++ (members.imports ++ members.required) → HasRequirements headers revision
  asks all =
      let bundles = are.bundles.holds in
      let imports = are.imports.holds in
      let required = are.required.holds in
      record {
        bundle_clauses = bundles.0;
        import_clauses = imports.0;
        required_clauses = required.0;
        bundles = members.bundles;
        imports = members.imports;
        required = members.required;
        in_bundles = bundles.1;
        in_imports = imports.1;
        in_required = required.1;
        are_bundles = bundles.2;
        are_imports = imports.2;
        are_required = required.2;
        are = all;
      }

  asks_only : HasRequirements headers revision → revision.requirements ≡ members.bundles ++ (members.imports ++ members.required)
  asks_only has =
      let bundles : has.bundles ≡ members.bundles = are.bundles.only has.bundles (has.bundle_clauses, has.in_bundles, has.are_bundles) in
      let imports : has.imports ≡ members.imports = are.imports.only has.imports (has.import_clauses, has.in_imports, has.are_imports) in
      let required : has.required ≡ members.required = are.required.only has.required (has.required_clauses, has.in_required, has.are_required) in
      has.are ∙ (λ i. bundles i ++ (imports i ++ required i))

-- ---- the revision

module _ (folder : Folder) (headers : List Header) (said : Said) (is_said : IsSaid folder headers said) (revision : Revision) (made : IsMadeOf folder said revision) where
  revision_holds : IsRevisionOf folder headers revision
  revision_holds = record {
    named = named_holds headers said.naming revision is_said.naming.holds made.name made.singleton made.attach;
    version = subst (λ v. ReadsVersion (own_version headers) (parts v)) (sym made.version) is_said.version.holds;
    host = subst (HasHost (header_value (codes "Fragment-Host") headers)) (sym made.host) (host_holds headers said.host is_said.host);
    activator_is = made.activator ∙ is_said.activator.0;
    capabilities = offers headers said.members is_said.members revision said.host said.naming.name made.host made.name made.capabilities;
    requirements = asks headers said.members is_said.members revision made.requirements;
    no_dynamics = made.dynamics;
    not_lazy = made.lazy;
    files = made.files;
  }

  revision_one : (other : Revision) → IsRevisionOf folder headers other → other ≡ revision
  revision_one other is =
      let naming : record { name = other.name; singleton = other.singleton; attach = other.attach } ≡ said.naming
      = is_said.naming.only (record { name = other.name; singleton = other.singleton; attach = other.attach }) (named_only headers other is.named) in
      let name : other.name ≡ said.naming.name = ap (λ (n : Naming). n.name) naming in
      let host : other.host ≡ said.host = host_one headers said.host other.host is_said.host is.host in
      same_revision other revision (name ∙ sym made.name) (is_said.version.only other.version is.version ∙ sym made.version) (ap (λ (n : Naming). n.singleton) naming ∙ sym made.singleton)
      (ap (λ (n : Naming). n.attach) naming ∙ sym made.attach) (host ∙ sym made.host) (is.activator_is ∙ sym is_said.activator.0 ∙ sym made.activator)
      (offers_only headers said.members is_said.members other said.host said.naming.name host name is.capabilities ∙ sym made.capabilities)
      (asks_only headers said.members is_said.members other is.requirements ∙ sym made.requirements) (is.no_dynamics ∙ sym made.dynamics) (is.not_lazy ∙ sym made.lazy)
      (is.files ∙ sym made.files)

  -- the headers mean this revision, and no other
  pub revision_only : IsOnly (IsRevisionOf folder headers) revision
  revision_only = record { holds = revision_holds; only = revision_one }

  -- that is what the folder and the headers say, where none of the conditions calls for a fault
  pub revision_answers : CallNone (manifest_faults folder headers) → IsOnly (Gives (manifest_faults folder headers) (IsRevisionOf folder headers)) (answers revision)
  revision_answers uncalled = answers_only (manifest_faults folder headers) (IsRevisionOf folder headers) revision uncalled revision_only

-- and so with its script
pub meaning_answers : (folder : Folder) (headers : List Header) (said : Said) → IsSaid folder headers said → (meaning : Meaning) → IsMadeOf folder said meaning.revision →
    meaning.script ≡ said.script → CallNone (manifest_faults folder headers) → AnswersOnly folder (Gives (manifest_faults folder headers) (IsRevisionOf folder headers)) (Ok meaning)
meaning_answers folder headers said is_said meaning made script uncalled = (
  revision_answers folder headers said is_said meaning.revision made uncalled,
  subst (λ class. IsOnly (IsScriptOf folder class) meaning.script) (sym (made.activator ∙ is_said.activator.0))
      (subst (IsOnly (IsScriptOf folder (activator headers))) (sym script) is_said.activator.1),
)
