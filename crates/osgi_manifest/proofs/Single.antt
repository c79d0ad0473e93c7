-- What the headers of one clause say, or their first fault.
use Rattle.std.proofs.Common.{◌≡◌, ◌≢◌, ℕ, List, [], ◌∷◌, ap, sym, ◌∙◌, refl, subst, inl, inr}
use Rattle.std.specs.Prelude.{⊤, Bool, true, false, codes, is_some, IsSomeAnd, MatchBool, MatchOption, MatchResult, None, Some, Option, Result, Ok, Err}
use Rattle.std.specs.Borrow.{Bor}
use Rattle.std.specs.Option.{option_copied}
use Rattle.std.specs.Result.{IsOkAnd}
use Rattle.osgi_base.specs.declared.folder.Folder.{Folder}
use Rattle.osgi_base.specs.Verdict.{refuses}
use Rattle.osgi_version.specs.declared.fault.VersionFault.{VersionFault}
use Rattle.osgi_version.specs.declared.version.Version.{Version}
use Rattle.osgi_version.specs.Versions.{IsReadableVersion, Parts, ReadsVersion}
use Rattle.osgi_version.specs.VersionValues.{parts}
use Rattle.osgi_header.specs.declared.clause.Clause.{Clause}
use Rattle.osgi_header.specs.declared.header.Header.{Header}
use Rattle.osgi_world.specs.declared.manifest_fault.ManifestFault.{ManifestFault}
use Rattle.osgi_world.specs.declared.manifest_fault.ManifestKind.{ManifestKind}
use Rattle.osgi_world.specs.declared.manifest_fault.ManifestKind.TheVariants as fault
use Rattle.osgi_world.specs.declared.requirement.Requirement.{Requirement}
use Rattle.osgi_base.specs.declared.folder.File.{File}
use Rattle.osgi_script.specs.Scripts.{IsScript, IsScriptFault, ReadsScript}
use Rattle.osgi_script.specs.declared.script.ScriptFault.{ScriptFault}
use Rattle.osgi_session.specs.declared.script.Script.{Script}
use Rattle.osgi_package.specs.Only.{IsOnly}
use Rattle.osgi_manifest.specs.computed.Answers.{CallNone, IsMadeIn, in_header}
use Rattle.osgi_clause.specs.Walks.{IsTheFirst}
use Rattle.osgi_manifest.specs.computed.Lone.{IsHostIn, IsNamedAs, host_conditions, name_conditions}
use Rattle.osgi_clause.specs.Lone.{IsLone, SaysHost, SaysNaming}
use Rattle.osgi_clause.specs.declared.naming.Naming.{Naming}
use Rattle.osgi_manifest.specs.Manifests.{AtStart, InHeader, InValue, IsEmptyHeader, IsScriptOf, activator, class_file, file_at, has_host}
use Rattle.osgi_clause.specs.Faults.{host_faults, name_faults}
use Rattle.osgi_manifest.specs.Values.{AreClausesIn, header_value}
use Rattle.osgi_manifest.specs.computed.Steps.{IsActivator, IsClassScript, activator_conditions}
use Rattle.osgi_clause.specs.laws.FirstFaults.{called_only, uncalled_only}

-- ---- faults of headers as a whole

pub at_start_only : (name : List ℕ) (kind : ManifestKind) (fact : Type 0) → fact → IsOnly (InHeader name (AtStart kind fact)) (in_header name kind 0)
at_start_only name kind fact holds = record { holds = (refl, (refl, refl, holds)); only = only }
  where
    only : (other : ManifestFault) → InHeader name (AtStart kind fact) other → other ≡ in_header name kind 0
    only other called = λ i. record { header = called.0 i; kind = called.1.0 i; at = called.1.1 i }

pub start_first : (name : List ℕ) (kind : ManifestKind) (fact : Type 0) (rest : List (ManifestFault → Type 0)) → fact →
    IsTheFirst (InHeader name (AtStart kind fact) ∷ rest) (in_header name kind 0)
start_first name kind fact rest holds =
    called_only (InHeader name (AtStart kind fact)) rest (λ (fine : Unit {0}). ⊤) (in_header name kind 0) (at_start_only name kind fact holds)

pub start_none : (name : List ℕ) (kind : ManifestKind) (fact : Type 0) (rest : List (ManifestFault → Type 0)) → ¬ fact → CallNone rest →
    CallNone (InHeader name (AtStart kind fact) ∷ rest)
start_none name kind fact rest fails uncalled = inr ((λ found called. fails called.1.2), uncalled)

pub starts : (name : List ℕ) (kind : ManifestKind) (fact : Type 0) (rest : List (ManifestFault → Type 0)) (found : ManifestFault) → found ≡ in_header name kind 0 → fact →
    IsTheFirst (InHeader name (AtStart kind fact) ∷ rest) found
starts name kind fact rest found is holds = subst (IsTheFirst (InHeader name (AtStart kind fact) ∷ rest)) (sym is) (start_first name kind fact rest holds)

-- ---- options

pub some_value : {T : Type 0} (o : Option (Bor T)) (x : Bor T) (v : Option T) → o ≡ Some x → option_copied o ≡ v → v ≢ None
some_value o x v e is none = cc (sym (ap option_copied e) ∙ is ∙ none)

pub other_told : (A B : Type 0) (b : Bool) → b ≡ false → MatchBool b A B → B
other_told A B true e is = absurd (cc e)
other_told A B false e is = is

pub unread : (text given : List ℕ) (r : Result Version VersionFault) (e : VersionFault) → given ≡ text → r ≡ Err e →
    ((v : Parts) → ReadsVersion given v → IsOkAnd r (λ w. parts w ≡ v)) → ¬ IsReadableVersion text
unread text given r e is failed only readable =
    subst (λ (a : Result Version VersionFault). IsOkAnd a (λ w. parts w ≡ readable.0)) failed (only readable.0 (subst (λ t. ReadsVersion t readable.0) (sym is) readable.1))

-- ---- the activator

none_not : {A : Type 0} (P : A → Type 0) (o : Option A) → o ≡ None → ¬ IsSomeAnd o P
none_not P None e is = is
none_not P (Some x) e is = absurd (cc e)

not_missing : {A : Type 0} (P : A → Type 0) (o : Option A) → IsSomeAnd o P → o ≢ None
not_missing P None is e = is
not_missing P (Some x) is e = cc e

not_read : (o : Option File) (script : Script) → IsSomeAnd o (λ (f : File). ReadsScript f.bytes script) → ¬ IsSomeAnd o (λ (f : File). ¬ IsScript f.bytes)
not_read None script is bad = is
not_read (Some file) script is bad = bad (script, is)

-- the script without sections is the only one of no class
no_sections_only : (folder : Folder) (script : Script) → script.sections ≡ [] → IsOnly (IsScriptOf folder None) script
no_sections_only folder script empty = record { holds = empty; only = only }
  where
    only : (other : Script) → IsScriptOf folder None other → other ≡ script
    only other is = λ i. record { sections = (is ∙ sym empty) i }

-- what the file of a class is by its reading
module _ (folder : Folder) (class path text : List ℕ) (file : File) (r : Result Script ScriptFault) (path_is : path ≡ class_file class) (there : Some file ≡ file_at path folder) (text_is : text ≡ file.bytes)
    (only : (other : Script) → ReadsScript text other → r ≡ Ok other) where
  found_at : file_at (class_file class) folder ≡ Some file
  found_at = ap (λ p. file_at p folder) (sym path_is) ∙ sym there

  read_as : (other : Script) → ReadsScript file.bytes other → r ≡ Ok other
  read_as other is = only other (subst (λ t. ReadsScript t other) (sym text_is) is)

  same_script : (a b : Script) → ◌≡◌ {A = Result Script ScriptFault} (Ok a) (Ok b) → a ≡ b
  same_script a b e = cc e

  pub script_read : (script : Script) → r ≡ Ok script → MatchResult r (ReadsScript text) (IsScriptFault text) → IsClassScript folder class (Ok script)
  script_read script e reads = record {
    holds = subst (λ o. IsSomeAnd o (λ (f : File). ReadsScript f.bytes script)) (sym found_at)
        (subst (λ t. ReadsScript t script) text_is (subst (λ q. MatchResult q (ReadsScript text) (IsScriptFault text)) e reads));
    only = λ other is.
        same_script other script (sym (read_as other (subst (λ o. IsSomeAnd o (λ (f : File). ReadsScript f.bytes other)) found_at is)) ∙ e);
  }

  pub no_script : (found : ScriptFault) → r ≡ Err found → IsClassScript folder class (Err fault.BadScript)
  no_script found e =
      inr (refl, subst (λ o. IsSomeAnd o (λ (f : File). ¬ IsScript f.bytes)) (sym found_at) (λ is. let same = sym e ∙ read_as is.0 is.1 in absurd (cc same)))

module _ (folder : Folder) (headers : List Header) where
  abbrev IsMissing : Type 0
  IsMissing = IsSomeAnd (activator headers) (λ class. file_at (class_file class) folder ≡ None)

  abbrev IsBad : Type 0
  IsBad = IsSomeAnd (activator headers) (λ class. IsSomeAnd (file_at (class_file class) folder) (λ file. ¬ IsScript file.bytes))

  abbrev bad_condition : List (ManifestFault → Type 0)
  bad_condition = InHeader (codes "Bundle-Activator") (AtStart fault.BadScript IsBad) ∷ []

  pub no_activator : (class : Option (List ℕ)) → class ≡ None → class ≡ activator headers → CallNone (activator_conditions folder headers)
  no_activator class none is =
      start_none (codes "Bundle-Activator") fault.NoScript IsMissing bad_condition (none_not _ (activator headers) (sym is ∙ none))
      (start_none (codes "Bundle-Activator") fault.BadScript IsBad [] (none_not _ (activator headers) (sym is ∙ none)) tt)

  one_class : (P : List ℕ → Type 0) (class : List ℕ) → activator headers ≡ Some class → IsSomeAnd (activator headers) P → P class
  one_class P class e is = subst (λ o. IsSomeAnd o P) e is

  class_by : (kind : ManifestKind) (class : List ℕ) (found : ManifestFault) → activator headers ≡ Some class → found ≡ in_header (codes "Bundle-Activator") kind 0 →
      IsClassScript folder class (Err kind) → IsTheFirst (activator_conditions folder headers) found
  class_by kind class found e is (inl (named, missing)) =
      starts (codes "Bundle-Activator") fault.NoScript IsMissing bad_condition found (is ∙ ap (λ k. in_header (codes "Bundle-Activator") k 0) named)
      (subst (λ o. IsSomeAnd o (λ c. file_at (class_file c) folder ≡ None)) (sym e) missing)
  class_by kind class found e is (inr (named, bad)) =
      let same : found ≡ in_header (codes "Bundle-Activator") fault.BadScript 0 = is ∙ ap (λ k. in_header (codes "Bundle-Activator") k 0) named in
      uncalled_only (InHeader (codes "Bundle-Activator") (AtStart fault.NoScript IsMissing)) bad_condition (λ (fine : Unit {0}). ⊤) (refuses found)
      (λ other called.
      not_missing _ (file_at (class_file class) folder) bad (one_class (λ c. file_at (class_file c) folder ≡ None) class e called.1.2))
      (starts (codes "Bundle-Activator") fault.BadScript IsBad [] found same
      (subst (λ o. IsSomeAnd o (λ c. IsSomeAnd (file_at (class_file c) folder) (λ file. ¬ IsScript file.bytes))) (sym e) bad))

  pub class_first : (result : Option (Bor (List ℕ))) (class : Bor (List ℕ)) (given : List ℕ) (kind : ManifestKind) (read : Result Script ManifestKind) (found : ManifestFault) → result ≡ Some class →
      option_copied result ≡ activator headers → given ≡ class.now → read ≡ Err kind → IsClassScript folder given read → found ≡ in_header (codes "Bundle-Activator") kind 0 →
      IsTheFirst (activator_conditions folder headers) found
  class_first result class given kind read found e is same says fault_is found_is =
      class_by kind class.now found (sym is ∙ ap option_copied e) found_is
      (subst (λ t. IsClassScript folder t (Err kind)) same (subst (IsClassScript folder given) says fault_is))

  -- a class whose file is a script is not at fault
  class_fine : (class : List ℕ) (script : Script) → activator headers ≡ Some class → IsScriptOf folder (Some class) script → CallNone (activator_conditions folder headers)
  class_fine class script e is =
      start_none (codes "Bundle-Activator") fault.NoScript IsMissing bad_condition
      (λ missing. not_missing _ (file_at (class_file class) folder) is (one_class (λ c. file_at (class_file c) folder ≡ None) class e missing))
      (start_none (codes "Bundle-Activator") fault.BadScript IsBad []
      (λ bad. not_read (file_at (class_file class) folder) script is (one_class (λ c. IsSomeAnd (file_at (class_file c) folder) (λ file. ¬ IsScript file.bytes)) class e bad)) tt)

  pub class_said : (result : Option (Bor (List ℕ))) (class : Bor (List ℕ)) (given copy : List ℕ) (read : Result Script ManifestKind) (script : Script) → result ≡ Some class →
      option_copied result ≡ activator headers → given ≡ class.now → copy ≡ class.now → read ≡ Ok script → IsClassScript folder given read →
      CallNone (activator_conditions folder headers) × IsActivator folder headers (Some copy, script)
  class_said result class given copy read script e is same copied says read_is =
      let named : activator headers ≡ Some class.now = sym is ∙ ap option_copied e in
      let one : IsOnly (IsScriptOf folder (Some class.now)) script
      = subst (λ t. IsOnly (IsScriptOf folder (Some t)) script) same (subst (IsClassScript folder given) says read_is) in (
        class_fine class.now script named one.holds,
        (ap Some copied ∙ sym named, subst (λ o. IsOnly (IsScriptOf folder o) script) (sym named) one),
      )

  -- without an activator there is no section
  pub none_said : (class : Option (List ℕ)) (script : Script) → class ≡ None → class ≡ activator headers → script.sections ≡ [] →
      CallNone (activator_conditions folder headers) × IsActivator folder headers (None, script)
  none_said class script none is empty = (
    no_activator class none is,
    (sym none ∙ is, subst (λ o. IsOnly (IsScriptOf folder o) script) (sym none ∙ is) (no_sections_only folder script empty)),
  )

-- ---- options with and without a value

is_matched : {A : Type 0} (P : A → Type 0) (Q : Type 0) (o : Option A) → IsSomeAnd o P → MatchOption o Q P
is_matched P Q None is = absurd is
is_matched P Q (Some x) is = is

is_there : {A : Type 0} (P : A → Type 0) (Q : Type 0) (o : Option A) → is_some o ≡ true → MatchOption o Q P → IsSomeAnd o P
is_there P Q None there is = absurd (cc there)
is_there P Q (Some x) there is = is

is_absent : {A : Type 0} (P : A → Type 0) (o : Option A) → is_some o ≡ false → ¬ IsSomeAnd o P
is_absent P None none is = is
is_absent P (Some x) none is = absurd (cc none)

some_there : {A : Type 0} (P : A → Type 0) (Q : Type 0) (o : Option A) → ¬ Q → MatchOption o Q P → is_some o ≡ true
some_there P Q None fails is = absurd (fails is)
some_there P Q (Some x) fails is = refl

-- ---- the name

pub name_said : (headers : List Header) (made : Option Naming) (naming : Naming) → made ≡ Some naming →
    ((found : ManifestFault) → ¬ InValue headers (codes "Bundle-SymbolicName") name_faults fault.BadName found) →
    IsOnly (IsMadeIn (IsLone SaysNaming) headers (codes "Bundle-SymbolicName")) made → CallNone (name_conditions headers) × IsOnly (IsNamedAs headers) naming
name_said headers made naming e uncalled is = (
  start_none (codes "Bundle-SymbolicName") fault.NoName (AreClausesIn headers (codes "Bundle-SymbolicName") []) (InValue headers (codes "Bundle-SymbolicName") name_faults fault.BadName ∷ [])
      (λ are. none_some (is.only None ([], are, refl) ∙ e)) (inr (uncalled, tt)),
  record {
    holds = subst (IsMadeIn (IsLone SaysNaming) headers (codes "Bundle-SymbolicName")) e is.holds;
    only = λ other has. same_some other naming (is.only (Some other) has ∙ e);
  },
)
  where
    none_some : ◌≡◌ {A = Option Naming} None (Some naming) → ⊥
    none_some e = cc e

    same_some : (a b : Naming) → ◌≡◌ {A = Option Naming} (Some a) (Some b) → a ≡ b
    same_some a b e = cc e

pub name_missing : (headers : List Header) (made : Option Naming) (found : ManifestFault) → made ≡ None → IsOnly (IsMadeIn (IsLone SaysNaming) headers (codes "Bundle-SymbolicName")) made →
    found ≡ in_header (codes "Bundle-SymbolicName") fault.NoName 0 → IsTheFirst (name_conditions headers) found
name_missing headers made found e is same =
    let has = subst (IsMadeIn (IsLone SaysNaming) headers (codes "Bundle-SymbolicName")) e is.holds in
    subst (IsTheFirst (name_conditions headers)) (sym same)
    (start_first (codes "Bundle-SymbolicName") fault.NoName (AreClausesIn headers (codes "Bundle-SymbolicName") []) (InValue headers (codes "Bundle-SymbolicName") name_faults fault.BadName ∷ [])
    (subst (AreClausesIn headers (codes "Bundle-SymbolicName")) has.2 has.1))

-- ---- the host

module _ (headers : List Header) (made : Option Requirement) (is : IsOnly (IsMadeIn (IsLone SaysHost) headers (codes "Fragment-Host")) made) where
  empty_in : IsEmptyHeader headers (codes "Fragment-Host") → AreClausesIn headers (codes "Fragment-Host") []
  empty_in = is_matched _ _ (header_value (codes "Fragment-Host") headers)

  none_some : (host : Requirement) → ◌≡◌ {A = Option Requirement} None (Some host) → ⊥
  none_some host e = cc e

  one_none : (clause : Clause) → ◌≡◌ {A = List Clause} [] (clause ∷ []) → ⊥
  one_none clause e = cc e

  pub host_said : (host : Requirement) → made ≡ Some host → ((found : ManifestFault) → ¬ InValue headers (codes "Fragment-Host") host_faults fault.BadClause found) →
      CallNone (host_conditions headers) × IsHostIn headers (Some host)
  host_said host e uncalled =
      let has = subst (IsMadeIn (IsLone SaysHost) headers (codes "Fragment-Host")) e is.holds in (
        start_none (codes "Fragment-Host") fault.BadClause (IsEmptyHeader headers (codes "Fragment-Host")) (InValue headers (codes "Fragment-Host") host_faults fault.BadClause ∷ []) (λ empty. none_some host (is.only None ([], empty_in empty, refl) ∙ e))
            (inr (uncalled, tt)),
        (
          subst (IsOnly (IsMadeIn (IsLone SaysHost) headers (codes "Fragment-Host"))) e is,
          sym (some_there _ (has.0 ≡ []) (header_value (codes "Fragment-Host") headers) (λ none. one_none has.2.0 (sym none ∙ has.2.1)) has.1),
        ),
      )

  pub host_empty : (found : ManifestFault) → made ≡ None → has_host headers ≡ true → found ≡ in_header (codes "Fragment-Host") fault.BadClause 0 → IsTheFirst (host_conditions headers) found
  host_empty found e there same =
      let has = subst (IsMadeIn (IsLone SaysHost) headers (codes "Fragment-Host")) e is.holds in
      subst (IsTheFirst (host_conditions headers)) (sym same)
      (start_first (codes "Fragment-Host") fault.BadClause (IsEmptyHeader headers (codes "Fragment-Host")) (InValue headers (codes "Fragment-Host") host_faults fault.BadClause ∷ [])
      (is_there _ _ (header_value (codes "Fragment-Host") headers) there (subst (AreClausesIn headers (codes "Fragment-Host")) has.2 has.1)))

  pub no_host : made ≡ None → has_host headers ≡ false → ((found : ManifestFault) → ¬ InValue headers (codes "Fragment-Host") host_faults fault.BadClause found) →
      CallNone (host_conditions headers) × IsHostIn headers None
  no_host e none uncalled = (
    start_none (codes "Fragment-Host") fault.BadClause (IsEmptyHeader headers (codes "Fragment-Host")) (InValue headers (codes "Fragment-Host") host_faults fault.BadClause ∷ []) (is_absent _ (header_value (codes "Fragment-Host") headers) none)
        (inr (uncalled, tt)),
    (subst (IsOnly (IsMadeIn (IsLone SaysHost) headers (codes "Fragment-Host"))) e is, sym none),
  )
