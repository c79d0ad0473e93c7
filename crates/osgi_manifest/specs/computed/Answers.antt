-- What the steps of reading a manifest answer: a fault, and only it; or what is read, and only that. No public promise speaks
-- of this.
use Rattle.std.specs.Prelude.{ℕ, ◌≡◌, ⊤, List, [], None, Option, Some, Ok, Err, Result, MatchOption}
use Rattle.osgi_base.specs.Verdict.{Gives, answers}
use Rattle.osgi_header.specs.declared.clause.Clause.{Clause}
use Rattle.osgi_header.specs.declared.clause.ReadClauses.{ReadClauses}
use Rattle.osgi_header.specs.declared.fault.HeaderFault.{HeaderFault}
use Rattle.osgi_header.specs.declared.header.Header.{Header}
use Rattle.osgi_header.specs.ReadClauses.{AreReadFrom}
use Rattle.osgi_world.specs.declared.manifest_fault.ManifestFault.{ManifestFault}
use Rattle.osgi_world.specs.declared.manifest_fault.ManifestKind.{ManifestKind}
use Rattle.osgi_package.specs.Only.{IsOnly}
use Rattle.osgi_manifest.specs.Manifests.{InValue}
use Rattle.osgi_manifest.specs.Values.{AreClausesIn, header_value}
use Rattle.osgi_clause.specs.declared.fault.ClauseFault.{ClauseFault}
use Rattle.osgi_base.specs.declared.stop.Stop.{Stop}
use Rattle.osgi_base.specs.declared.stop.Stop.TheVariants.{Fault, Memory}
use Rattle.osgi_clause.specs.Walks.{IsTheFirst}

-- they call for none
abbrev pub CallNone : {R : Type 0} → List (R → Type 0) → Type 0
CallNone conditions = Gives conditions (λ (fine : Unit {0}). ⊤) (answers tt)

-- ---- headers

abbrev pub no_clauses : ReadClauses
no_clauses = record { clauses = []; fault = None }

-- what the header of this name says up to its first fault; without the header, nothing
abbrev pub IsReadIn : List ℕ → List Header → ReadClauses → Type 0
IsReadIn name headers read = MatchOption (header_value name headers) (read ≡ no_clauses) (λ value. IsOnly (AreReadFrom value) read)

abbrev pub in_header : List ℕ → ManifestKind → ℕ → ManifestFault
in_header name kind at = record { header = name; kind = kind; at = at }

abbrev pub StopsAt : {A : Type 0} → ManifestFault → Result A (Stop ManifestFault) → Type 0
StopsAt fault (Ok made) = ⊥
StopsAt fault (Err (Fault found)) = found ≡ fault
StopsAt fault (Err Memory) = ⊤

abbrev pub GoesOn : {A : Type 0} → A → Result A (Stop ManifestFault) → Type 0
GoesOn made result = result ≡ Ok made

-- a clause outside the grammar is at fault where no clause before it is
abbrev pub IsStopOf : {A : Type 0} → List ℕ → ManifestKind → Option HeaderFault → Result A ClauseFault → Result A (Stop ManifestFault) → Type 0
IsStopOf name outside fault (Err found) = StopsAt (in_header name found.kind found.at)
IsStopOf name outside (Some fault) (Ok made) = StopsAt (in_header name outside fault.at)
IsStopOf name outside None (Ok made) = GoesOn made

-- what the clauses of a header make
abbrev pub IsMadeIn : {A : Type 0} → (List Clause → A → Type 0) → List Header → List ℕ → A → Type 0
IsMadeIn Makes headers name made = (clauses : List Clause) × AreClausesIn headers name clauses × Makes clauses made

-- what the header of this name makes, or its first fault, which it has only where it has something
abbrev pub AnswersHeader : {A : Type 0} → (List Clause → Clause → List (ManifestKind → Type 0)) → ManifestKind → (List Clause → A → Type 0) → List Header → List ℕ → Result A (Stop ManifestFault) → Type 0
AnswersHeader faults outside Makes headers name (Ok made) = ((found : ManifestFault) → ¬ InValue headers name faults outside found) × IsOnly (IsMadeIn Makes headers name) made
AnswersHeader faults outside Makes headers name (Err (Fault fault)) = IsOnly (InValue headers name faults outside) fault × (¬ AreClausesIn headers name [])
AnswersHeader faults outside Makes headers name (Err Memory) = ⊤

-- ---- steps of reading

-- the first of these conditions that calls for a fault calls for this one, or memory ran out
abbrev pub Stops : List (ManifestFault → Type 0) → Stop ManifestFault → Type 0
Stops conditions (Fault fault) = IsTheFirst conditions fault
Stops conditions Memory = ⊤

-- none of these conditions calls for a fault, and this holds of what was read; or the first one that does
abbrev pub IsStep : {A : Type 0} → List (ManifestFault → Type 0) → (A → Type 0) → Result A (Stop ManifestFault) → Type 0
IsStep conditions Reads (Ok read) = CallNone conditions × Reads read
IsStep conditions Reads (Err stop) = Stops conditions stop
