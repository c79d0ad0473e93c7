-- What reading a folder answers. No public promise speaks of this.
use Rattle.std.specs.Prelude.{ℕ, ◌≡◌, ⊤, List, [], Ok, Err, Result}
use Rattle.osgi_base.specs.declared.folder.Folder.{Folder}
use Rattle.osgi_base.specs.Verdict.{Gives, Verdict, answers, refuses}
use Rattle.osgi_header.specs.declared.fault.HeaderFault.{HeaderFault}
use Rattle.osgi_header.specs.declared.header.Header.{Header}
use Rattle.osgi_header.specs.Headers.{AreHeadersOf, IsHeaderFault}
use Rattle.osgi_package.specs.Only.{IsOnly}
use Rattle.osgi_manifest.specs.computed.Answers.{in_header}
use Rattle.osgi_base.specs.declared.stop.Stop.{Stop}
use Rattle.osgi_base.specs.declared.stop.Stop.TheVariants.{Fault, Memory}
use Rattle.osgi_manifest.specs.Manifests.{IsRevisionOf, IsScriptOf, manifest_faults}
use Rattle.osgi_manifest.specs.declared.meaning.Meaning.{Meaning}
use Rattle.osgi_world.specs.declared.manifest_fault.ManifestFault.{ManifestFault}
use Rattle.osgi_world.specs.declared.manifest_fault.ManifestKind.{ManifestKind}
use Rattle.osgi_world.specs.declared.manifest_fault.ManifestKind.TheVariants as fault
use Rattle.osgi_world.specs.declared.revision.Revision.{Revision}

-- the one verdict that is said, with the one script of a revision, or memory ran out
abbrev pub AnswersOnly : Folder → (Verdict ManifestFault Revision → Type 0) → Result Meaning (Stop ManifestFault) → Type 0
AnswersOnly folder Says (Ok meaning) = IsOnly Says (answers meaning.revision) × IsOnly (IsScriptOf folder meaning.revision.activator) meaning.script
AnswersOnly folder Says (Err (Fault found)) = IsOnly Says (refuses found)
AnswersOnly folder Says (Err Memory) = ⊤

-- a fault of no header
abbrev pub IsStopAt : ManifestKind → ℕ → Stop ManifestFault → Type 0
IsStopAt kind at (Fault found) = found ≡ in_header [] kind at
IsStopAt kind at Memory = ⊤

-- what a manifest's text says: the fault of a line, or what its headers say
pub data SaysText (folder : Folder) (text : List ℕ) : Verdict ManifestFault Revision → Type 0 where
  line : {found : HeaderFault} → IsHeaderFault text found → SaysText folder text (refuses (in_header [] fault.Header found.at))
  said : {headers : List Header} {verdict : Verdict ManifestFault Revision} → AreHeadersOf text headers →
      Gives (manifest_faults folder headers) (IsRevisionOf folder headers) verdict → SaysText folder text verdict
