-- What a folder says, in the case that its file and the lines of that decide.
use Rattle.std.proofs.Common.{◌≡◌, ℕ, List, [], ap, sym, subst, ◌∙◌, refl}
use Rattle.std.specs.Prelude.{None, Some, Result, Ok, Err, MatchResult}
use Rattle.std.specs.Result.{IsErrAnd}
use Rattle.osgi_base.specs.declared.folder.File.{File}
use Rattle.osgi_base.specs.declared.folder.Folder.{Folder}
use Rattle.osgi_base.specs.Verdict.{Gives, Verdict, answers, refuses}
use Rattle.osgi_header.specs.declared.fault.HeaderFault.{HeaderFault}
use Rattle.osgi_header.specs.declared.header.Header.{Header}
use Rattle.osgi_header.specs.Headers.{AreHeadersOf, IsHeaderFault}
use Rattle.osgi_package.specs.Only.{IsOnly}
use Rattle.osgi_manifest.specs.computed.Answers.{Stops, in_header}
use Rattle.osgi_manifest.specs.computed.Readings.{AnswersOnly, IsStopAt, SaysText, line, said}
use Rattle.osgi_base.specs.declared.stop.Stop.{Stop}
use Rattle.osgi_base.specs.declared.stop.Stop.TheVariants.{Fault, Memory}
use Rattle.osgi_manifest.specs.Manifests.{IsManifestFault, IsMeaning, IsRevisionOf, IsScriptOf, SaysManifest, file_at, headers, lines, manifest_faults, manifest_path, missing}
use Rattle.osgi_manifest.specs.declared.meaning.Meaning.{Meaning}
use Rattle.osgi_manifest.proofs.Stages.{refuses_only}
use Rattle.osgi_world.specs.declared.manifest_fault.ManifestFault.{ManifestFault}
use Rattle.osgi_world.specs.declared.manifest_fault.ManifestKind.{ManifestKind}
use Rattle.osgi_world.specs.declared.manifest_fault.ManifestKind.TheVariants as fault
use Rattle.osgi_world.specs.declared.revision.Revision.{Revision}

-- a stop at a fault that is the only one
pub stops : (folder : Folder) (Says : Verdict ManifestFault Revision → Type 0) (kind : ManifestKind) (at : ℕ) (stop : Stop ManifestFault) → IsStopAt kind at stop → IsOnly Says (refuses (in_header [] kind at)) →
    AnswersOnly folder Says (Err stop)
stops folder Says kind at (Fault found) is only = subst (λ f. IsOnly Says (refuses f)) (sym is) only
stops folder Says kind at Memory is only = tt

-- ---- the manifest's text

-- a line that is no header is the only fault
pub line_only : (folder : Folder) (text : List ℕ) (found : HeaderFault) → IsHeaderFault text found → ((other : HeaderFault) → IsHeaderFault text other → other ≡ found) →
    ((hs : List Header) → ¬ AreHeadersOf text hs) → IsOnly (SaysText folder text) (refuses (in_header [] fault.Header found.at))
line_only folder text found is one none = record { holds = line is; only = only }
  where
    only : (v : Verdict ManifestFault Revision) → SaysText folder text v → v ≡ refuses (in_header [] fault.Header found.at)
    only _ (line {found = other} bad) = ap (λ (f : HeaderFault). refuses (in_header [] fault.Header f.at)) (one other bad)
    only v (said {headers = hs} are given) = absurd (none hs are)

-- where all lines are headers, what these say is the only verdict
pub said_only : (folder : Folder) (text : List ℕ) (hs : List Header) → AreHeadersOf text hs → ((others : List Header) → AreHeadersOf text others → others ≡ hs) →
    ((f : HeaderFault) → ¬ IsHeaderFault text f) → (v : Verdict ManifestFault Revision) → IsOnly (Gives (manifest_faults folder hs) (IsRevisionOf folder hs)) v →
    IsOnly (SaysText folder text) v
said_only folder text hs are one none v is = record { holds = said are is.holds; only = only }
  where
    only : (w : Verdict ManifestFault Revision) → SaysText folder text w → w ≡ v
    only _ (line {found = other} bad) = absurd (none other bad)
    only w (said {headers = others} other_are given) =
        is.only w (subst (λ (l : List Header). Gives (manifest_faults folder l) (IsRevisionOf folder l) w) (one others other_are) given)

-- what a reading of the text's lines says where it has headers
module _ (text : List ℕ) (r : Result (List Header) HeaderFault) (hs : List Header) (is : r ≡ Ok hs) where
  pub headers_read : MatchResult r (AreHeadersOf text) (IsHeaderFault text) → AreHeadersOf text hs
  headers_read reads = subst (λ r. MatchResult r (AreHeadersOf text) (IsHeaderFault text)) is reads

  pub headers_one : ((others : List Header) → AreHeadersOf text others → r ≡ Ok others) → (others : List Header) → AreHeadersOf text others → others ≡ hs
  headers_one only others are = let e = sym (only others are) ∙ is in cc e

  pub headers_fine : ((f : HeaderFault) → IsHeaderFault text f → r ≡ Err f) → (f : HeaderFault) → ¬ IsHeaderFault text f
  headers_fine fault f bad = let e = sym is ∙ fault f bad in absurd (cc e)

-- and where it has a fault
module _ (text : List ℕ) (r : Result (List Header) HeaderFault) (found : HeaderFault) (is : r ≡ Err found) where
  pub fault_read : MatchResult r (AreHeadersOf text) (IsHeaderFault text) → IsHeaderFault text found
  fault_read reads = subst (λ r. MatchResult r (AreHeadersOf text) (IsHeaderFault text)) is reads

  pub fault_one : ((f : HeaderFault) → IsHeaderFault text f → r ≡ Err f) → (f : HeaderFault) → IsHeaderFault text f → f ≡ found
  fault_one fault f bad = let e = sym (fault f bad) ∙ is in cc e

  pub no_headers : ((others : List Header) → AreHeadersOf text others → r ≡ Ok others) → (others : List Header) → ¬ AreHeadersOf text others
  no_headers only others are = let e = sym is ∙ only others are in absurd (cc e)

-- ---- the folder

same_file : (a b : File) → Some a ≡ Some b → a ≡ b
same_file a b e = cc e

-- a folder without a manifest
pub missing_only : (folder : Folder) → file_at manifest_path folder ≡ None → IsOnly (SaysManifest folder) (refuses (in_header [] fault.NoManifest 0))
missing_only folder none = record { holds = missing none; only = only }
  where
    only : (v : Verdict ManifestFault Revision) → SaysManifest folder v → v ≡ refuses (in_header [] fault.NoManifest 0)
    only _ (missing e) = refl
    only _ (lines there bad) = let e = sym none ∙ there in absurd (cc e)
    only v (headers there are given) = let e = sym none ∙ there in absurd (cc e)

-- a folder with one says what its text says
pub text_decides : (folder : Folder) (file : File) → file_at manifest_path folder ≡ Some file → (v : Verdict ManifestFault Revision) → IsOnly (SaysText folder file.bytes) v →
    IsOnly (SaysManifest folder) v
text_decides folder file there v is = record { holds = by v is.holds; only = only }
  where
    by : (w : Verdict ManifestFault Revision) → SaysText folder file.bytes w → SaysManifest folder w
    by _ (line bad) = lines there bad
    by w (said are given) = headers there are given

    only : (w : Verdict ManifestFault Revision) → SaysManifest folder w → w ≡ v
    only _ (missing none) = let e = sym none ∙ there in absurd (cc e)
    only _ (lines {file = other} {found = found} at bad) =
        is.only _ (line (subst (λ (f : File). IsHeaderFault f.bytes found) (same_file other file (sym at ∙ there)) bad))
    only w (headers {file = other} {headers = hs} at are given) =
        is.only w (said (subst (λ (f : File). AreHeadersOf f.bytes hs) (same_file other file (sym at ∙ there)) are) given)

-- an answer of the one is an answer of the other
pub text_answers : (folder : Folder) (file : File) → file_at manifest_path folder ≡ Some file → (r : Result Meaning (Stop ManifestFault)) → AnswersOnly folder (SaysText folder file.bytes) r →
    AnswersOnly folder (SaysManifest folder) r
text_answers folder file there (Ok meaning) is = (text_decides folder file there (answers meaning.revision) is.0, is.1)
text_answers folder file there (Err (Fault found)) is = text_decides folder file there (refuses found) is
text_answers folder file there (Err Memory) is = tt

pub said_answers : (folder : Folder) (text : List ℕ) (hs : List Header) → AreHeadersOf text hs → ((others : List Header) → AreHeadersOf text others → others ≡ hs) →
    ((f : HeaderFault) → ¬ IsHeaderFault text f) → (r : Result Meaning (Stop ManifestFault)) → AnswersOnly folder (Gives (manifest_faults folder hs) (IsRevisionOf folder hs)) r →
    AnswersOnly folder (SaysText folder text) r
said_answers folder text hs are one none (Ok meaning) is = (said_only folder text hs are one none (answers meaning.revision) is.0, is.1)
said_answers folder text hs are one none (Err (Fault found)) is = said_only folder text hs are one none (refuses found) is
said_answers folder text hs are one none (Err Memory) is = tt

-- ---- the headers

-- where a step stopped, no revision was made
pub stop_answers : (folder : Folder) (hs : List Header) (stop : Stop ManifestFault) → Stops (manifest_faults folder hs) stop →
    AnswersOnly folder (Gives (manifest_faults folder hs) (IsRevisionOf folder hs)) (Err stop)
stop_answers folder hs (Fault found) is = refuses_only (manifest_faults folder hs) (IsRevisionOf folder hs) found is
stop_answers folder hs Memory is = tt

-- what is handed on of a stop
pub answers_on : (folder : Folder) (Says : Verdict ManifestFault Revision → Type 0) (r : Result Meaning (Stop ManifestFault)) (given : Stop ManifestFault) → IsErrAnd r (λ stop. stop ≡ given) → AnswersOnly folder Says (Err given) → AnswersOnly folder Says r
answers_on folder Says (Ok meaning) given handed is = absurd handed
answers_on folder Says (Err stop) given handed is = subst (λ s. AnswersOnly folder Says (Err s)) (sym handed) is

-- ---- the meaning

same_answer : (a b : Revision) → ◌≡◌ {A = Verdict ManifestFault Revision} (answers a) (answers b) → a ≡ b
same_answer a b e = cc e

no_fault : (a : Revision) (found : ManifestFault) → ◌≡◌ {A = Verdict ManifestFault Revision} (refuses found) (answers a) → ⊥
no_fault a found e = absurd (cc e)

-- a revision that is the only verdict, with its only script, is what the folder means
module _ (folder : Folder) (meaning : Meaning) (is : AnswersOnly folder (SaysManifest folder) (Ok meaning)) where
  pub meaning_holds : IsMeaning folder meaning
  meaning_holds = record { means = is.0.holds; script = is.1.holds }

  pub meaning_one : (other : Meaning) → IsMeaning folder other → other ≡ meaning
  meaning_one other has =
      let revision : other.revision ≡ meaning.revision = same_answer other.revision meaning.revision (is.0.only (answers other.revision) has.means) in
      let script : other.script ≡ meaning.script = is.1.only other.script (subst (λ (r : Revision). IsScriptOf folder r.activator other.script) revision has.script) in
      λ i. record { revision = revision i; script = script i }

  pub meaning_fine : (found : ManifestFault) → ¬ IsManifestFault folder found
  meaning_fine found bad = no_fault meaning.revision found (is.0.only (refuses found) bad)
