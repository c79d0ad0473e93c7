-- What a header makes, or its first fault, by what was read of it and what was made of its clauses.
use Rattle.std.proofs.Common.{◌≡◌, ℕ, List, [], ◌∷◌, ap, sym, ◌∙◌, refl, subst, inr}
use Rattle.std.specs.Prelude.{⊤, None, Some, Option, Result, Ok, Err, MatchOption, MatchResult, IsSomeAnd}
use Rattle.std.proofs.lemmas.List.{map-append}
use Rattle.osgi_header.specs.declared.clause.Clause.{Clause}
use Rattle.osgi_header.specs.declared.clause.ClauseAt.{ClauseAt}
use Rattle.osgi_header.specs.declared.clause.ReadClauses.{ReadClauses}
use Rattle.osgi_header.specs.declared.fault.HeaderFault.{HeaderFault}
use Rattle.osgi_header.specs.declared.header.Header.{Header}
use Rattle.osgi_header.specs.ClauseFaults.{IsClauseFault}
use Rattle.osgi_header.specs.Clauses.{AreClausesOf}
use Rattle.osgi_header.specs.computed.ClauseReader.{all_or_fault_by}
use Rattle.osgi_header.specs.laws.AllClauses.{all_only, all_reads}
use Rattle.osgi_header.specs.ReadClauses.{AreReadFrom}
use Rattle.osgi_world.specs.declared.manifest_fault.ManifestFault.{ManifestFault}
use Rattle.osgi_world.specs.declared.manifest_fault.ManifestKind.{ManifestKind}
use Rattle.osgi_package.specs.Only.{IsOnly}
use Rattle.osgi_package.specs.laws.Splits.{no_item}
use Rattle.osgi_manifest.specs.Manifests.{InValue}
use Rattle.osgi_manifest.specs.ValueFaults.{IsValueFault}
use Rattle.osgi_clause.specs.ClauseFaults.{clauses_of}
use Rattle.osgi_manifest.specs.computed.Answers.{AnswersHeader, GoesOn, IsMadeIn, IsReadIn, IsStep, IsStopOf, StopsAt, in_header, no_clauses}
use Rattle.osgi_clause.specs.Walks.{IsFirstFaulty, Walked}
use Rattle.osgi_clause.specs.declared.fault.ClauseFault.{ClauseFault}
use Rattle.osgi_clause.specs.laws.FirstFaults.{called_only}
use Rattle.osgi_base.specs.declared.stop.Stop.{Stop}
use Rattle.osgi_base.specs.declared.stop.Stop.TheVariants.{Fault, Memory}
use Rattle.osgi_manifest.specs.Values.{header_value}
use Rattle.osgi_manifest.proofs.ValueFaults.{clause_fault, no_fault, text_fault}

module _ {A : Type 0} (faults : List Clause → Clause → List (ManifestKind → Type 0)) (outside : ManifestKind) (Makes : List Clause → A → Type 0) (name : List ℕ) where
  -- the same, by the value that the header has
  abbrev InValueBy : Option (List ℕ) → ManifestFault → Type 0
  InValueBy value found = (found.header ≡ name) × IsSomeAnd value (λ text. IsValueFault faults outside text found.kind found.at)

  abbrev AreIn : Option (List ℕ) → List Clause → Type 0
  AreIn value clauses = MatchOption value (clauses ≡ []) (λ text. AreClausesOf text clauses)

  abbrev IsMadeBy : Option (List ℕ) → A → Type 0
  IsMadeBy value made = (clauses : List Clause) × AreIn value clauses × Makes clauses made

  abbrev AnswersBy : Option (List ℕ) → Result A (Stop ManifestFault) → Type 0
  AnswersBy value (Ok made) = ((found : ManifestFault) → ¬ InValueBy value found) × IsOnly (IsMadeBy value) made
  AnswersBy value (Err (Fault fault)) = IsOnly (InValueBy value) fault × (¬ AreIn value [])
  AnswersBy value (Err Memory) = ⊤

  stopped : (value : Option (List ℕ)) (fault : ManifestFault) (r : Result A (Stop ManifestFault)) → IsOnly (InValueBy value) fault → ¬ AreIn value [] → StopsAt fault r → AnswersBy value r
  stopped value fault (Ok made) is some stops = absurd stops
  stopped value fault (Err (Fault found)) is some stops = (subst (IsOnly (InValueBy value)) (sym stops) is, some)
  stopped value fault (Err Memory) is some stops = tt

  went_on : (value : Option (List ℕ)) (made : A) (r : Result A (Stop ManifestFault)) → ((found : ManifestFault) → ¬ InValueBy value found) → IsOnly (IsMadeBy value) made → GoesOn made r → AnswersBy value r
  went_on value made r uncalled is goes = subst (AnswersBy value) (sym goes) (uncalled, is)

  -- ---- without the header

  empty_only : (made : A) → IsOnly (Makes []) made → IsOnly (IsMadeBy None) made
  empty_only made is = record { holds = ([], refl, is.holds); only = only }
    where
      only : (other : A) → IsMadeBy None other → other ≡ made
      only other (clauses, none, makes) = is.only other (subst (λ l. Makes l other) none makes)

  missing : (r : Result A (Stop ManifestFault)) (walked : Result A ClauseFault) → Walked faults Makes [] walked → IsStopOf name outside None walked r → AnswersBy None r
  missing r (Ok made) walked is = went_on None made r (λ found called. called.1) (empty_only made walked.1) is
  missing r (Err fault) walked is = absurd (no_item walked.before walked.clause walked.rest walked.is)

  -- ---- with the header

  module _ (value : List ℕ) (read : ReadClauses) (reads : IsOnly (AreReadFrom value) read) (r : Result A (Stop ManifestFault)) where
    fault_only : (kind : ManifestKind) (at : ℕ) → IsValueFault faults outside value kind at →
        ((k : ManifestKind) (n : ℕ) → IsValueFault faults outside value k n → (k ≡ kind) × (n ≡ at)) → IsOnly (InValueBy (Some value)) (in_header name kind at)
    fault_only kind at has one = record { holds = (refl, has); only = only }
      where
        only : (other : ManifestFault) → InValueBy (Some value) other → other ≡ in_header name kind at
        only other (named, called) =
            let same = one other.kind other.at called in
            λ i. record { header = named i; kind = same.0 i; at = same.1 i }

    clauses_are : (clauses : List Clause) (fault : Option HeaderFault) → read.fault ≡ fault → AreClausesOf value clauses → (fault ≡ None) × (clauses ≡ clauses_of read.clauses)
    clauses_are clauses None e are =
        let all : all_or_fault_by read.clauses None ≡ Ok clauses
        = ap (all_or_fault_by read.clauses) (sym e) ∙ all_only value read clauses (λ other h. sym (reads.only other h)) are in
        (refl, sym (cc all))
    clauses_are clauses (Some fault) e are =
        let all : all_or_fault_by read.clauses (Some fault) ≡ Ok clauses
        = ap (all_or_fault_by read.clauses) (sym e) ∙ all_only value read clauses (λ other h. sym (reads.only other h)) are in
        absurd (cc all)

    are_clauses : read.fault ≡ None → AreClausesOf value (clauses_of read.clauses)
    are_clauses e =
        subst (λ f. MatchResult (all_or_fault_by read.clauses f) (AreClausesOf value) (IsClauseFault value)) e (all_reads value read reads.holds)

    made_only : (made : A) → read.fault ≡ None → IsOnly (Makes (clauses_of read.clauses)) made → IsOnly (IsMadeBy (Some value)) made
    made_only made none is = record { holds = (clauses_of read.clauses, are_clauses none, is.holds); only = only }
      where
        only : (other : A) → IsMadeBy (Some value) other → other ≡ made
        only other (clauses, are, makes) = is.only other (subst (λ l. Makes l other) (clauses_are clauses read.fault refl are).1 makes)

    some_clauses : (fault : ClauseFault) → IsFirstFaulty faults read.clauses fault → ¬ AreClausesOf value []
    some_clauses fault found are =
        no_item (clauses_of found.before) found.clause.clause (clauses_of found.rest)
        ((clauses_are [] read.fault refl are).1 ∙ ap clauses_of found.is ∙ map-append (λ (c : ClauseAt). c.clause) found.before (found.clause ∷ found.rest))

    there : (fault : Option HeaderFault) → read.fault ≡ fault → (walked : Result A ClauseFault) → Walked faults Makes read.clauses walked → IsStopOf name outside fault walked r →
        AnswersBy (Some value) r
    there fault e (Err found) walked is =
        let one = clause_fault faults outside value read reads found walked in
        stopped (Some value) (in_header name found.kind found.at) r (fault_only found.kind found.at one.0 one.1) (some_clauses found walked) is
    there None e (Ok made) walked is =
        went_on (Some value) made r (λ found called. no_fault faults outside value read reads e walked.0 found.kind found.at called.1) (made_only made e walked.1) is
    there (Some fault) e (Ok made) walked is =
        let one = text_fault faults outside value read reads fault e walked.0 in
        stopped (Some value) (in_header name outside fault.at) r (fault_only outside fault.at one.0 one.1) (λ are. cc ((clauses_are [] (Some fault) e are).0)) is

  answer_by : (value : Option (List ℕ)) (read : ReadClauses) (walked : Result A ClauseFault) (r : Result A (Stop ManifestFault)) →
      MatchOption value (read ≡ no_clauses) (λ text. IsOnly (AreReadFrom text) read) → Walked faults Makes read.clauses walked → IsStopOf name outside read.fault walked r → AnswersBy value r
  answer_by None read walked r is made stops =
      missing r walked (subst (λ (o : ReadClauses). Walked faults Makes o.clauses walked) is made) (subst (λ (o : ReadClauses). IsStopOf name outside o.fault walked r) is stops)
  answer_by (Some value) read walked r is made stops = there value read is r read.fault refl walked made stops

  pub header_answer : (headers : List Header) (read : ReadClauses) (walked : Result A ClauseFault) (r : Result A (Stop ManifestFault)) → IsReadIn name headers read →
      Walked faults Makes read.clauses walked → IsStopOf name outside read.fault walked r → AnswersHeader faults outside Makes headers name r
  header_answer headers read walked (Ok made) is walks stops = answer_by (header_value name headers) read walked (Ok made) is walks stops
  header_answer headers read walked (Err (Fault fault)) is walks stops = answer_by (header_value name headers) read walked (Err (Fault fault)) is walks stops
  header_answer headers read walked (Err Memory) is walks stops = tt

  -- the same as a step of reading, of a header that may have nothing
  pub header_step : (headers : List Header) (read : ReadClauses) (walked : Result A ClauseFault) (r : Result A (Stop ManifestFault)) → IsReadIn name headers read →
      Walked faults Makes read.clauses walked → IsStopOf name outside read.fault walked r → IsStep (InValue headers name faults outside ∷ []) (IsOnly (IsMadeIn Makes headers name)) r
  header_step headers read walked r is walks stops = by r (header_answer headers read walked r is walks stops)
    where
      by : (r : Result A (Stop ManifestFault)) → AnswersHeader faults outside Makes headers name r → IsStep (InValue headers name faults outside ∷ []) (IsOnly (IsMadeIn Makes headers name)) r
      by (Ok made) answer = (inr (answer.0, tt), answer.1)
      by (Err (Fault fault)) answer = called_only (InValue headers name faults outside) [] (λ (fine : Unit {0}). ⊤) fault answer.0
      by (Err Memory) answer = tt
