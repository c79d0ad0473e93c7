-- What was read is all clauses of the value, or its fault, and the only such.
use Rattle.std.proofs.Common.{◌≡◌, ◌∙◌, List, ℕ, subst, sym}
use Rattle.std.specs.Prelude.{Result, Ok, Err, IfOk, MatchResult}
use Rattle.std.specs.declared.alloc.AllocError.{AllocError}
use Rattle.osgi_header.specs.declared.clause.Clause.{Clause}
use Rattle.osgi_header.specs.declared.clause.ReadClauses.{ReadClauses}
use Rattle.osgi_header.specs.declared.fault.HeaderFault.{HeaderFault}
use Rattle.osgi_header.specs.ClauseFaults.{IsClauseFault}
use Rattle.osgi_header.specs.computed.ClauseReader.{all_or_fault}
use Rattle.osgi_header.specs.Clauses.{AreClausesOf}
use Rattle.osgi_header.specs.ReadClauses.{AreReadFrom}
use Rattle.osgi_header.specs.laws.AllClauses.{all_only, all_reads, fault_only}
use Rattle.osgi_header.proofs.header_value.clauses.Goals as goal

reads : (value : List ℕ) (read : ReadClauses) (r : Result (Result (List Clause) HeaderFault) AllocError) → IfOk r (λ all. all ≡ all_or_fault read) → AreReadFrom value read →
    IfOk r (λ all. MatchResult all (AreClausesOf value) (IsClauseFault value))
reads value read (Ok all) is are = subst (λ a. MatchResult a (AreClausesOf value) (IsClauseFault value)) (sym is) (all_reads value read are)
reads value read (Err e) is are = tt

answers : (read : ReadClauses) (r : Result (Result (List Clause) HeaderFault) AllocError) (answer : Result (List Clause) HeaderFault) → IfOk r (λ all. all ≡ all_or_fault read) →
    all_or_fault read ≡ answer → IfOk r (λ all. all ≡ answer)
answers read (Ok all) answer is same = is ∙ same
answers read (Err e) answer is same = tt

pub returns-clause-reads : goal.returns-clause-reads
returns-clause-reads c = reads c.args.value.now c.in_ok-read.read c.all_or_fault.result c.all_or_fault.ensures.all c.in_ok-read.ensures.reads

pub returns-clause-only : goal.returns-clause-only
returns-clause-only c others are =
    answers c.in_ok-read.read c.all_or_fault.result (Ok others) c.all_or_fault.ensures.all
    (all_only c.args.value.now c.in_ok-read.read others c.in_ok-read.ensures.only are)

pub returns-clause-fault : goal.returns-clause-fault
returns-clause-fault c fault is =
    answers c.in_ok-read.read c.all_or_fault.result (Err fault) c.all_or_fault.ensures.all
    (fault_only c.args.value.now c.in_ok-read.read fault c.in_ok-read.ensures.only is)
