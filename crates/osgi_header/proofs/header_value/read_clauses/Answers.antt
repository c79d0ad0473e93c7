-- What was read is what the value says up to its first fault, and the only such.
use Rattle.std.proofs.Common.{◌≡◌, ◌∙◌, List, ℕ, subst, sym}
use Rattle.std.specs.Prelude.{Result, Ok, Err, IfOk}
use Rattle.std.specs.declared.alloc.AllocError.{AllocError}
use Rattle.osgi_header.specs.declared.clause.ReadClauses.{ReadClauses}
use Rattle.osgi_header.specs.computed.ClauseReader.{read_of}
use Rattle.osgi_header.specs.ReadClauses.{AreReadFrom}
use Rattle.osgi_header.proofs.Answering.{value_read, value_reads}
use Rattle.osgi_header.proofs.header_value.read_clauses.Goals as goal

reads : (value : List ℕ) (r : Result ReadClauses AllocError) → IfOk r (λ read. read ≡ read_of value) → IfOk r (AreReadFrom value)
reads value (Ok read) is = subst (AreReadFrom value) (sym is) (value_reads value)
reads value (Err e) is = tt

only : (value : List ℕ) (r : Result ReadClauses AllocError) → IfOk r (λ read. read ≡ read_of value) →
    (other : ReadClauses) → AreReadFrom value other → IfOk r (λ read. read ≡ other)
only value (Ok read) is other are = is ∙ value_read value other are
only value (Err e) is other are = tt

pub returns-clause-reads : goal.returns-clause-reads
returns-clause-reads c = reads c.args.value.now c.read.result c.read.ensures.read

pub returns-clause-only : goal.returns-clause-only
returns-clause-only c = only c.args.value.now c.read.result c.read.ensures.read
