-- What is read of a directive's value is the names that it lists, and only those.
use Rattle.std.proofs.Common.{◌≡◌, ◌∙◌, ℕ, List, subst, sym}
use Rattle.std.specs.Prelude.{Result, Ok, Err, IfOk}
use Rattle.std.specs.declared.alloc.AllocError.{AllocError}
use Rattle.osgi_header.specs.NameLists.{AreNames}
use Rattle.osgi_header.specs.computed.NameReader.{names_of}
use Rattle.osgi_header.proofs.NameReading.{names_read, names_sound}
use Rattle.osgi_header.proofs.name_list.names.Goals as goal

reads : (text : List ℕ) (r : Result (List (List ℕ)) AllocError) → IfOk r (λ names. names ≡ names_of text) → IfOk r (AreNames text)
reads text (Ok names) is = subst (AreNames text) (sym is) (names_sound text)
reads text (Err e) is = tt

only : (text : List ℕ) (r : Result (List (List ℕ)) AllocError) (others : List (List ℕ)) → IfOk r (λ names. names ≡ names_of text) → AreNames text others →
    IfOk r (λ names. names ≡ others)
only text (Ok names) others is are = is ∙ names_read text others are
only text (Err e) others is are = tt

pub returns-clause-reads : goal.returns-clause-reads
returns-clause-reads c = reads c.args.text.now c.listed.result c.listed.ensures.names

pub returns-clause-only : goal.returns-clause-only
returns-clause-only c others are = only c.args.text.now c.listed.result others c.listed.ensures.names are
