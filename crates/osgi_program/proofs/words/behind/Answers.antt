-- A word begins with these bytes where they are its first ones.
use Rattle.osgi_program.proofs.WordLaws.{behind_is}
use Rattle.osgi_program.proofs.words.behind.Goals as goal

pub returns : goal.returns
returns c = record { behind = behind_is c.args.word.now c.args.first.now c.strip_prefix.result c.strip_prefix.ensures.cases }
