-- The fact, from what the definitions give.
use Rattle.osgi_resolver_theory.proofs.Facts.{extensions_are_words}
use Rattle.osgi_resolver_theory.proofs.extensions_are_words.Goals as goal

pub returns : goal.returns
returns c = extensions_are_words
