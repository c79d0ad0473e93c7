-- The words separate the text, and where whole words do, they are these.
use Rattle.std.proofs.Common.{◌∷◌, ◌∙◌, subst, sym}
use Rattle.std.proofs.lemmas.Result.{IfOk-weaker}
use Rattle.osgi_syntax.specs.Words.{AreSpaces, IsSeparated}
use Rattle.osgi_syntax.specs.laws.Separating.{words_separate}
use Rattle.osgi_syntax.specs.laws.Whole.{words_are}
use Rattle.osgi_syntax.proofs.words.split_words.Goals as goal

pub returns-clause-separated : goal.returns-clause-separated
returns-clause-separated c =
    let text = c.args.text.now in
    IfOk-weaker c.all_words.result _ _ (λ split are. subst (λ words. IsSeparated AreSpaces words (32 ∷ text)) (sym are) (words_separate text)) c.all_words.ensures.words

pub returns-clause-only : goal.returns-clause-only
returns-clause-only c = λ words are separated.
    IfOk-weaker c.all_words.result _ _ (λ split is. is ∙ words_are c.args.text.now words are separated) c.all_words.ensures.words
