-- A stride visits each word that it passes; a single step tries the values of the word.
use Rattle.std.proofs.Common.{◌+◌, ℕ, MatchBool, List, subst}
use Rattle.osgi_world.specs.ChoiceWords.{IsGood}
use Rattle.osgi_world.specs.Effort.{IsEffort}
use Rattle.osgi_resolver_theory.specs.Search.{IsAt}
use Rattle.osgi_resolver_search.proofs.Zeros.{stayed-hopeful, stepped-to, strode-to}
use Rattle.osgi_resolver_search.proofs.depth_first.go_on.Goals as goal

pub returns-then-made-gt0-clause-word : goal.returns-then-made-gt0-clause-word
returns-then-made-gt0-clause-word g c n t o =
    strode-to _ c.requires.problem _ _ n c.in_ok-made.made t c.in_ok-made.ensures.first c.in_ok-made.ensures.word (c.in_ok-made.ensures.hopeful c.if-made-gt0.true)

pub advance-requires-clause-hopeful : goal.advance-requires-clause-hopeful
advance-requires-clause-hopeful g c = stayed-hopeful _ _ _ _ c.in_ok-made.made c.requires.hopeful c.in_ok-made.ensures.problem c.in_ok-made.ensures.first c.if-made-gt0.false

pub returns-then-branch-clause-word : goal.returns-then-branch-clause-word
returns-then-branch-clause-word g c n t o =
    let P = g.W.Walker.problem c.args.walker.now in
    subst (λ more. MatchBool more (IsAt P (g.W.Walker.word c.advance.new.walker) (n + 1)) (((u : List ℕ) → ¬ IsGood P u) × IsEffort P (n + 1))) c.if-branch.true
    (stepped-to P _ _ _ _ n c.in_ok-made.made c.in_ok-advance.field-0 c.requires.problem t o c.in_ok-made.ensures.problem c.in_ok-made.ensures.first c.if-made-gt0.false c.in_ok-advance.ensures.word)

pub returns-else-branch-clause-word : goal.returns-else-branch-clause-word
returns-else-branch-clause-word g c n t o =
    let P = g.W.Walker.problem c.args.walker.now in
    subst (λ more. MatchBool more (IsAt P (g.W.Walker.word c.advance.new.walker) (n + 1)) (((u : List ℕ) → ¬ IsGood P u) × IsEffort P (n + 1))) c.if-branch.false
    (stepped-to P _ _ _ _ n c.in_ok-made.made c.in_ok-advance.field-0 c.requires.problem t o c.in_ok-made.ensures.problem c.in_ok-made.ensures.first c.if-made-gt0.false c.in_ok-advance.ensures.word)
