-- What the entry opens is opened, and what it ends is closed.
use Rattle.std.proofs.Common.{sym, ◌∙◌}
use Rattle.osgi_brackets.specs.laws.Following.{closed-after, quiet-after}
use Rattle.osgi_brackets.proofs.brackets.Brackets.follow.Goals as goal

pub returns-then-is_end-clause-follows : goal.returns-then-is_end-clause-follows
returns-then-is_end-clause-follows c =
    λ history stands. closed-after history c.args.entry.now c.args.self.now c.pop.new.self stands (sym c.in_default.ensures.opens) (sym c.is_end.ensures.end ∙ c.if-is_end.true) c.pop.ensures.closed

pub returns-else-is_end-clause-follows : goal.returns-else-is_end-clause-follows
returns-else-is_end-clause-follows c =
    λ history stands. quiet-after history c.args.entry.now c.args.self.now stands (sym c.in_default.ensures.opens) (sym c.is_end.ensures.end ∙ c.if-is_end.false)
