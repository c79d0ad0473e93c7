-- One place more is written.
use Rattle.std.proofs.Common.{◌+◌, sym, subst, ℕ, List}
use Rattle.osgi_listeners.proofs.Loops.{filled_more, IsFilled}
use Rattle.osgi_listeners.proofs.slots.set_firsts.Goals as goal

pub loop-at-preserved : goal.loop-at-preserved
loop-at-preserved c =
    subst (λ (numbers : List ℕ). IsFilled numbers c.args.turns.now.entries c.args.slots.now c.args.before (c.loop-at.at + 1)) (sym c.set.ensures.set)
    (filled_more c.loop-at.firsts c.args.turns.now.entries c.args.slots.now c.args.before c.loop-at.at c.open_place_at-first.result c.loop-at-test.true c.requires.few c.open_place_at-first.ensures.within c.open_place_at-first.ensures.past c.loop-at.invariant)
