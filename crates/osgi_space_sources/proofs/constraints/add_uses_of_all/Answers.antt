-- The uses of each source from which constraints may come.
use Rattle.std.proofs.lemmas.List.{get_or_default}
use Rattle.osgi_space_sources.specs.computed.Amongst.{IsAmong}
use Rattle.osgi_space_sources.specs.computed.Pairs.{IsUseAmong}
use Rattle.osgi_space_sources.specs.laws.Adding.{adds-more, adds-whole}
use Rattle.osgi_space_sources.proofs.constraints.add_uses_of_all.Goals as goal

pub loop-given-preserved : goal.loop-given-preserved
loop-given-preserved c =
    let givens = c.args.givens.now in
    let at = get_or_default givens c.loop-given.given-index _ _ c.loop-given-test.true in
    adds-more (IsUseAmong c.args.rows.now (IsAmong c.args.among)) givens c.loop-given.given-index _ c.loop-given-test.true at c.loop-given.invariant c.in_ok-add_uses_among.ensures.added

pub returns : goal.returns
returns c = record { added = adds-whole (IsUseAmong c.args.rows.now (IsAmong c.args.among)) c.args.givens.now c.loop-given.given-index c.loop-given-test.false c.loop-given.invariant }
