-- One decision more.
use Rattle.osgi_resolver_search.proofs.Zeros.{made-more}
use Rattle.osgi_resolver_search.proofs.strides.make_first.Goals as goal

pub loop-made-preserved : goal.loop-made-preserved
loop-made-preserved g c =
    made-more _ _ _ _ _ _ c.loop-made.made c.values.result c.loop-made.invariant c.values.ensures.values c.if-values-eq0.false c.in_ok-longer.ensures.problem c.in_ok-longer.ensures.word
