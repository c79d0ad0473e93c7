-- One decision less.
use Rattle.std.proofs.Common.{◌∙◌, ◌+◌}
use Rattle.osgi_resolver_search.proofs.Zeros.{back-one}
use Rattle.osgi_resolver_search.proofs.strides.take_back.Goals as goal

pub loop-preserved : goal.loop-preserved
loop-preserved g c = record {
  same = c.shorter.ensures.problem ∙ c.loop.invariant.same;
  back = λ w kept e. back-one w _ _ kept c.loop.counter c.shorter.result e (c.loop.invariant.back w (kept + 1)) _ c.shorter.ensures.word;
}
