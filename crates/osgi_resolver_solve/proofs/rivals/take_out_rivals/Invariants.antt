-- What was taken out so far are candidates of rivals.
use Rattle.osgi_resolver_solve.specs.computed.Layers.{TakesRivals}
use Rattle.osgi_resolver_solve.proofs.rivals.take_out_rivals.Given as goal

abbrev pub invariant-loop-other : goal.invariant-loop-other
invariant-loop-other l = TakesRivals l.path.world.known l.member l.fn.rows l.count l.rows
