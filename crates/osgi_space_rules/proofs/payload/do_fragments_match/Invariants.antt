-- The fragments so far match.
use Rattle.std.proofs.Common.{take, IsTrue}
use Rattle.osgi_space_rules.specs.computed.Growing.{Each}
use Rattle.osgi_world.specs.Lookups.{is_host_of}
use Rattle.osgi_space_rules.proofs.payload.do_fragments_match.Given as goal

abbrev pub invariant-loop-fragment : goal.invariant-loop-fragment
invariant-loop-fragment l = Each (λ f. IsTrue (is_host_of l.known f l.wiring.revision)) (take l.fragment-index l.fragment-items)
