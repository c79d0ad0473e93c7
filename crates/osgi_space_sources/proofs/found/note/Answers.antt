-- The set of more than a few gains the value.
use Rattle.std.proofs.Common.{◌<◌, length, arith}
use Rattle.osgi_space_sources.specs.declared.found.TheConstants.{FEW}
use Rattle.osgi_space_sources.specs.laws.Sets.{set_push}
use Rattle.osgi_space_sources.proofs.found.note.Goals as goal

pub returns-clause-noted : goal.returns-clause-noted
returns-clause-noted g c =
    let list = c.args.list.now in
    let many : FEW < length list = omega arith in
    λ _. set_push g.T.Ord.cmp g.met.T.Node.exact c.args.set.now c.insert.new.self list c.args.node c.in_ok-insert.ensures.updates (c.requires.collected many)
