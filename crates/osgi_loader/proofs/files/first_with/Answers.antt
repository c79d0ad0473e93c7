-- Of the hosts that are left, the first is looked at.
use Rattle.std.proofs.Common.{◌∙◌}
use Rattle.osgi_ops.specs.Loading.{has_file}
use Rattle.osgi_loader.proofs.Hosts.{host-found, host-passed}
use Rattle.osgi_loader.proofs.files.first_with.Goals as goal

pub returns-in-Some : goal.returns-in-Some
returns-in-Some c = record {
  first = host-found c.args.wirings.now.world (has_file c.args.wirings.now.world c.args.path.now) c.args.hosts.now c.loop-host.host-index _ c.loop-host-test.true c.in-Some.found c.in-Some.ensures.first ∙ c.loop-host.invariant;
}

pub loop-host-preserved : goal.loop-host-preserved
loop-host-preserved c =
    host-passed c.args.wirings.now.world (has_file c.args.wirings.now.world c.args.path.now) c.args.hosts.now c.loop-host.host-index _ c.loop-host-test.true c.in_default.ensures.first ∙ c.loop-host.invariant
