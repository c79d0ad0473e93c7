-- What is found in the hosts that are left is found in all.
use Rattle.std.proofs.Common.{◌≡◌, drop}
use Rattle.std.specs.Prelude.{find}
use Rattle.osgi_ops.specs.Loading.{all_with_fragments, has_file}
use Rattle.osgi_loader.proofs.files.first_with.Given as goal

abbrev pub invariant-loop-host : goal.invariant-loop-host
invariant-loop-host l = find (has_file l.wirings.world l.path) (all_with_fragments l.wirings.world (drop l.host-index l.hosts)) ≡ find (has_file l.wirings.world l.path) (all_with_fragments l.wirings.world l.hosts)
