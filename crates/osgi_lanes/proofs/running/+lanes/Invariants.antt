-- There is one lane less each time.
use Rattle.std.proofs.Common.{◌+◌, ◌*◌}
use Rattle.std.specs.Prelude.{vec_len}
use Rattle.osgi_lanes.proofs.running.+lanes.Given as goal

abbrev pub decreases-run_all : goal.decreases-run_all
decreases-run_all g l = 2 * vec_len l.lanes

abbrev pub decreases-others : goal.decreases-others
decreases-others g l = 2 * vec_len l.lanes + 1
