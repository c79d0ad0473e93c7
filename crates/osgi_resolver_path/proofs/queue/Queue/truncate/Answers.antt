-- Less of the last decisions is left.
use Rattle.std.proofs.Common.{◌≡◌, ◌+◌, ◌-◌, ◌≤◌, arith, ap, length, sym, take, ◌∙◌}
use Rattle.osgi_resolver_path.proofs.Queues.{cut-later}
use Rattle.osgi_resolver_path.proofs.queue.Queue.truncate.Goals as goal

pub returns-then-count-first-2 : goal.returns-then-count-first-2
returns-then-count-first-2 c =
    let first = c.self.inside.before.items in
    let left = c.args.count - c.len-first.result in
    let place : c.args.count ≡ length first + left = omega arith in
    let fewer : left ≤ c.self.inside.used = omega arith in
    record { first = sym (cut-later first c.self.inside.last c.self.inside.used c.args.count left place fewer) ∙ ap (take c.args.count) c.self.view_is }
