-- A registration that was accepted.
use Rattle.std.proofs.Common.{◌+◌}
use Rattle.osgi_history.proofs.Front.{newly_is}
use Rattle.osgi_history.proofs.scans.registered.Goals as goal

pub returns : goal.returns
returns c =
    let r = c.in-Register in
    record {
      registered =
          rw (r.is, c.then_some.ensures)
          (newly_is (record { service = record { 0 = c.args.earlier + 1 }; owner = r.owner; classes = r.classes; object = r.object; scope = r.scope; given = r.properties; since = c.args.since.now }) c.args.entry.now.reply c.is_taken_out.result
          c.if-is_refusal.ensures.refused c.is_taken_out.ensures.taken);
    }
