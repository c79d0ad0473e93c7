-- A service that may be put in place, and a refusal.
use Rattle.std.proofs.Common.{sym, ◌∙◌}
use Rattle.osgi_registry.specs.Rows.{row_at}
use Rattle.osgi_reply_services.proofs.Deciding.{decided_modified, decided_unmodified, live_by}
use Rattle.osgi_reply_services.proofs.services.modify.Goals as goal

pub returns-in-Some : goal.returns-in-Some
returns-in-Some c = record { decided = decided_unmodified c.args.owner c.args.service c.args.properties.now c.args.registry.now c.in-Some.refusal (sym c.in-Some.is ∙ c.in_ok-refusal.ensures.refusal) }

pub unreachable-requires : goal.unreachable-requires
unreachable-requires c =
    live_by c.args.owner (row_at c.args.service c.args.registry.now.rows) c.args.properties.now (sym c.in_default.is ∙ c.in_ok-refusal.ensures.refusal)
    (rw (c.in_default-2.is, c.in_ok-copy.ensures.same) at c.in_ok-made.ensures.made)

pub returns : goal.returns
returns c = record {
  decided =
      decided_modified c.args.owner c.args.service c.args.properties.now c.args.registry.now c.in-Some-2.made (sym c.in_default.is ∙ c.in_ok-refusal.ensures.refusal) c.in_ok-made.ensures.in_order
      (rw (c.in-Some-2.is, c.in_ok-copy.ensures.same) at c.in_ok-made.ensures.made);
}
