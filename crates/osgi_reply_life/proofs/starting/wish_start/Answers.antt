-- The target stands for no bundle, or by its row the bundle is a fragment, is starting or stopping, is active, or is to be started.
use Rattle.std.proofs.Common.{sym, ◌∙◌}
use Rattle.osgi_ops.specs.declared.refusal.Refusal.TheVariants as no
use Rattle.osgi_reply_life.proofs.Conditions.{changing_by, settled_by}
use Rattle.osgi_reply_life.proofs.Starts.{replied_wish_active, replied_wish_changing, replied_wish_fragment, replied_wish_go, replied_wish_missing}
use Rattle.osgi_reply_life.proofs.Rows.{target_has_row}
use Rattle.osgi_reply_life.proofs.starting.wish_start.Goals as goal

pub returns-in_default : goal.returns-in_default
returns-in_default c = record { replied = replied_wish_missing c.args.tables.now c.args.target.now c.args.transient (rw c.in_default.is at c.in_ok-bundle.ensures.target) }

pub unreachable-requires : goal.unreachable-requires
unreachable-requires c = target_has_row c.args.target.now c.args.tables.now.bundles.rows c.in-Some.bundle (rw c.in-Some.is at c.in_ok-bundle.ensures.target) (sym c.in_default-row.ensures.row)

pub returns-then-row : goal.returns-then-row
returns-then-row c = record {
  replied =
      replied_wish_fragment c.args.tables.now c.args.target.now c.args.transient c.in-Some.bundle c.in-Some-row.row.now (rw c.in-Some.is at c.in_ok-bundle.ensures.target) (sym c.in-Some-row.ensures.row)
      c.if-row.true;
}

pub returns-in-Some-changed_by : goal.returns-in-Some-changed_by
returns-in-Some-changed_by c =
    let said = changing_by c.in-Some-row.row.now c.in-Some-changed_by.by (sym c.changed_by.ensures.by ∙ c.in-Some-changed_by.is) in
    record {
      replied =
          replied_wish_changing c.args.tables.now c.args.target.now c.args.transient c.in-Some.bundle c.in-Some-row.row.now (rw c.in-Some.is at c.in_ok-bundle.ensures.target) (sym c.in-Some-row.ensures.row)
          (no.StateChange c.in-Some-changed_by.by) c.if-row.false said.0 said.1;
    }

pub returns-then-row-eq-ACTIVE : goal.returns-then-row-eq-ACTIVE
returns-then-row-eq-ACTIVE c = record {
  replied =
      replied_wish_active c.args.tables.now c.args.target.now c.args.transient c.in-Some.bundle c.in-Some-row.row.now (rw c.in-Some.is at c.in_ok-bundle.ensures.target) (sym c.in-Some-row.ensures.row)
      c.if-row.false c.if-row-eq-ACTIVE.true;
}

pub returns : goal.returns
returns c = record {
  replied =
      replied_wish_go c.args.tables.now c.args.target.now c.args.transient c.in-Some.bundle c.in-Some-row.row.now (rw c.in-Some.is at c.in_ok-bundle.ensures.target) (sym c.in-Some-row.ensures.row)
      c.if-row.false (settled_by c.in-Some-row.row.now c.in-Some-row.ensures.begun (sym c.changed_by.ensures.by ∙ c.in_default-changed_by.is)) c.if-row-eq-ACTIVE.false;
}
