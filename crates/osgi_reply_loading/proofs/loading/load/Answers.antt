-- The bundle is not there, or nothing is loaded for it, or its class is looked for.
use Rattle.std.proofs.Common.{sym}
use Rattle.osgi_reply_loading.proofs.ClassesLoaded.{load_answered, load_barred, load_missing}
use Rattle.osgi_reply_loading.proofs.loading.load.Goals as goal

pub returns-in_default : goal.returns-in_default
returns-in_default c = record { replied = load_missing c.args.tables.now c.args.bundle c.args.class.now (sym (rw c.wirings-wirings.ensures.wirings at c.in_default.ensures.current)) }

pub returns-then-is_barred : goal.returns-then-is_barred
returns-then-is_barred c = record {
  replied =
      load_barred c.args.tables.now c.args.bundle c.in-Some.known.now c.args.class.now (sym (rw c.wirings-wirings.ensures.wirings at c.in-Some.ensures.current))
      (sym (rw (c.wirings-wirings.ensures.wirings, c.if-is_barred.true) at c.is_barred.ensures.barred));
}

pub returns : goal.returns
returns c = record {
  replied =
      load_answered c.args.tables.now c.args.bundle c.in-Some.known.now c.args.class.now c.in_ok-by.by (sym (rw c.wirings-wirings.ensures.wirings at c.in-Some.ensures.current))
      (sym (rw (c.wirings-wirings.ensures.wirings, c.if-is_barred.false) at c.is_barred.ensures.barred)) (rw c.wirings-wirings.ensures.wirings at c.in_ok-by.ensures.loaded);
}
