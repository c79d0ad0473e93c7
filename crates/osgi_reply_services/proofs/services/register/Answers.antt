-- A service that is made, and a refusal.
use Rattle.osgi_reply_services.proofs.Deciding.{decided_no_singleton, decided_registered, decided_unregistered}
use Rattle.osgi_reply_services.proofs.services.register.Goals as goal

pub returns-in_default : goal.returns-in_default
returns-in_default c = record {
  decided = decided_no_singleton c.args.owner c.args.classes.now c.args.object.now c.args.scope c.args.properties.now c.args.registry.now c.in_default.not-Singleton;
}

pub returns-in-Ok : goal.returns-in-Ok
returns-in-Ok c = record {
  decided =
      decided_registered c.args.owner c.args.classes.now c.args.object.now c.args.scope c.args.properties.now c.args.registry.now c.in-Ok.made c.in-Singleton.is
      (rw (c.in-Ok.is, c.in_ok-copy-3.ensures.same) at c.in_ok-made.ensures.refusal)
      (rw (c.in-Ok.is, c.in_ok-copy.ensures.same, c.in_ok-copy-2.ensures.same, c.in_ok-copy-3.ensures.same) at c.in_ok-made.ensures.made) c.requires.ids (rw c.in-Ok.is at c.in_ok-made.ensures.room) c.in_ok-made.ensures.in_order;
}

pub returns-in-Err : goal.returns-in-Err
returns-in-Err c = record {
  decided =
      decided_unregistered c.args.owner c.args.classes.now c.args.object.now c.args.scope c.args.properties.now c.args.registry.now c.in-Err.refusal c.in-Singleton.is
      (rw (c.in-Err.is, c.in_ok-copy-3.ensures.same) at c.in_ok-made.ensures.refusal);
}
