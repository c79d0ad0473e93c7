-- A location that is new joins those that were seen; another is among them.
use Rattle.osgi_depot.proofs.Named.{seen_kept, seen_pushed}
use Rattle.osgi_depot.proofs.locations.add.Goals as goal

pub returns-in_ok-push : goal.returns-in_ok-push
returns-in_ok-push c = record {
  seen = λ named seen.
      seen_pushed c.args.seen.now c.insert.new.self c.args.locations.now.items named c.args.location.now seen c.in_ok-copy.field-0 c.in_ok-copy.ensures.same c.in_ok-insert.field-0
      c.in_ok-insert.ensures.added (λ q. c.in_ok-insert.ensures.updates.0 q) c.in_ok-copy-2.field-0 c.push.new.self.items c.in_ok-copy-2.ensures.same c.if-branch.true
      c.in_ok-push.ensures.items;
}

pub returns-else-branch : goal.returns-else-branch
returns-else-branch c = record {
  seen = λ named seen.
      seen_kept c.args.seen.now c.insert.new.self c.args.locations.now.items named c.args.location.now seen c.in_ok-copy.field-0 c.in_ok-copy.ensures.same c.in_ok-insert.field-0
      c.in_ok-insert.ensures.added (λ q. c.in_ok-insert.ensures.updates.0 q) c.if-branch.false;
}
