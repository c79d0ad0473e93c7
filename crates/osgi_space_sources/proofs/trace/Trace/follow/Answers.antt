-- One export more, with the one that uses it.
use Rattle.std.proofs.Common.{inr, refl}
use Rattle.osgi_space_sources.proofs.Tracing.{under-kept, under-pushed}
use Rattle.osgi_space_sources.proofs.trace.Trace.follow.Goals as goal

pub returns-clause-kept : goal.returns-clause-kept
returns-clause-kept c = record {
  exports = c.in_ok-add.ensures.added.grown;
  users = under-kept c.args.self.now.users c.push.new.self c.args.source c.args.export c.in_ok-push.ensures.added;
  leads = λ l at. at;
}

pub returns-clause-followed : goal.returns-clause-followed
returns-clause-followed c = λ among may. (
  (c.in_ok-add.ensures.added.exact c.args.source).1 (inr refl),
  under-pushed c.args.self.now.users c.push.new.self c.args.source c.args.export c.in_ok-push.ensures.added,
)
