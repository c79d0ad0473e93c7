-- One export more.
use Rattle.std.proofs.Common.{inl, inr, refl}
use Rattle.osgi_space_sources.proofs.breaking.add_start.Goals as goal

pub returns-clause-kept : goal.returns-clause-kept
returns-clause-kept c = λ g at. (c.in_ok-add.ensures.added.exact g).1 (inl at)

pub returns-clause-added : goal.returns-clause-added
returns-clause-added c = λ among may. (c.in_ok-add.ensures.added.exact c.args.given).1 (inr refl)
