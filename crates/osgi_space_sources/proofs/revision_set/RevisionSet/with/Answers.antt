-- The list of what was found gains the number.
use Rattle.std.proofs.Common.{◌≡◌, ℕ, List, subst}
use Rattle.osgi_space_sources.specs.computed.Adds.{Adds}
use Rattle.osgi_space_sources.proofs.revision_set.RevisionSet.with.Goals as goal

pub returns : goal.returns
returns c = record { added = subst (λ (old : List ℕ). Adds (λ x. x ≡ c.args.revision) old c.add.new.self) c.self.view_is c.in_ok-add.ensures.added }
