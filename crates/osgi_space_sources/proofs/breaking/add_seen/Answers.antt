-- All that the revision sees is looked at.
use Rattle.std.proofs.Common.{List, sym, subst, Contains}
use Rattle.osgi_space_sources.specs.declared.given.Given.{Given}
use Rattle.osgi_space_sources.proofs.breaking.add_seen.Goals as goal

pub returns-clause-added : goal.returns-clause-added
returns-clause-added c = λ h seen.
    c.in_ok-add_all.ensures.added h (subst (λ (xs : List Given). Contains xs h) (sym c.as_slice.ensures.value) ((c.in_ok-givens.ensures.sources h).1 seen))
