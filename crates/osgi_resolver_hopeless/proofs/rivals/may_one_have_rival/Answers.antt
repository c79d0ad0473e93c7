-- The revision, if there is one.
use Rattle.std.proofs.Common.{subst}
use Rattle.osgi_base.specs.declared.ids.RevisionId.{RevisionId}
use Rattle.osgi_resolver_hopeless.proofs.Tested.{some-none, some-same}
use Rattle.osgi_world.specs.Consistency.{AreRivals}
use Rattle.osgi_resolver_hopeless.proofs.rivals.may_one_have_rival.Goals as goal

pub returns-in-Some : goal.returns-in-Some
returns-in-Some c = record {
  all = λ r t e rivals. c.may_have_rival.ensures.all t (subst (λ (x : RevisionId). AreRivals c.args.path.now.world.known x t) (some-same c.args.revision r c.in-Some.revision e c.in-Some.is) rivals);
}

pub returns-in-None : goal.returns-in-None
returns-in-None c = record { all = λ r t e rivals. absurd (some-none c.args.revision r c.in-None.is e) }
