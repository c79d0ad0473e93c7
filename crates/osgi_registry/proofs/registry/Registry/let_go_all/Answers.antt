-- One more service let go, and all of them.
use Rattle.std.proofs.Common.{sym, subst, ◌∙◌, arith}
use Rattle.std.proofs.lemmas.List.{drop_all}
use Rattle.osgi_registry.proofs.LetGo.{none_concerns, released_none}
use Rattle.osgi_registry.specs.computed.Concerns.{AreAmong}
use Rattle.osgi_registry.proofs.registry.Registry.let_go_all.Goals as goal

pub returns : goal.returns
returns c =
    let none = none_concerns c.args.bundle c.loop-service.self.rows (subst (λ l. AreAmong c.args.bundle l c.loop-service.self.rows) (drop_all c.loop-service.service-index c.args.services.now (omega (arith, c.loop-service-test.false))) c.loop-service.invariant.1) in
    record { rows = sym (released_none c.args.bundle c.loop-service.self.rows none) ∙ c.loop-service.invariant.0; issued = c.loop-service.invariant.2; none = none }
