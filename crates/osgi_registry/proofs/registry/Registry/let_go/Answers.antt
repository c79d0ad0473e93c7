-- A service that the bundle owns, or another.
use Rattle.std.proofs.Common.{subst, sym, ap, ◌∙◌}
use Rattle.osgi_registry.proofs.LetGo.{among_change, among_without, AreOwned, released_change, released_without}
use Rattle.osgi_registry.specs.computed.Concerns.{AreAmong}
use Rattle.osgi_registry.specs.Rows.{released}
use Rattle.osgi_registry.proofs.registry.Registry.let_go.Goals as goal

pub returns-then-is_owned-clause-rest : goal.returns-then-is_owned-clause-rest
returns-then-is_owned-clause-rest c =
    ap (released c.args.bundle) c.take_out.ensures.rows ∙ released_without c.args.bundle c.args.service c.args.self.now.rows (subst (λ own. AreOwned c.args.bundle c.args.service own c.args.self.now.rows) c.if-is_owned.true c.is_owned.ensures.each)

pub returns-then-is_owned-clause-among : goal.returns-then-is_owned-clause-among
returns-then-is_owned-clause-among c = λ others among. subst (AreAmong c.args.bundle others) (sym c.take_out.ensures.rows) (among_without c.args.bundle c.args.service others c.args.self.now.rows among)

pub returns-else-is_owned-clause-rest : goal.returns-else-is_owned-clause-rest
returns-else-is_owned-clause-rest c = ap (released c.args.bundle) c.forget.ensures.rows ∙ released_change c.args.bundle c.args.service c.args.self.now.rows

pub returns-else-is_owned-clause-among : goal.returns-else-is_owned-clause-among
returns-else-is_owned-clause-among c = λ others among.
    subst (AreAmong c.args.bundle others) (sym c.forget.ensures.rows)
    (among_change c.args.bundle c.args.service others c.args.self.now.rows (subst (λ own. AreOwned c.args.bundle c.args.service own c.args.self.now.rows) c.if-is_owned.false c.is_owned.ensures.each) among)
