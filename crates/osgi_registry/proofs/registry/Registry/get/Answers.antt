-- The object of a live service, of which one use more is counted.
use Rattle.std.proofs.Common.{◌≡◌, ap, ◌∙◌, subst}
use Rattle.std.specs.Prelude.{Ok}
use Rattle.std.specs.Bool.{OnTrue}
use Rattle.osgi_registry.specs.Rows.{change, row_at, used_more}
use Rattle.osgi_registry.proofs.Objects.{object_absent, object_there}
use Rattle.osgi_registry.specs.laws.Standing.{stands_used}
use Rattle.osgi_registry.proofs.registry.Registry.get.Goals as goal

pub returns-in_default-clause-object : goal.returns-in_default-clause-object
returns-in_default-clause-object c = object_absent (row_at c.args.service c.args.self.now.rows) c.in_default.ensures.object

pub returns-clause-object : goal.returns-clause-object
returns-clause-object c = ap Ok c.in_ok-object.ensures.same ∙ object_there (row_at c.args.service c.args.self.now.rows) c.in-Some.object.now c.in-Some.ensures.object

pub returns-clause-stands : goal.returns-clause-stands
returns-clause-stands c =
    let new = c.add_use.new.self in
    let rows = subst (λ live. OnTrue live (new.rows ≡ change c.args.service (used_more c.args.user) c.args.self.now.rows)) c.if-not-branch.false c.in_ok-add_use.ensures.rows in
    λ history tag stands. stands_used history c.args.self.now new tag c.args.user c.args.service _ stands rows c.add_use.ensures.issued
