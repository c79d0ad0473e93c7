-- The provider of a wire.
use Rattle.std.proofs.Common.{◌≡◌, true, false, Some, append-nil, rules, sym, ◌∙◌}
use Rattle.osgi_resolver_path.specs.declared.step.Step.TheVariants.{Wired}
use Rattle.osgi_world.specs.DueDecisions.{is_in_force}
use Rattle.osgi_resolver_path.proofs.Joining.{joined}
use Rattle.osgi_resolver_path.proofs.Placed.{new-false}
use Rattle.osgi_resolver_path.proofs.growing.joining_of.Goals as goal

pub returns-then-stays-clause-joining : goal.returns-then-stays-clause-joining
returns-then-stays-clause-joining c =
    let r = c.in-Some-Wired.field-0-0 in
    let w = c.in-Some-Wired.wire in
    let is : c.args.step ≡ Some (Wired r w) = search rules in
    λ P in_it. append-nil c.args.course.now.ids.items ∙ joined P c.args.offers.now c.args.course.now.ids.items c.args.step r w true is in_it.world (sym c.stays.ensures.stays ∙ c.if-stays.true)

pub returns-else-stays-clause-joining : goal.returns-else-stays-clause-joining
returns-else-stays-clause-joining c =
    let r = c.in-Some-Wired.field-0-0 in
    let w = c.in-Some-Wired.wire in
    let is : c.args.step ≡ Some (Wired r w) = search rules in
    λ P in_it. joined P c.args.offers.now c.args.course.now.ids.items c.args.step r w false is in_it.world (sym c.stays.ensures.stays ∙ c.if-stays.false)

pub returns-else-stays-clause-new : goal.returns-else-stays-clause-new
returns-else-stays-clause-new c =
    let provider = c.in-Some-Wired.wire.capability.provider in
    new-false (is_in_force c.args.offers.now.wirings provider) _ (sym c.stays.ensures.stays ∙ c.if-stays.false)
