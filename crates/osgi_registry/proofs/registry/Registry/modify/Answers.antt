-- A registry with other properties of a service stands for the history with the Modify.
use Rattle.std.proofs.Common.{sym, ◌∙◌}
use Rattle.osgi_registry.specs.laws.Changing.{change_made, made_differs, made_of}
use Rattle.osgi_registry.specs.laws.Standing.{stands_modified}
use Rattle.osgi_registry.proofs.registry.Registry.modify.Goals as goal

pub replace-requires : goal.replace-requires
replace-requires c =
    let rows = c.args.self.now.rows in
    record { differs = made_differs c.args.service c.args.properties rows c.in-Some-2.made (made_of c.args.service c.args.properties rows c.in-Some-2.made (sym c.in-Some-2.is ∙ c.in_ok-made.ensures.made)) }

pub returns-clause-rows : goal.returns-clause-rows
returns-clause-rows c =
    let old = c.args.self.now in
    c.in_ok-replace.ensures.rows
    ∙ change_made old c.args.service c.args.properties c.in-Some-2.made c.in_ok-made.ensures.in_order (made_of c.args.service c.args.properties old.rows c.in-Some-2.made (sym c.in-Some-2.is ∙ c.in_ok-made.ensures.made))

pub returns-clause-stands : goal.returns-clause-stands
returns-clause-stands c =
    let old = c.args.self.now in
    let rows
    = c.in_ok-replace.ensures.rows
    ∙ change_made old c.args.service c.args.properties c.in-Some-2.made c.in_ok-made.ensures.in_order (made_of c.args.service c.args.properties old.rows c.in-Some-2.made (sym c.in-Some-2.is ∙ c.in_ok-made.ensures.made)) in
    λ history tag stands. stands_modified history old c.replace.new.self tag c.args.owner c.args.service c.args.properties stands rows c.replace.ensures.issued
