-- The candidate by the value.
use Rattle.std.proofs.Common.{◌≡◌, ◌∙◌, Some, ap, sym}
use Rattle.std.specs.Option.{option_to_list}
use Rattle.osgi_world.specs.Decisions.{choose}
use Rattle.osgi_resolver_path.specs.computed.Valued.{value_in}
use Rattle.osgi_resolver_path.specs.computed.Views.{by_value}
use Rattle.osgi_resolver_path.proofs.Payloads.{item-listed}
use Rattle.osgi_resolver_path.proofs.adding.chosen.Goals as goal

pub returns-in-Some : goal.returns-in-Some
returns-in-Some c =
    let made : value_in c.args.values.now (choose c.args.host c.args.requirement) ≡ Some c.in-Some.value = cc in
    record { chosen = ap option_to_list c.candidate_at.ensures.candidate ∙ item-listed c.args.candidates.now c.in-Some.value ∙ ap (by_value c.args.candidates.now) (sym made) }
