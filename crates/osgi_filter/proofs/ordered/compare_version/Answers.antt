-- What is computed of a text is the version that it reads as.
use Rattle.std.proofs.Common.{◌≡◌, ap, ◌∙◌}
use Rattle.std.specs.Option.{option_and_then}
use Rattle.osgi_model.specs.computed.MatchReader.{version_order}
use Rattle.osgi_version.specs.VersionValues.{parts}
use Rattle.osgi_filter.specs.laws.Orders.{version_ordered}
use Rattle.osgi_filter.proofs.ordered.compare_version.Goals as goal

pub returns-in-Some : goal.returns-in-Some
returns-in-Some c =
    let stands = version_order (parts c.args.given.now) in
    let is : c.compare_text.result ≡ stands c.bytes.result.now = version_ordered (parts c.args.given.now) c.bytes.result.now c.compare_text.result c.compare_text.ensures.order c.compare_text.ensures.no_version in
    record { order = is ∙ ap stands c.bytes.ensures.bytes ∙ ap (option_and_then stands) c.in-Some.ensures.text }
