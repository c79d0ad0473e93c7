-- Beside bundles and packages the filter decides, over the capability's attributes.
use Rattle.std.proofs.Common.{rules, ◌≡◌}
use Rattle.osgi_capability.specs.computed.Satisfied.{fits_filter}
use Rattle.osgi_capability.proofs.satisfying.meets.Goals as goal

pub returns : goal.returns
returns c =
    let fits : c.fits_filter.result ≡ fits_filter c.args.requirement.now.filter c.args.capability.now.attributes = rw c.get.ensures.value at c.fits_filter.ensures.fits in
    record { meets = search (rules, fits) }
