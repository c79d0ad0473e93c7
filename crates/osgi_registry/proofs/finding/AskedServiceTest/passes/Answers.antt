-- The filter is asked first, and then whether the service is assignable.
use Rattle.std.proofs.Common.{sym, ◌∙◌}
use Rattle.std.specs.Option.{option_copied}
use Rattle.osgi_registry.proofs.Found.{fits_decides}
use Rattle.osgi_registry.proofs.finding.AskedServiceTest.passes.Goals as goal

pub returns-in_ok-is_assignable_to : goal.returns-in_ok-is_assignable_to
returns-in_ok-is_assignable_to g c =
    let fits = fits_decides (option_copied c.args.self.now.filter) c.args.service.now in
    let assignable = c.in_ok-is_assignable_to.ensures.assignable in
    record { answer = ((λ yes. (fits.0 (sym c.does_fit.ensures.fits ∙ c.if-does_fit.true), assignable.0 yes)), (λ is. assignable.1 is.1)) }

pub returns-else-does_fit : goal.returns-else-does_fit
returns-else-does_fit g c =
    let fits = fits_decides (option_copied c.args.self.now.filter) c.args.service.now in
    let no = c.if-does_fit.false in
    record { answer = ((λ yes. absurd (cc (yes, no))), (λ is. c.does_fit.ensures.fits ∙ fits.1 is.0)) }
