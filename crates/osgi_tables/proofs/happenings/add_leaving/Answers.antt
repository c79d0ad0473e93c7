-- At first all services are left.
use Rattle.std.proofs.Common.{ap, map, ◌++◌, ◌∙◌}
use Rattle.osgi_sights.specs.Shown as shown
use Rattle.osgi_tables.proofs.Shown.{shown_each}
use Rattle.osgi_tables.proofs.happenings.add_leaving.Goals as goal

pub loop-service-init : goal.loop-service-init
loop-service-init c =
    ap (λ l. c.args.happened.now ++ l)
    (shown_each 4 (λ s. s.now) c.as_slice-service-items.result.now
    ∙ ap (λ xs. map (shown.service 4) (map (λ s. s.now) xs)) c.as_slice-service-items.ensures.value
    ∙ ap (map (shown.service 4)) c.in_ok-services.ensures.services)
