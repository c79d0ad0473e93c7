-- All services.
use Rattle.osgi_reply_services.proofs.Serving.{served_listed}
use Rattle.osgi_reply_services.proofs.services.list_services.Goals as goal

pub returns : goal.returns
returns c = record { served = served_listed c.args.registry.now c.in_ok-rows.rows c.in_ok-rows.ensures.rows }
