-- All of a class.
use Rattle.std.proofs.Common.{◌≡◌, subst}
use Rattle.std.specs.Option.{option_copied}
use Rattle.osgi_ops.specs.Classes.{AreRanked, IsOf}
use Rattle.osgi_registry.specs.Rows.{services_in}
use Rattle.osgi_reply_services.proofs.Serving.{served_found_all}
use Rattle.osgi_reply_services.proofs.services.find_all.Goals as goal

pub returns : goal.returns
returns c =
    let issued : option_copied c.as_ref.result ≡ c.args.filter.now = c.as_ref.ensures.value in
    record {
      served =
          served_found_all c.args.asker c.args.class.now c.args.filter.now c.args.registry.now c.in_ok-services.services
          (subst (λ f. AreRanked (IsOf c.args.class.now f) (services_in c.args.registry.now.rows) c.in_ok-services.services) issued c.in_ok-services.ensures.ranked);
    }
