-- No services rise.
use Rattle.std.proofs.Common.{sym}
use Rattle.osgi_registry_index.proofs.Belongs.{none_rise}
use Rattle.osgi_registry_index.proofs.bundle_services.BundleServices.services.Goals as goal

pub returns-in-None-clause-rising : goal.returns-in-None-clause-rising
returns-in-None-clause-rising c = none_rise c.new.result c.args.self.now.bundles c.args.bundle.0 (sym c.in-None.ensures.value)
