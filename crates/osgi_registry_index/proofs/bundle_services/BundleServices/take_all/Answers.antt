-- No service among the bundle's.
use Rattle.osgi_registry_index.proofs.Belongs.{emptied_at}
use Rattle.osgi_registry_index.proofs.bundle_services.BundleServices.take_all.Goals as goal

pub returns : goal.returns
returns c = record { taken = emptied_at c.args.self.now.bundles c.remove.new.self c.args.bundle c.remove.ensures.updates.0 }
