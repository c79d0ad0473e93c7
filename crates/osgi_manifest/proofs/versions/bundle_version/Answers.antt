-- The text reads as no version.
use Rattle.std.proofs.Common.{[]}
use Rattle.std.specs.Prelude.{codes}
use Rattle.osgi_world.specs.declared.manifest_fault.ManifestKind.TheVariants.{BadVersion}
use Rattle.osgi_version.specs.Versions.{IsReadableVersion}
use Rattle.osgi_manifest.specs.Manifests.{own_version}
use Rattle.osgi_manifest.proofs.Single.{starts, unread}
use Rattle.osgi_manifest.proofs.versions.bundle_version.Goals as goal

pub returns-in_ok-header_fault-in-Err : goal.returns-in_ok-header_fault-in-Err
returns-in_ok-header_fault-in-Err c = record {
  step = starts (codes "Bundle-Version") BadVersion (¬ IsReadableVersion (own_version c.args.headers.now)) [] c.in_ok-header_fault-in-Err.field-0
      c.in_ok-header_fault-in-Err.ensures.fault
      (unread (own_version c.args.headers.now) c.version_text.result.now c.in_ok-version.field-0 c.in-Err.field-0 c.version_text.ensures.text c.in-Err.is c.in_ok-version.ensures.only);
}
