-- The version is not 2.
use Rattle.std.proofs.Common.{◌≢◌, []}
use Rattle.std.specs.Prelude.{codes, Some}
use Rattle.osgi_world.specs.declared.manifest_fault.ManifestKind.TheVariants.{ManifestVersion}
use Rattle.osgi_manifest.specs.Values.{header_value}
use Rattle.osgi_manifest.proofs.Single.{other_told, starts}
use Rattle.osgi_manifest.proofs.versions.manifest_version.Goals as goal

pub returns : goal.returns
returns c = record {
  step = starts (codes "Bundle-ManifestVersion") ManifestVersion (header_value (codes "Bundle-ManifestVersion") c.args.headers.now ≢ Some (codes "2")) [] c.in_ok-header_fault.field-0
      c.in_ok-header_fault.ensures.fault (other_told _ _ c.is_two.result c.if-is_two.false c.is_two.ensures.two);
}
