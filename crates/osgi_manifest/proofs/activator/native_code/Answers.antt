-- The header is there.
use Rattle.std.proofs.Common.{◌≢◌, []}
use Rattle.std.specs.Prelude.{codes, None}
use Rattle.osgi_world.specs.declared.manifest_fault.ManifestKind.TheVariants.{NativeCode}
use Rattle.osgi_manifest.specs.Values.{header_value}
use Rattle.osgi_manifest.proofs.Single.{some_value, starts}
use Rattle.osgi_manifest.proofs.activator.native_code.Goals as goal

pub returns-in_ok-header_fault-in-Some : goal.returns-in_ok-header_fault-in-Some
returns-in_ok-header_fault-in-Some c = record {
  step = starts (codes "Bundle-NativeCode") NativeCode (header_value (codes "Bundle-NativeCode") c.args.headers.now ≢ None) [] c.in_ok-header_fault-in-Some.field-0
      c.in_ok-header_fault-in-Some.ensures.fault (some_value c.header_value.result _ _ c.in-Some.is c.header_value.ensures.value);
}
