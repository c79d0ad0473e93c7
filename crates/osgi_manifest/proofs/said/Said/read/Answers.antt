-- The first fault is that of the first header that has one.
use Rattle.std.proofs.Common.{List, [], ◌∷◌}
use Rattle.osgi_base.specs.declared.folder.Folder.{Folder}
use Rattle.osgi_header.specs.declared.header.Header.{Header}
use Rattle.osgi_world.specs.declared.manifest_fault.ManifestFault.{ManifestFault}
use Rattle.osgi_manifest.specs.computed.Lone.{host_conditions, name_conditions}
use Rattle.osgi_manifest.specs.computed.Steps.{IsSaid, activator_conditions, manifest_version_conditions, member_conditions, native_conditions, version_conditions}
use Rattle.osgi_manifest.proofs.Stages.{none_of_all, stopped}
use Rattle.osgi_manifest.proofs.said.Said.read.Goals as goal

abbrev steps : Folder → List Header → List (List (ManifestFault → Type 0))
steps folder headers =
    manifest_version_conditions headers
    ∷ name_conditions headers
    ∷ version_conditions headers
    ∷ host_conditions headers
    ∷ member_conditions headers
    ∷ activator_conditions folder headers
    ∷ native_conditions headers
    ∷ []

pub returns-in_err-manifest_version : goal.returns-in_err-manifest_version
returns-in_err-manifest_version c =
    let headers = c.args.headers.now in
    record {
      step = stopped (steps c.args.folder.now headers) 0 (IsSaid c.args.folder.now headers) c.from_residual.result c.in_err-manifest_version.field-0.0 c.from_residual.ensures.1
          tt c.in_err-manifest_version.ensures.step;
    }

pub returns-in_err-naming : goal.returns-in_err-naming
returns-in_err-naming c =
    let headers = c.args.headers.now in
    record {
      step = stopped (steps c.args.folder.now headers) 1 (IsSaid c.args.folder.now headers) c.from_residual-in_err-naming.result c.in_err-naming.field-0.0 c.from_residual-in_err-naming.ensures.1
          (c.in_ok-manifest_version.ensures.step.0, tt) c.in_err-naming.ensures.step;
    }

pub returns-in_err-version : goal.returns-in_err-version
returns-in_err-version c =
    let headers = c.args.headers.now in
    record {
      step = stopped (steps c.args.folder.now headers) 2 (IsSaid c.args.folder.now headers) c.from_residual-in_err-version.result c.in_err-version.field-0.0 c.from_residual-in_err-version.ensures.1
          (c.in_ok-manifest_version.ensures.step.0, (c.in_ok-naming.ensures.step.0, tt)) c.in_err-version.ensures.step;
    }

pub returns-in_err-host : goal.returns-in_err-host
returns-in_err-host c =
    let headers = c.args.headers.now in
    record {
      step = stopped (steps c.args.folder.now headers) 3 (IsSaid c.args.folder.now headers) c.from_residual-in_err-host.result c.in_err-host.field-0.0 c.from_residual-in_err-host.ensures.1
          (c.in_ok-manifest_version.ensures.step.0, (c.in_ok-naming.ensures.step.0, (c.in_ok-version.ensures.step.0, tt))) c.in_err-host.ensures.step;
    }

pub returns-in_err-members : goal.returns-in_err-members
returns-in_err-members c =
    let headers = c.args.headers.now in
    record {
      step = stopped (steps c.args.folder.now headers) 4 (IsSaid c.args.folder.now headers) c.from_residual-in_err-members.result c.in_err-members.field-0.0 c.from_residual-in_err-members.ensures.1
          (c.in_ok-manifest_version.ensures.step.0, (c.in_ok-naming.ensures.step.0, (c.in_ok-version.ensures.step.0, (c.in_ok-host.ensures.step.0, tt)))) c.in_err-members.ensures.step;
    }

pub returns-in_err-activator : goal.returns-in_err-activator
returns-in_err-activator c =
    let headers = c.args.headers.now in
    record {
      step = stopped (steps c.args.folder.now headers) 5 (IsSaid c.args.folder.now headers) c.from_residual-in_err-activator.result c.in_err-activator.field-0.0 c.from_residual-in_err-activator.ensures.1
          (c.in_ok-manifest_version.ensures.step.0, (c.in_ok-naming.ensures.step.0, (c.in_ok-version.ensures.step.0, (c.in_ok-host.ensures.step.0, (c.in_ok-members.ensures.step.0, tt))))) c.in_err-activator.ensures.step;
    }

pub returns-in_err-native_code : goal.returns-in_err-native_code
returns-in_err-native_code c =
    let headers = c.args.headers.now in
    record {
      step = stopped (steps c.args.folder.now headers) 6 (IsSaid c.args.folder.now headers) c.from_residual-in_err-native_code.result c.in_err-native_code.field-0.0 c.from_residual-in_err-native_code.ensures.1
          (c.in_ok-manifest_version.ensures.step.0, (c.in_ok-naming.ensures.step.0, (c.in_ok-version.ensures.step.0, (c.in_ok-host.ensures.step.0, (c.in_ok-members.ensures.step.0, (c.in_ok-activator.ensures.step.0, tt)))))) c.in_err-native_code.ensures.step;
    }

pub returns : goal.returns
returns c = record {
  step = (
    none_of_all (steps c.args.folder.now c.args.headers.now) (c.in_ok-manifest_version.ensures.step.0, (c.in_ok-naming.ensures.step.0, (c.in_ok-version.ensures.step.0, (c.in_ok-host.ensures.step.0, (c.in_ok-members.ensures.step.0, (c.in_ok-activator.ensures.step.0, (c.in_ok-native_code.ensures.step.0, tt))))))),
    record { naming = c.in_ok-naming.ensures.step.1; version = c.in_ok-version.ensures.step.1; host = c.in_ok-host.ensures.step.1; members = c.in_ok-members.ensures.step.1; activator = c.in_ok-activator.ensures.step.1 },
  );
}
