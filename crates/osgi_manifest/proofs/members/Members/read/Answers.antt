-- The first fault is that of the first header that has one.
use Rattle.std.proofs.Common.{List, [], ◌∷◌}
use Rattle.std.specs.Prelude.{codes}
use Rattle.osgi_header.specs.declared.header.Header.{Header}
use Rattle.osgi_world.specs.declared.manifest_fault.ManifestFault.{ManifestFault}
use Rattle.osgi_clause.specs.Faults.{bundle_faults, export_clause_faults, import_clause_faults, provided_faults, required_faults}
use Rattle.osgi_manifest.specs.computed.Steps.{AreMembers, section_conditions}
use Rattle.osgi_manifest.proofs.Stages.{none_of_all, stopped}
use Rattle.osgi_manifest.proofs.members.Members.read.Goals as goal

abbrev steps : List Header → List (List (ManifestFault → Type 0))
steps headers =
    section_conditions headers (codes "Require-Bundle") bundle_faults
    ∷ section_conditions headers (codes "Import-Package") import_clause_faults
    ∷ section_conditions headers (codes "Export-Package") export_clause_faults
    ∷ section_conditions headers (codes "Require-Capability") required_faults
    ∷ section_conditions headers (codes "Provide-Capability") provided_faults
    ∷ []

pub returns-in_err-bundles : goal.returns-in_err-bundles
returns-in_err-bundles c =
    let headers = c.args.headers.now in
    record {
      step = stopped (steps headers) 0 (AreMembers headers) c.from_residual.result c.in_err-bundles.field-0.0 c.from_residual.ensures.1
          tt c.in_err-bundles.ensures.step;
    }

pub returns-in_err-imports : goal.returns-in_err-imports
returns-in_err-imports c =
    let headers = c.args.headers.now in
    record {
      step = stopped (steps headers) 1 (AreMembers headers) c.from_residual-in_err-imports.result c.in_err-imports.field-0.0 c.from_residual-in_err-imports.ensures.1
          (c.in_ok-bundles.ensures.step.0, tt) c.in_err-imports.ensures.step;
    }

pub returns-in_err-exports : goal.returns-in_err-exports
returns-in_err-exports c =
    let headers = c.args.headers.now in
    record {
      step = stopped (steps headers) 2 (AreMembers headers) c.from_residual-in_err-exports.result c.in_err-exports.field-0.0 c.from_residual-in_err-exports.ensures.1
          (c.in_ok-bundles.ensures.step.0, (c.in_ok-imports.ensures.step.0, tt)) c.in_err-exports.ensures.step;
    }

pub returns-in_err-required : goal.returns-in_err-required
returns-in_err-required c =
    let headers = c.args.headers.now in
    record {
      step = stopped (steps headers) 3 (AreMembers headers) c.from_residual-in_err-required.result c.in_err-required.field-0.0 c.from_residual-in_err-required.ensures.1
          (c.in_ok-bundles.ensures.step.0, (c.in_ok-imports.ensures.step.0, (c.in_ok-exports.ensures.step.0, tt))) c.in_err-required.ensures.step;
    }

pub returns-in_err-provided : goal.returns-in_err-provided
returns-in_err-provided c =
    let headers = c.args.headers.now in
    record {
      step = stopped (steps headers) 4 (AreMembers headers) c.from_residual-in_err-provided.result c.in_err-provided.field-0.0 c.from_residual-in_err-provided.ensures.1
          (c.in_ok-bundles.ensures.step.0, (c.in_ok-imports.ensures.step.0, (c.in_ok-exports.ensures.step.0, (c.in_ok-required.ensures.step.0, tt)))) c.in_err-provided.ensures.step;
    }

pub returns : goal.returns
returns c = record {
  step = (
    none_of_all (steps c.args.headers.now) (c.in_ok-bundles.ensures.step.0, (c.in_ok-imports.ensures.step.0, (c.in_ok-exports.ensures.step.0, (c.in_ok-required.ensures.step.0, (c.in_ok-provided.ensures.step.0, tt))))),
    record { bundles = c.in_ok-bundles.ensures.step.1; imports = c.in_ok-imports.ensures.step.1; exports = c.in_ok-exports.ensures.step.1; required = c.in_ok-required.ensures.step.1; provided = c.in_ok-provided.ensures.step.1 },
  );
}
