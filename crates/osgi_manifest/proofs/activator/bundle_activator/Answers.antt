-- There is no activator, or the file of its class is a script, or is missing or none.
use Rattle.std.proofs.Common.{ap}
use Rattle.std.specs.Option.{option_copied}
use Rattle.osgi_manifest.proofs.Single.{class_first, class_said, none_said}
use Rattle.osgi_manifest.proofs.activator.bundle_activator.Goals as goal

pub returns-in_default : goal.returns-in_default
returns-in_default c = record {
  step = none_said c.args.folder.now c.args.headers.now (option_copied c.activator.result) (record { sections = c.in_ok-sections.sections }) (ap option_copied c.in_default.is)
      c.activator.ensures.class c.in_ok-sections.ensures.empty;
}

pub returns-in_ok-copy-in-Ok : goal.returns-in_ok-copy-in-Ok
returns-in_ok-copy-in-Ok c = record {
  step = class_said c.args.folder.now c.args.headers.now c.activator.result c.in-Some.class c.bytes.result.now c.in_ok-copy-in-Ok.field-0 c.in_ok-script.field-0 c.in-Ok.script
      c.in-Some.is c.activator.ensures.class c.bytes.ensures.bytes c.in_ok-copy-in-Ok.ensures.same c.in-Ok.is c.in_ok-script.ensures.script;
}

pub returns-in_ok-header_fault-in-Err : goal.returns-in_ok-header_fault-in-Err
returns-in_ok-header_fault-in-Err c = record {
  step = class_first c.args.folder.now c.args.headers.now c.activator.result c.in-Some.class c.bytes.result.now c.in-Err.kind c.in_ok-script.field-0
      c.in_ok-header_fault-in-Err.field-0 c.in-Some.is c.activator.ensures.class c.bytes.ensures.bytes c.in-Err.is c.in_ok-script.ensures.script
      c.in_ok-header_fault-in-Err.ensures.fault;
}
