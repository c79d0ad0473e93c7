-- The file of the class is what it reads as, or no script.
use Rattle.std.proofs.Common.{◌∙◌}
use Rattle.osgi_manifest.proofs.Single.{no_script, script_read}
use Rattle.osgi_manifest.proofs.activator.class_script.Goals as goal

pub returns-in-Ok : goal.returns-in-Ok
returns-in-Ok c = record {
  script = script_read c.args.folder.now c.args.class.now c.as_slice.result.now c.bytes.result.now c.in-Some.file.now c.in_ok-script.field-0 (c.as_slice.ensures.value ∙ c.in_ok-path.ensures.path)
      c.in-Some.ensures.file c.bytes.ensures.bytes c.in_ok-script.ensures.only c.in-Ok.script c.in-Ok.is c.in_ok-script.ensures.reads;
}

pub returns : goal.returns
returns c = record {
  script = no_script c.args.folder.now c.args.class.now c.as_slice.result.now c.bytes.result.now c.in-Some.file.now c.in_ok-script.field-0 (c.as_slice.ensures.value ∙ c.in_ok-path.ensures.path)
      c.in-Some.ensures.file c.bytes.ensures.bytes c.in_ok-script.ensures.only _ c.in-Err.is;
}
