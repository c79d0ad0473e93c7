-- Without a manifest that is the fault; with one its text decides.
use Rattle.std.proofs.Common.{subst, sym}
use Rattle.osgi_manifest.specs.Manifests.{SaysManifest}
use Rattle.osgi_manifest.specs.computed.Readings.{AnswersOnly, SaysText}
use Rattle.osgi_manifest.proofs.Folders.{missing_only, stops, text_answers}
use Rattle.osgi_world.specs.declared.manifest_fault.ManifestKind.TheVariants as fault
use Rattle.osgi_manifest.proofs.folder.read_folder.Goals as goal

pub returns-in-Some : goal.returns-in-Some
returns-in-Some c = record {
  only = text_answers c.args.folder.now c.in-Some.file.now (sym c.in-Some.ensures.file) c.meant_by.result
      (subst (λ text. AnswersOnly c.args.folder.now (SaysText c.args.folder.now text) c.meant_by.result) c.bytes.ensures.bytes c.meant_by.ensures.only);
}

pub returns-in-None : goal.returns-in-None
returns-in-None c = record {
  only = stops c.args.folder.now (SaysManifest c.args.folder.now) fault.NoManifest 0 c.stop.result c.stop.ensures.stop (missing_only c.args.folder.now (sym c.in-None.ensures.file));
}
