-- What all steps read decides, or where one of them stopped.
use Rattle.osgi_base.specs.Verdict.{Gives}
use Rattle.osgi_manifest.specs.Manifests.{IsRevisionOf, manifest_faults}
use Rattle.osgi_manifest.proofs.Folders.{answers_on, stop_answers}
use Rattle.osgi_manifest.proofs.Revisions.{meaning_answers}
use Rattle.osgi_manifest.proofs.folder.meant.Goals as goal

pub returns-in_err-said : goal.returns-in_err-said
returns-in_err-said c =
    let folder = c.args.folder.now in
    let headers = c.args.headers.now in
    let stop = c.in_err-said.field-0.0 in
    record {
      only = answers_on folder (Gives (manifest_faults folder headers) (IsRevisionOf folder headers)) c.from_residual.result stop c.from_residual.ensures.1
          (stop_answers folder headers stop c.in_err-said.ensures.step);
    }

pub returns : goal.returns
returns c = record {
  only = meaning_answers c.args.folder.now c.args.headers.now c.in_ok-said.said c.in_ok-said.ensures.step.1 c.in_ok-meaning.meaning c.in_ok-meaning.ensures.made
      c.in_ok-meaning.ensures.script c.in_ok-said.ensures.step.0;
}
