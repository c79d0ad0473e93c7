-- The only verdict of the folder, with its only script, is the only meaning; a fault leaves none.
use Rattle.std.proofs.Common.{ap, sym}
use Rattle.std.specs.Prelude.{Ok}
use Rattle.osgi_manifest.proofs.Folders.{meaning_fine, meaning_holds, meaning_one}
use Rattle.osgi_manifest.proofs.folder.read_meaning.Goals as goal

pub returns-in-Ok : goal.returns-in-Ok
returns-in-Ok c =
    let folder = c.args.folder.now in
    let meaning = c.in-Ok.meaning in
    let is = c.in-Ok.ensures.only in
    record {
      reads = meaning_holds folder meaning is;
      only = λ other has. ap Ok (sym (meaning_one folder meaning is other has));
      fault = λ found bad. absurd (meaning_fine folder meaning is found bad);
    }
