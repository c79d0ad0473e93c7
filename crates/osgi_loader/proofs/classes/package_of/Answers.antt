-- One byte more, and in the end all bytes.
use Rattle.std.proofs.Common.{◌∙◌, arith}
use Rattle.osgi_loader.proofs.Names.{dot-before, dot-here}
use Rattle.osgi_loader.proofs.classes.package_of.Goals as goal
use Rattle.osgi_loader.proofs.classes.package_of.Goals.{then-byte-eq46, else-byte-eq46}

pub loop-place-preserved : goal.loop-place-preserved
loop-place-preserved c =
    elim c.if-byte-eq46.branch [
      | then-byte-eq46 w ↦ rw w.end-is (record { within = omega arith; is = dot-here c.args.class.now c.loop-place.place c.loop-place-test.true w.if-byte-eq46.true })
      | else-byte-eq46 w ↦ rw w.end-is (record { within = omega arith; is = dot-before c.args.class.now c.loop-place.place c.loop-place-test.true w.if-byte-eq46.false ∙ c.loop-place.invariant.is })
    ]
