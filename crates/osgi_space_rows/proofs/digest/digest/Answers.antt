-- One more byte.
use Rattle.std.proofs.Common.{arith}
use Rattle.std.proofs.lemmas.Grind.{common_steps}
use Rattle.osgi_space_rows.specs.computed.Digests.{digest_of}
use Rattle.osgi_space_rows.proofs.digest.digest.Goals as goal

pub loop-byte-init : goal.loop-byte-init
unfolding digest_of
loop-byte-init c = grind (arith, common_steps)

pub loop-byte-preserved : goal.loop-byte-preserved
unfolding digest_of
loop-byte-preserved c = grind (arith, common_steps)
