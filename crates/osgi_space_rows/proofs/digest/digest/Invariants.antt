-- The digest of the bytes so far.
use Rattle.std.proofs.Common.{◌≡◌, take}
use Rattle.osgi_space_rows.specs.computed.Digests.{digest_of}
use Rattle.osgi_space_rows.proofs.digest.digest.Given as goal

abbrev pub invariant-loop-byte : goal.invariant-loop-byte
invariant-loop-byte l = l.digest ≡ digest_of (take l.byte-index l.bytes)
