-- The total of the files so far.
use Rattle.std.proofs.Common.{◌≡◌, ◌-◌, ◌^◌, min, length, sum_by, take}
use Rattle.osgi_outside.proofs.memory_shelf.total_bytes.Given as goal

abbrev pub invariant-loop-file : goal.invariant-loop-file
invariant-loop-file l = l.total ≡ min (sum_by (λ file. length file.bytes) (take l.file-index l.file-items)) (2 ^ 64 - 1)
