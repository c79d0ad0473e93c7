-- The rows so far, and then those of the bundles that are left, are all.
use Rattle.std.proofs.Common.{◌≡◌, ◌++◌, drop, map}
use Rattle.osgi_bundle.specs.Rows.{row_of}
use Rattle.osgi_reply.proofs.listing.rows.Given as goal

abbrev pub invariant-loop-kept : goal.invariant-loop-kept
invariant-loop-kept l = l.rows ++ map row_of (drop l.kept-index l.kept-items) ≡ map row_of l.bundles.rows
