-- None of the fragments so far is this one.
use Rattle.std.proofs.Common.{◌≡◌, Any, take}
use Rattle.osgi_space_rows.specs.declared.rows.Attachment.{Attachment}
use Rattle.osgi_resolver_hopeless.proofs.offer.is_attached.Given as goal

abbrev pub invariant-loop-row : goal.invariant-loop-row
invariant-loop-row l = ¬ Any (λ (row : Attachment). row.fragment ≡ l.fragment) (take l.row-index l.row-items)
