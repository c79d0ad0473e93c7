-- What the bundle gives by the exports of the fragments so far was added.
use Rattle.std.proofs.Common.{take}
use Rattle.osgi_space_sources.specs.computed.Adds.{Adds}
use Rattle.osgi_space_sources.specs.computed.Givens.{IsGivenByOwner}
use Rattle.osgi_space_sources.specs.declared.given.Given.{Given}
use Rattle.osgi_space_sources.specs.laws.Adding.{Each}
use Rattle.osgi_space_rows.specs.declared.rows.Attachment.{Attachment}
use Rattle.osgi_space_sources.proofs.space.add_bundle.Given as goal

abbrev pub invariant-loop-row : goal.invariant-loop-row
invariant-loop-row l = Adds (Each (λ (row : Attachment) (g : Given). IsGivenByOwner l.rows l.revision l.bundle row.fragment g) (take l.row-index l.row-items)) l.initial.givens.items l.givens.items
