-- What the exports of the fragments so far use was added.
use Rattle.std.proofs.Common.{take}
use Rattle.osgi_space_sources.specs.computed.Adds.{Adds}
use Rattle.osgi_space_sources.specs.computed.Pairs.{IsOwnUse}
use Rattle.osgi_space_sources.specs.declared.given.Given.{Given}
use Rattle.osgi_space_sources.specs.laws.Adding.{Each}
use Rattle.osgi_space_rows.specs.declared.rows.Attachment.{Attachment}
use Rattle.osgi_space_sources.proofs.constraints.add_uses.Given as goal

abbrev pub invariant-loop-row : goal.invariant-loop-row
invariant-loop-row l = Adds (Each (λ (row : Attachment) (g : Given). IsOwnUse l.rows l.exporter row.fragment l.«package» g) (take l.row-index l.row-items)) l.initial.found l.found
