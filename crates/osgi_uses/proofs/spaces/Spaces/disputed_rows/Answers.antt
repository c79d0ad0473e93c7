-- The rows are those of the wirings with all that was added.
use Rattle.std.proofs.Common.{reverse, subst}
use Rattle.osgi_space_rows.specs.Worlds.{AreRowsIn}
use Rattle.osgi_uses.specs.States.{SpacesState, wirings_of}
use Rattle.osgi_uses.proofs.Trails.{rows-along}
use Rattle.osgi_uses.proofs.spaces.Spaces.disputed_rows.Goals as goal

pub returns-clause-rows : goal.returns-clause-rows
returns-clause-rows c =
    let rows = c.self.inside.rows in
    subst (λ (s : SpacesState). AreRowsIn rows (wirings_of s)) c.self.view_is
    (rows-along rows c.self.inside.world.now.wirings (reverse c.self.inside.trail.items) c.self.invariant.along)
