-- The rows with an attachment more.
use Rattle.std.proofs.Common.{subst, sym, reverse}
use Rattle.osgi_space_rows.specs.Worlds.{WorldLists}
use Rattle.osgi_uses.specs.computed.Trail.{IsTrailOf}
use Rattle.osgi_uses.proofs.Trails.{trail-more}
use Rattle.osgi_uses.proofs.spaces.Spaces.attach.Goals as goal

pub invariant_of-self-2 : goal.invariant_of-self-2
invariant_of-self-2 c =
    subst (λ (rows : WorldLists). IsTrailOf c.self.inside.world.now rows (reverse c.keep.new.trail.items)) (sym c.in_ok-keep.ensures.rows)
    (trail-more c.self.inside.world.now c.self.inside.rows c.attach.new.self c.self.inside.trail.items c.keep.new.trail.items _ c.in_ok-keep.ensures.trail c.in_ok-added.ensures.added c.self.invariant)
