-- Each turn makes a place more.
use Rattle.std.proofs.Common.{refl, ◌∙◌}
use Rattle.osgi_base.proofs.Places.{holds-more_places}
use Rattle.osgi_base.proofs.number_map.NumberMap.reach.Goals as goal

pub loop-self-preserved : goal.loop-self-preserved
loop-self-preserved g c = λ n.
    holds-more_places c.loop-self.self (record { low = c.push.new.self; high = c.loop-self.self.high }) c.in_ok-push.ensures.items refl n
    ∙ c.loop-self.invariant n
