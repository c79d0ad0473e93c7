-- The last decision is taken back.
use Rattle.osgi_resolver_path.proofs.OnWay.{on-shorter}
use Rattle.osgi_resolver_path.proofs.path.Path.shorter.Goals as goal

pub invariant_of-self-2 : goal.invariant_of-self-2
invariant_of-self-2 c =
    let taken = c.in_ok-mark.ensures.taken in
    on-shorter c.self.inside.world.now c.self.inside.root c.self.inside.lists c.self.inside.spaces c.self.inside.course c.self.invariant c.shorter.new.course c.shorter.new.spaces c.in_ok-mark.mark taken.0 c.shorter.ensures.places taken.1.0 taken.1.1
