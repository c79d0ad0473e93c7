-- The rule at the start.
use Rattle.std.proofs.Common.{rules, ◌≡◌, [], ◌∷◌, sym, ap, Some}
use Rattle.osgi_hall.proofs.CallSteps.{opens}
use Rattle.osgi_hall.proofs.hall.Hall.new.Goals as goal

pub new-requires : goal.new-requires
new-requires g c = let e : c.push.new.self.items ≡ Some c.args.machine ∷ [] = search rules in
    rw e (opens _ _ _ _ c.args.machine c.length.ensures.made c.requires.fresh (ap g.M.Machine.setting (sym c.of-key.ensures)))
