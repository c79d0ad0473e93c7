-- The machine is back with what it had or more entries of this caller.
use Rattle.std.proofs.Common.{rules, refl}
use Rattle.osgi_hall.proofs.CallSteps.{notes, holding, noted_at}
use Rattle.osgi_hall.proofs.hall.Hall.put_back.Goals as goal

pub swap-requires : goal.swap-requires
swap-requires g c = let t = c.requires.turn in let x = c.args.machine in
    (search rules, search rules, notes _ _ _ _ _ _ _ t.0 t.1 _ t.2 t.3 x (holding _ _ t.0 x t.4 c.exchange-nothing.ensures.3) t.5 t.6 t.7 t.8 c.length-length.ensures.length c.length-length.ensures.made)

pub returns-clause-done : goal.returns-clause-done
returns-clause-done g c = let t = c.requires.turn in let x = c.args.machine in
    (_, _, noted_at g.M.Machine.entries _ _ t.0 x (holding _ _ t.0 x t.4 c.exchange-nothing.ensures.3) c.swap.ensures.2, refl)
