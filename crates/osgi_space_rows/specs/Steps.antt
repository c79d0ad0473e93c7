-- Wirings to which single wires and fragments were added, step by step.
use Rattle.std.specs.Prelude.{List, [], ◌∷◌, ◌++◌}
use Rattle.osgi_world.specs.Decisions.{Step, attached, wired}
use Rattle.osgi_world.specs.declared.wiring.Wiring.{Wiring}

-- a wiring of the revision with this wire or this fragment alone
abbrev pub step_wiring : Step → Wiring
step_wiring (attached h f) = record { revision = h; wires = []; fragments = f ∷ [] }
step_wiring (wired r w) = record { revision = r; wires = w ∷ []; fragments = [] }

-- the wirings with what the steps add, the last step first. A revision may then have several wirings: what it has is what they have
-- together
abbrev pub after_steps : List Wiring → List Step → List Wiring
after_steps W [] = W
after_steps W (s ∷ steps) = after_steps W steps ++ step_wiring s ∷ []
