-- What the owners so far offer and need was added.
use Rattle.std.proofs.Common.{◌≡◌, ◌++◌, take}
use Rattle.osgi_world.specs.Payloads.{capabilities_of, requirements_of}
use Rattle.osgi_fragment.proofs.payloads.Hosted.add_all.Given as goal

abbrev pub invariant-loop-owner : goal.invariant-loop-owner
invariant-loop-owner l =
    let before = take l.owner-index l.owners in
    (l.self.capabilities ≡ l.initial.self.capabilities ++ capabilities_of l.known l.host before) × (l.self.requirements ≡ l.initial.self.requirements ++ requirements_of l.known before)
