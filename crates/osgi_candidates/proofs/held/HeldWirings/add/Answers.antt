-- One more wiring is held.
use Rattle.std.proofs.Common.{subst}
use Rattle.osgi_candidates.specs.computed.Holding.{AreFragments, Holds}
use Rattle.osgi_candidates.specs.declared.held.Held.{Held}
use Rattle.osgi_candidates.specs.declared.held.HeldWirings.{HeldWirings}
use Rattle.osgi_candidates.proofs.Standing.{held_more}
use Rattle.osgi_candidates.proofs.held.HeldWirings.add.Goals as goal

pub returns : goal.returns
returns c =
    let h : Held = record { fragments = c.in_ok-fragment_ids.field-0; elsewhere = c.in_ok-imported_elsewhere.field-0 } in
    let new : HeldWirings = record { alloc = c.args.self.now.alloc; wirings = c.insert.new.self } in
    let holds : Holds c.args.known.now c.args.wiring.now h = record {
      fragments = subst (λ fs. AreFragments fs c.in_ok-fragment_ids.field-0) c.items.ensures.items c.in_ok-fragment_ids.ensures.fragments;
      elsewhere = c.in_ok-imported_elsewhere.ensures.elsewhere;
    } in
    record { added = λ W are. held_more c.args.known.now W c.args.self.now new c.args.wiring.now h holds c.in_ok-insert.ensures.updates are }
