-- The set with what the wires that are left reexport comes to all.
use Rattle.std.proofs.Common.{◌≡◌, drop, map}
use Rattle.std.specs.Prelude.{filter, nat_eq}
use Rattle.indexmap.specs.IndexSet.{insert_all}
use Rattle.osgi_loader.specs.computed.Wires.{is_reexported, number_of, reexports}
use Rattle.osgi_loader.proofs.reach.add_reexported.Given as goal

abbrev pub invariant-loop-wire : goal.invariant-loop-wire
invariant-loop-wire l =
    insert_all nat_eq l.found.keys (map number_of (filter (is_reexported l.wirings.world.known) (drop l.wire-index l.wire-items))) ≡ insert_all nat_eq l.initial.found.keys (reexports l.wirings.world l.bundle)
