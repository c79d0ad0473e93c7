-- The entries of the wirings so far.
use Rattle.std.proofs.Common.{take}
use Rattle.osgi_base.specs.computed.Texts.{text_cmp}
use Rattle.osgi_space_rules.specs.computed.Entries.{IsEntryOf}
use Rattle.osgi_space_rules.specs.computed.Growing.{Grows, HasEntry, Nothing}
use Rattle.osgi_space_rules.proofs.singletons.singletons_differ.Given as goal

abbrev pub invariant-loop-wiring : goal.invariant-loop-wiring
invariant-loop-wiring l = Grows Nothing (HasEntry text_cmp l.singletons) (IsEntryOf l.known) (take l.wiring-index l.wirings)
