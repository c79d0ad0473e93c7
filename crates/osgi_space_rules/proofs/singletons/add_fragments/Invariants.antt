-- What was there, and the entries of the fragments so far.
use Rattle.std.proofs.Common.{take}
use Rattle.osgi_base.specs.computed.Texts.{text_cmp}
use Rattle.osgi_space_rules.specs.computed.Entries.{IsEntry}
use Rattle.osgi_space_rules.specs.computed.Growing.{Grows, HasEntry}
use Rattle.osgi_space_rules.proofs.singletons.add_fragments.Given as goal

abbrev pub invariant-loop-fragment : goal.invariant-loop-fragment
invariant-loop-fragment l = Grows (HasEntry text_cmp l.initial.singletons) (HasEntry text_cmp l.singletons) (IsEntry l.known) (take l.fragment-index l.fragments)
