-- Brackets after one more entry, and which operations end a turn of a listener.
use Rattle.std.proofs.Common.{◌≡◌, List, [], ◌∷◌, ◌++◌, Bool, true, false, refl, subst}
use Rattle.std.specs.Prelude.{◌==◌}
use Rattle.std.proofs.lemmas.Bool.{eqb-true}
use Rattle.osgi_base.specs.declared.ids.ListenerId.{ListenerId}
use Rattle.osgi_ops.specs.Brackets.{brackets, Cause, ends, handing, job, making, starting, stopping, with_entry}
use Rattle.osgi_ops.specs.Listening.{is_turn_of}
use Rattle.osgi_ops.specs.declared.entry.Entry.{Entry}
use Rattle.osgi_ops.specs.declared.op.Op.{Op}
use Rattle.osgi_ops.specs.declared.op.Op.TheVariants.{EndHand, EndJob, EndMake, EndStart, EndStop}
use Rattle.osgi_ops.specs.laws.Along.{carry-last}

-- the brackets after one more entry
pub brackets-last : (history : List Entry) (e : Entry) → brackets (history ++ e ∷ []) ≡ with_entry (brackets history) e
brackets-last history e = carry-last with_entry [] history e

-- ---- turns

-- the operation is the end of a hand of this listener
abbrev pub ends_turn : ListenerId → Op → Bool
ends_turn listener (EndHand held) = held.0 == listener.0
ends_turn listener op = false

-- what another operation ends is no turn of the listener
pub ends-no-turn : (listener : ListenerId) (op : Op) (cause : Cause) → ends op cause ≡ true → ends_turn listener op ≡ false → is_turn_of listener cause ≡ false
ends-no-turn listener (EndHand held) (handing h) e f = subst (λ n. (n == listener.0) ≡ false) (eqb-true held.0 h.0 e) f
ends-no-turn listener EndJob job e f = refl
ends-no-turn listener (EndStart n bad) (starting b) e f = refl
ends-no-turn listener (EndStop n bad) (stopping b) e f = refl
ends-no-turn listener (EndMake bad) (making m) e f = refl
ends-no-turn listener op cause e f = absurd (cc e)
