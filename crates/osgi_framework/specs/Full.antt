-- The one reply that a framework does not record: that its history is full.
use Rattle.std.specs.Prelude.{◌≡◌, Bool, true, false, List, length}
use Rattle.osgi_ops.specs.Settings.{Setting}
use Rattle.osgi_ops.specs.declared.refusal.Refusal.TheVariants.{HistoryFull}
use Rattle.osgi_ops.specs.declared.reply.Reply.{Reply}
use Rattle.osgi_ops.specs.declared.reply.Reply.TheVariants.{Refused}

abbrev pub is_recorded : Reply → Bool
is_recorded (Refused HistoryFull) = false
is_recorded reply = true

-- the history has as many entries as it may have, and the reply says so
abbrev pub IsFullReply : {A : Type 0} → Setting → List A → Reply → Type 0
IsFullReply setting history reply = (length history ≡ setting.bounds.entries) × (reply ≡ Refused HistoryFull)
