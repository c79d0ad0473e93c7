-- What a hall's contracts say of the machine: which histories it can make under its setting, and when it gives the reply that is not recorded.
use Rattle.std.specs.Prelude.{List, map}
use Rattle.osgi_framework.specs.Entries.{from_hall}
use Rattle.osgi_framework.specs.Full.{IsFullReply}
use Rattle.osgi_hall.specs.declared.entry.Entry.{Entry}
use Rattle.osgi_legal.specs.Legal.{Legal}
use Rattle.osgi_ops.specs.Settings.{Setting}
use Rattle.osgi_ops.specs.declared.op.Op.{Op}
use Rattle.osgi_ops.specs.declared.reply.Reply.{Reply}

-- the legal ones
abbrev pub can_make : Setting → List (Entry Op Reply) → Type 0
can_make setting history = Legal setting (map from_hall history)

-- whatever was asked for
abbrev pub gives : Setting → List (Entry Op Reply) → Op → Reply → Type 0
gives setting history op reply = IsFullReply setting history reply

-- there is no hint, and nothing is asked
abbrev pub HintsNothing : {H : Type 0} → Setting → List (Entry Op Reply) → H → Type 0
HintsNothing setting history hint = ⊥

abbrev pub TellsNothing : {A V : Type 0} → Setting → List (Entry Op Reply) → A → V → Type 0
TellsNothing setting history ask view = ⊥
