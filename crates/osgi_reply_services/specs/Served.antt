-- What an operation on services does to the registry, and answers by it, where who asks may ask.
use Rattle.std.specs.Prelude.{◌-◌, ◌^◌, ◌<◌}
use Rattle.osgi_base.specs.Verdict.{Gives}
use Rattle.osgi_base.specs.declared.ids.BundleId.{BundleId}
use Rattle.osgi_base.specs.declared.ids.ServiceId.{ServiceId}
use Rattle.osgi_base.specs.declared.ids.Tag.{Tag}
use Rattle.osgi_legal.specs.Legal.{IsAskedAt}
use Rattle.osgi_ops.specs.Moments.{Moment}
use Rattle.osgi_legal.specs.Operations.{Answers, own_conditions}
use Rattle.osgi_ops.specs.Replies.{verdict}
use Rattle.osgi_ops.specs.declared.asked.Asked.{Asked}
use Rattle.osgi_ops.specs.declared.op.Op.{Op}
use Rattle.osgi_ops.specs.declared.reply.Reply.{Reply}
use Rattle.osgi_registry.specs.Rows.{RegistryRows, use_count}
use Rattle.osgi_registry.specs.Stands.{StandsAfter, StandsFor}

-- the reply is due at each moment at which it is asked for and that the registry stood for, and then it stands for the history with the entry
pub record IsServed (asked : Asked) (old new : RegistryRows) (reply : Reply) : Type 0 where
  pub due : (now : Moment) → IsAskedAt asked now → StandsFor now.before old → Gives (own_conditions now asked.op) (Answers now asked.op) (verdict reply)
  pub stands : StandsAfter asked.op reply old new

-- it is the same whatever the tag
abbrev pub IsServedToAll : Op → RegistryRows → RegistryRows → Reply → Type 0
IsServedToAll op old new reply = (tag : Tag) → IsServed (record { tag = tag; op = op }) old new reply

-- ids are left to be given, and one more use of each user can be counted
pub record HasRoom (registry : RegistryRows) : Type 0 where
  pub ids : registry.issued < 2 ^ 32 - 1
  pub uses : (user : BundleId) (service : ServiceId) → use_count user service registry.rows < 2 ^ 64 - 1
