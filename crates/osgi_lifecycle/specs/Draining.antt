-- After which replies events are handed, as the code keeps it.
use Rattle.std.specs.Prelude.{Bool, true, false}
use Rattle.osgi_ops.specs.Replies.{is_accepted, took_effect}
use Rattle.osgi_ops.specs.declared.reply.Reply.{Reply}
use Rattle.osgi_ops.specs.declared.reply.Reply.TheVariants.{Begun, Waiting}
use Rattle.osgi_lifecycle.specs.declared.stirring.Stirring.{Stirring}
use Rattle.osgi_lifecycle.specs.declared.stirring.Stirring.TheVariants as stirring

abbrev pub has_begun : Reply → Bool
has_begun (Begun bundle row) = true
has_begun _ = false

abbrev pub begins_to_wait : Reply → Bool
begins_to_wait (Waiting bundle) = true
begins_to_wait _ = false

abbrev pub drained_by : Stirring → Reply → Bool
drained_by stirring.Never reply = false
drained_by stirring.Accepted reply = is_accepted reply
drained_by stirring.Begun reply = has_begun reply
drained_by stirring.Waiting reply = begins_to_wait reply
drained_by stirring.Always reply = true
drained_by stirring.Effective reply = took_effect reply
