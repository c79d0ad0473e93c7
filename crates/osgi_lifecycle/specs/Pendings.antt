-- What is left of a plan of the code, and what it is asked and answers.
use Rattle.std.specs.Prelude.{◌≡◌, Bool, true, false, Option, None, Some, unwrap_or}
use Rattle.osgi_base.specs.declared.ids.ServiceId.{ServiceId}
use Rattle.osgi_ops.specs.declared.reply.Reply.{Reply}
use Rattle.osgi_session.specs.Plans.{End, done, bound, refused, failed}
use Rattle.osgi_session.specs.Runs.{no_service}
use Rattle.osgi_session.specs.Steps.{Last, begin, replied, drained_out, left_section, Next, do_op, do_drain, do_section, at_end, Pending, fresh, asking, draining, within, ended}
use Rattle.osgi_lifecycle.specs.Draining.{drained_by}
use Rattle.osgi_lifecycle.specs.Following.{after_reply, after_section, left_of}
use Rattle.osgi_lifecycle.specs.declared.last.Last as declared_last
use Rattle.osgi_lifecycle.specs.declared.last.Last.TheVariants as last
use Rattle.osgi_lifecycle.specs.declared.next.Next as declared_next
use Rattle.osgi_lifecycle.specs.declared.next.Next.TheVariants as next
use Rattle.osgi_lifecycle.specs.declared.plan.Plan.{Plan}
use Rattle.osgi_lifecycle.specs.declared.plan.Stage.{Stage}
use Rattle.osgi_lifecycle.specs.declared.plan.Stage.TheVariants as stage

abbrev pub pending_at : Stage → Plan → Pending
pending_at stage.Fresh plan = fresh (left_of plan.ready plan.rest)
pending_at stage.Asked plan = asking (drained_by plan.stirring) (after_reply plan.rest.at plan.rest.kept)
pending_at stage.Draining plan = draining (left_of plan.ready plan.rest)
pending_at stage.Within plan = within (after_section plan.rest.at plan.rest.kept)
pending_at stage.Ended plan = ended

-- what is left of it between two steps
unfoldable pub pending_of : Plan → Pending
pending_of plan = pending_at plan.stage plan

abbrev pub last_of : declared_last.Last → Last
last_of last.Begin = begin
last_of (last.Reply reply) = replied reply
last_of last.Drained = drained_out
last_of (last.Ran fails) = left_section fails

-- how the step before came out answers what that step was
abbrev pub IsAnswer : Pending → Last → Type 0
IsAnswer (fresh p) begin = Unit {0}
IsAnswer (asking drains rest) (replied reply) = Unit {0}
IsAnswer (draining p) drained_out = Unit {0}
IsAnswer (within rest) (left_section fails) = Unit {0}
IsAnswer _ _ = ⊥

-- the code tells this end so: refused or not, failed or not, and the service that was registered or found, service 0 standing for none
abbrev pub IsEnd : End → Bool → Bool → Option ServiceId → Type 0
IsEnd done r f b = (r ≡ false) × (f ≡ false) × (b ≡ None)
IsEnd (bound found) r f b = (r ≡ false) × (f ≡ false) × (b ≡ Some (unwrap_or found no_service))
IsEnd refused r f b = (r ≡ true) × (f ≡ false) × (b ≡ None)
IsEnd failed r f b = (r ≡ false) × (f ≡ true) × (b ≡ None)

-- the code tells this step
abbrev pub IsNext : declared_next.Next → Next → Type 0
IsNext (next.Do op) (do_op o) = op ≡ o
IsNext next.Drain do_drain = Unit {0}
IsNext (next.Run row owner section) (do_section r o which) = (row ≡ r) × (owner ≡ o) × (section ≡ which)
IsNext (next.End r f b) (at_end end) = IsEnd end r f b
IsNext _ _ = ⊥

-- what is left waits for what comes of this step
abbrev pub Awaits : declared_next.Next → Pending → Type 0
Awaits (next.Do op) pending = (reply : Reply) → IsAnswer pending (replied reply)
Awaits next.Drain pending = IsAnswer pending drained_out
Awaits (next.Run row owner section) pending = (fails : Bool) → IsAnswer pending (left_section fails)
Awaits (next.End r f b) pending = Unit {0}
