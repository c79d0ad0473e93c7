-- The counts that the scans take.
use Rattle.std.specs.Prelude.{ℕ, ◌-◌, Bool, true, false, List, count_by}
use Rattle.std.specs.Option.{option_map_or}
use Rattle.osgi_base.specs.declared.ids.BundleId.{BundleId}
use Rattle.osgi_base.specs.declared.ids.ServiceId.{ServiceId}
use Rattle.osgi_ops.specs.Replies.{is_accepted}
use Rattle.osgi_ops.specs.Services.{gets_object, is_unget, live_service_at, since_cleaning, uses_without_makes}
use Rattle.osgi_ops.specs.declared.op.Op.{Op}
use Rattle.osgi_ops.specs.declared.op.Op.TheVariants.{Register}
use Rattle.osgi_ops.specs.declared.refusal.Refusal.TheVariants.{ActivatorError}
use Rattle.osgi_ops.specs.declared.reply.Reply.{Reply}
use Rattle.osgi_ops.specs.declared.reply.Reply.TheVariants.{Refused}
use Rattle.osgi_ops.specs.declared.entry.Entry.{Entry}

-- an accepted Register
abbrev pub is_registration : Op → Reply → Bool
is_registration (Register owner classes object scope properties) reply = is_accepted reply
is_registration _ reply = false

-- refused because a section failed
abbrev pub has_failed : Reply → Bool
has_failed (Refused ActivatorError) = true
has_failed _ = false

-- how often the user holds the service by these entries since its Register
abbrev pub held : BundleId → ServiceId → List Entry → ℕ
held user service since =
    count_by (λ e. gets_object user service e.op e.reply) (since_cleaning user since) - count_by (λ e. is_unget user service e.op e.reply) (since_cleaning user since)

-- how often the user holds the service by the Gets and Ungets of these entries: the use that begins as an object is made is not counted
abbrev pub uses_shared : BundleId → ServiceId → List Entry → ℕ
uses_shared user service history = option_map_or (uses_without_makes user) (live_service_at service history) 0
