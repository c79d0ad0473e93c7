-- A step of the machine is one that a hall's machine does.
use Rattle.std.proofs.Common.{◌≡◌, ◌≤◌, ◌<◌, ◌⊎◌, inl, inr, List, [], ◌∷◌, ◌++◌, length, map, Bool, true, false, refl, sym, ap, ◌∙◌, subst}
use Rattle.std.specs.Prelude.{IfOk, OnErr, Result, MatchBool}
use Rattle.std.specs.declared.result.Result.TheVariants.{Ok, Err}
use Rattle.std.proofs.lemmas.Bool.{cases_lt}
use Rattle.std.proofs.lemmas.List.{length-map, map-append}
use Rattle.osgi_base.specs.declared.ids.Tag.{Tag}
use Rattle.osgi_core.specs.Machine.{AreSightsOf, Machine, moment_of}
use Rattle.osgi_core.specs.Ruled.{gives}
use Rattle.osgi_framework.specs.Entries.{as_hall}
use Rattle.osgi_framework.specs.Full.{is_recorded, IsFullReply}
use Rattle.osgi_hall.specs.Histories.{entry, IsApplied}
use Rattle.osgi_legal.specs.Legal.{IsReplayed, IsStep, Legal}
use Rattle.osgi_legal.specs.laws.Refusals.{full_step}
use Rattle.osgi_ops.specs.Moments.{Moment, Seen, sights_in}
use Rattle.osgi_ops.specs.declared.entry.Entry.{Entry}
use Rattle.osgi_ops.specs.declared.op.Op.{Op}
use Rattle.osgi_ops.specs.declared.refusal.Refusal.TheVariants.{HistoryFull}
use Rattle.osgi_ops.specs.declared.reply.Reply.{Reply}
use Rattle.osgi_ops.specs.declared.reply.Reply.TheVariants.{Refused}
use Rattle.osgi_world.specs.declared.world.World.{World}

full_is : (reply : Reply) → is_recorded reply ≡ false → reply ≡ Refused HistoryFull
full_is (Refused HistoryFull) e = refl
full_is _ e = absurd (cc e)

added : (now : Moment) (after : List Entry) (world : World) (op : Op) (reply : Reply) → IsStep now after world op reply → is_recorded reply ≡ true →
    (length now.before < now.setting.bounds.entries) ⊎ (now.setting.bounds.entries ≤ length now.before) → map as_hall after ≡ map as_hall now.before ++ entry now.tag op reply ∷ []
added now after world op reply step recorded (inl room) = ap (map as_hall) (step.room room).2 ∙ map-append as_hall now.before (record { tag = now.tag; op = op; reply = reply } ∷ [])
added now after world op reply step recorded (inr full) = absurd (let bad : true ≡ false = sym recorded ∙ ap is_recorded (step.full full).0 in cc bad)

stepped : (now : Moment) (after : List Entry) (world : World) (op : Op) (reply : Reply) → IsStep now after world op reply → Legal now.setting after → (k : Bool) → is_recorded reply ≡ k →
    MatchBool k (map as_hall after ≡ map as_hall now.before ++ entry now.tag op reply ∷ []) ((map as_hall after ≡ map as_hall now.before) × IsFullReply now.setting (map as_hall now.before) reply)
stepped now after world op reply step legal true e = added now after world op reply step e (cases_lt (length now.before) now.setting.bounds.entries)
stepped now after world op reply step legal false e =
    let is = full_is reply e in
    let found = full_step now after world op (subst (λ y. IsStep now after world op y) is step) legal in
    (ap (map as_hall) found.0, (length-map now.before as_hall ∙ found.1, is))

pub applied : {E : Type 0} (machine after : Machine) (tag : Tag) (op : Op) (result : Result Reply E) → IsReplayed machine.setting machine.entries machine.world → Legal after.setting after.entries →
    after.setting ≡ machine.setting →
    IfOk result (λ reply. (sights : List Seen) → AreSightsOf machine sights → IsStep (moment_of machine tag sights) after.entries after.world op reply) → OnErr result (after ≡ machine) →
    IsApplied is_recorded (gives machine.setting) (map as_hall machine.entries) (map as_hall after.entries) tag op result
applied machine after tag op (Ok reply) replayed legal same step unchanged =
    stepped (moment_of machine tag (sights_in replayed.told)) after.entries after.world op reply (step (sights_in replayed.told) (replayed, refl)) (subst (λ s. Legal s after.entries) same legal)
    (is_recorded reply) refl
applied machine after tag op (Err e) replayed legal same step unchanged = ap (λ (m : Machine). map as_hall m.entries) unchanged
