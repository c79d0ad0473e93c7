-- The system bundle is never started and never stopped.
use Rattle.std.proofs.Common.{◌≡◌, true, false, List, [], ◌∷◌, ◌++◌, refl, sym, ap, ◌∙◌, subst}
use Rattle.osgi_ops.specs.Bundles.{phase, system}
use Rattle.osgi_legal.specs.Legal.{AreAllowed, IsAllowed, IsTold}
use Rattle.osgi_ops.specs.Moments.{entries_in, Moment, moment, Told}
use Rattle.osgi_legal.specs.Operations.{IsReply}
use Rattle.osgi_ops.specs.Settings.{Setting}
use Rattle.osgi_ops.specs.declared.entry.Entry.{Entry}
use Rattle.osgi_ops.specs.declared.op.Op.TheVariants as op
use Rattle.osgi_ops.specs.laws.Along.{holds}
use Rattle.osgi_legal.proofs.Legal.{at-told}
use Rattle.osgi_legal.proofs.Owned.{entries-last}
use Rattle.osgi_legal.proofs.Phases.{ends_it, leaves, phase-quiet, start-row, starts, stop-row, stops, Turn, turn-of}
use Rattle.osgi_legal.proofs.Busy.{end-busy}
use Rattle.osgi_legal.proofs.Up.{is_idle}

idle-step : (setting : Setting) (front : List Told) (x : Told) → AreAllowed setting front → IsAllowed setting front x → is_idle (phase system (entries_in front)) ≡ true →
    is_idle (phase system (entries_in front ++ x.entry ∷ [])) ≡ true
idle-step setting front x legal a rests = by (turn-of system x.entry.op x.entry.reply)
  where
    h : List Entry
    h = entries_in front

    m : Moment
    m = moment setting front x.entry.tag

    by : Turn system x.entry.op x.entry.reply → is_idle (phase system (h ++ x.entry ∷ [])) ≡ true
    by (starts o p transient row begun so sr) =
        let s = start-row m system begun transient row (subst (λ y. IsReply m (op.BeginStart system transient) y) sr (subst (λ o. IsReply m o x.entry.reply) so a.replied)) in
        absurd (let bad : true ≡ false = s.2 in cc bad)
    by (stops o p target transient row so sr) =
        absurd ((stop-row m target transient system row (subst (λ y. IsReply m (op.BeginStop target transient) y) sr (subst (λ o. IsReply m o x.entry.reply) so a.replied))).1 refl)
    by (ends_it e f g p q r) = absurd (let bad : true ≡ false = sym rests ∙ end-busy setting front x legal a system e f g in cc bad)
    by (leaves q f g) = ap is_idle (phase-quiet system h x.entry q) ∙ rests

-- in no legal history is it starting, started or stopping: that it is active is no phase of its own
pub system-idle : (setting : Setting) (told : List Told) → AreAllowed setting told → is_idle (phase system (entries_in told)) ≡ true
system-idle setting told legal =
    holds (IsAllowed setting) (λ l. is_idle (phase system (entries_in l)) ≡ true) refl
    (λ front x before rests a. subst (λ h. is_idle (phase system h) ≡ true) (sym (entries-last front x)) (idle-step setting front x before a rests)) told legal

pub system-idle-at : (now : Moment) → IsTold now → is_idle (phase system now.before) ≡ true
system-idle-at now t = at-told (λ m. is_idle (phase system m.before) ≡ true) (λ setting told tag legal. system-idle setting told legal) now t
