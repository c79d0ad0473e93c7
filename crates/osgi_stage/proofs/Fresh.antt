-- A bundle whose id was not given never began to start or to stop.
use Rattle.std.proofs.Common.{◌≡◌, ◌⊎◌, inl, inr, ◌+◌, ◌<◌, ◌≤◌, Bool, true, false, List, [], ◌∷◌, ◌++◌, length, length-append, refl, sym, ap, ◌∙◌, subst, arith}
use Rattle.std.specs.Prelude.{map, None}
use Rattle.std.proofs.lemmas.List.{length-map}
use Rattle.osgi_base.specs.declared.ids.BundleId.{BundleId}
use Rattle.osgi_ops.specs.Bundles.{idle, Installed, installed, installed_by, is_live, last_begin, phase}
use Rattle.osgi_legal.specs.Legal.{AreAllowed, IsAllowed, IsTold}
use Rattle.osgi_ops.specs.Moments.{entries_in, Moment, moment, Told}
use Rattle.osgi_legal.specs.Operations.{IsReply}
use Rattle.osgi_ops.specs.Settings.{Setting}
use Rattle.osgi_ops.specs.declared.entry.Entry.{Entry}
use Rattle.osgi_ops.specs.declared.op.Op.TheVariants as op
use Rattle.osgi_ops.specs.laws.Along.{holds}
use Rattle.osgi_ops.specs.laws.Bundles.{installed-push, last_begin-kept, later}
use Rattle.osgi_legal.proofs.Legal.{at-told}
use Rattle.osgi_legal.proofs.Owned.{entries-last}
use Rattle.osgi_legal.proofs.Phases.{ends_it, leaves, start-row, starts, stops, Turn, turn-of}
use Rattle.osgi_legal.proofs.Busy.{busy-live, live-by, stop-up}
use Rattle.osgi_stage.proofs.States.{always-agrees}
use Rattle.osgi_legal.proofs.Up.{begun-quiet, idle-is, is_idle}

-- ids stay given
given-stays : (h : List Entry) (e : Entry) → length (installed h) ≤ length (installed (h ++ e ∷ []))
given-stays h e =
    let is : length (installed (h ++ e ∷ [])) ≡ length (installed h) + length (installed_by (length (installed h)) e.op e.reply []) =
    ap (λ (l : List Installed). length l) (installed-push h e) ∙ length-append (map (later e) (installed h)) _
    ∙ ap (λ n. n + length (installed_by (length (installed h)) e.op e.reply [])) (length-map (installed h) (later e)) in
    omega (arith, is)

-- no start and no stop of the bundle began, or its id was given
abbrev IsGivenOrRests : BundleId → List Entry → Type 0
IsGivenOrRests b h = (last_begin b h ≡ None) ⊎ (b.0 ≤ length (installed h))

given-step : (setting : Setting) (b : BundleId) (front : List Told) (x : Told) → AreAllowed setting front → IsAllowed setting front x → IsGivenOrRests b (entries_in front) → IsGivenOrRests b (entries_in front ++ x.entry ∷ [])
given-step setting b front x legal a was = by (turn-of b x.entry.op x.entry.reply)
  where
    h : List Entry
    h = entries_in front

    m : Moment
    m = moment setting front x.entry.tag

    there : is_live b h ≡ true → IsGivenOrRests b (h ++ x.entry ∷ [])
    there live = let given : b.0 ≤ length (installed h) = (always-agrees setting front legal).ids b live in let more = given-stays h x.entry in inr (omega (arith, given, more))

    still : last_begin b (h ++ x.entry ∷ []) ≡ last_begin b h → IsGivenOrRests b h → IsGivenOrRests b (h ++ x.entry ∷ [])
    still same (inl none) = inl (same ∙ none)
    still same (inr given) = let more = given-stays h x.entry in inr (omega (arith, given, more))

    by : Turn b x.entry.op x.entry.reply → IsGivenOrRests b (h ++ x.entry ∷ [])
    by (starts o p transient row begun so sr) =
        there (start-row m b begun transient row (subst (λ y. IsReply m (op.BeginStart b transient) y) sr (subst (λ o. IsReply m o x.entry.reply) so a.replied))).0
    by (stops o p target transient row so sr) = there (live-by b h (stop-up m x.entry b target transient row a.replied so sr))
    by (ends_it e f g p q r) = still (begun-quiet b h x.entry p q r) was
    by (leaves q f g) = still (last_begin-kept b h x.entry q) was

given-or-rests : (setting : Setting) (told : List Told) → AreAllowed setting told → (b : BundleId) → IsGivenOrRests b (entries_in told)
given-or-rests setting told legal b =
    holds (IsAllowed setting) (λ l. IsGivenOrRests b (entries_in l)) (inl refl) (λ front x before was a. subst (IsGivenOrRests b) (sym (entries-last front x)) (given-step setting b front x before a was)) told legal

-- a bundle whose id was not given is idle, and no start and no stop of it ever began
pub never-given : (now : Moment) → IsTold now → (b : BundleId) → length (installed now.before) < b.0 → (phase b now.before ≡ idle) × (last_begin b now.before ≡ None)
never-given now t b above = at-told (λ m. length (installed m.before) < b.0 → (phase b m.before ≡ idle) × (last_begin b m.before ≡ None)) (λ setting told tag legal above. each setting told legal above) now t above
  where
    each : (setting : Setting) (told : List Told) → AreAllowed setting told → length (installed (entries_in told)) < b.0 → (phase b (entries_in told) ≡ idle) × (last_begin b (entries_in told) ≡ None)
    each setting told legal above = (idle-is (phase b h) (rests (is_idle (phase b h)) refl), none (given-or-rests setting told legal b))
      where
        h : List Entry
        h = entries_in told

        rests : (k : Bool) → is_idle (phase b h) ≡ k → is_idle (phase b h) ≡ true
        rests true e = e
        rests false e = let given : b.0 ≤ length (installed h) = (always-agrees setting told legal).ids b (busy-live setting told legal b e) in absurd (omega (arith, given, above))

        none : IsGivenOrRests b h → last_begin b h ≡ None
        none (inl is) = is
        none (inr given) = absurd (omega (arith, given, above))
