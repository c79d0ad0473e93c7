-- The end of a bundle's own bracket finds the bundle starting, or stopping, since the asking command's own begin. That of a listener's finds
-- it in the turn that the asking command's own hand began.
use Rattle.std.proofs.Common.{◌≡◌, inl, inr, List, [], ◌∷◌, Bool, true, false, refl, sym, ap, ◌∙◌, subst}
use Rattle.std.specs.Prelude.{◌==◌, Some}
use Rattle.std.proofs.lemmas.Bool.{and_parts, eq-eqb, eqb-true, false_from_ne_true}
use Rattle.osgi_base.specs.declared.ids.BundleId.{BundleId}
use Rattle.osgi_base.specs.declared.ids.Tag.{Tag}
use Rattle.osgi_ops.specs.Brackets.{bracket, Bracket, brackets, Cause, closes, ends}
use Rattle.osgi_ops.specs.OwnBrackets.{own_closes}
use Rattle.osgi_ops.specs.Brackets as cause
use Rattle.osgi_ops.specs.Bundles as bundles
use Rattle.osgi_ops.specs.Bundles.{active, idle, is_live, is_up, last_begin, phase, Phase, running, system}
use Rattle.osgi_legal.specs.Legal.{IsTold}
use Rattle.osgi_ops.specs.Moments.{Moment}
use Rattle.osgi_ops.specs.Resolved.{is_resolved}
use Rattle.osgi_ops.specs.declared.op.Op.{Op}
use Rattle.osgi_ops.specs.declared.op.Op.TheVariants as op
use Rattle.osgi_world.specs.Lists.{In}
use Rattle.osgi_ops.specs.laws.Items.{In-filter, In-kept}
use Rattle.osgi_stage.proofs.Current.{up-resolved}
use Rattle.osgi_legal.proofs.Facts.{fit-at}
use Rattle.osgi_legal.proofs.Legal.{at-told}
use Rattle.osgi_legal.proofs.Listening.{has-ended}
use Rattle.osgi_legal.proofs.Owned.{closes-own, of}
use Rattle.osgi_legal.proofs.Phases.{brackets_for, Fits, is_bracket_for, is_for, same-id, state-by}
use Rattle.osgi_legal.proofs.Busy.{busy-live}
use Rattle.osgi_stage.proofs.StateReadings.{IsIn}
use Rattle.osgi_legal.proofs.SystemIdle.{system-idle-at}
use Rattle.osgi_legal.proofs.Up.{is_idle}

-- the innermost bracket of the caller, where the operation is its end
pub record IsInner (tag : Tag) (o : Op) (opened : List Bracket) (x : Bracket) : Type 0 where
  pub there : In x opened
  pub first : (outer : List Bracket) × (of tag.caller opened ≡ x ∷ outer)
  pub by : x.tag ≡ tag
  pub ended : ends o x.cause ≡ true

inner : (tag : Tag) (o : Op) (opened : List Bracket) → closes tag o opened ≡ true → (x : Bracket) × IsInner tag o opened x
inner tag o opened c =
    let h = has-ended tag o opened c in
    let own : own_closes tag o (h.bracket ∷ h.outer) ≡ true = subst (λ l. own_closes tag o l ≡ true) h.is (sym (closes-own tag o opened) ∙ c) in
    let both = and_parts (h.bracket.tag.command == tag.command) (ends o h.bracket.cause) own in
    let i : In h.bracket (of tag.caller opened) = subst (In h.bracket) (sym h.is) (inl refl) in
    let f = In-filter (λ (x : Bracket). x.tag.caller == tag.caller) opened h.bracket i in
    let caller : h.bracket.tag.caller ≡ tag.caller = eqb-true h.bracket.tag.caller tag.caller f.1 in
    let command : h.bracket.tag.command ≡ tag.command = eqb-true h.bracket.tag.command tag.command both.0 in
    (h.bracket, record { there = f.0; first = (h.outer, h.is); by = λ j. record { caller = caller j; command = command j }; ended = both.1 })

only : (x y : Bracket) → In x (y ∷ []) → x ≡ y
only x y (inl e) = e
only x y (inr i) = elim i [ ]

start-for : (b : BundleId) (failed : Bool) (c : Cause) → ends (op.EndStart b failed) c ≡ true → is_for b c ≡ true
start-for b failed (cause.starting n) e = eq-eqb n.0 b.0 (sym (eqb-true b.0 n.0 e))
start-for b failed (cause.stopping n) e = absurd (cc e)
start-for b failed (cause.handing l) e = absurd (cc e)
start-for b failed cause.job e = absurd (cc e)
start-for b failed (cause.making m) e = absurd (cc e)

stop-for : (b : BundleId) (failed : Bool) (c : Cause) → ends (op.EndStop b failed) c ≡ true → is_for b c ≡ true
stop-for b failed (cause.starting n) e = absurd (cc e)
stop-for b failed (cause.stopping n) e = eq-eqb n.0 b.0 (sym (eqb-true b.0 n.0 e))
stop-for b failed (cause.handing l) e = absurd (cc e)
stop-for b failed cause.job e = absurd (cc e)
stop-for b failed (cause.making m) e = absurd (cc e)

-- an EndStart that is the end of its caller's innermost bracket finds the bundle starting, by this very tag
pub own-start : (now : Moment) → IsTold now → (b : BundleId) (failed : Bool) → closes now.tag (op.EndStart b failed) (brackets now.before) ≡ true →
    (phase b now.before ≡ bundles.starting) × (last_begin b now.before ≡ Some now.tag)
own-start now told b failed c = go (phase b now.before) refl (fit-at now told b)
  where
    i : (x : Bracket) × IsInner now.tag (op.EndStart b failed) (brackets now.before) x
    i = inner now.tag (op.EndStart b failed) (brackets now.before) c

    among : In i.0 (brackets_for b (brackets now.before))
    among = In-kept (is_bracket_for b) (brackets now.before) i.0 i.1.there (start-for b failed i.0.cause i.1.ended)

    go : (p : Phase) → phase b now.before ≡ p → Fits b p (last_begin b now.before) (brackets_for b (brackets now.before)) → (phase b now.before ≡ bundles.starting) × (last_begin b now.before ≡ Some now.tag)
    go idle e f = absurd (subst (In i.0) f among)
    go active e f = absurd (subst (In i.0) f among)
    go bundles.starting e f =
        let x : i.0 ≡ bracket f.0 (cause.starting b) = only i.0 _ (subst (In i.0) f.2 among) in
        (e, f.1 ∙ ap Some (sym (ap (λ (y : Bracket). y.tag) x) ∙ i.1.by))
    go bundles.stopping e f =
        let x : i.0 ≡ bracket f.0 (cause.stopping b) = only i.0 _ (subst (In i.0) f.2 among) in
        absurd (let bad : true ≡ false = sym i.1.ended ∙ ap (λ (y : Bracket). ends (op.EndStart b failed) y.cause) x in cc bad)

-- and an EndStop finds it stopping
pub own-stop : (now : Moment) → IsTold now → (b : BundleId) (failed : Bool) → closes now.tag (op.EndStop b failed) (brackets now.before) ≡ true →
    (phase b now.before ≡ bundles.stopping) × (last_begin b now.before ≡ Some now.tag)
own-stop now told b failed c = go (phase b now.before) refl (fit-at now told b)
  where
    i : (x : Bracket) × IsInner now.tag (op.EndStop b failed) (brackets now.before) x
    i = inner now.tag (op.EndStop b failed) (brackets now.before) c

    among : In i.0 (brackets_for b (brackets now.before))
    among = In-kept (is_bracket_for b) (brackets now.before) i.0 i.1.there (stop-for b failed i.0.cause i.1.ended)

    go : (p : Phase) → phase b now.before ≡ p → Fits b p (last_begin b now.before) (brackets_for b (brackets now.before)) → (phase b now.before ≡ bundles.stopping) × (last_begin b now.before ≡ Some now.tag)
    go idle e f = absurd (subst (In i.0) f among)
    go active e f = absurd (subst (In i.0) f among)
    go bundles.stopping e f =
        let x : i.0 ≡ bracket f.0 (cause.stopping b) = only i.0 _ (subst (In i.0) f.2 among) in
        (e, f.1 ∙ ap Some (sym (ap (λ (y : Bracket). y.tag) x) ∙ i.1.by))
    go bundles.starting e f =
        let x : i.0 ≡ bracket f.0 (cause.starting b) = only i.0 _ (subst (In i.0) f.2 among) in
        absurd (let bad : true ≡ false = sym i.1.ended ∙ ap (λ (y : Bracket). ends (op.EndStop b failed) y.cause) x in cc bad)

-- ---- that bundle is there and resolved, and is not the system bundle

busy-in : (now : Moment) → IsTold now → (b : BundleId) (p : Phase) → phase b now.before ≡ p → is_idle p ≡ false → is_up (running p (is_resolved now.world b)) ≡ true → IsIn now b p true
busy-in now t b p is busy up = record {
  apart = apart;
  live = live;
  in_phase = is;
  is_so = up-resolved now t b (ap is_up (state-by now b false true apart live ∙ ap (λ q. running q (is_resolved now.world b)) is) ∙ up);
}
  where
    at : is_idle (phase b now.before) ≡ false
    at = ap is_idle is ∙ busy

    live : is_live b now.before ≡ true
    live = at-told (λ m. is_idle (phase b m.before) ≡ false → is_live b m.before ≡ true) (λ setting told tag legal. busy-live setting told legal b) now t at

    apart : (b.0 == 0) ≡ false
    apart = false_from_ne_true _ (λ e. (let bad : true ≡ false = sym (system-idle-at now t) ∙ sym (ap (λ x. is_idle (phase x now.before)) (same-id b system e)) ∙ at in cc bad))

pub own-start-live : (now : Moment) → IsTold now → (b : BundleId) (failed : Bool) → closes now.tag (op.EndStart b failed) (brackets now.before) ≡ true → IsIn now b bundles.starting true
own-start-live now t b failed c = busy-in now t b bundles.starting (own-start now t b failed c).0 refl refl

pub own-stop-live : (now : Moment) → IsTold now → (b : BundleId) (failed : Bool) → closes now.tag (op.EndStop b failed) (brackets now.before) ≡ true → IsIn now b bundles.stopping true
own-stop-live now t b failed c = busy-in now t b bundles.stopping (own-stop now t b failed c).0 refl refl
