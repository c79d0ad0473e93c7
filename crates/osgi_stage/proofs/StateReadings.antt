-- What the state of a bundle tells: whether it is there and resolved, what its phase is, and that a start or a stop of it began.
use Rattle.std.proofs.Common.{◌≡◌, Bool, true, false, refl, sym, ◌∙◌}
use Rattle.std.specs.Prelude.{◌==◌}
use Rattle.osgi_base.specs.declared.ids.BundleId.{BundleId}
use Rattle.osgi_ops.specs.Bundles as bundles
use Rattle.osgi_ops.specs.Bundles.{Active, active, idle, is_live, phase, Phase, Resolved, running, starting, stopping, Uninstalled}
use Rattle.osgi_ops.specs.Conditions.{state_of}
use Rattle.osgi_ops.specs.Moments.{Moment}
use Rattle.osgi_ops.specs.Resolved.{is_resolved}
use Rattle.osgi_legal.proofs.Phases.{state-by}

-- another bundle than the system bundle is there, in this phase, and resolved or not
pub record IsIn (now : Moment) (b : BundleId) (p : Phase) (resolved : Bool) : Type 0 where
  pub apart : (b.0 == 0) ≡ false
  pub live : is_live b now.before ≡ true
  pub in_phase : phase b now.before ≡ p
  pub is_so : is_resolved now.world b ≡ resolved

-- its state is then that of the phase
pub state-in : (now : Moment) (b : BundleId) (p : Phase) (resolved : Bool) → IsIn now b p resolved → state_of now b ≡ running p resolved
state-in now b p resolved i = state-by now b false true i.apart i.live ∙ (λ j. running (i.in_phase j) (i.is_so j))

-- the state is the system bundle's, or that of a bundle that is not there, or that of the phase
data Reading (now : Moment) (b : BundleId) : Type 0 where
  of_system : (b.0 == 0) ≡ true → state_of now b ≡ Active → Reading now b
  of_gone : is_live b now.before ≡ false → state_of now b ≡ Uninstalled → Reading now b
  of_phase : (b.0 == 0) ≡ false → is_live b now.before ≡ true → state_of now b ≡ running (phase b now.before) (is_resolved now.world b) → Reading now b

reading : (now : Moment) (b : BundleId) → Reading now b
reading now b = by (b.0 == 0) (is_live b now.before) refl refl
  where
    by : (k l : Bool) → (b.0 == 0) ≡ k → is_live b now.before ≡ l → Reading now b
    by true l e f = of_system e (state-by now b true l e f)
    by false true e f = of_phase e f (state-by now b false true e f)
    by false false e f = of_gone f (state-by now b false false e f)

-- ---- by states

resting-of : (p : Phase) (r c : Bool) → running p r ≡ bundles.resting c → (p ≡ idle) × (r ≡ c)
resting-of idle true true e = (refl, refl)
resting-of idle false false e = (refl, refl)
resting-of idle true false e = absurd (cc e)
resting-of idle false true e = absurd (cc e)
resting-of starting r true e = absurd (cc e)
resting-of starting r false e = absurd (cc e)
resting-of active r true e = absurd (cc e)
resting-of active r false e = absurd (cc e)
resting-of stopping r true e = absurd (cc e)
resting-of stopping r false e = absurd (cc e)

not-resting : (c : Bool) → Active ≡ bundles.resting c → ⊥
not-resting true e = cc e
not-resting false e = cc e

not-gone : (c : Bool) → Uninstalled ≡ bundles.resting c → ⊥
not-gone true e = cc e
not-gone false e = cc e

resting : (now : Moment) (b : BundleId) (c : Bool) → state_of now b ≡ bundles.resting c → IsIn now b idle c
resting now b c is = by (reading now b)
  where
    by : Reading now b → IsIn now b idle c
    by (of_system e s) = absurd (not-resting c (sym s ∙ is))
    by (of_gone e s) = absurd (not-gone c (sym s ∙ is))
    by (of_phase apart live s) = let q = resting-of (phase b now.before) (is_resolved now.world b) c (sym s ∙ is) in record { apart = apart; live = live; in_phase = q.0; is_so = q.1 }

pub when-resolved : (now : Moment) (b : BundleId) → state_of now b ≡ Resolved → IsIn now b idle true
when-resolved now b is = resting now b true is
