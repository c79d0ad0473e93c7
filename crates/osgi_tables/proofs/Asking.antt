-- Who may not ask is refused first; for who may, the operation's own conditions count.
use Rattle.std.proofs.Common.{◌≡◌, ◌≢◌, ◌⊎◌, ℕ, inl, inr, ap, refl, subst, sym, ◌∙◌}
use Rattle.std.specs.Prelude.{Bool, true, false, cond, Option, None, Some, ◌==◌}
use Rattle.osgi_base.specs.declared.ids.BundleId.{BundleId}
use Rattle.osgi_bundle.specs.Rows.{state_at, TableRows}
use Rattle.osgi_bundle.specs.Stands.{StandsFor}
use Rattle.osgi_bundle.specs.laws.Standing.{gone, live, never, says_state, SaysState}
use Rattle.osgi_legal.specs.Askers.{MayAsk}
use Rattle.osgi_stage.proofs.Facts.{row-at}
use Rattle.osgi_legal.proofs.Askers.{asker-down, asker-gone}
use Rattle.osgi_ops.specs.Bundles.{Active, is_live, is_up as is_up_state, number_of, Phase, phase, Resolved, running, Starting, State, Stopping, Uninstalled, Unresolved}
use Rattle.osgi_ops.specs.Bundles as phases
use Rattle.osgi_ops.specs.Conditions.{asker_of, state_of}
use Rattle.osgi_legal.specs.Legal.{IsTold}
use Rattle.osgi_ops.specs.Moments.{Moment}
use Rattle.osgi_legal.specs.Operations.{IsReply}
use Rattle.osgi_ops.specs.Replies.{took_effect}
use Rattle.osgi_ops.specs.Resolved.{is_resolved}
use Rattle.osgi_legal.specs.Stages.{is_here}
use Rattle.osgi_ops.specs.States.{is_up}
use Rattle.osgi_ops.specs.declared.state.TheConstants.{UNINSTALLED}
use Rattle.osgi_ops.specs.declared.op.Op.{Op}
use Rattle.osgi_ops.specs.declared.refusal.Refusal.{Refusal}
use Rattle.osgi_ops.specs.declared.refusal.Refusal.TheVariants.{InvalidOperation, NoSuchBundle}
use Rattle.osgi_ops.specs.declared.reply.Reply.TheVariants as answer
use Rattle.osgi_tables.specs.Asked.{asker_here, asker_refusal, refusal_by}

-- ---- a state by its number

live_refused : (s : State) (refusal : Refusal) → s ≢ Uninstalled → refusal_by (Some (number_of s)) ≡ Some refusal → (refusal ≡ InvalidOperation) × (is_up_state s ≡ false)
live_refused Uninstalled refusal there e = absurd (there refl)
live_refused Unresolved refusal there e = (cc e, refl)
live_refused Resolved refusal there e = (cc e, refl)
live_refused Starting refusal there e = absurd (cc e)
live_refused Stopping refusal there e = absurd (cc e)
live_refused Active refusal there e = absurd (cc e)

live_passed : (s : State) → refusal_by (Some (number_of s)) ≡ None → is_up_state s ≡ true
live_passed Uninstalled e = absurd (cc e)
live_passed Unresolved e = absurd (cc e)
live_passed Resolved e = absurd (cc e)
live_passed Starting e = refl
live_passed Stopping e = refl
live_passed Active e = refl

running_there : (p : Phase) (resolved : Bool) → running p resolved ≢ Uninstalled
running_there phases.idle true e = cc e
running_there phases.idle false e = cc e
running_there phases.starting resolved e = cc e
running_there phases.active resolved e = cc e
running_there phases.stopping resolved e = cc e

own_there : (own : Bool) (p : Phase) (resolved : Bool) → cond own Active (running p resolved) ≢ Uninstalled
own_there true p resolved e = cc e
own_there false p resolved e = running_there p resolved e

-- the state of a live bundle is another than that of one that is uninstalled
state_there : (now : Moment) (id : BundleId) → is_live id now.before ≡ true → state_of now id ≢ Uninstalled
state_there now id is e =
    let p = phase id now.before in
    let resolved = is_resolved now.world id in
    own_there (id.0 == 0) p resolved (ap (λ t. cond (id.0 == 0) Active (cond t (running p resolved) Uninstalled)) (sym is) ∙ e)

-- ---- who asks

-- why a bundle is refused: it is not there, or it is not up
IsRefused : Moment → BundleId → Refusal → Type 0
IsRefused now id refusal =
    ((refusal ≡ NoSuchBundle) × (is_live id now.before ≡ false)) ⊎ ((refusal ≡ InvalidOperation) × (is_live id now.before ≡ true) × (is_up_state (state_of now id) ≡ false))

refused_at : (now : Moment) (id : BundleId) (refusal : Refusal) (said : Option ℕ) → SaysState now.world now.before id said → refusal_by said ≡ Some refusal → IsRefused now id refusal
unfolding IsRefused
refused_at now id refusal None (never none given) e = inl (cc e, none)
refused_at now id refusal (Some n) (gone none given) e = inl (cc e, none)
refused_at now id refusal (Some n) (live there) e = let r = live_refused (state_of now id) refusal (state_there now id there) e in inr (r.0, there, r.1)

passed_at : (now : Moment) (id : BundleId) (said : Option ℕ) → SaysState now.world now.before id said → refusal_by said ≡ None → MayAsk now (Some id)
passed_at now id None (never none given) e = absurd (cc e)
passed_at now id (Some n) (gone none given) e = absurd (cc e)
passed_at now id (Some n) (live there) e = (there, live_passed (state_of now id) e)

-- where there is no refusal, who asks may ask
pub passed_by : (now : Moment) (table : TableRows) (asker : Option BundleId) → IsTold now → StandsFor now.setting.depot now.before now.world table → asker_refusal table asker ≡ None → MayAsk now asker
passed_by now table None told stands e = tt
passed_by now table (Some id) told stands e = passed_at now id (state_at id table) (says_state now.setting.depot now.before now.world table id stands (row-at now told)) e

-- ---- a refusal of who asks is the first that is called for

asked_here : (o : Op) (here : Bool) → is_here o ≡ here → (b : BundleId) → cond here (asker_of o) None ≡ Some b → (here ≡ true) × (asker_of o ≡ Some b)
asked_here o true is b e = (refl, e)
asked_here o false is b e = absurd (cc e)

unasked_by : (now : Moment) (o : Op) (b : BundleId) (refusal : Refusal) → is_here o ≡ true → asker_of o ≡ Some b → IsRefused now b refusal → IsReply now o (answer.Refused refusal)
unfolding IsRefused
unasked_by now o b refusal here asks (inl r) = subst (λ f. IsReply now o (answer.Refused f)) (sym r.0) (asker-gone now o b here asks r.1)
unasked_by now o b refusal here asks (inr r) = subst (λ f. IsReply now o (answer.Refused f)) (sym r.0) (asker-down now o b here asks r.1 r.2)

pub unasked : (now : Moment) (table : TableRows) (o : Op) (refusal : Refusal) → IsTold now → StandsFor now.setting.depot now.before now.world table → asker_refusal table (asker_here o) ≡ Some refusal → IsReply now o (answer.Refused refusal)
unasked now table o refusal told stands e = by (asker_here o) refl e
  where
    by : (asker : Option BundleId) → asker_here o ≡ asker → asker_refusal table asker ≡ Some refusal → IsReply now o (answer.Refused refusal)
    by None is e = absurd (cc e)
    by (Some b) is e =
        let here = asked_here o (is_here o) refl b is in
        unasked_by now o b refusal here.0 here.1 (refused_at now b refusal (state_at b table) (says_state now.setting.depot now.before now.world table b stands (row-at now told)) e)

-- such a refusal is none that cleans up
plain_by : (said : Option ℕ) (refusal : Refusal) → refusal_by said ≡ Some refusal → took_effect (answer.Refused refusal) ≡ false
plain_by None refusal e = let named : refusal ≡ NoSuchBundle = cc (sym e) in ap (λ f. took_effect (answer.Refused f)) named
plain_by (Some n) refusal e = by (n == UNINSTALLED) (is_up n) e
  where
    by : (gone up : Bool) → cond gone (Some NoSuchBundle) (cond up None (Some InvalidOperation)) ≡ Some refusal → took_effect (answer.Refused refusal) ≡ false
    by true up e = let named : refusal ≡ NoSuchBundle = cc (sym e) in ap (λ f. took_effect (answer.Refused f)) named
    by false true e = absurd (cc e)
    by false false e = let named : refusal ≡ InvalidOperation = cc (sym e) in ap (λ f. took_effect (answer.Refused f)) named

pub plain_refusal : (table : TableRows) (asker : Option BundleId) (refusal : Refusal) → asker_refusal table asker ≡ Some refusal → took_effect (answer.Refused refusal) ≡ false
plain_refusal table None refusal e = absurd (cc e)
plain_refusal table (Some id) refusal e = plain_by (state_at id table) refusal e

-- of an operation that has come, who asks is who asks
pub here_asks : (o : Op) → is_here o ≡ true → asker_here o ≡ asker_of o
here_asks o is = ap (λ t. cond t (asker_of o) None) is
