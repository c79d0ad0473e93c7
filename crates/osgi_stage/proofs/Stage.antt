-- What holds while these operations have not come: no walk over levels and no refresh is open, each bundle stays and keeps its revision and
-- its level, no open bracket is for a make, nothing was made, nobody waits, each service has one object for all, and no load adds a wire.
-- Each fact holds at each moment of a legal history.
use Rattle.std.proofs.Common.{◌≡◌, inl, Bool, true, false, List, [], ◌∷◌, refl, sym, ap, ◌∙◌, subst}
use Rattle.std.specs.Prelude.{◌==◌, ◌&&◌, find, not, cond, nat_lt, ℕ, All, IsSomeAnd, MatchBool, Option, None, Some, unwrap_or}
use Rattle.std.specs.Option.{option_map, option_map_or}
use Rattle.std.proofs.lemmas.Bool.{and_right}
use Rattle.std.proofs.lemmas.List.Elements.{All-weaker}
use Rattle.osgi_base.specs.declared.ids.BundleId.{BundleId}
use Rattle.osgi_base.specs.declared.ids.RevisionId.{RevisionId}
use Rattle.osgi_base.specs.declared.ids.ServiceId.{ServiceId}
use Rattle.osgi_ops.specs.Assignable.{package_of}
use Rattle.osgi_ops.specs.Brackets.{brackets, closes}
use Rattle.osgi_ops.specs.Bundles.{is_active}
use Rattle.osgi_ops.specs.Conditions.{is_kept, is_level_too_high, lesser, refreshing_where, state_of}
use Rattle.osgi_legal.specs.Legal.{IsTold}
use Rattle.osgi_ops.specs.Levels.{active_level, level_of, leveled, moved_to, Refresh, refresh, refresh_by, Walk, walk, walk_by}
use Rattle.osgi_ops.specs.Moments.{Moment}
use Rattle.osgi_ops.specs.Services.{live_service_at, made_uses, Registered}
use Rattle.osgi_ops.specs.Waiting.{is_waiting, waiting}
use Rattle.osgi_legal.specs.Operations.{IsReply, IsRow}
use Rattle.osgi_legal.specs.Stages.{is_here}
use Rattle.osgi_ops.specs.declared.entry.Entry.{Entry}
use Rattle.osgi_ops.specs.declared.op.Op.{Op}
use Rattle.osgi_ops.specs.declared.op.Op.TheVariants as op
use Rattle.osgi_ops.specs.declared.refusal.Refusal.{Refusal}
use Rattle.osgi_ops.specs.declared.refusal.Refusal.TheVariants as no
use Rattle.osgi_ops.specs.declared.refusal.Refusal.TheVariants.{InvalidOperation}
use Rattle.osgi_ops.specs.declared.reply.Reply.TheVariants as answer
use Rattle.osgi_ops.specs.declared.scope.Scope.TheVariants.{Singleton}
use Rattle.osgi_ops.specs.laws.Services.{made_uses-none, MakesNone}
use Rattle.osgi_ops.specs.laws.Waiting.{none-waiting, NoneWaits, not-waiting}
use Rattle.osgi_ops.specs.rows.Bundles.{names_package, wakes, woken}
use Rattle.osgi_world.specs.declared.revision.Policy.{Policy}
use Rattle.osgi_world.specs.declared.world.Known.{Known}
use Rattle.osgi_legal.specs.laws.Stages.{row-here}
use Rattle.osgi_stage.proofs.Early.{all-early, carry-still, early-calm, IsCalm, IsEarly, latest-none}
use Rattle.osgi_legal.proofs.Legal.{at-told}
use Rattle.osgi_stage.proofs.Singletons.{all-single, AreSingle, live-single}
use Rattle.osgi_stage.proofs.Opened.{AreNotLate, make-ends-none, makes-none, opened-so}

-- ---- entries

-- Each entry is of an operation that has come, or is refused as an invalid operation.
pub early-at : (now : Moment) → IsTold now → All IsEarly now.before
early-at now t = at-told (λ m. All IsEarly m.before) (λ setting told tag legal. all-early setting told legal) now t

-- No entry changes a level, begins a walk or a refresh, or uninstalls or updates a bundle.
pub calm-at : (now : Moment) → IsTold now → All (λ (e : Entry). IsCalm e.op e.reply) now.before
calm-at now t = All-weaker IsEarly (λ (e : Entry). IsCalm e.op e.reply) early-calm now.before (early-at now t)

each : (P : Entry → Type 0) → ((e : Entry) → IsCalm e.op e.reply → P e) → (now : Moment) → IsTold now → All P now.before
each P says now t = All-weaker (λ (e : Entry). IsCalm e.op e.reply) P says now.before (calm-at now t)

-- ---- brackets

-- No open bracket is for a make.
pub opened-at : (now : Moment) → IsTold now → AreNotLate (brackets now.before)
opened-at now t = at-told (λ m. AreNotLate (brackets m.before)) (λ setting told tag legal. opened-so setting told legal) now t

-- ---- what is refused

-- An operation that has not come is refused as an invalid operation, at every moment.
pub late-due : (now : Moment) (o : Op) → is_here o ≡ false → IsReply now o (answer.Refused InvalidOperation)
late-due now o late = subst (λ k. MatchBool k (IsRow now o (answer.Refused InvalidOperation)) (answer.Refused InvalidOperation ≡ answer.Refused InvalidOperation)) (sym late) refl

-- ---- refreshes

-- No refresh is open.
pub no-refresh : (now : Moment) → IsTold now → refresh now.before ≡ None
no-refresh now t = carry-still (λ before (e : Entry). refresh_by before e e.op e.reply) None now.before (each (λ e. refresh_by None e e.op e.reply ≡ None) (λ e c. c.refresh None e) now t)

-- So nothing is refused for a refresh.
pub never-refreshing : (now : Moment) → IsTold now → (Holds : Refresh → Type 0) (f : Refusal) → refreshing_where now Holds f → ⊥
never-refreshing now t Holds f is = subst (λ o. IsSomeAnd o (λ r. Holds r × (f ≡ no.Refreshing r.tag))) (no-refresh now t) is

-- ---- levels

-- No walk over levels is open.
pub no-walk : (now : Moment) → IsTold now → walk now.before ≡ None
no-walk now t = carry-still (λ before (e : Entry). walk_by before e e.op e.reply) None now.before (each (λ e. walk_by None e e.op e.reply ≡ None) (λ e c. c.walk None e) now t)

-- The system bundle has level 0, and every other bundle level 1.
pub first-levels : (now : Moment) → IsTold now → (b : BundleId) → level_of b now.before ≡ cond (b.0 == 0) 0 1
first-levels now t b =
    ap (λ (o : Option ℕ). cond (b.0 == 0) 0 (unwrap_or o 1)) (latest-none (λ (e : Entry). leveled b e.op e.reply) now.before (each (λ e. leveled b e.op e.reply ≡ None) (λ e c. c.level b) now t))

-- The active level is 1.
pub first-level : (now : Moment) → IsTold now → active_level now.before ≡ 1
first-level now t = ap (λ (o : Option ℕ). unwrap_or o 1) (latest-none (λ (e : Entry). moved_to e.op e.reply) now.before (each (λ e. moved_to e.op e.reply ≡ None) (λ e c. c.moved) now t))

-- So no bundle's level is too high for it to be started.
pub never-above : (now : Moment) → IsTold now → (b : BundleId) → is_level_too_high now b ≡ false
never-above now t b =
    (λ i. nat_lt (option_map_or (λ (w : Walk). lesser w.target (active_level now.before)) (no-walk now t i) (active_level now.before)) (level_of b now.before))
    ∙ (λ i. nat_lt (first-level now t i) (first-levels now t b i))
    ∙ low (b.0 == 0)
  where
    low : (zero : Bool) → nat_lt 1 (cond zero 0 1) ≡ false
    low true = refl
    low false = refl

-- Nor is one kept for its level.
pub never-kept : (now : Moment) → IsTold now → (b : BundleId) → is_kept now b ≡ false
never-kept now t b = and_right (not (is_active (state_of now b))) (is_level_too_high now b) (never-above now t b)

-- ---- factories

-- Each service that was registered has one object for all, and so each that is live.
pub single-at : (now : Moment) → IsTold now → AreSingle now.before
single-at now t = at-told (λ m. AreSingle m.before) (λ setting told tag legal. all-single setting told legal) now t

pub live-single-at : (now : Moment) → IsTold now → (service : ServiceId) (r : Registered) → live_service_at service now.before ≡ Some r → r.scope ≡ Singleton
live-single-at now t service r is = live-single now.before service r (single-at now t) is

-- No entry made an object.
pub makes-none-at : (now : Moment) → IsTold now → All (λ (e : Entry). MakesNone e.op e.reply) now.before
makes-none-at now t = at-told (λ m. All (λ (e : Entry). MakesNone e.op e.reply) m.before) (λ setting told tag legal. makes-none setting told legal) now t

-- So no use of a service began with a make, and nobody holds an object that was made for it.
pub no-made-uses : (now : Moment) → IsTold now → made_uses now.before ≡ []
no-made-uses now t = made_uses-none now.before (makes-none-at now t)

-- The end of a make ends no bracket, and is refused as an invalid operation.
pub no-make-ends : (now : Moment) → IsTold now → (failed : Bool) → closes now.tag (op.EndMake failed) (brackets now.before) ≡ false
no-make-ends now t failed = make-ends-none now.tag failed (brackets now.before) (opened-at now t)

pub make-end-due : (now : Moment) → IsTold now → (failed : Bool) → IsReply now (op.EndMake failed) (answer.Refused InvalidOperation)
make-end-due now t failed = row-here now (op.EndMake failed) (answer.Refused InvalidOperation) refl (inl (InvalidOperation, (refl, no-make-ends now t failed), refl))

-- ---- bundles that wait

-- Nobody waits.
pub none-waits : (now : Moment) → IsTold now → waiting now.before ≡ []
none-waits now t = none-waiting now.before (each (λ (e : Entry). NoneWaits e.op e.reply) (λ e c. c.waits) now t)

pub never-waits : (now : Moment) → IsTold now → (b : BundleId) → is_waiting b now.before ≡ false
never-waits now t b = not-waiting b now.before (none-waits now t)

-- So no load is to start one.
find-nothing : {X : Type 0} (p : X → Bool) (xs : List X) → ((x : X) → p x ≡ false) → find p xs ≡ None
find-nothing p [] none = refl
find-nothing p (x ∷ xs) none = ap (λ k. cond k (Some x) (find p xs)) (none x) ∙ find-nothing p xs none

wakes-none : (now : Moment) → IsTold now → (by : RevisionId) (pack : List ℕ) (k : Known) → wakes now by pack k ≡ false
wakes-none now t by pack k = ap (λ w. k.current && (k.id.0 == by.0) && w && named) (never-waits now t k.bundle) ∙ go k.current (k.id.0 == by.0)
  where
    named : Bool
    named = option_map_or (λ (p : Policy). names_package p pack) k.revision.lazy false

    go : (a b : Bool) → (a && b && false && named) ≡ false
    go true true = refl
    go true false = refl
    go false b = refl

pub none-woken : (now : Moment) → IsTold now → (class : List ℕ) (by : Option RevisionId) → woken now class by ≡ None
none-woken now t class None = refl
none-woken now t class (Some by) = ap (option_map (λ (k : Known). k.bundle)) (find-nothing (wakes now by (package_of class)) now.world.known (wakes-none now t by (package_of class)))
