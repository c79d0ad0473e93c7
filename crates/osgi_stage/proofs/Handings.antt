-- How many events a legal history hands: as many as its replies say. Each is handed by a Hand.
use Rattle.std.proofs.Common.{◌≡◌, inl, inr, ◌+◌, ℕ, Bool, true, false, List, [], ◌∷◌, length, refl, sym, ap, ◌∙◌, subst}
use Rattle.std.specs.Prelude.{cond, All, count_by, filter, Option, None, Some, IsSomeAnd}
use Rattle.std.proofs.lemmas.List.Elements.{All-head, All-nil, All-push, All-tail}
use Rattle.std.proofs.lemmas.List.Sums.{length-filter}
use Rattle.osgi_base.specs.declared.ids.BundleId.{BundleId}
use Rattle.osgi_base.specs.declared.ids.RevisionId.{RevisionId}
use Rattle.osgi_ops.specs.Bundles.{Bundle, bundle_from, is_active, row_of}
use Rattle.osgi_ops.specs.Conditions.{is_level_too_high, state_of}
use Rattle.osgi_ops.specs.Jobs.{jobs, Queued}
use Rattle.osgi_legal.specs.Legal.{AreAllowed, IsAllowed}
use Rattle.osgi_ops.specs.Listening.{handings, is_handed}
use Rattle.osgi_ops.specs.Makes.{given_text, made_count}
use Rattle.osgi_ops.specs.Moments.{entries_in, Moment, moment, Told}
use Rattle.osgi_legal.specs.Operations.{Answers, IsReply}
use Rattle.osgi_ops.specs.Replies.{is_accepted}
use Rattle.osgi_ops.specs.Resolved.{is_resolved}
use Rattle.osgi_ops.specs.Resolving.{AnswersResolve}
use Rattle.osgi_ops.specs.Services.{live_service_at, Registered}
use Rattle.osgi_ops.specs.Settings.{Setting}
use Rattle.osgi_legal.specs.Stages.{is_here}
use Rattle.osgi_ops.specs.declared.entry.Entry.{Entry}
use Rattle.osgi_ops.specs.declared.op.Op.{Op}
use Rattle.osgi_ops.specs.declared.op.Op.TheVariants as op
use Rattle.osgi_ops.specs.declared.refusal.Refusal.{Refusal}
use Rattle.osgi_ops.specs.declared.refusal.Refusal.TheVariants.{InvalidOperation}
use Rattle.osgi_ops.specs.declared.reply.Reply.{Reply}
use Rattle.osgi_ops.specs.declared.reply.Reply.TheVariants as answer
use Rattle.osgi_ops.specs.laws.Along.{holds}
use Rattle.osgi_ops.specs.rows.Bundles.{installs, loaded_with, woken}
use Rattle.osgi_ops.specs.rows.Jobs.{taken}
use Rattle.osgi_ops.specs.rows.Services.{Got, got, got_reply, had, shared, to_make}
use Rattle.osgi_legal.proofs.Accepted.{accepted}
use Rattle.osgi_stage.proofs.Early.{due-early}
use Rattle.osgi_stage.proofs.Loads.{load-shown}
use Rattle.osgi_legal.proofs.Owned.{entries-last}
use Rattle.osgi_stage.proofs.Windows.{refused-is}

-- the reply hands an event to a listener
abbrev pub is_handing : Reply → Bool
is_handing (answer.Handed listener kind owner row name event) = true
is_handing _ = false

got-so : (now : Moment) (r : Registered) (g : Got) → is_handing (got_reply now r g) ≡ false
got-so now r shared = refl
got-so now r (had o) = refl
got-so now r to_make = refl

got-one : (now : Moment) (own : Bool) (user : BundleId) (at : Option Registered) (y : Reply) → IsSomeAnd at (λ r. y ≡ got_reply now r (got now own user r)) → is_handing y ≡ false
got-one now own user None y a = absurd a
got-one now own user (Some r) y a = ap is_handing a ∙ got-so now r (got now own user r)

made-one : (text : Option (List ℕ)) (n : ℕ) (y : Reply) → IsSomeAnd text (λ t. y ≡ answer.Held (record { 0 = n }) t) → is_handing y ≡ false
made-one None n y a = absurd a
made-one (Some t) n y a = ap is_handing a

installed-so : (known : Option Bundle) (earlier : ℕ) → is_handing (installs known earlier) ≡ false
installed-so None earlier = refl
installed-so (Some b) earlier = refl

resolved-so : (resolved : Bool) (now : Moment) (b : BundleId) (y : Reply) → AnswersResolve resolved now b y → is_handing y ≡ false
resolved-so true now b y a = ap is_handing a
resolved-so false now b y a = ap is_handing a.2

taken-so : (now : Moment) (queue : List Queued) → is_handing (taken now queue) ≡ false
taken-so now [] = refl
taken-so now (oldest ∷ rest) = refl

start-so : (active above : Bool) (b : BundleId) (goes : Reply) → is_handing goes ≡ false → is_handing (cond active (answer.Active b) (cond above (answer.Kept b) goes)) ≡ false
start-so true above b goes none = refl
start-so false true b goes none = refl
start-so false false b goes none = none

stop-so : (active : Bool) (b : BundleId) (row : ℕ) → is_handing (cond active (answer.Begun b row) (answer.Idle b)) ≡ false
stop-so true b row = refl
stop-so false b row = refl

loaded-so : (by : Option RevisionId) (wake : Option BundleId) → is_handing (loaded_with by None wake) ≡ false
loaded-so by None = refl
loaded-so by (Some b) = refl

hand-same : (y : Reply) → is_handing y ≡ is_handed op.Hand y
hand-same (answer.Handed listener kind owner row name event) = refl
hand-same y = refl

-- of the operations that have come, Hand alone has an answer that hands one
answers-same : (now : Moment) (o : Op) (y : Reply) → is_here o ≡ true → Answers now o y → is_handing y ≡ is_handed o y
answers-same now (op.Register owner classes object scope properties) y h a = ap is_handing a
answers-same now (op.Modify owner service properties) y h a = ap is_handing a
answers-same now (op.Unregister owner service) y h a = ap is_handing a
answers-same now (op.Find asker class filter) y h a = ap is_handing a.1
answers-same now (op.FindAll asker class filter) y h a = ap is_handing a.1
answers-same now (op.Get user service) y h a = got-one now false user (live_service_at service now.before) y a
answers-same now (op.EndMake failed) y h a = made-one (given_text now.tag.caller now.before) (made_count now.before + 1) y a
answers-same now (op.Unget user service) y h a = ap is_handing a
answers-same now (op.Install location) y h a = ap is_handing a ∙ installed-so (bundle_from now.setting.depot now.before location) _
answers-same now (op.Resolve bundle) y h a = resolved-so (is_resolved now.world bundle) now bundle y a
answers-same now (op.QueueJob owner name) y h a = ap is_handing a
answers-same now op.TakeJob y h a = ap is_handing a ∙ taken-so now (jobs now.before)
answers-same now (op.Load bundle class) y h a = ap is_handing (load-shown now bundle class y a) ∙ loaded-so a.by (woken now class a.by)
answers-same now op.ListBundles y h a = ap is_handing a
answers-same now op.ListServices y h a = ap is_handing a
answers-same now (op.ListWires bundle) y h a = ap is_handing a.2
answers-same now (op.AddListener owner name kind filter) y h a = ap is_handing a
answers-same now (op.RemoveListener owner name) y h a = ap is_handing a
answers-same now op.Hand y h a = hand-same y
answers-same now (op.EndHand listener) y h a = ap is_handing a
answers-same now op.EndJob y h a = ap is_handing a
answers-same now (op.Print owner text) y h a = ap is_handing a
answers-same now (op.Fail owner text) y h a = ap is_handing a
answers-same now (op.WishStart target transient) y h a = ap is_handing a.2 ∙ start-so (is_active (state_of now a.0)) (is_level_too_high now a.0) a.0 (answer.Go a.0) refl
answers-same now (op.BeginStart bundle transient) y h a =
    ap is_handing a ∙ start-so (is_active (state_of now bundle)) (is_level_too_high now bundle) bundle (answer.Begun bundle (row_of now.setting.depot now.before bundle)) refl
answers-same now (op.EndStart bundle failed) y h a = ap is_handing a
answers-same now (op.BeginStop target transient) y h a = ap is_handing a.2 ∙ stop-so (is_active (state_of now a.0)) a.0 (row_of now.setting.depot now.before a.0)
answers-same now (op.EndStop bundle failed) y h a = ap is_handing a
answers-same now o y h a = absurd (cc h)

refused-unhanded : (o : Op) (f : Refusal) → is_handed o (answer.Refused f) ≡ false
refused-unhanded op.Hand f = refl
refused-unhanded o f = refl

-- so a reply that is due hands an event where it is a Hand's that does
pub due-handed : (now : Moment) (o : Op) (y : Reply) → IsReply now o y → is_handing y ≡ is_handed o y
due-handed now o y r = by (is_accepted y) refl
  where
    refused : (f : Refusal) → y ≡ answer.Refused f → is_handing y ≡ is_handed o y
    refused f is = ap is_handing is ∙ sym (ap (is_handed o) is ∙ refused-unhanded o f)

    by : (k : Bool) → is_accepted y ≡ k → is_handing y ≡ is_handed o y
    by true e = elim (due-early now o y r) [
      | inl here ↦ answers-same now o y here (accepted now o y r e).1
      | inr is ↦ refused InvalidOperation is
    ]
    by false e = let f = refused-is y e in refused f.0 f.1

-- of every legal history: whatever hands an event is a Hand
pub hands-alone : (setting : Setting) (told : List Told) → AreAllowed setting told → All (λ (e : Entry). is_handing e.reply ≡ is_handed e.op e.reply) (entries_in told)
hands-alone setting told legal =
    holds (IsAllowed setting) (λ l. All IsSame (entries_in l)) (All-nil IsSame)
    (λ front x before same a.
    subst (All IsSame) (sym (entries-last front x))
    (All-push IsSame (entries_in front) x.entry same (due-handed (moment setting front x.entry.tag) x.entry.op x.entry.reply a.replied)))
    told legal
  where
    IsSame : Entry → Type 0
    IsSame e = is_handing e.reply ≡ is_handed e.op e.reply

filter-same : {X : Type 0} (p q : X → Bool) (xs : List X) → All (λ x. p x ≡ q x) xs → filter p xs ≡ filter q xs
filter-same p q [] same = refl
filter-same {X} p q (x ∷ xs) same =
    let rest : filter p xs ≡ filter q xs = filter-same p q xs (All-tail (λ y. p y ≡ q y) x xs same) in
    let here : p x ≡ q x = All-head (λ y. p y ≡ q y) x xs same in λ i. cond (here i) (x ∷ rest i) (rest i)

-- so as many events were handed as replies say so
pub handings-told : (setting : Setting) (told : List Told) → AreAllowed setting told → count_by (λ (e : Entry). is_handing e.reply) (entries_in told) ≡ handings (entries_in told)
handings-told setting told legal =
    sym (length-filter (λ (e : Entry). is_handing e.reply) (entries_in told))
    ∙ ap (λ (l : List Entry). length l) (filter-same (λ (e : Entry). is_handing e.reply) (λ (e : Entry). is_handed e.op e.reply) (entries_in told) (hands-alone setting told legal))
