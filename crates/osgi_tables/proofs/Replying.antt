-- What the tables answer is what is due at each moment that they stand for.
use Rattle.std.proofs.Common.{◌≡◌, ℕ, List, [], ◌∷◌, ◌++◌, ap, refl, sym, subst, ◌∙◌}
use Rattle.std.specs.Prelude.{true, false, None, Result, Ok, Err, IfOk, OnErr}
use Rattle.osgi_base.specs.Verdict.{Gives}
use Rattle.osgi_base.specs.declared.ids.BundleId.{BundleId}
use Rattle.osgi_base.specs.declared.ids.ListenerId.{ListenerId}
use Rattle.osgi_brackets.specs.Open.{HoldsSame, open_of}
use Rattle.osgi_brackets.specs.Open as callers
use Rattle.osgi_brackets.specs.declared.brackets.Brackets.{Brackets}
use Rattle.osgi_brackets.specs.laws.Following.{quiet-after}
use Rattle.osgi_bundle.specs.Stands as bundle
use Rattle.osgi_bundle.specs.laws.Standing as table
use Rattle.osgi_legal.specs.Askers.{MayAsk}
use Rattle.osgi_legal.specs.Quiet.{QuietBundles, QuietJobs, QuietPhases, QuietServices}
use Rattle.osgi_legal.proofs.Askers.{asker-passes}
use Rattle.osgi_legal.proofs.Owned.{closes-not, closes-own}
use Rattle.osgi_legal.proofs.Quiet.{bundles-quiet, refused-quiet, refused_end_quiet}
use Rattle.osgi_stage.proofs.Stage.{no-make-ends}
use Rattle.osgi_jobs.specs.laws.Standing.{stands-quiet}
use Rattle.osgi_listeners.specs.Rows.{Listening}
use Rattle.osgi_ops.specs.Brackets.{brackets, closes, opens}
use Rattle.osgi_ops.specs.OwnBrackets.{is_end, own_closes}
use Rattle.osgi_ops.specs.Bundles.{brings_revision, installed_by, is_uninstall, put_into, updated_to}
use Rattle.osgi_ops.specs.Cleaning.{cleaned_by}
use Rattle.osgi_ops.specs.Conditions.{asker_of}
use Rattle.osgi_ops.specs.Jobs.{Queued, queued_by}
use Rattle.osgi_legal.specs.Legal.{entry_of, IsAskedAt, IsTold}
use Rattle.osgi_ops.specs.Listening.{handed_by, Happening, happenings, heard_by, is_handed}
use Rattle.osgi_ops.specs.Moments.{later, Moment}
use Rattle.osgi_legal.specs.Operations.{Answers, IsReply, own_conditions}
use Rattle.osgi_ops.specs.Replies.{took_effect, verdict}
use Rattle.osgi_ops.specs.Soundness.{IsSound}
use Rattle.osgi_legal.specs.Stages.{is_here}
use Rattle.osgi_ops.specs.Worlds.{Leaves}
use Rattle.osgi_ops.specs.declared.asked.Asked.{Asked}
use Rattle.osgi_ops.specs.declared.entry.Entry.{Entry}
use Rattle.osgi_ops.specs.declared.op.Op.{Op}
use Rattle.osgi_ops.specs.declared.op.Op.TheVariants as op
use Rattle.osgi_ops.specs.declared.refusal.Refusal.{Refusal}
use Rattle.osgi_ops.specs.declared.reply.Reply.{Reply}
use Rattle.osgi_ops.specs.declared.reply.Reply.TheVariants as answer
use Rattle.osgi_legal.specs.laws.Stages.{row-here}
use Rattle.osgi_registry.specs.Rows.{RegistryRows}
use Rattle.osgi_registry.specs.Stands as registries
use Rattle.osgi_registry.specs.laws.Standing as registry
use Rattle.osgi_sights.specs.Shown.{AreShown, Shown}
use Rattle.osgi_sights.specs.laws.Standing.{nothing_seen}
use Rattle.osgi_world.specs.declared.world.World.{World}
use Rattle.osgi_tables.proofs.Asking.{here_asks, passed_by}
use Rattle.osgi_tables.proofs.Hearing.{closes_none, heard_kept, KeepsListeners, quiet_keeps}
use Rattle.osgi_tables.specs.Asked.{asker_here, asker_refusal}
use Rattle.osgi_tables.specs.Replied.{EachTime, IsAnswered, IsAnsweredToAll, IsReplied, StandsFor, StandsStill}
use Rattle.osgi_tables.specs.Changes.{IsReplyAndChange, IsReplyAndChangeToAll}
use Rattle.osgi_tables.specs.declared.change.Change.{Change}
use Rattle.osgi_tables.specs.declared.change.Change.TheVariants as change
use Rattle.osgi_tables.specs.declared.tables.Tables.{Tables}

-- what the operation with this reply says is of services at most, and of what happens to them; it is no end, and leaves the world
pub record IsOfServices (o : Op) (reply : Reply) : Type 0 where
  pub bundles : QuietBundles o reply
  pub phases : QuietPhases o reply
  pub opened : opens o reply ≡ None
  pub no_end : is_end o ≡ false
  pub keeps : KeepsListeners o reply
  pub jobs : QuietJobs o reply
  pub leaves : (now : Moment) (world : World) → world ≡ now.world → Leaves now o reply world

-- where no view of bundles, phases and brackets mentions the operation
pub of_services : (o : Op) (reply : Reply) → ((n : ℕ) (since : List Entry) → installed_by n o reply since ≡ []) → ((b : BundleId) → is_uninstall b o reply ≡ false) → ((b : BundleId) → updated_to b o reply ≡ None) → brings_revision o reply ≡ false →
    ((b : BundleId) → put_into b o reply ≡ None) → opens o reply ≡ None → is_end o ≡ false → heard_by o reply ≡ None → ((l : ListenerId) → handed_by l o reply ≡ []) → is_handed o reply ≡ false → queued_by o reply ≡ None →
    ((now : Moment) (world : World) → world ≡ now.world → Leaves now o reply world) → IsOfServices o reply
of_services o reply installs gone updated brings phases opened no_end heard handed counted queued leaves = record {
  bundles = record { installed = installs; gone = gone; updated = updated; brings = brings };
  phases = phases;
  opened = opened;
  no_end = no_end;
  keeps = record { heard = heard; hands = record { handed = handed; counted = counted } };
  jobs = queued;
  leaves = leaves;
}

-- the moment with the world that the tables have
abbrev pub at : Moment → Tables → Moment
at now tables = record now { world = tables.wirings.world }

-- what holds at each moment of that world that the tables stand for, holds at each that they stand for
pub from_own : {asked : Asked} (old : Tables) (P : Moment → Type 0) → ((now : Moment) → IsTold (at now old) → StandsFor (at now old) old → P (at now old)) → (now : Moment) → IsAskedAt asked now → StandsFor now old → P now
from_own old P prove now asked stood =
    subst (λ (w : World). P (record now { world = w })) stood.world
    (prove now (subst (λ (w : World). IsTold (record now { world = w })) (sym stood.world) asked.told) (subst (λ (w : World). StandsFor (record now { world = w }) old) (sym stood.world) stood))

-- ---- where nothing happens

pub none_shown : (happens : List Happening) → happens ≡ [] → AreShown [] happens
none_shown happens none = subst (AreShown []) (sym none) tt

-- nothing happens at it at the moments that the tables stand for
pub unseen_then : (asked : Asked) (old new : Tables) (reply : Reply) → EachTime asked old (λ now. IsReply now asked.op reply) → EachTime asked old (λ now. Leaves now asked.op reply new.wirings.world) →
    EachTime asked old (λ now. happenings now.before now.world new.wirings.world (entry_of now asked.op reply) asked.op reply ≡ []) → EachTime asked old (λ now. StandsFor (later now asked.op reply new.wirings.world []) new) →
    IsAnswered asked old new reply []
unseen_then asked old new reply due left none stands = record {
  due = due;
  left = left;
  happens = λ now told stood. none_shown (happenings now.before now.world new.wirings.world (entry_of now asked.op reply) asked.op reply) (none now told stood);
  stands = stands;
}

-- at no moment
pub unseen : (asked : Asked) (old new : Tables) (reply : Reply) → EachTime asked old (λ now. IsReply now asked.op reply) → EachTime asked old (λ now. Leaves now asked.op reply new.wirings.world) →
    ((past : List Entry) (before after : World) (e : Entry) → happenings past before after e asked.op reply ≡ []) → EachTime asked old (λ now. StandsFor (later now asked.op reply new.wirings.world []) new) → IsAnswered asked old new reply []
unseen asked old new reply due left none stands =
    unseen_then asked old new reply due left (λ now told stood. none now.before now.world new.wirings.world (entry_of now asked.op reply)) stands

-- what is answered, where nothing happens, is replied where nobody is told
pub replied_unseen : (entries : ℕ) (asked : Asked) (old new : Tables) (reply : Reply) → ((past : List Entry) (before after : World) (e : Entry) → e.op ≡ asked.op → e.reply ≡ reply → happenings past before after e e.op e.reply ≡ []) → IsAnswered asked old new reply [] → IsReplied entries asked old new reply []
replied_unseen entries asked old new reply none answered = record {
  due = λ now at number stood. answered.due now at stood;
  left = λ now at number stood. answered.left now at stood;
  seen = λ now at number stood. nothing_seen now.before now.world new.wirings.world (entry_of now asked.op reply) (none now.before now.world new.wirings.world (entry_of now asked.op reply) refl refl);
  stands = λ now at number stood. answered.stands now at stood;
}

-- ---- operations that say nothing of bundles: one law for all tables

abbrev pub with_services : RegistryRows → Tables → Tables
with_services services tables = record tables { registry = services }

-- an entry that says nothing of bundles and phases, as the table of bundles takes it
pub bundles_unsaid : (e : Entry) → QuietBundles e.op e.reply → QuietPhases e.op e.reply → table.IsQuietOfBundles e
bundles_unsaid e quiet phases = record { installs = quiet.installed; uninstalls = quiet.gone; updates = quiet.updated; puts = phases }

-- the operation is the end of the innermost of the caller's brackets in the history where it is that of those that are kept
pub kept_closes : (now : Moment) (o : Op) (kept : Brackets) → callers.StandsFor now.before kept → own_closes now.tag o (open_of kept now.tag.caller) ≡ closes now.tag o (brackets now.before)
kept_closes now o kept stood = ap (own_closes now.tag o) (stood now.tag.caller) ∙ sym (closes-own now.tag o (brackets now.before))

-- an entry that opens no bracket and is the end of none leaves all that are open
brackets_unsaid : (now : Moment) (o : Op) (reply : Reply) (kept : Brackets) → callers.StandsFor now.before kept → opens o reply ≡ None → closes now.tag o (brackets now.before) ≡ false → callers.StandsFor (now.before ++ entry_of now o reply ∷ []) kept
brackets_unsaid now o reply kept stood opened stays = quiet-after now.before (entry_of now o reply) kept stood opened (kept_closes now o kept stood ∙ stays)

pub brackets_left : (now : Moment) (o : Op) (reply : Reply) (kept : Brackets) → callers.StandsFor now.before kept → opens o reply ≡ None → is_end o ≡ false → callers.StandsFor (now.before ++ entry_of now o reply ∷ []) kept
brackets_left now o reply kept stood opened no_end = brackets_unsaid now o reply kept stood opened (closes-not now.tag o (brackets now.before) no_end)

-- the tables after an entry that changes no more than the registry
still_by : (now : Moment) (tables : Tables) (o : Op) (reply : Reply) (services : RegistryRows) → StandsFor now tables → QuietBundles o reply → QuietPhases o reply → KeepsListeners o reply → QuietJobs o reply → opens o reply ≡ None → closes now.tag o (brackets now.before) ≡ false →
    registries.StandsFor (now.before ++ entry_of now o reply ∷ []) services → StandsFor (later now o reply tables.wirings.world []) (with_services services tables)
still_by now tables o reply services stood quiet phases keeps queued opened stays stands =
    let e : Entry = entry_of now o reply in
    let depot = now.setting.depot in
    let heard = heard_kept now tables o reply stood keeps (closes_none now o stays) in
    record {
      depot = stood.depot;
      budget = stood.budget;
      services = stands;
      bundles =
          subst (λ (w : World). bundle.StandsFor depot (now.before ++ e ∷ []) w tables.bundles) (sym stood.world)
          (table.stands_quiet depot now.before now.world tables.bundles e stood.bundles (bundles_unsaid e quiet phases));
      brackets = brackets_unsaid now o reply tables.brackets stood.brackets opened stays;
      world = refl;
      issued = stood.issued ∙ sym (bundles-quiet depot now.before e quiet).revisions;
      sound = subst IsSound (sym stood.world) stood.sound;
      listeners = heard.listeners;
      small = heard.small;
      handings = heard.handings;
      jobs = stands-quiet now.before e tables.jobs queued stood.jobs;
    }

pub still_world : (now : Moment) (tables : Tables) (o : Op) (reply : Reply) (services : RegistryRows) → StandsFor now tables → IsOfServices o reply → registries.StandsFor (now.before ++ entry_of now o reply ∷ []) services →
    StandsFor (later now o reply tables.wirings.world []) (with_services services tables)
still_world now tables o reply services stood quiet stands = still_by now tables o reply services stood quiet.bundles quiet.phases quiet.keeps quiet.jobs quiet.opened (closes-not now.tag o (brackets now.before) quiet.no_end) stands

pub unsaid : (e : Entry) → QuietServices e.op e.reply → registry.IsQuiet e
unsaid e quiet = record { registers = quiet.registered; takes = quiet.taken; gives = quiet.given; gets = quiet.got; ungets = quiet.let_go; cleans = quiet.cleaned }

-- an entry that says nothing of services either leaves all tables
pub still_tables : (now : Moment) (tables : Tables) (o : Op) (reply : Reply) → StandsFor now tables → IsOfServices o reply → QuietServices o reply → StandsFor (later now o reply tables.wirings.world []) tables
still_tables now tables o reply stood quiet silent = still_world now tables o reply tables.registry stood quiet (registry.stands_quiet now.before tables.registry (entry_of now o reply) stood.services (unsaid (entry_of now o reply) silent))

-- ---- operations on services

-- what is due to who may ask is replied, where no more than the registry changes
pub replied_by : (asked : Asked) (old : Tables) (new : RegistryRows) (reply : Reply) (happened : List Shown) → is_here asked.op ≡ true → IsOfServices asked.op reply → asker_refusal old.bundles (asker_here asked.op) ≡ None →
    ((now : Moment) → IsAskedAt asked now → MayAsk now (asker_of asked.op) → StandsFor now old → Gives (own_conditions now asked.op) (Answers now asked.op) (verdict reply)) →
    EachTime asked old (λ now. (before after : World) → AreShown happened (happenings now.before before after (entry_of now asked.op reply) asked.op reply)) →
    registries.StandsAfter asked.op reply old.registry new → IsAnswered asked old (with_services new old) reply happened
replied_by asked old new reply happened here quiet none due happens stands =
    let may : (now : Moment) → IsTold now → StandsFor now old → MayAsk now (asker_of asked.op) =
    λ now told stood. subst (MayAsk now) (here_asks asked.op here) (passed_by now old.bundles (asker_here asked.op) told stood.bundles none) in
    record {
      due = λ now told stood.
          row-here now asked.op reply here
          (asker-passes now (asker_of asked.op) (own_conditions now asked.op) (Answers now asked.op) (verdict reply) (may now told.told stood) (due now told (may now told.told stood) stood));
      left = λ now told stood. quiet.leaves now old.wirings.world stood.world;
      happens = λ now told stood. happens now told stood now.world old.wirings.world;
      stands = λ now told stood. still_world now old asked.op reply new stood quiet (stands now.before now.tag stood.services);
    }

-- ---- refusals

-- a refusal leaves the world
pub refused-leaves : (now : Moment) (o : Op) (f : Refusal) (world : World) → world ≡ now.world → Leaves now o (answer.Refused f) world
refused-leaves now (op.Install location) f world same = same
refused-leaves now (op.Resolve bundle) f world same = same
refused-leaves now (op.Update bundle location) f world same = same
refused-leaves now (op.Uninstall bundle) f world same = same
refused-leaves now op.DropWirings f world same = same
refused-leaves now o f world same = same

-- what is refused, but for a section that failed, changes nothing
still_refused : (now : Moment) (tables : Tables) (o : Op) (refusal : Refusal) → IsTold now → took_effect (answer.Refused refusal) ≡ false → IsReply now o (answer.Refused refusal) → StandsFor now tables → StandsFor (later now o (answer.Refused refusal) tables.wirings.world []) tables
still_refused now tables o refusal told none due stood =
    let quiet = refused-quiet o refusal none in
    still_by now tables o (answer.Refused refusal) tables.registry stood quiet.bundles quiet.phases (quiet_keeps o (answer.Refused refusal) quiet.listeners) quiet.jobs quiet.opened (refused_end_quiet now o refusal due (no-make-ends now told) none)
    (registry.stands_quiet now.before tables.registry (entry_of now o (answer.Refused refusal)) stood.services (unsaid (entry_of now o (answer.Refused refusal)) quiet.services))

pub replied_refused : (asked : Asked) (tables : Tables) (refusal : Refusal) → took_effect (answer.Refused refusal) ≡ false → EachTime asked tables (λ now. IsReply now asked.op (answer.Refused refusal)) →
    IsAnswered asked tables tables (answer.Refused refusal) []
replied_refused asked tables refusal none due =
    unseen asked tables tables (answer.Refused refusal) due
    (λ now told stood. refused-leaves now asked.op refusal tables.wirings.world stood.world)
    (refused-quiet asked.op refusal none).listeners.happens
    (λ now told stood. still_refused now tables asked.op refusal told.told none (due now told stood) stood)

-- ---- what is decided

-- the reply changes nothing, and cleans no bundle
pub decided_same : (asked : Asked) (tables : Tables) (reply : Reply) → cleaned_by asked.op reply ≡ None → IsAnswered asked tables tables reply [] → IsReplyAndChange asked tables reply change.Nothing
decided_same asked tables reply cleans answered = record { possible = tt; cleans = cleans; answered = λ new same. subst (λ t. IsAnswered asked tables t reply []) (sym same) answered }

-- nor does a refusal, unless a section failed
pub decided_refused : (asked : Asked) (tables : Tables) (refusal : Refusal) → took_effect (answer.Refused refusal) ≡ false → EachTime asked tables (λ now. IsReply now asked.op (answer.Refused refusal)) →
    IsReplyAndChange asked tables (answer.Refused refusal) change.Nothing
decided_refused asked tables refusal none due =
    decided_same asked tables (answer.Refused refusal) (refused-quiet asked.op refusal none).services.cleaned (replied_refused asked tables refusal none due)

-- it is the same whatever the tag
pub decided_all : (o : Op) (tables : Tables) (reply : Reply) → cleaned_by o reply ≡ None → IsAnsweredToAll o tables reply → IsReplyAndChangeToAll o tables reply change.Nothing
decided_all o tables reply cleans answered who = decided_same (record { tag = who; op = o }) tables reply cleans (answered who)

-- what is decided for the tag that asks is decided for who asks
pub decided_own : (asked : Asked) (o : Op) (tables : Tables) (reply : Reply) (c : Change) → asked.op ≡ o → IsReplyAndChange (record { tag = asked.tag; op = o }) tables reply c → IsReplyAndChange asked tables reply c
decided_own asked o tables reply c is decided = subst (λ p. IsReplyAndChange (record { tag = asked.tag; op = p }) tables reply c) (sym is) decided

-- what is decided whoever asks is decided for who asks
pub decided_asked : (asked : Asked) (o : Op) (tables : Tables) (reply : Reply) (c : Change) → asked.op ≡ o → IsReplyAndChangeToAll o tables reply c → IsReplyAndChange asked tables reply c
decided_asked asked o tables reply c is decided = decided_own asked o tables reply c is (decided asked.tag)

-- ---- what functions answer

pub unchanging : (asked : Asked) (o : Op) (tables : Tables) (x : Reply × Change) (reply : Reply) → (x.0 ≡ reply) × (x.1 ≡ change.Nothing) → asked.op ≡ o → cleaned_by o reply ≡ None → IsAnsweredToAll o tables reply → IsReplyAndChange asked tables x.0 x.1
unchanging asked o tables x reply same is cleans answered =
    subst (λ y. IsReplyAndChange asked tables y x.1) (sym same.0)
    (subst (IsReplyAndChange asked tables reply) (sym same.1) (decided_asked asked o tables reply change.Nothing is (decided_all o tables reply cleans answered)))

pub own_ok : {E : Type 0} (r : Result (Reply × Change) E) (asked : Asked) (o : Op) (tables : Tables) → asked.op ≡ o → IfOk r (λ x. IsReplyAndChange (record { tag = asked.tag; op = o }) tables x.0 x.1) → IfOk r (λ x. IsReplyAndChange asked tables x.0 x.1)
own_ok (Ok x) asked o tables is decided = decided_own asked o tables x.0 x.1 is decided
own_ok (Err e) asked o tables is decided = tt

pub asked_ok : {E : Type 0} (r : Result (Reply × Change) E) (asked : Asked) (o : Op) (tables : Tables) → asked.op ≡ o → IfOk r (λ x. IsReplyAndChangeToAll o tables x.0 x.1) → IfOk r (λ x. IsReplyAndChange asked tables x.0 x.1)
asked_ok (Ok x) asked o tables is decided = decided_asked asked o tables x.0 x.1 is decided
asked_ok (Err e) asked o tables is decided = tt

-- tables that are the same stand for what they did
pub still_same : (old new : Tables) → new ≡ old → StandsStill old new
still_same old new same = λ now stood. subst (StandsFor now) (sym same) stood

-- so do those where registry, listeners and jobs are the same
pub still_uncleaned : (tables : Tables) (services : RegistryRows) (l : Listening) (jobs : List Queued) → (services ≡ tables.registry) × (l ≡ tables.listeners) × (jobs ≡ tables.jobs) →
    StandsStill tables (record tables { registry = services; listeners = l; jobs = jobs })
still_uncleaned tables services l jobs same = still_same tables (record tables { registry = services; listeners = l; jobs = jobs }) (λ i. record tables { registry = same.0 i; listeners = same.1 i; jobs = same.2 i })

-- what holds, holds where a call fails
pub on_err : {T E : Type 0} (r : Result T E) {P : Type 0} → P → OnErr r P
on_err (Ok x) p = tt
on_err (Err e) p = p

-- ---- tables that are left as they were

-- where each caller has the brackets that it had
pub stays_open : (tables : Tables) (kept : Brackets) → HoldsSame tables.brackets kept → StandsStill tables (record tables { brackets = kept })
stays_open tables kept same = λ now stood. record {
  depot = stood.depot;
  budget = stood.budget;
  services = stood.services;
  bundles = stood.bundles;
  brackets = λ caller. same caller ∙ stood.brackets caller;
  world = stood.world;
  issued = stood.issued;
  sound = stood.sound;
  listeners = stood.listeners;
  small = stood.small;
  handings = stood.handings;
  jobs = stood.jobs;
}
