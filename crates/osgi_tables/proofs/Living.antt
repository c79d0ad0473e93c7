-- What the tables answer to the begin or the end of a start or a stop, where the reply is due: then they stand for the history with its
-- entry.
use Rattle.std.proofs.Common.{◌≡◌, ◌≤◌, [], ◌∷◌, ◌++◌, ap, refl, sym, subst, ◌∙◌}
use Rattle.std.specs.Prelude.{◌==◌, if◌then◌else◌, Bool, true, false, length, List, MatchBool, None, Some}
use Rattle.std.specs.Option.{option_map}
use Rattle.osgi_base.specs.declared.ids.BundleId.{BundleId}
use Rattle.osgi_base.specs.declared.ids.ListenerId.{ListenerId}
use Rattle.osgi_base.specs.declared.ids.Tag.{Tag}
use Rattle.osgi_brackets.specs.Open.{Closes, HoldsMost, open_of, Opens}
use Rattle.osgi_brackets.specs.laws.Following.{closed-after, opened-after}
use Rattle.osgi_bundle.specs.Rows.{TableRows}
use Rattle.osgi_bundle.specs.Stands.{Puts, StandsPut}
use Rattle.osgi_bundle.specs.Stands as bundle
use Rattle.osgi_legal.specs.Quiet.{QuietBundles, QuietJobs, QuietServices}
use Rattle.osgi_jobs.specs.Queue as queue
use Rattle.osgi_jobs.specs.laws.Standing.{stands-after, stands-quiet}
use Rattle.osgi_legal.proofs.Owned.{closes-not}
use Rattle.osgi_legal.proofs.Quiet.{bundles-quiet}
use Rattle.osgi_ops.specs.Brackets.{brackets, brackets_of, Cause, is_own_end, opens}
use Rattle.osgi_ops.specs.OwnBrackets.{is_end, own_closes}
use Rattle.osgi_ops.specs.Bundles.{Phase, put_into}
use Rattle.osgi_ops.specs.Cleaning.{cleaned_by}
use Rattle.osgi_ops.specs.Conditions.{IsDeep}
use Rattle.osgi_ops.specs.Jobs as jobs
use Rattle.osgi_ops.specs.Jobs.{Queued, queued_by}
use Rattle.osgi_legal.specs.Legal.{entry_of, IsAskedAt}
use Rattle.osgi_ops.specs.Listening.{clears, happenings, heard_by}
use Rattle.osgi_ops.specs.Moments.{later, Moment}
use Rattle.osgi_legal.specs.Operations.{IsReply}
use Rattle.osgi_ops.specs.Resolved.{is_resolved}
use Rattle.osgi_ops.specs.Soundness.{IsSound}
use Rattle.osgi_ops.specs.Worlds.{Leaves}
use Rattle.osgi_ops.specs.declared.asked.Asked.{Asked}
use Rattle.osgi_ops.specs.declared.entry.Entry.{Entry}
use Rattle.osgi_ops.specs.declared.limits.TheConstants.{MAX_BRACKETS}
use Rattle.osgi_ops.specs.declared.op.Op.{Op}
use Rattle.osgi_ops.specs.declared.reply.Reply.{Reply}
use Rattle.osgi_ops.specs.laws.Brackets.{ends_turn}
use Rattle.osgi_registry.specs.Rows.{RegistryRows}
use Rattle.osgi_registry.specs.Stands as registries
use Rattle.osgi_registry.specs.laws.Standing as registry
use Rattle.osgi_world.specs.declared.world.World.{World}
use Rattle.osgi_sights.specs.Shown.{AreShown, Shown}
use Rattle.osgi_tables.proofs.Hearing.{closes_none, HandsNothing, heard_cleaned, heard_kept, HearsAfter, KeepsListeners}
use Rattle.osgi_tables.proofs.Replying.{kept_closes, unsaid}
use Rattle.osgi_tables.specs.Changes.{Begins, Cleans, Ends, without_jobs, without_listeners}
use Rattle.osgi_tables.specs.Replied.{EachTime, IsAnswered, StandsFor}
use Rattle.osgi_tables.specs.declared.tables.Tables.{Tables}

-- ---- what the tables say of brackets at the moment

pub own_end_at : (asked : Asked) (tables : Tables) (now : Moment) → IsAskedAt asked now → StandsFor now tables → is_own_end now.tag asked.op now.before ≡ own_closes asked.tag asked.op (open_of tables.brackets asked.tag.caller)
own_end_at asked tables now at stood =
    sym (kept_closes now asked.op tables.brackets stood.brackets) ∙ ap (λ (t : Tag). own_closes t asked.op (open_of tables.brackets t.caller)) at.tag

-- as many brackets are open in the history as are kept
depth_at : (asked : Asked) (tables : Tables) (now : Moment) → IsAskedAt asked now → StandsFor now tables → length (brackets_of now.tag.caller now.before) ≡ length (open_of tables.brackets asked.tag.caller)
depth_at asked tables now at stood =
    ap length (sym (stood.brackets now.tag.caller)) ∙ ap (λ (t : Tag). length (open_of tables.brackets t.caller)) at.tag

pub deep_at : (asked : Asked) (tables : Tables) (now : Moment) → IsAskedAt asked now → StandsFor now tables → HoldsMost asked.tag.caller tables.brackets → IsDeep now
deep_at asked tables now at stood most = subst (λ n. MAX_BRACKETS ≤ n) (sym (depth_at asked tables now at stood)) most

pub shallow_at : (asked : Asked) (tables : Tables) (now : Moment) → IsAskedAt asked now → StandsFor now tables → ¬ HoldsMost asked.tag.caller tables.brackets → ¬ IsDeep now
shallow_at asked tables now at stood fewer deep = fewer (subst (λ n. MAX_BRACKETS ≤ n) (depth_at asked tables now at stood) deep)

-- ---- the tables after an entry that puts a bundle into a phase

puts_by : (now : Moment) (o : Op) (reply : Reply) (phase : Phase) (b : BundleId) → QuietBundles o reply → ((c : BundleId) → put_into c o reply ≡ (if b.0 == c.0 then Some phase else None)) → Puts phase b (entry_of now o reply)
puts_by now o reply phase b quiet puts = record { puts = puts; installs = quiet.installed; uninstalls = quiet.gone; updates = quiet.updated }

module _ (now : Moment) (old : Tables) (o : Op) (reply : Reply) (phase : Phase) (tag : Tag) (b : BundleId) (stood : StandsFor now old) (quiet : QuietBundles o reply)
    (puts : (c : BundleId) → put_into c o reply ≡ (if b.0 == c.0 then Some phase else None)) (own : now.tag ≡ tag) (resolved : is_resolved now.world b ≡ true) where
  bundles_put : (rows : TableRows) → StandsPut phase tag b old.bundles rows → bundle.StandsFor now.setting.depot (now.before ++ entry_of now o reply ∷ []) old.wirings.world rows
  bundles_put rows put =
      subst (λ (w : World). bundle.StandsFor now.setting.depot (now.before ++ entry_of now o reply ∷ []) w rows) (sym stood.world)
      (put now.setting.depot now.before now.world (entry_of now o reply) own (puts_by now o reply phase b quiet puts) resolved stood.bundles)

-- ---- a begin

-- the operation with this reply begins a start or a stop of the bundle
pub record IsBeginOf (phase : Phase) (cause : Cause) (b : BundleId) (o : Op) (reply : Reply) : Type 0 where
  pub puts : (c : BundleId) → put_into c o reply ≡ (if b.0 == c.0 then Some phase else None)
  pub bundles : QuietBundles o reply
  pub services : QuietServices o reply
  pub keeps : KeepsListeners o reply
  pub jobs : QuietJobs o reply
  pub opened : opens o reply ≡ Some cause
  pub no_end : is_end o ≡ false
  pub leaves : (now : Moment) (world : World) → world ≡ now.world → Leaves now o reply world

begun_stands : (asked : Asked) (old new : Tables) (reply : Reply) (phase : Phase) (cause : Cause) (b : BundleId) → IsBeginOf phase cause b asked.op reply → EachTime asked old (λ now. is_resolved now.world b ≡ true) → (begins : Begins phase cause asked.tag b old new) →
    (now : Moment) → IsAskedAt asked now → StandsFor now old → StandsFor (later now asked.op reply old.wirings.world []) (record old { bundles = begins.bundles; brackets = begins.brackets })
begun_stands asked old new reply phase cause b is resolved begins now at stood =
    let e : Entry = entry_of now asked.op reply in
    let heard = heard_kept now old asked.op reply stood is.keeps (closes_none now asked.op (closes-not now.tag asked.op (brackets now.before) is.no_end)) in
    record {
      depot = stood.depot;
      budget = stood.budget;
      services = registry.stands_quiet now.before old.registry e stood.services (unsaid e is.services);
      bundles = bundles_put now old asked.op reply phase asked.tag b stood is.bundles is.puts at.tag (resolved now at stood) begins.bundles begins.put;
      brackets = opened-after now.before e cause old.brackets begins.brackets stood.brackets is.opened (subst (λ (t : Tag). Opens old.brackets begins.brackets t cause) (sym at.tag) begins.opened);
      world = refl;
      issued = stood.issued ∙ sym (bundles-quiet now.setting.depot now.before e is.bundles).revisions;
      sound = subst IsSound (sym stood.world) stood.sound;
      listeners = heard.listeners;
      small = heard.small;
      handings = heard.handings;
      jobs = stands-quiet now.before e old.jobs is.jobs stood.jobs;
    }

-- this happens at the operation with this reply, which leaves the world
abbrev pub HappensStill : Asked → Tables → Reply → List Shown → Type 0
HappensStill asked old reply happened = EachTime asked old (λ now. AreShown happened (happenings now.before now.world old.wirings.world (entry_of now asked.op reply) asked.op reply))

-- where its reply is due, the bundle is resolved and this happens, it is answered so
pub replied_begun : (asked : Asked) (old new : Tables) (reply : Reply) (phase : Phase) (cause : Cause) (b : BundleId) (happened : List Shown) → IsBeginOf phase cause b asked.op reply → EachTime asked old (λ now. IsReply now asked.op reply) →
    EachTime asked old (λ now. is_resolved now.world b ≡ true) → HappensStill asked old reply happened → Begins phase cause asked.tag b old new → IsAnswered asked old new reply happened
replied_begun asked old new reply phase cause b happened is due resolved happens begins =
    subst (λ (t : Tables). IsAnswered asked old t reply happened) (sym begins.is) (record {
      due = due;
      left = λ now at stood. is.leaves now old.wirings.world stood.world;
      happens = happens;
      stands = begun_stands asked old new reply phase cause b is resolved begins;
    })

-- ---- an end

-- the operation with this reply ends a start or a stop of the bundle, and cleans it if this is so
pub record IsEndOf (phase : Phase) (cleaned : Bool) (b : BundleId) (o : Op) (reply : Reply) : Type 0 where
  pub puts : (c : BundleId) → put_into c o reply ≡ (if b.0 == c.0 then Some phase else None)
  pub bundles : QuietBundles o reply
  pub cleans : MatchBool cleaned (cleaned_by o reply ≡ Some b) (QuietServices o reply)
  pub hears : heard_by o reply ≡ option_map clears (cleaned_by o reply)
  pub jobs : queued_by o reply ≡ option_map jobs.clears (cleaned_by o reply)
  pub hands : HandsNothing o reply
  pub no_turn : (l : ListenerId) → ends_turn l o ≡ false
  pub opened : opens o reply ≡ None
  pub leaves : (now : Moment) (world : World) → world ≡ now.world → Leaves now o reply world

services_after : (now : Moment) (o : Op) (reply : Reply) (cleaned : Bool) (b : BundleId) (old new : RegistryRows) → registries.StandsFor now.before old → MatchBool cleaned (cleaned_by o reply ≡ Some b) (QuietServices o reply) → Cleans cleaned b old new →
    registries.StandsFor (now.before ++ entry_of now o reply ∷ []) new
services_after now o reply true b old new stood says cleans = cleans now.before (entry_of now o reply) says stood
services_after now o reply false b old new stood says same =
    subst (registries.StandsFor (now.before ++ entry_of now o reply ∷ [])) (sym same) (registry.stands_quiet now.before old (entry_of now o reply) stood (unsaid (entry_of now o reply) says))

abbrev ended_tables : {phase : Phase} {cleaned : Bool} {tag : Tag} {b : BundleId} {old new : Tables} → Ends phase cleaned tag b old new → Tables
ended_tables {phase} {cleaned} {tag} {b} {old} {new} ends = record old { registry = ends.registry; bundles = ends.bundles; brackets = ends.brackets; listeners = without_listeners cleaned b old.listeners; jobs = without_jobs cleaned b old.jobs }

-- the listeners after it: those of the bundle go, if it is cleaned
heard_after : (now : Moment) (tables : Tables) (o : Op) (reply : Reply) (cleaned : Bool) (b : BundleId) → StandsFor now tables → MatchBool cleaned (cleaned_by o reply ≡ Some b) (QuietServices o reply) → heard_by o reply ≡ option_map clears (cleaned_by o reply) →
    HandsNothing o reply → ((l : ListenerId) → ends_turn l o ≡ false) → HearsAfter now o reply (without_listeners cleaned b tables.listeners) tables.handings_left
heard_after now tables o reply true b stood says hears hands no_turn = heard_cleaned now tables o reply b stood says hands
heard_after now tables o reply false b stood says hears hands no_turn = heard_kept now tables o reply stood (record { heard = hears ∙ ap (option_map clears) says.cleaned; hands = hands }) (λ l closed. no_turn l)

-- the jobs after it: those of the bundle go, if it is cleaned
jobs_after : (now : Moment) (o : Op) (reply : Reply) (cleaned : Bool) (b : BundleId) (queued : List Queued) → queue.StandsFor now.before queued → MatchBool cleaned (cleaned_by o reply ≡ Some b) (QuietServices o reply) →
    queued_by o reply ≡ option_map jobs.clears (cleaned_by o reply) → queue.StandsFor (now.before ++ entry_of now o reply ∷ []) (without_jobs cleaned b queued)
jobs_after now o reply true b queued stood says are = stands-after now.before (entry_of now o reply) queued (Some (jobs.clears b)) (are ∙ ap (option_map jobs.clears) says) stood
jobs_after now o reply false b queued stood says are = stands-quiet now.before (entry_of now o reply) queued (are ∙ ap (option_map jobs.clears) says.cleaned) stood

ended_stands : (asked : Asked) (old new : Tables) (reply : Reply) (phase : Phase) (cleaned : Bool) (b : BundleId) → IsEndOf phase cleaned b asked.op reply → own_closes asked.tag asked.op (open_of old.brackets asked.tag.caller) ≡ true →
    EachTime asked old (λ now. is_resolved now.world b ≡ true) → (ends : Ends phase cleaned asked.tag b old new) →
    (now : Moment) → IsAskedAt asked now → StandsFor now old → StandsFor (later now asked.op reply old.wirings.world []) (ended_tables ends)
ended_stands asked old new reply phase cleaned b is own resolved ends now at stood =
    let e : Entry = entry_of now asked.op reply in
    let heard = heard_after now old asked.op reply cleaned b stood is.cleans is.hears is.hands is.no_turn in
    record {
      depot = stood.depot;
      budget = stood.budget;
      services = services_after now asked.op reply cleaned b old.registry ends.registry stood.services is.cleans ends.cleans;
      bundles = bundles_put now old asked.op reply phase asked.tag b stood is.bundles is.puts at.tag (resolved now at stood) ends.bundles ends.put;
      brackets = closed-after now.before e old.brackets ends.brackets stood.brackets is.opened (subst (λ (t : Tag). own_closes t asked.op (open_of old.brackets t.caller) ≡ true) (sym at.tag) own)
          (subst (λ (t : Tag). Closes old.brackets ends.brackets t.caller) (sym at.tag) ends.closed);
      world = refl;
      issued = stood.issued ∙ sym (bundles-quiet now.setting.depot now.before e is.bundles).revisions;
      sound = subst IsSound (sym stood.world) stood.sound;
      listeners = heard.listeners;
      small = heard.small;
      handings = heard.handings;
      jobs = jobs_after now asked.op reply cleaned b old.jobs stood.jobs is.cleans is.jobs;
    }

-- where its reply is due, it is the end of its caller's innermost bracket and this happens, it is answered so
pub replied_ended : (asked : Asked) (old new : Tables) (reply : Reply) (phase : Phase) (cleaned : Bool) (b : BundleId) (happened : List Shown) → IsEndOf phase cleaned b asked.op reply →
    own_closes asked.tag asked.op (open_of old.brackets asked.tag.caller) ≡ true → EachTime asked old (λ now. IsReply now asked.op reply) → EachTime asked old (λ now. is_resolved now.world b ≡ true) → HappensStill asked old reply happened →
    Ends phase cleaned asked.tag b old new → IsAnswered asked old new reply happened
replied_ended asked old new reply phase cleaned b happened is own due resolved happens ends =
    subst (λ (t : Tables). IsAnswered asked old t reply happened) (sym ends.is) (record {
      due = due;
      left = λ now at stood. is.leaves now old.wirings.world stood.world;
      happens = happens;
      stands = ended_stands asked old new reply phase cleaned b is own resolved ends;
    })
