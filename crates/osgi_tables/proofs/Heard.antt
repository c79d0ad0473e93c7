-- What the tables answer to operations on listeners and on jobs, and to hands, where the reply is due: then they stand for the history with
-- its entry.
use Rattle.std.proofs.Common.{◌≡◌, ◌-◌, ◌+◌, ℕ, Bool, true, false, List, [], ◌∷◌, ◌++◌, append-nil, length, length-append, arith, refl, sym, ap, ◌∙◌, subst}
use Rattle.std.specs.List.{list_any}
use Rattle.std.specs.Prelude.{cond, filter, Option, Some}
use Rattle.std.proofs.lemmas.List.Elements.{filter-append}
use Rattle.osgi_base.specs.declared.ids.BundleId.{BundleId}
use Rattle.osgi_base.specs.declared.ids.ListenerId.{ListenerId}
use Rattle.osgi_base.specs.declared.ids.Tag.{Tag}
use Rattle.osgi_brackets.specs.Open as callers
use Rattle.osgi_brackets.specs.Open.{Closes, open_of, Opens}
use Rattle.osgi_brackets.specs.declared.brackets.Brackets.{Brackets}
use Rattle.osgi_brackets.specs.laws.Following.{closed-after, opened-after}
use Rattle.osgi_bundle.specs.Stands as bundle
use Rattle.osgi_bundle.specs.laws.Standing as table
use Rattle.osgi_jobs.specs.Queue as queue
use Rattle.osgi_jobs.specs.laws.Standing.{stands-after, stands-quiet}
use Rattle.osgi_legal.specs.Quiet.{QuietBundles, QuietJobs, QuietPhases, QuietServices}
use Rattle.osgi_legal.proofs.Quiet.{bundles-quiet}
use Rattle.osgi_listeners.specs.Rows.{is_named, Listening, without_turn}
use Rattle.osgi_listeners.specs.Stands as hearing
use Rattle.osgi_listeners.specs.Stands.{AreSmall}
use Rattle.osgi_listeners.specs.laws.Standing.{stands-with-added, stands-with-ended, stands-with-handed, stands-with-removed}
use Rattle.osgi_model.specs.declared.filter.Filter.{Filter}
use Rattle.osgi_ops.specs.Brackets.{handing, job}
use Rattle.osgi_ops.specs.OwnBrackets.{own_closes}
use Rattle.osgi_ops.specs.Jobs.{Queued, queues, takes, with_jobs}
use Rattle.osgi_legal.specs.Legal.{entry_of, IsTold}
use Rattle.osgi_ops.specs.Listening.{handings, is_handed}
use Rattle.osgi_ops.specs.Moments.{later, Moment, Seen}
use Rattle.osgi_ops.specs.Soundness.{IsSound}
use Rattle.osgi_ops.specs.declared.entry.Entry.{Entry}
use Rattle.osgi_ops.specs.declared.event.Busy.{Busy}
use Rattle.osgi_ops.specs.declared.event.Event.{Event}
use Rattle.osgi_ops.specs.declared.kind.Kind.{Kind}
use Rattle.osgi_ops.specs.declared.op.Op.{Op}
use Rattle.osgi_ops.specs.declared.op.Op.TheVariants as op
use Rattle.osgi_ops.specs.declared.reply.Reply.{Reply}
use Rattle.osgi_ops.specs.declared.reply.Reply.TheVariants as answer
use Rattle.osgi_registry.specs.laws.Standing as registry
use Rattle.osgi_world.specs.declared.world.World.{World}
use Rattle.osgi_tables.proofs.Hearing.{EndsNoTurn, heard_kept, heard_still, HearsAfter, KeepsListeners}
use Rattle.osgi_tables.proofs.Premises.{of-added, turns-apart}
use Rattle.osgi_tables.proofs.Replying.{brackets_left, bundles_unsaid, kept_closes, unsaid}
use Rattle.osgi_tables.specs.Changes.{Hands, IsQueued, Listens, Takes, with_listener, with_turn, without_listener}
use Rattle.osgi_tables.specs.Replied.{StandsFor}
use Rattle.osgi_tables.specs.declared.tables.Tables.{Tables}

-- ---- an entry that says nothing of services, bundles and phases

-- the operation with this reply is so
pub record IsOfListeners (o : Op) (reply : Reply) : Type 0 where
  pub bundles : QuietBundles o reply
  pub phases : QuietPhases o reply
  pub services : QuietServices o reply

-- with these brackets, listeners and jobs, and so many hands left, the tables stand for the history with the entry
parts_stand : (now : Moment) (tables : Tables) (o : Op) (reply : Reply) (kept : Brackets) (l : Listening) (left : ℕ) (jobs : List Queued) → StandsFor now tables → IsOfListeners o reply → callers.StandsFor (now.before ++ entry_of now o reply ∷ []) kept → HearsAfter now o reply l left →
    queue.StandsFor (now.before ++ entry_of now o reply ∷ []) jobs → StandsFor (later now o reply tables.wirings.world []) (record tables { brackets = kept; listeners = l; handings_left = left; jobs = jobs })
parts_stand now tables o reply kept l left jobs stood quiet brackets heard queued =
    let e : Entry = entry_of now o reply in
    record {
      depot = stood.depot;
      budget = stood.budget;
      services = registry.stands_quiet now.before tables.registry e stood.services (unsaid e quiet.services);
      bundles =
          subst (λ (w : World). bundle.StandsFor now.setting.depot (now.before ++ e ∷ []) w tables.bundles) (sym stood.world)
          (table.stands_quiet now.setting.depot now.before now.world tables.bundles e stood.bundles (bundles_unsaid e quiet.bundles quiet.phases));
      brackets = brackets;
      world = refl;
      issued = stood.issued ∙ sym (bundles-quiet now.setting.depot now.before e quiet.bundles).revisions;
      sound = subst IsSound (sym stood.world) stood.sound;
      listeners = heard.listeners;
      small = heard.small;
      handings = heard.handings;
      jobs = queued;
    }

-- where it says nothing of jobs, they stay
pub heard_stands : (now : Moment) (tables : Tables) (o : Op) (reply : Reply) (kept : Brackets) (l : Listening) (left : ℕ) → StandsFor now tables → IsOfListeners o reply → QuietJobs o reply → callers.StandsFor (now.before ++ entry_of now o reply ∷ []) kept → HearsAfter now o reply l left →
    StandsFor (later now o reply tables.wirings.world []) (record tables { brackets = kept; listeners = l; handings_left = left })
heard_stands now tables o reply kept l left stood quiet queued brackets heard =
    parts_stand now tables o reply kept l left tables.jobs stood quiet brackets heard (stands-quiet now.before (entry_of now o reply) tables.jobs queued stood.jobs)

-- where it says nothing of listeners, they stay
jobs_stand : (now : Moment) (tables : Tables) (o : Op) (reply : Reply) (kept : Brackets) (jobs : List Queued) → StandsFor now tables → IsOfListeners o reply → KeepsListeners o reply → EndsNoTurn now o → callers.StandsFor (now.before ++ entry_of now o reply ∷ []) kept →
    queue.StandsFor (now.before ++ entry_of now o reply ∷ []) jobs → StandsFor (later now o reply tables.wirings.world []) (record tables { brackets = kept; jobs = jobs })
jobs_stand now tables o reply kept jobs stood quiet keeps ends brackets queued =
    parts_stand now tables o reply kept tables.listeners tables.handings_left jobs stood quiet brackets (heard_kept now tables o reply stood keeps ends) queued

-- ---- what was seen and handed

-- one more entry hands one event or none
handed_by_one : (h : List Entry) (e : Entry) (k : Bool) → is_handed e.op e.reply ≡ k → handings (h ++ e ∷ []) ≡ handings h + cond k 1 0
handed_by_one h e k is =
    ap (λ (l : List Entry). length l) (filter-append hands h (e ∷ [])) ∙ length-append (filter hands h) (filter hands (e ∷ [])) ∙ ap (λ n. handings h + n) (ap (λ t. length (cond t (e ∷ []) [])) is ∙ one k)
  where
    hands : Entry → Bool
    hands x = is_handed x.op x.reply

    one : (t : Bool) → length (cond t (e ∷ []) []) ≡ cond t 1 0
    one true = refl
    one false = refl

spent : (most h c : ℕ) → most - h - c ≡ most - (h + c)
spent most h c = omega (arith)

none_spent : (n : ℕ) → n ≡ n - 0
none_spent n = omega (arith)

-- nothing is seen of an entry that hands one event or none
hears : (now : Moment) (tables : Tables) (o : Op) (reply : Reply) (l : Listening) (k : Bool) → is_handed o reply ≡ k → StandsFor now tables → hearing.StandsFor now.sights (now.before ++ entry_of now o reply ∷ []) l → HearsAfter now o reply l (tables.handings_left - cond k 1 0)
hears now tables o reply l k is stood stands = record {
  listeners = subst (λ (all : List Seen). hearing.StandsFor all (now.before ++ entry_of now o reply ∷ []) l) (sym (append-nil now.sights)) stands;
  small = subst AreSmall (sym (append-nil now.sights)) stood.small;
  handings = ap (λ n. n - cond k 1 0) stood.handings ∙ spent now.setting.bounds.handings (handings now.before) (cond k 1 0) ∙ ap (λ n. now.setting.bounds.handings - n) (sym (handed_by_one now.before (entry_of now o reply) k is));
}

hears_unhanded : (now : Moment) (tables : Tables) (o : Op) (reply : Reply) (l : Listening) → is_handed o reply ≡ false → StandsFor now tables → hearing.StandsFor now.sights (now.before ++ entry_of now o reply ∷ []) l → HearsAfter now o reply l tables.handings_left
hears_unhanded now tables o reply l is stood stands = subst (HearsAfter now o reply l) (sym (none_spent tables.handings_left)) (hears now tables o reply l false is stood stands)

-- ---- AddListener

add_quiet : (owner : BundleId) (name : List ℕ) (kind : Kind) (given : Option Filter) (id : ListenerId) → IsOfListeners (op.AddListener owner name kind given) (answer.Listener id)
add_quiet owner name kind given id = record {
  bundles = record { installed = λ n since. refl; gone = λ b. refl; updated = λ b. refl; brings = refl };
  phases = λ b. refl;
  services = record { registered = λ n since. refl; taken = λ s owner. refl; given = λ s. refl; got = λ u s. refl; let_go = λ u s. refl; cleaned = refl; made = λ tag opened. refl };
}

pub added_stands : (now : Moment) (old new : Tables) (owner : BundleId) (name : List ℕ) (kind : Kind) (given : Option Filter) → IsTold now → StandsFor now old → Listens owner name kind given old new →
    StandsFor (later now (op.AddListener owner name kind given) (answer.Listener (record { 0 = old.listeners.issued + 1 })) new.wirings.world []) new
added_stands now old new owner name kind given told stood is =
    let o : Op = op.AddListener owner name kind given in
    let y : Reply = answer.Listener (record { 0 = old.listeners.issued + 1 }) in
    subst (λ (t : Tables). StandsFor (later now o y t.wirings.world []) t) (sym is)
    (heard_stands now old o y old.brackets (with_listener owner name kind given old.listeners) old.handings_left stood (add_quiet owner name kind given (record { 0 = old.listeners.issued + 1 })) refl
    (brackets_left now o y old.brackets stood.brackets refl refl)
    (hears_unhanded now old o y (with_listener owner name kind given old.listeners) refl stood
    (stands-with-added now.sights now.before old.listeners now.tag owner name kind given (record { 0 = old.listeners.issued + 1 }) refl (of-added now told) stood.listeners)))

-- ---- RemoveListener

remove_quiet : (owner : BundleId) (name : List ℕ) (value : Bool) → IsOfListeners (op.RemoveListener owner name) (answer.Flag value)
remove_quiet owner name value = record {
  bundles = record { installed = λ n since. refl; gone = λ b. refl; updated = λ b. refl; brings = refl };
  phases = λ b. refl;
  services = record { registered = λ n since. refl; taken = λ s owner. refl; given = λ s. refl; got = λ u s. refl; let_go = λ u s. refl; cleaned = refl; made = λ tag opened. refl };
}

pub removed_stands : (now : Moment) (old new : Tables) (owner : BundleId) (name : List ℕ) → StandsFor now old → new ≡ record old { listeners = without_listener owner name old.listeners } →
    StandsFor (later now (op.RemoveListener owner name) (answer.Flag (list_any (is_named owner name) old.listeners.rows)) new.wirings.world []) new
removed_stands now old new owner name stood is =
    let o : Op = op.RemoveListener owner name in
    let value : Bool = list_any (is_named owner name) old.listeners.rows in
    subst (λ (t : Tables). StandsFor (later now o (answer.Flag value) t.wirings.world []) t) (sym is)
    (heard_stands now old o (answer.Flag value) old.brackets (without_listener owner name old.listeners) old.handings_left stood (remove_quiet owner name value) refl
    (brackets_left now o (answer.Flag value) old.brackets stood.brackets refl refl)
    (hears_unhanded now old o (answer.Flag value) (without_listener owner name old.listeners) refl stood (stands-with-removed now.sights now.before old.listeners now.tag owner name stood.listeners)))

-- ---- Hand

hand_quiet : (listener : ListenerId) (kind : Kind) (owner : BundleId) (row : ℕ) (name : List ℕ) (event : Event) → IsOfListeners op.Hand (answer.Handed listener kind owner row name event)
hand_quiet listener kind owner row name event = record {
  bundles = record { installed = λ n since. refl; gone = λ b. refl; updated = λ b. refl; brings = refl };
  phases = λ b. refl;
  services = record { registered = λ n since. refl; taken = λ s owner. refl; given = λ s. refl; got = λ u s. refl; let_go = λ u s. refl; cleaned = refl; made = λ tag opened. refl };
}

pub handed_stands : (now : Moment) (old new : Tables) (tag : Tag) (listener : ListenerId) (kind : Kind) (owner : BundleId) (row : ℕ) (name : List ℕ) (event : Event) → now.tag ≡ tag → StandsFor now old → Hands tag listener old new →
    StandsFor (later now op.Hand (answer.Handed listener kind owner row name event) new.wirings.world []) new
handed_stands now old new tag listener kind owner row name event own stood is =
    let y : Reply = answer.Handed listener kind owner row name event in
    subst (λ (t : Tables). StandsFor (later now op.Hand y t.wirings.world []) t) (sym is.is)
    (heard_stands now old op.Hand y is.brackets (with_turn tag listener old.listeners) (old.handings_left - 1) stood (hand_quiet listener kind owner row name event) refl
    (opened-after now.before (entry_of now op.Hand y) (handing listener) old.brackets is.brackets stood.brackets refl (subst (λ (t : Tag). Opens old.brackets is.brackets t (handing listener)) (sym own) is.opened))
    (hears now old op.Hand y (with_turn tag listener old.listeners) true refl stood
    (subst (λ (t : Tag). hearing.StandsFor now.sights (now.before ++ entry_of now op.Hand y ∷ []) (with_turn t listener old.listeners)) own
    (stands-with-handed now.sights now.before old.listeners now.tag listener kind owner row name event stood.listeners))))

-- a hand that answers Nothing leaves all tables
nothing_quiet : (busy : List Busy) → IsOfListeners op.Hand (answer.Nothing busy)
nothing_quiet busy = record {
  bundles = record { installed = λ n since. refl; gone = λ b. refl; updated = λ b. refl; brings = refl };
  phases = λ b. refl;
  services = record { registered = λ n since. refl; taken = λ s owner. refl; given = λ s. refl; got = λ u s. refl; let_go = λ u s. refl; cleaned = refl; made = λ tag opened. refl };
}

pub nothing_stands : (now : Moment) (tables : Tables) (busy : List Busy) → StandsFor now tables → StandsFor (later now op.Hand (answer.Nothing busy) tables.wirings.world []) tables
nothing_stands now tables busy stood =
    heard_stands now tables op.Hand (answer.Nothing busy) tables.brackets tables.listeners tables.handings_left stood (nothing_quiet busy) refl (brackets_left now op.Hand (answer.Nothing busy) tables.brackets stood.brackets refl refl)
    (heard_still now tables op.Hand (answer.Nothing busy) stood refl refl (λ l. refl) refl)

-- ---- EndHand

end_quiet : (listener : ListenerId) → IsOfListeners (op.EndHand listener) answer.Done
end_quiet listener = record {
  bundles = record { installed = λ n since. refl; gone = λ b. refl; updated = λ b. refl; brings = refl };
  phases = λ b. refl;
  services = record { registered = λ n since. refl; taken = λ s owner. refl; given = λ s. refl; got = λ u s. refl; let_go = λ u s. refl; cleaned = refl; made = λ tag opened. refl };
}

-- the listeners where the turn is ended
abbrev pub with_end : ListenerId → Listening → Listening
with_end listener l = record { rows = l.rows; turns = without_turn listener l.turns; issued = l.issued }

pub ended_stands : (now : Moment) (old : Tables) (listener : ListenerId) (kept : Brackets) → IsTold now → StandsFor now old → own_closes now.tag (op.EndHand listener) (open_of old.brackets now.tag.caller) ≡ true → Closes old.brackets kept now.tag.caller →
    StandsFor (later now (op.EndHand listener) answer.Done old.wirings.world []) (record old { brackets = kept; listeners = with_end listener old.listeners })
ended_stands now old listener kept told stood own closed =
    let o : Op = op.EndHand listener in
    heard_stands now old o answer.Done kept (with_end listener old.listeners) old.handings_left stood (end_quiet listener) refl
    (closed-after now.before (entry_of now o answer.Done) old.brackets kept stood.brackets refl own closed)
    (hears_unhanded now old o answer.Done (with_end listener old.listeners) refl stood
    (stands-with-ended now.sights now.before old.listeners now.tag listener (turns-apart now told) (sym (kept_closes now o old.brackets stood.brackets) ∙ own) stood.listeners))

-- ---- QueueJob

queue_quiet : (owner : BundleId) (name : List ℕ) → IsOfListeners (op.QueueJob owner name) answer.Done
queue_quiet owner name = record {
  bundles = record { installed = λ n since. refl; gone = λ b. refl; updated = λ b. refl; brings = refl };
  phases = λ b. refl;
  services = record { registered = λ n since. refl; taken = λ s owner. refl; given = λ s. refl; got = λ u s. refl; let_go = λ u s. refl; cleaned = refl; made = λ tag opened. refl };
}

pub queued_stands : (now : Moment) (old new : Tables) (owner : BundleId) (name : List ℕ) → StandsFor now old → IsQueued owner name old new → StandsFor (later now (op.QueueJob owner name) answer.Done new.wirings.world []) new
queued_stands now old new owner name stood is =
    let o : Op = op.QueueJob owner name in
    let queued : Queued = record { owner = owner; name = name } in
    subst (λ (t : Tables). StandsFor (later now o answer.Done t.wirings.world []) t) (sym is)
    (jobs_stand now old o answer.Done old.brackets (with_jobs (Some (queues queued)) old.jobs) stood (queue_quiet owner name) (record { heard = refl; hands = record { handed = λ l. refl; counted = refl } }) (λ l closed. refl)
    (brackets_left now o answer.Done old.brackets stood.brackets refl refl) (stands-after now.before (entry_of now o answer.Done) old.jobs (Some (queues queued)) refl stood.jobs))

-- ---- TakeJob

take_quiet : (owner : BundleId) (row : ℕ) (name : List ℕ) → IsOfListeners op.TakeJob (answer.Job owner row name)
take_quiet owner row name = record {
  bundles = record { installed = λ n since. refl; gone = λ b. refl; updated = λ b. refl; brings = refl };
  phases = λ b. refl;
  services = record { registered = λ n since. refl; taken = λ s owner. refl; given = λ s. refl; got = λ u s. refl; let_go = λ u s. refl; cleaned = refl; made = λ tag opened. refl };
}

pub taken_stands : (now : Moment) (old new : Tables) (tag : Tag) (owner : BundleId) (row : ℕ) (name : List ℕ) → now.tag ≡ tag → StandsFor now old → Takes tag old new → StandsFor (later now op.TakeJob (answer.Job owner row name) new.wirings.world []) new
taken_stands now old new tag owner row name own stood is =
    let y : Reply = answer.Job owner row name in
    subst (λ (t : Tables). StandsFor (later now op.TakeJob y t.wirings.world []) t) (sym is.is)
    (jobs_stand now old op.TakeJob y is.brackets (with_jobs (Some takes) old.jobs) stood (take_quiet owner row name) (record { heard = refl; hands = record { handed = λ l. refl; counted = refl } }) (λ l closed. refl)
    (opened-after now.before (entry_of now op.TakeJob y) job old.brackets is.brackets stood.brackets refl (subst (λ (t : Tag). Opens old.brackets is.brackets t job) (sym own) is.opened))
    (stands-after now.before (entry_of now op.TakeJob y) old.jobs (Some takes) refl stood.jobs))

-- one that answers NoJob leaves all tables
no_job_quiet : IsOfListeners op.TakeJob answer.NoJob
no_job_quiet = record {
  bundles = record { installed = λ n since. refl; gone = λ b. refl; updated = λ b. refl; brings = refl };
  phases = λ b. refl;
  services = record { registered = λ n since. refl; taken = λ s owner. refl; given = λ s. refl; got = λ u s. refl; let_go = λ u s. refl; cleaned = refl; made = λ tag opened. refl };
}

pub no_job_stands : (now : Moment) (tables : Tables) → StandsFor now tables → StandsFor (later now op.TakeJob answer.NoJob tables.wirings.world []) tables
no_job_stands now tables stood =
    jobs_stand now tables op.TakeJob answer.NoJob tables.brackets tables.jobs stood no_job_quiet (record { heard = refl; hands = record { handed = λ l. refl; counted = refl } }) (λ l closed. refl)
    (brackets_left now op.TakeJob answer.NoJob tables.brackets stood.brackets refl refl) (stands-quiet now.before (entry_of now op.TakeJob answer.NoJob) tables.jobs refl stood.jobs)

-- ---- EndJob

end_job_quiet : IsOfListeners op.EndJob answer.Done
end_job_quiet = record {
  bundles = record { installed = λ n since. refl; gone = λ b. refl; updated = λ b. refl; brings = refl };
  phases = λ b. refl;
  services = record { registered = λ n since. refl; taken = λ s owner. refl; given = λ s. refl; got = λ u s. refl; let_go = λ u s. refl; cleaned = refl; made = λ tag opened. refl };
}

pub job_ended_stands : (now : Moment) (old : Tables) (kept : Brackets) → StandsFor now old → own_closes now.tag op.EndJob (open_of old.brackets now.tag.caller) ≡ true → Closes old.brackets kept now.tag.caller →
    StandsFor (later now op.EndJob answer.Done old.wirings.world []) (record old { brackets = kept })
job_ended_stands now old kept stood own closed =
    jobs_stand now old op.EndJob answer.Done kept old.jobs stood end_job_quiet (record { heard = refl; hands = record { handed = λ l. refl; counted = refl } }) (λ l ends. refl)
    (closed-after now.before (entry_of now op.EndJob answer.Done) old.brackets kept stood.brackets refl own closed) (stands-quiet now.before (entry_of now op.EndJob answer.Done) old.jobs refl stood.jobs)
