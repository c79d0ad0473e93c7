-- The owner of a live service, of a live listener and of a queued job is up, in every legal history.
use Rattle.std.proofs.Common.{◌≡◌, inl, inr, ◌+◌, ℕ, List, [], ◌∷◌, ◌++◌, length, map, Bool, true, false, refl, sym, ap, ◌∙◌, subst}
use Rattle.std.specs.Prelude.{◌==◌, not, cond, Option, None, Some, filter, All}
use Rattle.std.specs.Option.{option_map, option_map_or}
use Rattle.std.proofs.lemmas.Bool.{not-true}
use Rattle.std.proofs.lemmas.List.Elements.{All-append, All-cons, All-head, All-map, All-nil, All-tail, All-weaker}
use Rattle.osgi_base.specs.declared.ids.BundleId.{BundleId}
use Rattle.osgi_base.specs.declared.ids.ServiceId.{ServiceId}
use Rattle.osgi_model.specs.declared.filter.Filter.{Filter}
use Rattle.osgi_ops.specs.Bundles.{is_up, state}
use Rattle.osgi_ops.specs.Cleaning.{cleaned_by, cleans}
use Rattle.osgi_ops.specs.Conditions.{asker_of}
use Rattle.osgi_ops.specs.Jobs as jobs
use Rattle.osgi_ops.specs.Jobs.{JobChange, Queued, queued_by, queues, takes, with_jobs, without_oldest}
use Rattle.osgi_legal.specs.Legal.{AreAllowed, IsAllowed}
use Rattle.osgi_ops.specs.Listening.{Added, adds, clears, heard_by, Hearing, hearing, HearingChange, lets_go, listeners, takes_off, with_heard}
use Rattle.osgi_ops.specs.Moments.{entries_in, Moment, moment, Told, world_after}
use Rattle.osgi_ops.specs.Replies.{is_accepted}
use Rattle.osgi_ops.specs.Services.{live_services, Registered, registered, registered_by, takes_out}
use Rattle.osgi_ops.specs.Settings.{Setting}
use Rattle.osgi_ops.specs.declared.entry.Entry.{Entry}
use Rattle.osgi_ops.specs.declared.kind.Kind.{Kind}
use Rattle.osgi_ops.specs.declared.op.Op.{Op}
use Rattle.osgi_ops.specs.declared.op.Op.TheVariants as op
use Rattle.osgi_ops.specs.declared.reply.Reply.{Reply}
use Rattle.osgi_ops.specs.declared.reply.Reply.TheVariants as answer
use Rattle.osgi_ops.specs.laws.Along.{carry-last, holds}
use Rattle.osgi_legal.proofs.Accepted.{asker-up}
use Rattle.osgi_legal.proofs.Owned.{entries-last}
use Rattle.osgi_ops.specs.laws.Services.{later, left_by, live-push}
use Rattle.osgi_legal.proofs.Up.{is_up_at, stays-up, up-is}

pub all-kept : {X : Type 0} (p : X → Bool) (P Q : X → Type 0) → ((x : X) → P x → p x ≡ true → Q x) → (xs : List X) → All P xs → All Q (filter p xs)
all-kept p P Q f [] all = All-nil Q
all-kept {X} p P Q f (x ∷ xs) all = go (p x) refl (all-kept p P Q f xs (All-tail P x xs all))
  where
    go : (k : Bool) → p x ≡ k → All Q (filter p xs) → All Q (cond k (x ∷ filter p xs) (filter p xs))
    go true e rest = All-cons Q x (filter p xs) (f x (All-head P x xs all) e) rest
    go false e rest = rest

-- ---- what a cleaning does

cleaned-some : (owner : BundleId) (u : Option BundleId) → option_map_or (λ (b : BundleId). b.0 == owner.0) u false ≡ true → (b : BundleId) × (u ≡ Some b) × ((b.0 == owner.0) ≡ true)
cleaned-some owner None e = absurd (cc e)
cleaned-some owner (Some b) e = (b, refl, e)

cleans-takes : (owner : BundleId) (service : ServiceId) (o : Op) (reply : Reply) → cleans owner o reply ≡ true → takes_out service owner o reply ≡ true
cleans-takes owner service (op.Unregister by taken) reply e = absurd (cc e)
cleans-takes owner service o reply e = e

cleans-hearing : (owner : BundleId) (o : Op) (reply : Reply) → cleans owner o reply ≡ true → (b : BundleId) × (heard_by o reply ≡ Some (clears b)) × ((b.0 == owner.0) ≡ true)
cleans-hearing owner (op.AddListener by name kind given) reply e = absurd (cc e)
cleans-hearing owner (op.RemoveListener by removed) (answer.Flag value) e = absurd (cc e)
cleans-hearing owner o reply e = let c = cleaned-some owner (cleaned_by o reply) e in (c.0, ap (option_map clears) c.1, c.2)

cleans-jobs : (owner : BundleId) (o : Op) (reply : Reply) → cleans owner o reply ≡ true → (b : BundleId) × (queued_by o reply ≡ Some (jobs.clears b)) × ((b.0 == owner.0) ≡ true)
cleans-jobs owner (op.QueueJob by name) reply e = absurd (cc e)
cleans-jobs owner op.TakeJob (answer.Job by row name) e = absurd (cc e)
cleans-jobs owner o reply e = let c = cleaned-some owner (cleaned_by o reply) e in (c.0, ap (option_map jobs.clears) c.1, c.2)

-- ---- what is new is its asker's

abbrev IsAskers : Op → Reply → BundleId → Type 0
IsAskers o reply b = (asker_of o ≡ Some b) × (is_accepted reply ≡ true) × (cleans b o reply ≡ false)

added-asker : (o : Op) (reply : Reply) (owner : BundleId) (name : List ℕ) (kind : Kind) (given : Option Filter) → heard_by o reply ≡ Some (adds owner name kind given) → IsAskers o reply owner
added-asker (op.AddListener by called sort filter) reply owner name kind given e = go (is_accepted reply) refl e
  where
    go : (k : Bool) → is_accepted reply ≡ k → cond k (Some (adds by called sort filter)) None ≡ Some (adds owner name kind given) → IsAskers (op.AddListener by called sort filter) reply owner
    go true f q = let same : by ≡ owner = cc q in (ap Some same, f, refl)
    go false f q = absurd (cc q)
added-asker (op.RemoveListener by removed) (answer.Flag true) owner name kind given e = absurd (cc e)
added-asker (op.RemoveListener by removed) (answer.Flag false) owner name kind given e = absurd (cc e)
added-asker o reply owner name kind given e = absurd (none (cleaned_by o reply) e)
  where
    none : (u : Option BundleId) → option_map clears u ≡ Some (adds owner name kind given) → ⊥
    none None q = cc q
    none (Some b) q = cc q

queued-asker : (o : Op) (reply : Reply) (q : Queued) → queued_by o reply ≡ Some (queues q) → IsAskers o reply q.owner
queued-asker (op.QueueJob by name) reply q e = go (is_accepted reply) refl e
  where
    go : (k : Bool) → is_accepted reply ≡ k → cond k (Some (queues (record { owner = by; name = name }))) None ≡ Some (queues q) → IsAskers (op.QueueJob by name) reply q.owner
    go true f s =
        let same : record { owner = by; name = name } ≡ q = cc s in
        (ap Some (ap (λ (x : Queued). x.owner) same), f, refl)
    go false f s = absurd (cc s)
queued-asker op.TakeJob (answer.Job by row name) q e = absurd (cc e)
queued-asker o reply q e = absurd (none (cleaned_by o reply) e)
  where
    none : (u : Option BundleId) → option_map jobs.clears u ≡ Some (queues q) → ⊥
    none None s = cc s
    none (Some b) s = cc s

-- ---- one more entry

-- the owners of all that is live are up
pub record AreUp (history : List Entry) : Type 0 where
  pub services : All (λ (r : Registered). is_up_at history r.owner ≡ true) (live_services history)
  pub listeners : All (λ (a : Added). is_up_at history a.owner ≡ true) (listeners history)
  pub jobs : All (λ (q : Queued). is_up_at history q.owner ≡ true) (jobs.jobs history)

up-step : (setting : Setting) (front : List Told) (x : Told) → AreAllowed setting front → IsAllowed setting front x → AreUp (entries_in front) → AreUp (entries_in front ++ x.entry ∷ [])
up-step setting front x legal a up = record { services = served; listeners = heard; jobs = queued }
  where
    h : List Entry
    h = entries_in front

    e : Entry
    e = x.entry

    m : Moment
    m = moment setting front x.entry.tag

    IsUpNow : BundleId → Type 0
    IsUpNow b = is_up_at (h ++ e ∷ []) b ≡ true

    -- it is up after the entry where it was before and is not cleaned
    kept : (b : BundleId) → is_up_at h b ≡ true → cleans b e.op e.reply ≡ false → IsUpNow b
    kept b u n = elim (stays-up setting front x legal a b u) [
      | inl c ↦ absurd (let bad : true ≡ false = sym c ∙ n in cc bad)
      | inr r ↦ r
    ]

    not-cleaned : (b : BundleId) → (cleans b e.op e.reply ≡ true → ⊥) → cleans b e.op e.reply ≡ false
    not-cleaned b n = go (cleans b e.op e.reply) refl
      where
        go : (k : Bool) → cleans b e.op e.reply ≡ k → cleans b e.op e.reply ≡ false
        go true q = absurd (n q)
        go false q = q

    asking : (b : BundleId) → IsAskers e.op e.reply b → IsUpNow b
    asking b i = kept b (sym (up-is m.world m.before b) ∙ (asker-up m e.op e.reply b a.replied i.1 i.0).1) i.2

    -- services
    new-up : (o : Op) (reply : Reply) → o ≡ e.op → reply ≡ e.reply → All (λ (r : Registered). IsUpNow r.owner) (registered_by (length (registered h)) o reply [])
    new-up (op.Register owner classes object scope properties) reply s t = go (is_accepted reply) refl
      where
        go : (k : Bool) → is_accepted reply ≡ k →
            All (λ (r : Registered). IsUpNow r.owner)
            (cond k (record { service = record { 0 = length (registered h) + 1 }; owner = owner; classes = classes; object = object; scope = scope; given = properties; since = [] } ∷ []) [])
        go true f =
            All-cons (λ (r : Registered). IsUpNow r.owner) _ []
            (asking owner (sym (ap asker_of s), sym (ap is_accepted t) ∙ f, sym (ap (λ y. cleans owner y e.reply) s))) (All-nil (λ (r : Registered). IsUpNow r.owner))
        go false f = All-nil (λ (r : Registered). IsUpNow r.owner)
    new-up o reply s t = All-nil (λ (r : Registered). IsUpNow r.owner)

    served : All (λ (r : Registered). IsUpNow r.owner) (live_services (h ++ e ∷ []))
    served = subst (All (λ (r : Registered). IsUpNow r.owner)) (sym (live-push h e))
        (All-append (λ (r : Registered). IsUpNow r.owner) (map (later e) (left_by e (live_services h))) (registered_by (length (registered h)) e.op e.reply [])
        (All-map (λ (r : Registered). IsUpNow r.owner) (later e) (left_by e (live_services h))
        (all-kept (λ (r : Registered). not (takes_out r.service r.owner e.op e.reply)) (λ (r : Registered). is_up_at h r.owner ≡ true) (λ (r : Registered). IsUpNow r.owner)
        (λ r u n. kept r.owner u (not-cleaned r.owner (λ c. let bad : true ≡ false = sym (cleans-takes r.owner r.service e.op e.reply c) ∙ not-true _ n in cc bad)))
        (live_services h) up.services))
        (new-up e.op e.reply refl refl))

    -- listeners
    one-heard : (change : Option HearingChange) → heard_by e.op e.reply ≡ change → All (λ (y : Added). IsUpNow y.owner) (with_heard change (hearing h)).live
    one-heard change q = go change q
      where
        apart : (c : Option HearingChange) → heard_by e.op e.reply ≡ c → ((b : BundleId) → c ≡ Some (clears b) → ⊥) → (y : Added) → is_up_at h y.owner ≡ true → IsUpNow y.owner
        apart c s n y u = kept y.owner u (not-cleaned y.owner (λ f. let r = cleans-hearing y.owner e.op e.reply f in n r.0 (sym s ∙ r.1)))

        cleared : (b : BundleId) → heard_by e.op e.reply ≡ Some (clears b) → (y : Added) → is_up_at h y.owner ≡ true → (b.0 == y.owner.0) ≡ false → IsUpNow y.owner
        cleared b s y u n = kept y.owner u (not-cleaned y.owner (λ f.
            let r = cleans-hearing y.owner e.op e.reply f in
            let same : b ≡ r.0 = (let t : Some (clears b) ≡ Some (clears r.0) = sym s ∙ r.1 in cc t) in
            let bad : true ≡ false = sym r.2 ∙ sym (ap (λ (z : BundleId). z.0 == y.owner.0) same) ∙ n in cc bad))

        go : (c : Option HearingChange) → heard_by e.op e.reply ≡ c → All (λ (y : Added). IsUpNow y.owner) (with_heard c (hearing h)).live
        go None s = All-weaker (λ (y : Added). is_up_at h y.owner ≡ true) (λ (y : Added). IsUpNow y.owner) (λ y u. apart None s (λ b t. cc t) y u) (listeners h) up.listeners
        go (Some (adds owner name kind given)) s =
            All-append (λ (y : Added). IsUpNow y.owner) (listeners h) _
            (All-weaker (λ (y : Added). is_up_at h y.owner ≡ true) (λ (y : Added). IsUpNow y.owner) (λ y u. apart (Some (adds owner name kind given)) s (λ b t. cc t) y u) (listeners h) up.listeners)
            (All-cons (λ (y : Added). IsUpNow y.owner) _ [] (asking owner (added-asker e.op e.reply owner name kind given s)) (All-nil (λ (y : Added). IsUpNow y.owner)))
        go (Some (lets_go by removed)) s =
            all-kept (λ (y : Added). not (takes_off y.owner y.name (lets_go by removed))) (λ (y : Added). is_up_at h y.owner ≡ true) (λ (y : Added). IsUpNow y.owner)
            (λ y u n. apart (Some (lets_go by removed)) s (λ b t. cc t) y u) (listeners h) up.listeners
        go (Some (clears b)) s =
            all-kept (λ (y : Added). not (takes_off y.owner y.name (clears b))) (λ (y : Added). is_up_at h y.owner ≡ true) (λ (y : Added). IsUpNow y.owner)
            (λ y u n. cleared b s y u (not-true _ n)) (listeners h) up.listeners

    heard : All (λ (y : Added). IsUpNow y.owner) (listeners (h ++ e ∷ []))
    heard = subst (λ (s : Hearing). All (λ (y : Added). IsUpNow y.owner) s.live) (sym (carry-last (λ (s : Hearing) (y : Entry). with_heard (heard_by y.op y.reply) s) (record { count = 0; live = [] }) h e))
        (one-heard (heard_by e.op e.reply) refl)

    -- jobs
    one-queued : (change : Option JobChange) → queued_by e.op e.reply ≡ change → All (λ (q : Queued). IsUpNow q.owner) (with_jobs change (jobs.jobs h))
    one-queued change q = go change q
      where
        apart : (c : Option JobChange) → queued_by e.op e.reply ≡ c → ((b : BundleId) → c ≡ Some (jobs.clears b) → ⊥) → (y : Queued) → is_up_at h y.owner ≡ true → IsUpNow y.owner
        apart c s n y u = kept y.owner u (not-cleaned y.owner (λ f. let r = cleans-jobs y.owner e.op e.reply f in n r.0 (sym s ∙ r.1)))

        cleared : (b : BundleId) → queued_by e.op e.reply ≡ Some (jobs.clears b) → (y : Queued) → is_up_at h y.owner ≡ true → (b.0 == y.owner.0) ≡ false → IsUpNow y.owner
        cleared b s y u n = kept y.owner u (not-cleaned y.owner (λ f.
            let r = cleans-jobs y.owner e.op e.reply f in
            let same : b ≡ r.0 = (let t : Some (jobs.clears b) ≡ Some (jobs.clears r.0) = sym s ∙ r.1 in cc t) in
            let bad : true ≡ false = sym r.2 ∙ sym (ap (λ (z : BundleId). z.0 == y.owner.0) same) ∙ n in cc bad))

        rest : (c : Option JobChange) → queued_by e.op e.reply ≡ c → ((b : BundleId) → c ≡ Some (jobs.clears b) → ⊥) → All (λ (y : Queued). IsUpNow y.owner) (jobs.jobs h)
        rest c s n = All-weaker (λ (y : Queued). is_up_at h y.owner ≡ true) (λ (y : Queued). IsUpNow y.owner) (λ y u. apart c s n y u) (jobs.jobs h) up.jobs

        fewer : (list : List Queued) → All (λ (y : Queued). IsUpNow y.owner) list → All (λ (y : Queued). IsUpNow y.owner) (without_oldest list)
        fewer [] all = all
        fewer (y ∷ more) all = All-tail (λ (z : Queued). IsUpNow z.owner) y more all

        go : (c : Option JobChange) → queued_by e.op e.reply ≡ c → All (λ (y : Queued). IsUpNow y.owner) (with_jobs c (jobs.jobs h))
        go None s = rest None s (λ b t. cc t)
        go (Some (queues q)) s =
            All-append (λ (y : Queued). IsUpNow y.owner) (jobs.jobs h) (q ∷ []) (rest (Some (queues q)) s (λ b t. cc t))
            (All-cons (λ (y : Queued). IsUpNow y.owner) q [] (asking q.owner (queued-asker e.op e.reply q s)) (All-nil (λ (y : Queued). IsUpNow y.owner)))
        go (Some takes) s = fewer (jobs.jobs h) (rest (Some takes) s (λ b t. cc t))
        go (Some (jobs.clears b)) s =
            all-kept (λ (y : Queued). not (b.0 == y.owner.0)) (λ (y : Queued). is_up_at h y.owner ≡ true) (λ (y : Queued). IsUpNow y.owner)
            (λ y u n. cleared b s y u (not-true _ n)) (jobs.jobs h) up.jobs

    queued : All (λ (y : Queued). IsUpNow y.owner) (jobs.jobs (h ++ e ∷ []))
    queued = subst (All (λ (y : Queued). IsUpNow y.owner)) (sym (carry-last (λ (s : List Queued) (y : Entry). with_jobs (queued_by y.op y.reply) s) [] h e)) (one-queued (queued_by e.op e.reply) refl)

-- of every legal history
pub owners-up : (setting : Setting) (told : List Told) → AreAllowed setting told → AreUp (entries_in told)
owners-up setting told legal =
    holds (IsAllowed setting) (λ l. AreUp (entries_in l))
    (record { services = All-nil (λ (r : Registered). is_up_at [] r.owner ≡ true); listeners = All-nil (λ (a : Added). is_up_at [] a.owner ≡ true); jobs = All-nil (λ (q : Queued). is_up_at [] q.owner ≡ true) })
    (λ front x before up a. subst AreUp (sym (entries-last front x)) (up-step setting front x before a up)) told legal

-- the same, of the states of bundles
pub services-up : (setting : Setting) (told : List Told) → AreAllowed setting told → All (λ (r : Registered). is_up (state (world_after told) (entries_in told) r.owner) ≡ true) (live_services (entries_in told))
services-up setting told legal =
    All-weaker (λ (r : Registered). is_up_at (entries_in told) r.owner ≡ true) (λ (r : Registered). is_up (state (world_after told) (entries_in told) r.owner) ≡ true)
    (λ r u. up-is (world_after told) (entries_in told) r.owner ∙ u) (live_services (entries_in told)) (owners-up setting told legal).services

pub listeners-up : (setting : Setting) (told : List Told) → AreAllowed setting told → All (λ (a : Added). is_up (state (world_after told) (entries_in told) a.owner) ≡ true) (listeners (entries_in told))
listeners-up setting told legal =
    All-weaker (λ (a : Added). is_up_at (entries_in told) a.owner ≡ true) (λ (a : Added). is_up (state (world_after told) (entries_in told) a.owner) ≡ true)
    (λ a u. up-is (world_after told) (entries_in told) a.owner ∙ u) (listeners (entries_in told)) (owners-up setting told legal).listeners

pub jobs-up : (setting : Setting) (told : List Told) → AreAllowed setting told → All (λ (q : Queued). is_up (state (world_after told) (entries_in told) q.owner) ≡ true) (jobs.jobs (entries_in told))
jobs-up setting told legal =
    All-weaker (λ (q : Queued). is_up_at (entries_in told) q.owner ≡ true) (λ (q : Queued). is_up (state (world_after told) (entries_in told) q.owner) ≡ true)
    (λ q u. up-is (world_after told) (entries_in told) q.owner ∙ u) (jobs.jobs (entries_in told)) (owners-up setting told legal).jobs
