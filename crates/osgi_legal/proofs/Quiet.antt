-- An entry that says nothing of a part leaves it as it was: one law for each part; and which operations say nothing.
use Rattle.std.proofs.Common.{◌≡◌, ◌+◌, ◌-◌, ℕ, List, [], ◌∷◌, ◌++◌, length, map, append-nil, Bool, true, false, refl, sym, ap, ◌∙◌, arith}
use Rattle.std.specs.Prelude.{◌==◌, All, count_by, ◌&&◌, ◌||◌, nat_lt, not, cond, Option, None, Some, filter, find, is_some, unwrap_or}
use Rattle.std.specs.List.{cons_option, filter_map, list_any}
use Rattle.std.specs.Option.{option_map, option_map_or}
use Rattle.std.proofs.lemmas.Bool.{false_from_ne_true}
use Rattle.std.proofs.lemmas.List.{length-map}
use Rattle.std.proofs.lemmas.List.Elements.{All-head, All-tail, All-weaker, filter-append}
use Rattle.osgi_base.specs.declared.ids.BundleId.{BundleId}
use Rattle.osgi_base.specs.declared.ids.ListenerId.{ListenerId}
use Rattle.osgi_base.specs.declared.ids.ServiceId.{ServiceId}
use Rattle.osgi_base.specs.declared.ids.Tag.{Tag}
use Rattle.osgi_legal.specs.Quiet.{IsQuiet, QuietBundles, QuietJobs, QuietLevels, QuietListeners, QuietMakes, QuietObjects, QuietPhases, QuietRefresh, QuietServices, QuietWaiting, ReadAlike, SameBundles, SameLevels, SameListeners, SameObjects, SamePhases, SameServices}
use Rattle.osgi_model.specs.declared.value.Attribute.{Attribute}
use Rattle.osgi_ops.specs.Brackets.{Bracket, brackets, closes, opens}
use Rattle.osgi_ops.specs.OwnBrackets.{is_end, turned}
use Rattle.osgi_ops.specs.Bundles as bundles
use Rattle.osgi_ops.specs.Bundles.{brings_revision, Installed, installed, installed_by, is_uninstall, last_begin, phase, revisions, row_from, source, updated_to}
use Rattle.osgi_ops.specs.Cleaning.{cleaned_by, cleans}
use Rattle.osgi_ops.specs.Depots.{row_number}
use Rattle.osgi_ops.specs.Jobs as queue
use Rattle.osgi_ops.specs.Jobs.{jobs, Queued, queued_by, with_jobs}
use Rattle.osgi_ops.specs.Levels.{leveled, moved_to, refresh, refresh_by, Walk, walk, walk_by, wishes}
use Rattle.osgi_legal.specs.Legal.{entry_of}
use Rattle.osgi_ops.specs.Listening.{clears, handed_by, handed_in, happenings, leaving, of_bundle, heard_by, Hearing, hearing, is_handed, with_heard}
use Rattle.osgi_ops.specs.Makes.{is_made, make_change, open_makes}
use Rattle.osgi_ops.specs.Moments.{Moment}
use Rattle.osgi_ops.specs.Objects.{HeldObject, is_given_back, is_still_held, object_by, objects}
use Rattle.osgi_legal.specs.Operations.{IsReply}
use Rattle.osgi_ops.specs.Properties.{with_framework}
use Rattle.osgi_ops.specs.Replies.{took_effect}
use Rattle.osgi_ops.specs.Services.{gets, given_by, given_last, gets_object, is_service, is_unget, is_use_of, live_services, live_service_at, made_of, made_uses, Registered, registered, registered_by, service_now, takes_out, ungets, use_by, uses, uses_with, without_user}
use Rattle.osgi_ops.specs.Waiting.{waiting}
use Rattle.osgi_ops.specs.declared.depot.DepotRow.{DepotRow}
use Rattle.osgi_ops.specs.declared.entry.Entry.{Entry}
use Rattle.osgi_ops.specs.declared.op.Op.{Op}
use Rattle.osgi_ops.specs.declared.op.Op.TheVariants as op
use Rattle.osgi_ops.specs.declared.refusal.Refusal.{Refusal}
use Rattle.osgi_ops.specs.declared.refusal.Refusal.TheVariants as no
use Rattle.osgi_ops.specs.declared.reply.Reply.{Reply}
use Rattle.osgi_ops.specs.declared.reply.Reply.TheVariants as answer
use Rattle.osgi_ops.specs.declared.scope.Scope.TheVariants.{Singleton}
use Rattle.osgi_world.specs.declared.world.World.{World}
use Rattle.osgi_ops.specs.laws.Along.{along-last, carry-last, latest-quiet}
use Rattle.osgi_ops.specs.laws.Brackets.{brackets-last}
use Rattle.osgi_ops.specs.laws.Bundles as installs
use Rattle.osgi_ops.specs.laws.Makes.{objects-push, open_makes-quiet}
use Rattle.osgi_ops.specs.laws.Waiting.{waiting-quiet}
use Rattle.osgi_legal.proofs.Objects.{are-held, IsHeldIn}
use Rattle.osgi_legal.proofs.Owned.{closes-not, ended-by}
use Rattle.osgi_ops.specs.laws.Services as kept

-- ---- lists

filter-all : {X : Type 0} (p : X → Bool) (xs : List X) → ((x : X) → p x ≡ true) → filter p xs ≡ xs
filter-all p [] all = refl
filter-all p (x ∷ xs) all = ap (λ k. cond k (x ∷ filter p xs) (filter p xs)) (all x) ∙ ap (λ l. x ∷ l) (filter-all p xs all)

map-map : {X Y : Type 0} (f : X → Y) (g : X → X) (xs : List X) → ((x : X) → f (g x) ≡ f x) → map f (map g xs) ≡ map f xs
map-map f g [] same = refl
map-map f g (x ∷ xs) same = λ i. same x i ∷ map-map f g xs same i

filter_map-map : {X Y : Type 0} (f : X → Option Y) (g : X → X) (xs : List X) → ((x : X) → f (g x) ≡ f x) → filter_map f (map g xs) ≡ filter_map f xs
filter_map-map f g [] same = refl
filter_map-map f g (x ∷ xs) same = λ i. cons_option (same x i) (filter_map-map f g xs same i)

-- what is found of a mapped list, where the map is not seen by the test and by what is read of it
find-read : {X Y : Type 0} (p : X → Bool) (g : X → X) (f : X → Y) (none : Y) (xs : List X) → ((x : X) → p (g x) ≡ p x) → ((x : X) → f (g x) ≡ f x) →
    option_map_or f (find p (map g xs)) none ≡ option_map_or f (find p xs) none
find-read p g f none [] same reads = refl
find-read {X} {Y} p g f none (x ∷ xs) same reads = go (p x) refl (find-read p g f none xs same reads)
  where
    go : (k : Bool) → p x ≡ k → option_map_or f (find p (map g xs)) none ≡ option_map_or f (find p xs) none →
        option_map_or f (cond (p (g x)) (Some (g x)) (find p (map g xs))) none ≡ option_map_or f (cond (p x) (Some x) (find p xs)) none
    go true e ih = ap (λ k. option_map_or f (cond k (Some (g x)) (find p (map g xs))) none) (same x ∙ e) ∙ reads x ∙ sym (ap (λ k. option_map_or f (cond k (Some x) (find p xs)) none) e)
    go false e ih = ap (λ k. option_map_or f (cond k (Some (g x)) (find p (map g xs))) none) (same x ∙ e) ∙ ih ∙ sym (ap (λ k. option_map_or f (cond k (Some x) (find p xs)) none) e)

-- whether anything is found
find-some : {X : Type 0} (p : X → Bool) (g : X → X) (xs : List X) → ((x : X) → p (g x) ≡ p x) → is_some (find p (map g xs)) ≡ is_some (find p xs)
find-some p g [] same = refl
find-some {X} p g (x ∷ xs) same = ap (λ k. is_some (cond k (Some (g x)) (find p (map g xs)))) (same x) ∙ go (p x) (find-some p g xs same)
  where
    go : (k : Bool) → is_some (find p (map g xs)) ≡ is_some (find p xs) → is_some (cond k (Some (g x)) (find p (map g xs))) ≡ is_some (cond k (Some x) (find p xs))
    go true rest = refl
    go false rest = rest

filter-held : {X : Type 0} (p : X → Bool) (xs : List X) → All (λ x. p x ≡ true) xs → filter p xs ≡ xs
filter-held p [] all = refl
filter-held p (x ∷ xs) all =
    ap (λ k. cond k (x ∷ filter p xs) (filter p xs)) (All-head (λ y. p y ≡ true) x xs all) ∙ ap (λ l. x ∷ l) (filter-held p xs (All-tail (λ y. p y ≡ true) x xs all))

-- ---- the laws, part by part

not-cleaned : (o : Op) (y : Reply) → cleaned_by o y ≡ None → (b : BundleId) → cleans b o y ≡ false
not-cleaned o y e b = ap (λ (u : Option BundleId). option_map_or (λ (x : BundleId). x.0 == b.0) u false) e

live-quiet : (h : List Entry) (e : Entry) → QuietServices e.op e.reply → live_services (h ++ e ∷ []) ≡ map (kept.later e) (live_services h)
live-quiet h e q =
    kept.live-push h e
    ∙ ap (λ l. map (kept.later e) (kept.left_by e (live_services h)) ++ l) (q.registered (length (registered h)) []) ∙ append-nil (map (kept.later e) (kept.left_by e (live_services h)))
    ∙ ap (map (kept.later e)) (filter-all (λ (r : Registered). not (takes_out r.service r.owner e.op e.reply)) (live_services h) (λ r. ap not (q.taken r.service r.owner)))

-- what says nothing of services made nothing, and cleans nobody
made-same : (h : List Entry) (e : Entry) → QuietServices e.op e.reply → made_uses (h ++ e ∷ []) ≡ made_uses h
made-same h e q =
    kept.made_uses-push h e
    ∙ (λ i. without_user (q.cleaned i) (made_uses h) ++ use_by h (q.made e.tag (brackets h) i)) ∙ append-nil (made_uses h)

pub services-quiet : (h : List Entry) (e : Entry) → QuietServices e.op e.reply → SameServices (h ++ e ∷ []) h
services-quiet h e q = record {
  services = ap (map service_now) (live-quiet h e q) ∙ map-map service_now (kept.later e) (live_services h) (λ r. kept.service-push r e ∙ ap (λ (a : Option (List Attribute)). record (service_now r) {
    properties = with_framework (unwrap_or a (given_last r)) r.classes r.scope r.service r.owner;
  }) (q.given r.service));
  registered = ap (λ (l : List Registered). length l) (kept.registered-push h e ∙ ap (λ l. map (kept.later e) (registered h) ++ l) (q.registered (length (registered h)) []) ∙ append-nil (map (kept.later e) (registered h)))
      ∙ length-map (registered h) (kept.later e);
  scopes = ap (map (λ (r : Registered). r.scope)) (live-quiet h e q) ∙ map-map (λ (r : Registered). r.scope) (kept.later e) (live_services h) (λ r. refl);
  scope = λ s.
      ap (λ l. option_map_or (λ (r : Registered). r.scope) (find (is_service s) l) Singleton)
      (kept.registered-push h e ∙ ap (λ l. map (kept.later e) (registered h) ++ l) (q.registered (length (registered h)) []) ∙ append-nil (map (kept.later e) (registered h)))
      ∙ find-read (is_service s) (kept.later e) (λ (r : Registered). r.scope) Singleton (registered h) (λ r. refl) (λ r. refl);
  uses = λ u s.
      ap (λ l. option_map_or (uses_with (count_by (is_use_of u s) (made_uses (h ++ e ∷ []))) u) (find (is_service s) l) 0) (live-quiet h e q)
      ∙ ap (λ n. option_map_or (uses_with n u) (find (is_service s) (map (kept.later e) (live_services h))) 0) (ap (λ l. count_by (is_use_of u s) l) (made-same h e q))
      ∙ find-read (is_service s) (kept.later e) (uses_with (count_by (is_use_of u s) (made_uses h)) u) 0 (live_services h) (λ r. refl)
      (λ r. (λ i. (got u r i + count_by (is_use_of u s) (made_uses h)) - gave u r i));
}
  where
    counted : (c : Bool) (n : ℕ) (t : Bool) → c ≡ false → t ≡ false → cond c 0 (n + kept.one_where t) ≡ n
    counted c n t f g = ap (λ k. cond k 0 (n + kept.one_where t)) f ∙ ap (λ k. n + kept.one_where k) g ∙ (let z : n + 0 ≡ n = omega arith in z)

    got : (u : BundleId) (r : Registered) → gets u (kept.later e r) ≡ gets u r
    got u r = kept.gets-push u r e ∙ counted (cleans u e.op e.reply) (gets u r) (gets_object u r.service e.op e.reply) (not-cleaned e.op e.reply q.cleaned u) (q.got u r.service)

    gave : (u : BundleId) (r : Registered) → ungets u (kept.later e r) ≡ ungets u r
    gave u r = kept.ungets-push u r e ∙ counted (cleans u e.op e.reply) (ungets u r) (is_unget u r.service e.op e.reply) (not-cleaned e.op e.reply q.cleaned u) (q.let_go u r.service)

-- what neither installs nor uninstalls leaves the live bundles
there-same : (h : List Entry) (e : Entry) → ((n : ℕ) (since : List Entry) → installed_by n e.op e.reply since ≡ []) → ((b : BundleId) → is_uninstall b e.op e.reply ≡ false) →
    bundles.live (h ++ e ∷ []) ≡ map (installs.later e) (bundles.live h)
there-same h e new gone =
    installs.live-push h e
    ∙ ap (λ l. map (installs.later e) (installs.left_by e (bundles.live h)) ++ l) (new (length (installed h)) []) ∙ append-nil (map (installs.later e) (installs.left_by e (bundles.live h)))
    ∙ ap (map (installs.later e)) (filter-all (λ (i : Installed). not (is_uninstall i.bundle e.op e.reply)) (bundles.live h) (λ i. ap not (gone i.bundle)))

there-quiet : (h : List Entry) (e : Entry) → QuietBundles e.op e.reply → bundles.live (h ++ e ∷ []) ≡ map (installs.later e) (bundles.live h)
there-quiet h e q = there-same h e q.installed q.gone

pub live-same : (h : List Entry) (e : Entry) → ((n : ℕ) (since : List Entry) → installed_by n e.op e.reply since ≡ []) → ((b : BundleId) → is_uninstall b e.op e.reply ≡ false) → (b : BundleId) →
    bundles.is_live b (h ++ e ∷ []) ≡ bundles.is_live b h
live-same h e new gone b =
    installs.live-any b (h ++ e ∷ [])
    ∙ ap (λ k. (b.0 == 0) || k) (ap (list_any (installs.has_id b)) (there-same h e new gone) ∙ installs.any-map (installs.has_id b) (installs.later e) (bundles.live h)) ∙ sym (installs.live-any b h)

pub count-same : (h : List Entry) (e : Entry) → ((n : ℕ) (since : List Entry) → installed_by n e.op e.reply since ≡ []) → length (installed (h ++ e ∷ [])) ≡ length (installed h)
count-same h e new =
    ap (λ (l : List Installed). length l) (installs.installed-push h e ∙ ap (λ l. map (installs.later e) (installed h) ++ l) (new (length (installed h)) []) ∙ append-nil (map (installs.later e) (installed h)))
    ∙ length-map (installed h) (installs.later e)

pub bundles-quiet : (depot : List DepotRow) (h : List Entry) (e : Entry) → QuietBundles e.op e.reply → SameBundles depot (h ++ e ∷ []) h
bundles-quiet depot h e q = record {
  rows = ap (λ l. bundles.the_system_bundle ∷ filter_map (row_from depot) l) (there-quiet h e q) ∙ ap (λ l. bundles.the_system_bundle ∷ l) (filter_map-map (row_from depot) (installs.later e) (bundles.live h) row);
  installed = ap (λ (l : List Installed). length l) (installs.installed-push h e ∙ ap (λ l. map (installs.later e) (installed h) ++ l) (q.installed (length (installed h)) []) ∙ append-nil (map (installs.later e) (installed h)))
      ∙ length-map (installed h) (installs.later e);
  revisions = ap (λ (l : List Entry). length l)
      (filter-append (λ (x : Entry). brings_revision x.op x.reply) h (e ∷ []) ∙ ap (λ k. filter (λ (x : Entry). brings_revision x.op x.reply) h ++ cond k (e ∷ []) []) q.brings ∙ append-nil _);
  live = λ b. installs.live-any b (h ++ e ∷ []) ∙ ap (λ k. (b.0 == 0) || k) (ap (list_any (installs.has_id b)) (there-quiet h e q) ∙ installs.any-map (installs.has_id b) (installs.later e) (bundles.live h)) ∙ sym (installs.live-any b h);
  row = λ b. ap (λ l. option_map_or (λ (i : Installed). row_number depot (source i)) (find (installs.has_id b) l) 0) (there-quiet h e q)
      ∙ find-read (installs.has_id b) (installs.later e) (λ (i : Installed). row_number depot (source i)) 0 (bundles.live h) (λ i. refl) (λ i. ap (row_number depot) (from i));
}
  where
    from : (i : Installed) → source (installs.later e i) ≡ source i
    from i = installs.source-push i e ∙ ap (λ u. unwrap_or u (source i)) (q.updated i.bundle)

    row : (i : Installed) → row_from depot (installs.later e i) ≡ row_from depot i
    row i = installs.row-kept depot i e (q.updated i.bundle)

pub phases-quiet : (h : List Entry) (e : Entry) → QuietPhases e.op e.reply → SamePhases (h ++ e ∷ []) h
phases-quiet h e q = record { phase = λ b. installs.phase-kept b h e (q b); last_begin = λ b. installs.last_begin-kept b h e (q b) }

pub levels-quiet : (h : List Entry) (e : Entry) → QuietLevels e.op e.reply → SameLevels (h ++ e ∷ []) h
levels-quiet h e q = record {
  autostart = λ b. ap (λ o. unwrap_or o false) (latest-quiet (λ (x : Entry). wishes b x.op x.reply) h e (q.wish b));
  level = λ b. ap (λ o. cond (b.0 == 0) 0 (unwrap_or o 1)) (latest-quiet (λ (x : Entry). leveled b x.op x.reply) h e (q.level b));
  active = ap (λ o. unwrap_or o 1) (latest-quiet (λ (x : Entry). moved_to x.op x.reply) h e q.moved);
  walk = carry-last (λ before (x : Entry). walk_by before x x.op x.reply) None h e ∙ q.walk (walk h) e;
}

pub refresh-quiet : (h : List Entry) (e : Entry) → QuietRefresh e.op e.reply → refresh (h ++ e ∷ []) ≡ refresh h
refresh-quiet h e q = carry-last (λ before (x : Entry). refresh_by before x x.op x.reply) None h e ∙ q (refresh h) e

pub listeners-quiet : (h : List Entry) (e : Entry) → QuietListeners e.op e.reply → SameListeners (h ++ e ∷ []) h
listeners-quiet h e q = record {
  hearing = carry-last (λ (s : Hearing) (x : Entry). with_heard (heard_by x.op x.reply) s) (record { count = 0; live = [] }) h e ∙ ap (λ c. with_heard c (hearing h)) q.heard;
  handed = λ l. along-last (λ before (x : Entry). handed_by l x.op x.reply) h e ∙ ap (λ k. handed_in l h ++ k) (q.handed l) ∙ append-nil (handed_in l h);
  handings = ap (λ (l : List Entry). length l) (filter-append (λ (x : Entry). is_handed x.op x.reply) h (e ∷ []) ∙ ap (λ k. filter (λ (x : Entry). is_handed x.op x.reply) h ++ cond k (e ∷ []) []) q.counted ∙ append-nil _);
}

pub jobs-quiet : (h : List Entry) (e : Entry) → QuietJobs e.op e.reply → jobs (h ++ e ∷ []) ≡ jobs h
jobs-quiet h e q = carry-last (λ (s : List Queued) (x : Entry). with_jobs (queued_by x.op x.reply) s) [] h e ∙ ap (λ c. with_jobs c (jobs h)) q

-- an entry that closes no bracket ends no make
pub makes-quiet : (h : List Entry) (e : Entry) → QuietMakes e.op e.reply → closes e.tag e.op (brackets h) ≡ false → open_makes (h ++ e ∷ []) ≡ open_makes h
makes-quiet h e q c = open_makes-quiet h e (ap (λ k. make_change k e.op e.reply) c ∙ q)

-- an object that was held is held on: its service is live still, its user was not cleaned and did not give it back, and has as many uses
objects-quiet : (h : List Entry) (e : Entry) → QuietServices e.op e.reply → QuietObjects e.op e.reply → SameObjects (h ++ e ∷ []) h
objects-quiet h e s q = record {
  objects =
      objects-push h e
      ∙ ap (λ m. filter (is_still_held (h ++ e ∷ []) e) (objects h ++ object_by h e m)) (s.made e.tag (brackets h))
      ∙ ap (filter (is_still_held (h ++ e ∷ []) e)) (append-nil (objects h))
      ∙ filter-held (is_still_held (h ++ e ∷ []) e) (objects h) (All-weaker (IsHeldIn h) (λ o. is_still_held (h ++ e ∷ []) e o ≡ true) still (objects h) (are-held h));
  made = ap (λ (l : List Entry). length l) (filter-append (λ (x : Entry). is_made x.op x.reply) h (e ∷ []) ∙ ap (λ k. filter (λ (x : Entry). is_made x.op x.reply) h ++ cond k (e ∷ []) []) q.made ∙ append-nil _);
}
  where
    there : (o : HeldObject) → is_some (live_service_at o.service (h ++ e ∷ [])) ≡ is_some (live_service_at o.service h)
    there o = ap (λ l. is_some (find (is_service o.service) l)) (live-quiet h e s) ∙ find-some (is_service o.service) (kept.later e) (live_services h) (λ r. refl)

    passed : (a d : Bool) → (a && true && true && d) ≡ (a && d)
    passed true d = refl
    passed false d = refl

    still : (o : HeldObject) → IsHeldIn h o → is_still_held (h ++ e ∷ []) e o ≡ true
    still o held =
        (λ i. there o i && not (not-cleaned e.op e.reply s.cleaned o.user i) && not (q.given_back o i) && (o.own || nat_lt 0 ((services-quiet h e s).uses o.user o.service i)))
        ∙ passed (is_some (live_service_at o.service h)) (o.own || nat_lt 0 (uses o.user o.service h)) ∙ held

pub brackets-quiet : (h : List Entry) (e : Entry) → opens e.op e.reply ≡ None → closes e.tag e.op (brackets h) ≡ false → brackets (h ++ e ∷ []) ≡ brackets h
brackets-quiet h e q c = brackets-last h e ∙ (λ i. turned e.tag (q i) (c i) (brackets h))

-- an entry that says nothing, and is no end of its caller's innermost bracket, leaves all that tables read
pub reads-alike : (depot : List DepotRow) (h : List Entry) (e : Entry) → IsQuiet e.op e.reply → closes e.tag e.op (brackets h) ≡ false → ReadAlike depot (h ++ e ∷ []) h
reads-alike depot h e q c = record {
  brackets = brackets-quiet h e q.opened c;
  services = services-quiet h e q.services;
  bundles = bundles-quiet depot h e q.bundles;
  phases = phases-quiet h e q.phases;
  levels = levels-quiet h e q.levels;
  refresh = refresh-quiet h e q.refresh;
  listeners = listeners-quiet h e q.listeners;
  jobs = jobs-quiet h e q.jobs;
  open_makes = makes-quiet h e q.makes c;
  objects = objects-quiet h e q.services q.objects;
  waiting = waiting-quiet h e q.waiting;
}

-- ---- what says nothing

-- operations that only ask, and those by which a script writes
abbrev pub is_asking : Op → Bool
is_asking (op.Find asker class filter) = true
is_asking (op.FindAll asker class filter) = true
is_asking (op.ListLevel level) = true
is_asking (op.Load bundle class) = true
is_asking (op.Print owner text) = true
is_asking (op.Fail owner text) = true
is_asking op.ListBundles = true
is_asking op.ListServices = true
is_asking (op.ListWires bundle) = true
is_asking o = false

-- they say nothing, whatever they answer
pub asking-quiet : (o : Op) (y : Reply) → is_asking o ≡ true → IsQuiet o y
asking-quiet (op.Find asker class filter) y e = record {
  opened = refl;
  services = record { registered = λ n since. refl; taken = λ s owner. refl; given = λ s. refl; got = λ u s. refl; let_go = λ u s. refl; cleaned = refl; made = λ tag opened. refl };
  bundles = record { installed = λ n since. refl; gone = λ b. refl; updated = λ b. refl; brings = refl };
  phases = λ b. refl;
  levels = record { wish = λ b. refl; level = λ b. refl; moved = refl; walk = λ before e. refl };
  refresh = λ before e. refl;
  listeners = record { heard = refl; handed = λ l. refl; counted = refl; happens = λ past v w e. refl };
  jobs = refl;
  makes = refl;
  objects = record { made = refl; given_back = λ held. refl };
  waiting = refl;
}
asking-quiet (op.FindAll asker class filter) y e = record {
  opened = refl;
  services = record { registered = λ n since. refl; taken = λ s owner. refl; given = λ s. refl; got = λ u s. refl; let_go = λ u s. refl; cleaned = refl; made = λ tag opened. refl };
  bundles = record { installed = λ n since. refl; gone = λ b. refl; updated = λ b. refl; brings = refl };
  phases = λ b. refl;
  levels = record { wish = λ b. refl; level = λ b. refl; moved = refl; walk = λ before e. refl };
  refresh = λ before e. refl;
  listeners = record { heard = refl; handed = λ l. refl; counted = refl; happens = λ past v w e. refl };
  jobs = refl;
  makes = refl;
  objects = record { made = refl; given_back = λ held. refl };
  waiting = refl;
}
asking-quiet (op.ListLevel level) y e = record {
  opened = refl;
  services = record { registered = λ n since. refl; taken = λ s owner. refl; given = λ s. refl; got = λ u s. refl; let_go = λ u s. refl; cleaned = refl; made = λ tag opened. refl };
  bundles = record { installed = λ n since. refl; gone = λ b. refl; updated = λ b. refl; brings = refl };
  phases = λ b. refl;
  levels = record { wish = λ b. refl; level = λ b. refl; moved = refl; walk = λ before e. refl };
  refresh = λ before e. refl;
  listeners = record { heard = refl; handed = λ l. refl; counted = refl; happens = λ past v w e. refl };
  jobs = refl;
  makes = refl;
  objects = record { made = refl; given_back = λ held. refl };
  waiting = refl;
}
asking-quiet (op.Load bundle class) y e = record {
  opened = refl;
  services = record { registered = λ n since. refl; taken = λ s owner. refl; given = λ s. refl; got = λ u s. refl; let_go = λ u s. refl; cleaned = refl; made = λ tag opened. refl };
  bundles = record { installed = λ n since. refl; gone = λ b. refl; updated = λ b. refl; brings = refl };
  phases = λ b. refl;
  levels = record { wish = λ b. refl; level = λ b. refl; moved = refl; walk = λ before e. refl };
  refresh = λ before e. refl;
  listeners = record { heard = refl; handed = λ l. refl; counted = refl; happens = λ past v w e. refl };
  jobs = refl;
  makes = refl;
  objects = record { made = refl; given_back = λ held. refl };
  waiting = refl;
}
asking-quiet (op.Print owner text) y e = record {
  opened = refl;
  services = record { registered = λ n since. refl; taken = λ s owner. refl; given = λ s. refl; got = λ u s. refl; let_go = λ u s. refl; cleaned = refl; made = λ tag opened. refl };
  bundles = record { installed = λ n since. refl; gone = λ b. refl; updated = λ b. refl; brings = refl };
  phases = λ b. refl;
  levels = record { wish = λ b. refl; level = λ b. refl; moved = refl; walk = λ before e. refl };
  refresh = λ before e. refl;
  listeners = record { heard = refl; handed = λ l. refl; counted = refl; happens = λ past v w e. refl };
  jobs = refl;
  makes = refl;
  objects = record { made = refl; given_back = λ held. refl };
  waiting = refl;
}
asking-quiet (op.Fail owner text) y e = record {
  opened = refl;
  services = record { registered = λ n since. refl; taken = λ s owner. refl; given = λ s. refl; got = λ u s. refl; let_go = λ u s. refl; cleaned = refl; made = λ tag opened. refl };
  bundles = record { installed = λ n since. refl; gone = λ b. refl; updated = λ b. refl; brings = refl };
  phases = λ b. refl;
  levels = record { wish = λ b. refl; level = λ b. refl; moved = refl; walk = λ before e. refl };
  refresh = λ before e. refl;
  listeners = record { heard = refl; handed = λ l. refl; counted = refl; happens = λ past v w e. refl };
  jobs = refl;
  makes = refl;
  objects = record { made = refl; given_back = λ held. refl };
  waiting = refl;
}
asking-quiet op.ListBundles y e = record {
  opened = refl;
  services = record { registered = λ n since. refl; taken = λ s owner. refl; given = λ s. refl; got = λ u s. refl; let_go = λ u s. refl; cleaned = refl; made = λ tag opened. refl };
  bundles = record { installed = λ n since. refl; gone = λ b. refl; updated = λ b. refl; brings = refl };
  phases = λ b. refl;
  levels = record { wish = λ b. refl; level = λ b. refl; moved = refl; walk = λ before e. refl };
  refresh = λ before e. refl;
  listeners = record { heard = refl; handed = λ l. refl; counted = refl; happens = λ past v w e. refl };
  jobs = refl;
  makes = refl;
  objects = record { made = refl; given_back = λ held. refl };
  waiting = refl;
}
asking-quiet op.ListServices y e = record {
  opened = refl;
  services = record { registered = λ n since. refl; taken = λ s owner. refl; given = λ s. refl; got = λ u s. refl; let_go = λ u s. refl; cleaned = refl; made = λ tag opened. refl };
  bundles = record { installed = λ n since. refl; gone = λ b. refl; updated = λ b. refl; brings = refl };
  phases = λ b. refl;
  levels = record { wish = λ b. refl; level = λ b. refl; moved = refl; walk = λ before e. refl };
  refresh = λ before e. refl;
  listeners = record { heard = refl; handed = λ l. refl; counted = refl; happens = λ past v w e. refl };
  jobs = refl;
  makes = refl;
  objects = record { made = refl; given_back = λ held. refl };
  waiting = refl;
}
asking-quiet (op.ListWires bundle) y e = record {
  opened = refl;
  services = record { registered = λ n since. refl; taken = λ s owner. refl; given = λ s. refl; got = λ u s. refl; let_go = λ u s. refl; cleaned = refl; made = λ tag opened. refl };
  bundles = record { installed = λ n since. refl; gone = λ b. refl; updated = λ b. refl; brings = refl };
  phases = λ b. refl;
  levels = record { wish = λ b. refl; level = λ b. refl; moved = refl; walk = λ before e. refl };
  refresh = λ before e. refl;
  listeners = record { heard = refl; handed = λ l. refl; counted = refl; happens = λ past v w e. refl };
  jobs = refl;
  makes = refl;
  objects = record { made = refl; given_back = λ held. refl };
  waiting = refl;
}
asking-quiet o y e = absurd (cc e)

-- a refusal but 11 says nothing
cleaned-start : (f : Refusal) (b : BundleId) (failed : Bool) → took_effect (answer.Refused f) ≡ false → cleaned_by (op.EndStart b failed) (answer.Refused f) ≡ None
cleaned-start no.ActivatorError b failed e = absurd (cc e)
cleaned-start f b failed e = refl

cleaned-refused : (o : Op) (f : Refusal) → took_effect (answer.Refused f) ≡ false → cleaned_by o (answer.Refused f) ≡ None
cleaned-refused (op.EndStart b failed) f e = cleaned-start f b failed e
cleaned-refused (op.EndStop b failed) f e = ap (λ k. cond k (Some b) None) e
cleaned-refused o f e = refl

pub opens-refused : (o : Op) (f : Refusal) → opens o (answer.Refused f) ≡ None
opens-refused op.Hand f = refl
opens-refused op.TakeJob f = refl
opens-refused (op.BeginStart b transient) f = refl
opens-refused (op.BeginStop target transient) f = refl
opens-refused (op.Get user service) f = refl
opens-refused (op.GetOwn user service) f = refl
opens-refused o f = refl

services-refused : (o : Op) (f : Refusal) → took_effect (answer.Refused f) ≡ false → QuietServices o (answer.Refused f)
services-refused o f e = record {
  registered = λ n since. made o n since;
  taken = λ s owner. taken o s owner refl;
  given = λ s. given o s;
  got = λ u s. got o u s;
  let_go = λ u s. gave o u s;
  cleaned = cleaned-refused o f e;
  made = λ tag opened. makes o tag opened;
}
  where
    makes : (o : Op) (tag : Tag) (opened : List Bracket) → made_of tag opened o (answer.Refused f) ≡ None
    makes (op.EndMake failed) tag opened = refl
    makes o tag opened = refl

    made : (o : Op) (n : ℕ) (since : List Entry) → registered_by n o (answer.Refused f) since ≡ []
    made (op.Register owner classes object scope properties) n since = refl
    made o n since = refl

    taken : (p : Op) (s : ServiceId) (owner : BundleId) → p ≡ o → takes_out s owner p (answer.Refused f) ≡ false
    taken (op.Unregister by gone) s owner q = refl
    taken p s owner q = not-cleaned p (answer.Refused f) (cleaned-refused p f e) owner

    given : (o : Op) (s : ServiceId) → given_by s o (answer.Refused f) ≡ None
    given (op.Modify owner modified properties) s = refl
    given o s = refl

    got : (o : Op) (u : BundleId) (s : ServiceId) → gets_object u s o (answer.Refused f) ≡ false
    got (op.Get by service) u s = refl
    got (op.GetOwn by service) u s = refl
    got o u s = refl

    gave : (o : Op) (u : BundleId) (s : ServiceId) → is_unget u s o (answer.Refused f) ≡ false
    gave (op.Unget by service) u s = refl
    gave o u s = refl

pub bundles-refused : (o : Op) (f : Refusal) → QuietBundles o (answer.Refused f)
bundles-refused o f = record { installed = λ n since. made o n since; gone = λ b. gone o b; updated = λ b. updated o b; brings = brings o }
  where
    made : (o : Op) (n : ℕ) (since : List Entry) → installed_by n o (answer.Refused f) since ≡ []
    made (op.Install location) n since = refl
    made o n since = refl

    gone : (o : Op) (b : BundleId) → is_uninstall b o (answer.Refused f) ≡ false
    gone (op.Uninstall u) b = refl
    gone o b = refl

    updated : (o : Op) (b : BundleId) → updated_to b o (answer.Refused f) ≡ None
    updated (op.Update u location) b = refl
    updated o b = refl

    brings : (o : Op) → brings_revision o (answer.Refused f) ≡ false
    brings (op.Install location) = refl
    brings (op.Update u location) = refl
    brings o = refl

phases-refused : (o : Op) (f : Refusal) → took_effect (answer.Refused f) ≡ false → QuietPhases o (answer.Refused f)
phases-refused (op.BeginStart n transient) f e b = refl
phases-refused (op.BeginStop target transient) f e b = refl
phases-refused (op.EndStart n failed) f e b = λ i. cond (e i && (n.0 == b.0)) (Some bundles.idle) None
phases-refused (op.EndStop n failed) f e b = λ i. cond (e i && (n.0 == b.0)) (Some bundles.idle) None
phases-refused o f e b = refl

levels-refused : (o : Op) (f : Refusal) → QuietLevels o (answer.Refused f)
levels-refused o f = record { wish = λ b. wish o b; level = λ b. level o b; moved = moved o; walk = λ before x. walks o before x }
  where
    wish : (o : Op) (b : BundleId) → wishes b o (answer.Refused f) ≡ None
    wish (op.WishStart target true) b = refl
    wish (op.WishStart target false) b = refl
    wish (op.BeginStop target true) b = refl
    wish (op.BeginStop target false) b = refl
    wish o b = refl

    level : (o : Op) (b : BundleId) → leveled b o (answer.Refused f) ≡ None
    level (op.SetBundleLevel n l) b = refl
    level o b = refl

    moved : (o : Op) → moved_to o (answer.Refused f) ≡ None
    moved (op.MoveLevel to) = refl
    moved o = refl

    walks : (o : Op) (before : Option Walk) (x : Entry) → walk_by before x o (answer.Refused f) ≡ before
    walks (op.BeginLevel target) before x = refl
    walks op.EndLevel before x = refl
    walks o before x = refl

refresh-refused : (o : Op) (f : Refusal) → QuietRefresh o (answer.Refused f)
refresh-refused (op.BeginRefresh named) f before e = refl
refresh-refused op.DropWirings f before e = refl
refresh-refused op.EndRefresh f before e = refl
refresh-refused o f before e = refl

jobs-refused : (o : Op) (f : Refusal) → took_effect (answer.Refused f) ≡ false → QuietJobs o (answer.Refused f)
jobs-refused (op.QueueJob owner name) f e = refl
jobs-refused op.TakeJob f e = refl
jobs-refused o f e = ap (option_map queue.clears) (cleaned-refused o f e)

listeners-refused : (o : Op) (f : Refusal) → took_effect (answer.Refused f) ≡ false → QuietListeners o (answer.Refused f)
listeners-refused o f e = record { heard = heard o; handed = λ l. handed o l; counted = counted o; happens = λ past v w x. happens o past v w x }
  where
    heard : (o : Op) → heard_by o (answer.Refused f) ≡ None
    heard (op.AddListener owner name kind given) = refl
    heard (op.RemoveListener owner name) = refl
    heard o = ap (option_map clears) (cleaned-refused o f e)

    handed : (o : Op) (l : ListenerId) → handed_by l o (answer.Refused f) ≡ []
    handed op.Hand l = refl
    handed o l = refl

    counted : (o : Op) → is_handed o (answer.Refused f) ≡ false
    counted op.Hand = refl
    counted o = refl

    happens : (o : Op) (past : List Entry) (v w : World) (x : Entry) → happenings past v w x o (answer.Refused f) ≡ []
    happens (op.Register owner classes object scope properties) past v w x = refl
    happens (op.Modify owner s properties) past v w x = refl
    happens (op.Unregister owner s) past v w x = refl
    happens (op.Install location) past v w x = refl
    happens (op.Resolve b) past v w x = refl
    happens (op.BeginStart b transient) past v w x = refl
    happens (op.EndStart b failed) past v w x =
        ap (λ k. cond k (of_bundle 256 v w b ∷ leaving (Some b) past ++ of_bundle 4 v w b ∷ []) []) e
    happens (op.BeginStop target transient) past v w x = refl
    happens (op.Await asked) past v w x = refl
    happens (op.EndStop b failed) past v w x = ap (λ k. cond k (leaving (Some b) past ++ of_bundle 4 v w b ∷ []) []) e
    happens (op.Update b location) past v w x = refl
    happens (op.Uninstall b) past v w x = refl
    happens op.DropWirings past v w x = refl
    happens op.EndRefresh past v w x = refl
    happens op.EndLevel past v w x = refl
    happens o past v w x = refl

makes-refused : (o : Op) (f : Refusal) → QuietMakes o (answer.Refused f)
makes-refused op.Hand f = refl
makes-refused op.TakeJob f = refl
makes-refused (op.BeginStart b transient) f = refl
makes-refused (op.BeginStop target transient) f = refl
makes-refused (op.Get user service) f = refl
makes-refused (op.GetOwn user service) f = refl
makes-refused (op.EndMake failed) f = refl
makes-refused (op.Give owner text) f = refl
makes-refused o f = refl

objects-refused : (o : Op) (f : Refusal) → QuietObjects o (answer.Refused f)
objects-refused o f = record { made = makes o; given_back = λ held. back o held }
  where
    makes : (o : Op) → is_made o (answer.Refused f) ≡ false
    makes (op.EndMake failed) = refl
    makes o = refl

    back : (o : Op) (held : HeldObject) → is_given_back held o (answer.Refused f) ≡ false
    back (op.UngetOwn user service object) held = refl
    back o held = refl

waiting-refused : (o : Op) (f : Refusal) → QuietWaiting o (answer.Refused f)
waiting-refused (op.Await asked) f = refl
waiting-refused (op.BeginStart asked transient) f = refl
waiting-refused (op.BeginStop target transient) f = refl
waiting-refused (op.Update bundle location) f = refl
waiting-refused (op.Uninstall bundle) f = refl
waiting-refused op.DropWirings f = refl
waiting-refused o f = refl

pub refused-quiet : (o : Op) (f : Refusal) → took_effect (answer.Refused f) ≡ false → IsQuiet o (answer.Refused f)
refused-quiet o f e = record {
  opened = opens-refused o f;
  services = services-refused o f e;
  bundles = bundles-refused o f;
  phases = phases-refused o f e;
  levels = levels-refused o f;
  refresh = refresh-refused o f;
  listeners = listeners-refused o f e;
  jobs = jobs-refused o f e;
  makes = makes-refused o f;
  objects = objects-refused o f;
  waiting = waiting-refused o f;
}

-- and what is refused so is no end of its caller's innermost bracket, where the end of a make is none
pub refused_end_quiet : (m : Moment) (o : Op) (f : Refusal) → IsReply m o (answer.Refused f) → ((bad : Bool) → closes m.tag (op.EndMake bad) (brackets m.before) ≡ false) → took_effect (answer.Refused f) ≡ false → closes m.tag o (brackets m.before) ≡ false
refused_end_quiet m (op.EndMake bad) f r makes e = makes bad
refused_end_quiet m o f r makes e = false_from_ne_true _ (λ c. (let bad : true ≡ false = sym (ended-by m o (answer.Refused f) r refl c) ∙ e in cc bad))

asking-ends-nothing : (o : Op) → is_asking o ≡ true → is_end o ≡ false
asking-ends-nothing (op.EndHand listener) e = absurd (cc e)
asking-ends-nothing op.EndJob e = absurd (cc e)
asking-ends-nothing (op.EndStart b failed) e = absurd (cc e)
asking-ends-nothing (op.EndStop b failed) e = absurd (cc e)
asking-ends-nothing (op.EndMake failed) e = absurd (cc e)
asking-ends-nothing o e = refl

-- so after a question, and after every refusal but 11, tables stand for what they stood for
pub asking-alike : (m : Moment) (o : Op) (y : Reply) → is_asking o ≡ true → ReadAlike m.setting.depot (m.before ++ entry_of m o y ∷ []) m.before
asking-alike m o y e = reads-alike m.setting.depot m.before (entry_of m o y) (asking-quiet o y e) (closes-not m.tag o (brackets m.before) (asking-ends-nothing o e))

pub refused-alike : (m : Moment) (o : Op) (f : Refusal) → IsReply m o (answer.Refused f) → ((bad : Bool) → closes m.tag (op.EndMake bad) (brackets m.before) ≡ false) → took_effect (answer.Refused f) ≡ false →
    ReadAlike m.setting.depot (m.before ++ entry_of m o (answer.Refused f) ∷ []) m.before
refused-alike m o f r makes e = reads-alike m.setting.depot m.before (entry_of m o (answer.Refused f)) (refused-quiet o f e) (refused_end_quiet m o f r makes e)
