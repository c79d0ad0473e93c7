-- The machine's fields between calls.
use Rattle.std.proofs.Common.{ℕ, ◌≡◌, ◌<◌, ◌≤◌, ◌-◌, inl, inr, List, [], ◌∷◌, ◌++◌, length, map, ap, arith, subst, sym, ◌∙◌, refl}
use Rattle.std.specs.Prelude.{All, Bool, true, false, None, Option, Some, IsSomeAnd}
use Rattle.std.proofs.lemmas.List.{length-map, map-append}
use Rattle.std.proofs.lemmas.List.Elements.{All-nil, All-push}
use Rattle.osgi_base.specs.Verdict.{Gives, refuses}
use Rattle.osgi_base.specs.declared.ids.BundleId.{BundleId}
use Rattle.osgi_base.specs.declared.ids.Tag.{Tag}
use Rattle.osgi_brackets.specs.Open as callers
use Rattle.osgi_bundle.specs.Stands as bundle
use Rattle.osgi_bundle.specs.Stands.{StandsForNone}
use Rattle.osgi_core.specs.Sound.{IsSoundlyTold, IsTrulyUnresolvable}
use Rattle.osgi_legal.proofs.Legal.{handed-is-prefix, sights-last, world-last}
use Rattle.osgi_legal.proofs.Owned.{entries-last}
use Rattle.osgi_stage.proofs.ToldOnce.{told-once}
use Rattle.osgi_legal.specs.Legal.{IsAllowed, IsAllowedNow, IsAskedAt, IsStep, IsTold}
use Rattle.osgi_ops.specs.Levels.{Refresh, refresh}
use Rattle.osgi_listeners.specs.Rows.{no_listeners}
use Rattle.osgi_listeners.specs.Stands as hearing
use Rattle.osgi_listeners.specs.Stands.{AreSmall}
use Rattle.osgi_listeners.specs.laws.Standing.{stands-at-first}
use Rattle.osgi_ops.specs.Moments.{first_world, Moment, moment, Seen, seen_after, Sight, sights_in, Told, world_after}
use Rattle.osgi_legal.specs.Operations.{IsReply}
use Rattle.osgi_ops.specs.Resolved.{is_resolved}
use Rattle.osgi_ops.specs.Resolving.{AnswersResolve}
use Rattle.osgi_ops.specs.Settings.{bounds_of, Setting, setting_of}
use Rattle.osgi_ops.specs.Soundness.{IsSound}
use Rattle.osgi_ops.specs.declared.depot.Depot.{Depot}
use Rattle.osgi_ops.specs.declared.entry.Entry.{Entry}
use Rattle.osgi_ops.specs.declared.limits.Limits.{Limits}
use Rattle.osgi_ops.specs.declared.op.Op.{Op}
use Rattle.osgi_ops.specs.declared.op.Op.TheVariants as op
use Rattle.osgi_ops.specs.declared.refusal.Refusal.{Refusal}
use Rattle.osgi_ops.specs.declared.refusal.Refusal.TheVariants.{HistoryFull, Refreshing, Unresolvable}
use Rattle.osgi_ops.specs.declared.refusal.Unmet.{Unmet}
use Rattle.osgi_ops.specs.declared.reply.Reply.{Reply}
use Rattle.osgi_ops.specs.declared.reply.Reply.TheVariants as answer
use Rattle.osgi_ops.specs.laws.Along.{AllAlong-join}
use Rattle.osgi_ops.specs.rows.Bundles.{unresolved_refusals}
use Rattle.osgi_registry.specs.Stands as registry
use Rattle.osgi_wiring.specs.States.{IsKeptWorld}
use Rattle.osgi_world.specs.Consistency.{ExtendsWorld}
use Rattle.osgi_world.specs.declared.world.World.{World}
use Rattle.osgi_core.specs.Machine.{AreSightsOf, Machine, moment_of}
use Rattle.osgi_core.specs.computed.Kept.{IsKept}
use Rattle.osgi_tables.specs.Replied.{IsReplied, StandsStill}
use Rattle.osgi_tables.specs.declared.tables.Tables.{Tables}

-- the moment at which the next operation is asked for
abbrev pub next : {setting : Setting} {history : List Entry} {tables : Tables} → IsKept setting history tables → Tag → Moment
next {setting} {history} {tables} kept tag = record { setting = setting; before = history; world = tables.wirings.world; sights = sights_in kept.told.replayed.told; tag = tag }

-- it is one of a history that replays
pub told_next : {setting : Setting} {history : List Entry} {tables : Tables} (kept : IsKept setting history tables) (tag : Tag) → IsTold (next kept tag)
told_next kept tag =
    let replayed = kept.told.replayed in
    record { told = replayed.told; tells = replayed.tells; ends = replayed.ends; seen = refl; allowed = replayed.allowed }

asked_next : {setting : Setting} {history : List Entry} {tables : Tables} (kept : IsKept setting history tables) (tag : Tag) (o : Op) → IsAskedAt (record { tag = tag; op = o }) (next kept tag)
asked_next kept tag o = record { tag = refl; told = told_next kept tag }

-- ---- the empty history

minus_zero : (n : ℕ) → n ≡ n - 0
minus_zero n = omega (arith)

-- the tables of the empty history
pub kept_none : (setting : Setting) (tables : Tables) → tables.depot.rows ≡ setting.depot → tables.budget ≡ setting.bounds.budget → registry.StandsFor [] tables.registry → StandsForNone tables.bundles → callers.StandsFor [] tables.brackets → tables.listeners ≡ no_listeners →
    tables.handings_left ≡ setting.bounds.handings → tables.wirings.world ≡ first_world → tables.wirings.issued ≡ 0 → IsKeptWorld tables.wirings.world tables.wirings.issued → tables.jobs ≡ [] → IsKept setting [] tables
kept_none setting tables depot budget services bundles brackets listeners handings world issued kept jobs =
    let sound : IsSound tables.wirings.world = record { consistent = kept.consistent; is_world = kept.is_world; ordered = kept.ordered } in
    record {
      told = record {
        replayed = record { told = []; tells = refl; ends = sym world; allowed = tt };
        sound = record { worlds = All-push IsSound [] first_world (All-nil IsSound) (subst IsSound world sound); unresolvable = tt; handed = λ listener. ([], refl) };
      };
      stands = λ tag. record {
        depot = depot;
        budget = budget;
        services = services;
        bundles = subst (λ (w : World). bundle.StandsFor setting.depot [] w tables.bundles) (sym world) (bundles setting.depot);
        brackets = brackets;
        world = refl;
        issued = issued;
        sound = sound;
        listeners = subst (hearing.StandsFor [] []) (sym listeners) stands-at-first;
        small = All-nil (λ (s : Seen). s.place < 4294967296);
        handings = handings ∙ minus_zero setting.bounds.handings;
        jobs = jobs;
      };
    }

-- ---- one more entry

not_refreshing : (o : Option Refresh) (holds : Refresh → Type 0) (refusal : Refusal) (cause : Unmet) → IsSomeAnd o (λ r. holds r × (refusal ≡ Refreshing r.tag)) → Unresolvable cause ≡ refusal → ⊥
not_refreshing None holds refusal cause called same = called
not_refreshing (Some r) holds refusal cause called same = cc (called.1, same)

-- a refusal as unresolvable says that no world extends this one with the bundle
truly : (now : Moment) (b : BundleId) (cause : Unmet) → IsReply now (op.Resolve b) (answer.Refused (Unresolvable cause)) → (world : World) → ¬ ExtendsWorld now.world world b
truly now b cause (inl (refusal, (named, fact), same)) = absurd (cc (named, same))
truly now b cause (inr (live, inl (refusal, (named, fact), same))) = absurd (cc (named, same))
truly now b cause (inr (live, inr (whole, given))) = searched (is_resolved now.world b) given
  where
    searched : (t : Bool) → Gives (unresolved_refusals t now b) (AnswersResolve t now b) (refuses (Unresolvable cause)) → (world : World) → ¬ ExtendsWorld now.world world b
    searched true given = absurd given
    searched false (inl (refusal, called, same)) = let is : Unresolvable cause ≡ refusal = cc same in absurd (not_refreshing (refresh now.before) _ refusal cause called is)
    searched false (inr (closed, inl (refusal, u, same))) = u.none
    searched false (inr (closed, inr (none, inl (refusal, above, same)))) = absurd (cc (above.says, same))
    searched false (inr (closed, inr (none, inr (within, given)))) = absurd given

told_push : (setting : Setting) (history : List Entry) (before after : World) (tag : Tag) (o : Op) (reply : Reply) (sights : List Sight) (soundly : IsSoundlyTold setting history before) →
    IsAllowedNow (record { setting = setting; before = history; world = before; sights = sights_in soundly.replayed.told; tag = tag }) o reply after sights → IsSound after →
    IsSoundlyTold setting (history ++ record { tag = tag; op = o; reply = reply } ∷ []) after
told_push setting history before after tag o reply sights soundly allowed sound =
    let told = soundly.replayed.told in
    let t : Told = record { entry = record { tag = tag; op = o; reply = reply }; world = after; sights = sights } in
    let here : IsAllowed setting told t =
    subst (λ (h : List Entry). IsAllowedNow (record { setting = setting; before = h; world = world_after told; sights = sights_in told; tag = tag }) o reply after sights) (sym soundly.replayed.tells)
    (subst (λ (w : World). IsAllowedNow (record { setting = setting; before = history; world = w; sights = sights_in told; tag = tag }) o reply after sights) (sym soundly.replayed.ends) allowed) in
    record {
      replayed = record {
        told = told ++ t ∷ [];
        tells = entries-last told t ∙ ap (λ l. l ++ t.entry ∷ []) soundly.replayed.tells;
        ends = world-last told t;
        allowed = AllAlong-join (IsAllowed setting) [] told (t ∷ []) soundly.replayed.allowed (here, tt);
      };
      sound = record {
        worlds = subst (All IsSound) (ap (λ l. first_world ∷ l) (sym (map-append (λ (x : Told). x.world) told (t ∷ []))))
            (All-push IsSound (first_world ∷ map (λ (x : Told). x.world) told) after soundly.sound.worlds sound);
        unresolvable = AllAlong-join IsTrulyUnresolvable [] told (t ∷ []) soundly.sound.unresolvable (
          λ b cause is said.
              truly (moment setting told tag) b cause (subst (λ r. IsReply (moment setting told tag) (op.Resolve b) r) said (subst (λ p. IsReply (moment setting told tag) p reply) is here.replied)),
          tt,
        );
        handed = handed-is-prefix setting (told ++ t ∷ []) (AllAlong-join (IsAllowed setting) [] told (t ∷ []) soundly.replayed.allowed (here, tt));
      };
    }

-- an operation that was replied to was allowed
allowed : (setting : Setting) (history : List Entry) (old new : Tables) (tag : Tag) (o : Op) (reply : Reply) (sights : List Sight) (kept : IsKept setting history old) → length history < setting.bounds.entries →
    IsReplied (length history) (record { tag = tag; op = o }) old new reply sights → IsAllowedNow (next kept tag) o reply new.wirings.world sights
allowed setting history old new tag o reply sights kept room replied =
    let now = next kept tag in
    let here = asked_next kept tag o in
    record { room = room; replied = replied.due now here refl (kept.stands tag); left = replied.left now here refl (kept.stands tag); seen = replied.seen now here refl (kept.stands tag) }

-- what is seen with it is put behind what was seen
sights_push : {setting : Setting} {history : List Entry} {tables : Tables} (kept : IsKept setting history tables) (tag : Tag) (o : Op) (reply : Reply) (after : World) (sights : List Sight) →
    sights_in (kept.told.replayed.told ++ record { entry = record { tag = tag; op = o; reply = reply }; world = after; sights = sights } ∷ []) ≡ sights_in kept.told.replayed.told ++ seen_after (length history) sights
sights_push kept tag o reply after sights =
    let told = kept.told.replayed.told in
    sights-last told (record { entry = record { tag = tag; op = o; reply = reply }; world = after; sights = sights })
    ∙ ap (λ n. sights_in told ++ seen_after n sights) (sym (length-map told (λ (t : Told). t.entry)) ∙ ap length kept.told.replayed.tells)

-- one more entry, with what was replied
kept_push : (setting : Setting) (history : List Entry) (old new : Tables) (tag : Tag) (o : Op) (reply : Reply) (sights : List Sight) → IsKept setting history old → length history < setting.bounds.entries → IsReplied (length history) (record { tag = tag; op = o }) old new reply sights →
    IsKept setting (history ++ record { tag = tag; op = o; reply = reply } ∷ []) new
unfolding told_push
kept_push setting history old new tag o reply sights kept room replied =
    let stands = replied.stands (next kept tag) (asked_next kept tag o) refl (kept.stands tag) in
    record {
      told = told_push setting history old.wirings.world new.wirings.world tag o reply sights kept.told (allowed setting history old new tag o reply sights kept room replied) stands.sound;
      stands = λ other. record {
        depot = stands.depot;
        budget = stands.budget;
        services = stands.services;
        bundles = stands.bundles;
        brackets = stands.brackets;
        world = refl;
        issued = stands.issued;
        sound = stands.sound;
        listeners = subst (λ (all : List Seen). hearing.StandsFor all (history ++ record { tag = tag; op = o; reply = reply } ∷ []) new.listeners) (sym (sights_push kept tag o reply new.wirings.world sights)) stands.listeners;
        small = subst AreSmall (sym (sights_push kept tag o reply new.wirings.world sights)) stands.small;
        handings = stands.handings;
        jobs = stands.jobs;
      };
    }

-- the depot stays
depot_stays : (setting : Setting) (history : List Entry) (old new : Tables) (tag : Tag) (o : Op) (reply : Reply) (sights : List Sight) → IsKept setting history old → IsReplied (length history) (record { tag = tag; op = o }) old new reply sights → new.depot.rows ≡ setting.depot
depot_stays setting history old new tag o reply sights kept replied = (replied.stands (next kept tag) (asked_next kept tag o) refl (kept.stands tag)).depot

-- what still stands is as it was in all that contracts see
still_kept : (setting : Setting) (history : List Entry) (old new : Tables) → IsKept setting history old → StandsStill old new → (new.depot.rows ≡ setting.depot) × (new.wirings.world ≡ old.wirings.world) × IsKept setting history new
still_kept setting history old new kept still =
    let tag : Tag = record { caller = 0; command = 0 } in
    let stands = still (next kept tag) (kept.stands tag) in (
      stands.depot,
      stands.world,
      record {
        told = record {
          replayed = record { told = kept.told.replayed.told; tells = kept.told.replayed.tells; ends = kept.told.replayed.ends ∙ sym stands.world; allowed = kept.told.replayed.allowed };
          sound = kept.told.sound;
        };
        stands = λ other. let again = still (next kept other) (kept.stands other) in record {
          depot = again.depot;
          budget = again.budget;
          services = again.services;
          bundles = subst (λ (w : World). bundle.StandsFor setting.depot history w new.bundles) (sym again.world) again.bundles;
          brackets = again.brackets;
          world = refl;
          issued = again.issued;
          sound = subst IsSound (sym again.world) again.sound;
          listeners = again.listeners;
          small = again.small;
          handings = again.handings;
          jobs = again.jobs;
        };
      },
    )

same_setting : (limits : Limits) (old new : Depot) → new.rows ≡ old.rows → setting_of limits new ≡ setting_of limits old
same_setting limits old new is = λ i. record { bounds = bounds_of limits; depot = is i }

-- memory ran out: the machine is as it was
pub stays_kept : (limits : Limits) (history after : List Entry) (old new : Tables) → IsKept (setting_of limits old.depot) history old → StandsStill old new → after ≡ history → IsKept (setting_of limits new.depot) after new
stays_kept limits history after old new kept still is =
    let k = still_kept (setting_of limits old.depot) history old new kept still in
    subst (λ (s : Setting). IsKept s after new) (sym (same_setting limits old.depot new.depot k.0)) (subst (λ (h : List Entry). IsKept (setting_of limits old.depot) h new) (sym is) k.2)

-- what contracts see of the machine's fields
abbrev pub seen : Limits → List Entry → Tables → Machine
seen limits history tables = record { setting = setting_of limits tables.depot; entries = history; world = tables.wirings.world }

-- it has room for an entry, so the fields have
pub room_seen : (limits : Limits) (history : List Entry) (tables : Tables) (machine : Machine) → seen limits history tables ≡ machine → length machine.entries < machine.setting.bounds.entries → length history < limits.entries
room_seen limits history tables machine is room = subst (λ (m : Machine). length m.entries < m.setting.bounds.entries) (sym is) room

pub stays_same : (limits : Limits) (history after : List Entry) (old new : Tables) → IsKept (setting_of limits old.depot) history old → StandsStill old new → after ≡ history →
    seen limits after new ≡ seen limits history old
stays_same limits history after old new kept still is =
    let k = still_kept (setting_of limits old.depot) history old new kept still in
    λ i. record { setting = same_setting limits old.depot new.depot k.0 i; entries = is i; world = k.1 i }

-- an operation was recorded
pub recorded_setting : (limits : Limits) (history : List Entry) (old new : Tables) (tag : Tag) (o : Op) (reply : Reply) (sights : List Sight) → IsKept (setting_of limits old.depot) history old → IsReplied (length history) (record { tag = tag; op = o }) old new reply sights → setting_of limits new.depot ≡ setting_of limits old.depot
recorded_setting limits history old new tag o reply sights kept replied = same_setting limits old.depot new.depot (depot_stays (setting_of limits old.depot) history old new tag o reply sights kept replied)

pub recorded_kept : (limits : Limits) (history after : List Entry) (old new : Tables) (tag : Tag) (o : Op) (reply : Reply) (sights : List Sight) → IsKept (setting_of limits old.depot) history old → length history < limits.entries → IsReplied (length history) (record { tag = tag; op = o }) old new reply sights →
    after ≡ history ++ record { tag = tag; op = o; reply = reply } ∷ [] → IsKept (setting_of limits new.depot) after new
recorded_kept limits history after old new tag o reply sights kept room replied is =
    subst (λ (s : Setting). IsKept s after new) (sym (recorded_setting limits history old new tag o reply sights kept replied))
    (subst (λ (h : List Entry). IsKept (setting_of limits old.depot) h new) (sym is) (kept_push (setting_of limits old.depot) history old new tag o reply sights kept room replied))

-- whatever is said of what listeners saw, it is what the machine's telling says of it
pub recorded_allowed : (limits : Limits) (history : List Entry) (old new : Tables) (tag : Tag) (o : Op) (reply : Reply) (sights : List Sight) → IsKept (setting_of limits old.depot) history old → length history < limits.entries → IsReplied (length history) (record { tag = tag; op = o }) old new reply sights →
    (those : List Seen) → AreSightsOf (seen limits history old) those → IsAllowedNow (moment_of (seen limits history old) tag those) o reply new.wirings.world sights
recorded_allowed limits history old new tag o reply sights kept room replied those are =
    let same : sights_in kept.told.replayed.told ≡ those = ap sights_in (told-once (setting_of limits old.depot) history old.wirings.world old.wirings.world kept.told.replayed are.0) ∙ are.1 in
    subst (λ (s : List Seen). IsAllowedNow (moment_of (seen limits history old) tag s) o reply new.wirings.world sights) same (allowed (setting_of limits old.depot) history old new tag o reply sights kept room replied)

-- ---- the step of a call

-- an allowed operation that was recorded is a step
pub told_step : (machine : Machine) (after : List Entry) (world : World) (tag : Tag) (o : Op) (reply : Reply) (sights : List Sight) → length machine.entries < machine.setting.bounds.entries → after ≡ machine.entries ++ record { tag = tag; op = o; reply = reply } ∷ [] →
    ((those : List Seen) → AreSightsOf machine those → IsAllowedNow (moment_of machine tag those) o reply world sights) → (those : List Seen) → AreSightsOf machine those → IsStep (moment_of machine tag those) after world o reply
told_step machine after world tag o reply sights room recorded allowed those are = record { full = λ full. absurd (omega (arith, room, full)); room = λ below. (sights, allowed those are, recorded) }

-- a full history refuses, and nothing changes
pub full_step : (machine : Machine) (tag : Tag) (o : Op) → machine.setting.bounds.entries ≤ length machine.entries → (sights : List Seen) → AreSightsOf machine sights →
    IsStep (moment_of machine tag sights) machine.entries machine.world o (answer.Refused HistoryFull)
full_step machine tag o full sights those = record { full = λ again. (refl, refl, refl); room = λ room. absurd (omega (arith, full, room)) }
