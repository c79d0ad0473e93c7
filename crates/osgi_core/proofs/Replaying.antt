-- A machine that makes the calls of a legal history again, and what a listener has seen of it so far.
use Rattle.std.proofs.Common.{◌≡◌, ◌<◌, ◌+◌, ℕ, List, [], ◌∷◌, ◌++◌, drop, get_or, length, append-nil, append_assoc, refl, sym, ap, ◌∙◌, subst}
use Rattle.std.proofs.lemmas.List.{drop_more, map-append}
use Rattle.osgi_base.specs.declared.ids.ListenerId.{ListenerId}
use Rattle.osgi_base.specs.declared.ids.Tag.{Tag}
use Rattle.osgi_core.specs.Machine.{AreSightsOf, Machine, moment_of}
use Rattle.osgi_legal.proofs.Legal.{world-last}
use Rattle.osgi_legal.proofs.Owned.{entries-last}
use Rattle.osgi_legal.specs.Legal.{AreAllowed, IsAllowed, IsAllowedNow, Legal}
use Rattle.osgi_ops.specs.Listening.{due, seen}
use Rattle.osgi_ops.specs.Moments.{entries_in, first_world, moment, Seen, Sight, sights_in, Told, world_after}
use Rattle.osgi_ops.specs.Settings.{Setting}
use Rattle.osgi_ops.specs.declared.entry.Entry.{Entry}
use Rattle.osgi_ops.specs.declared.event.Event.{Event}
use Rattle.osgi_ops.specs.declared.op.Op.{Op}
use Rattle.osgi_ops.specs.declared.reply.Reply.{Reply}
use Rattle.osgi_ops.specs.laws.Along.{AllAlong-join, AllAlong-split, along-last}
use Rattle.osgi_verdicts.proofs.Histories.{telling-once}
use Rattle.osgi_verdicts.specs.Asking.{asked_in}

-- the machine stands behind the first entries of the history, these are left, and the events are those that the listener saw so far
pub record IsDueSoFar (setting : Setting) (entries left : List Entry) (listener : ListenerId) (machine : Machine) (events : List Event) : Type 0 where
  pub front : List Told
  pub rest : List Told
  pub legal : AreAllowed setting (front ++ rest)
  pub all : entries_in (front ++ rest) ≡ entries
  pub to_come : entries_in rest ≡ left
  pub under : machine.setting ≡ setting
  pub before : machine.entries ≡ entries_in front
  pub world : machine.world ≡ world_after front
  pub sees : events ≡ due listener front

pub due-at_first : (setting : Setting) (entries : List Entry) (listener : ListenerId) (machine : Machine) (events : List Event) → Legal setting entries → machine.setting ≡ setting → machine.entries ≡ [] → machine.world ≡ first_world → events ≡ [] →
    IsDueSoFar setting entries entries listener machine events
due-at_first setting entries listener machine events (w, replayed) same before world none =
    record { front = []; rest = replayed.told; legal = replayed.allowed; all = replayed.tells; to_come = replayed.tells; under = same; before = before; world = world; sees = none }

-- ---- the next entry

-- what is left begins with a telling of the next entry
record BeginsWith (e : Entry) (left : List Entry) (rest : List Told) : Type 0 where
  pub next : Told
  pub others : List Told
  pub is : rest ≡ next ∷ others
  pub entry : next.entry ≡ e
  pub to_come : entries_in others ≡ left

begins : (e : Entry) (left : List Entry) (rest : List Told) → entries_in rest ≡ e ∷ left → BeginsWith e left rest
begins e left [] same = absurd (cc same)
begins e left (t ∷ others) same = record { next = t; others = others; is = refl; entry = cc same; to_come = cc same }

-- the machine's moment, at which listeners saw what the telling says
machine_now : (setting : Setting) (front : List Told) (machine : Machine) (tag : Tag) → machine.setting ≡ setting → machine.entries ≡ entries_in front → machine.world ≡ world_after front →
    moment_of machine tag (sights_in front) ≡ moment setting front tag
machine_now setting front machine tag same before world = λ i. record { setting = same i; before = before i; world = world i; sights = sights_in front; tag = tag }

sights_then : (setting : Setting) (front : List Told) (machine : Machine) → AreAllowed setting front → machine.setting ≡ setting → machine.entries ≡ entries_in front → machine.world ≡ world_after front →
    AreSightsOf machine (sights_in front)
sights_then setting front machine legal same before world =
    (record { told = front; tells = sym before; ends = sym world; allowed = subst (λ s. AreAllowed s front) (sym same) legal }, refl)

-- what is left begins with the entry at this index
pub due-at_next : {setting : Setting} {entries : List Entry} {listener : ListenerId} {machine : Machine} {events : List Event} (i : ℕ) (e : Entry) → i < length entries → e ≡ get_or entries i e →
    IsDueSoFar setting entries (drop i entries) listener machine events → IsDueSoFar setting entries (e ∷ drop (i + 1) entries) listener machine events
due-at_next {setting} {entries} {listener} {machine} {events} i e within is so_far =
    subst (λ (l : List Entry). IsDueSoFar setting entries l listener machine events) (drop_more entries i e within ∙ ap (λ x. x ∷ drop (i + 1) entries) (sym is)) so_far

-- there is room for it
pub due-room : {setting : Setting} {entries left : List Entry} {listener : ListenerId} {machine : Machine} {events : List Event} (e : Entry) → IsDueSoFar setting entries (e ∷ left) listener machine events →
    length machine.entries < machine.setting.bounds.entries
due-room {setting} {entries} {left} {listener} {machine} {events} e so_far =
    let b = begins e left so_far.rest so_far.to_come in
    let next : IsAllowed setting so_far.front b.next =
    (AllAlong-split (IsAllowed setting) [] so_far.front (b.next ∷ b.others) (subst (λ r. AreAllowed setting (so_far.front ++ r)) b.is so_far.legal)).1.0 in
    subst (λ (s : Setting). length machine.entries < s.bounds.entries) (sym so_far.under) (subst (λ (h : List Entry). length h < setting.bounds.entries) (sym so_far.before) next.room)

-- what the machine answers is what the telling says, and so is what listeners see of it
pub due-next : {setting : Setting} {entries left : List Entry} {listener : ListenerId} {machine : Machine} {events : List Event} (e : Entry) → IsDueSoFar setting entries (e ∷ left) listener machine events →
    (after : Machine) (later : List Event) (o : Op) (reply : Reply) (sights : List Sight) → o ≡ e.op → after.setting ≡ machine.setting → after.entries ≡ machine.entries ++ record { tag = e.tag; op = o; reply = reply } ∷ [] →
    ((s : List Seen) → AreSightsOf machine s → IsAllowedNow (moment_of machine e.tag s) o reply after.world sights) →
    later ≡ events ++ seen listener [] (record { entry = e; world = after.world; sights = sights }) →
    IsDueSoFar setting entries left listener after later
due-next {setting} {entries} {left} {listener} {machine} {events} e so_far after later o reply sights called kept recorded allowed adds =
    let front = so_far.front in
    let b = begins e left so_far.rest so_far.to_come in
    let legal : AreAllowed setting (front ++ b.next ∷ b.others) = subst (λ r. AreAllowed setting (front ++ r)) b.is so_far.legal in
    let parts = AllAlong-split (IsAllowed setting) [] front (b.next ∷ b.others) legal in
    let t : Told = record { entry = record { tag = e.tag; op = o; reply = reply }; world = after.world; sights = sights } in
    let here : IsAllowed setting front t =
    subst (λ m. IsAllowedNow m o reply after.world sights) (machine_now setting front machine e.tag so_far.under so_far.before so_far.world)
    (allowed (sights_in front) (sights_then setting front machine parts.0 so_far.under so_far.before so_far.world)) in
    let there : AreAllowed setting (front ++ b.next ∷ []) = AllAlong-join (IsAllowed setting) [] front (b.next ∷ []) parts.0 (parts.1.0, tt) in
    let one : AreAllowed setting (front ++ t ∷ []) = AllAlong-join (IsAllowed setting) [] front (t ∷ []) parts.0 (here, tt) in
    let asked : asked_in (entries_in (front ++ b.next ∷ [])) ≡ asked_in (entries_in (front ++ t ∷ [])) =
    ap asked_in (entries-last front b.next) ∙ map-append _ (entries_in front) (b.next.entry ∷ [])
    ∙ ap (λ (x : Entry). asked_in (entries_in front) ++ record { tag = x.tag; op = x.op } ∷ []) b.entry
    ∙ ap (λ p. asked_in (entries_in front) ++ record { tag = e.tag; op = p } ∷ []) (sym called)
    ∙ sym (map-append _ (entries_in front) (t.entry ∷ [])) ∙ ap asked_in (sym (entries-last front t)) in
    let same : front ++ b.next ∷ [] ≡ front ++ t ∷ [] = telling-once setting (front ++ b.next ∷ []) (front ++ t ∷ []) there one asked in
    let whole : front ++ so_far.rest ≡ (front ++ t ∷ []) ++ b.others =
    ap (λ r. front ++ r) b.is ∙ sym (append_assoc front (b.next ∷ []) b.others) ∙ ap (λ l. l ++ b.others) same in
    record {
      front = front ++ t ∷ [];
      rest = b.others;
      legal = subst (AreAllowed setting) whole so_far.legal;
      all = ap entries_in (sym whole) ∙ so_far.all;
      to_come = b.to_come;
      under = kept ∙ so_far.under;
      before = recorded ∙ ap (λ l. l ++ t.entry ∷ []) so_far.before ∙ sym (entries-last front t);
      world = sym (world-last front t);
      sees = adds ∙ ap (λ l. l ++ seen listener [] t) so_far.sees ∙ sym (along-last (seen listener) front t);
    }

-- ---- the whole history

none_left : (rest : List Told) → entries_in rest ≡ [] → rest ≡ []
none_left [] same = refl
none_left (t ∷ others) same = absurd (cc same)

-- nothing is left, so the events are those of the one telling
pub due-at_last : {setting : Setting} {entries : List Entry} {listener : ListenerId} {machine : Machine} {events : List Event} → IsDueSoFar setting entries [] listener machine events →
    (told : List Told) → entries_in told ≡ entries → AreAllowed setting told → events ≡ due listener told
due-at_last {setting} {entries} {listener} {machine} {events} so_far told tells legal =
    let whole : so_far.front ++ so_far.rest ≡ so_far.front = ap (λ r. so_far.front ++ r) (none_left so_far.rest so_far.to_come) ∙ append-nil so_far.front in
    let same : so_far.front ++ so_far.rest ≡ told = telling-once setting (so_far.front ++ so_far.rest) told so_far.legal legal (ap asked_in (so_far.all ∙ sym tells)) in
    so_far.sees ∙ ap (due listener) (sym whole ∙ same)
