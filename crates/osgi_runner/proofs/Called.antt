-- A call of a framework in a hall is a call of its caller.
use Rattle.std.proofs.Common.{◌≡◌, ◌≤◌, ℕ, List, [], ◌∷◌, ◌++◌, length, map, Bool, true, false, refl, sym, ap, append_assoc, ◌∙◌, subst, arith}
use Rattle.std.specs.Prelude.{◌==◌, ◌↔◌, All, filter, cond, Result, MatchBool}
use Rattle.std.specs.declared.result.Result.TheVariants.{Ok, Err}
use Rattle.std.proofs.lemmas.Bool.{eq-eqb}
use Rattle.std.proofs.lemmas.List.{length-map, map-append}
use Rattle.std.proofs.lemmas.List.Elements.{All-head}
use Rattle.osgi_framework.specs.Entries.{from_hall}
use Rattle.osgi_framework.specs.Full.{is_recorded, IsFullReply}
use Rattle.osgi_hall.specs.Calls.{AddsEntry, AddsNone, IsCall, tag_of}
use Rattle.osgi_hall.specs.Histories.{BeginsWith, calls_by, entry}
use Rattle.osgi_hall.specs.Passes.{IsLegal, PassView}
use Rattle.osgi_hall.specs.declared.entry.Entry.{Entry}
use Rattle.osgi_legal.proofs.Legal.{split-map}
use Rattle.osgi_legal.specs.Legal.{AreAllowed, IsAllowed, Legal}
use Rattle.osgi_legal.specs.Operations.{IsReply}
use Rattle.osgi_legal.specs.laws.Refusals.{Legal-within, spent_hand}
use Rattle.osgi_ops.specs.Moments.{Moment, moment, Told}
use Rattle.osgi_ops.specs.Settings.{Setting}
use Rattle.osgi_ops.specs.declared.entry.Entry as framework
use Rattle.osgi_ops.specs.declared.op.Op.{Op}
use Rattle.osgi_ops.specs.declared.op.Op.TheVariants.{Hand}
use Rattle.osgi_ops.specs.declared.refusal.Refusal.TheVariants.{HandingsSpent, HistoryFull}
use Rattle.osgi_ops.specs.declared.reply.Reply.{Reply}
use Rattle.osgi_ops.specs.declared.reply.Reply.TheVariants.{Refused}
use Rattle.osgi_ops.specs.laws.Along.{AllAlong-split}
use Rattle.osgi_runner.specs.Calls.{IsAnswered, IsCalled, says_full, says_spent, SpentByHand}
use Rattle.osgi_runner.specs.Passes.{calls_of, has_seen}

-- ---- the last entry of a legal history

-- its reply is one that is due at some moment
last_reply : (setting : Setting) (told front rest : List Told) (last : framework.Entry) → AreAllowed setting told → told ≡ front ++ rest → map (λ (x : Told). x.entry) rest ≡ last ∷ [] →
    (now : Moment) × IsReply now last.op last.reply
last_reply setting told front [] last legal is same = absurd (cc same)
last_reply setting told front (x ∷ rest) last legal is same =
    let here : x.entry ≡ last = cc same in
    let parts = AllAlong-split (IsAllowed setting) [] front (x ∷ rest) (subst (AreAllowed setting) is legal) in (
      moment setting front x.entry.tag,
      subst (λ (e : framework.Entry). IsReply (moment setting front x.entry.tag) e.op e.reply) here parts.1.0.replied,
    )

is_spent : (reply : Reply) → says_spent reply ≡ true → reply ≡ Refused HandingsSpent
is_spent (Refused HandingsSpent) e = refl
is_spent _ e = absurd (cc e)

-- so where it says that enough was handed, a Hand was asked for
last_hand : (setting : Setting) (front : List framework.Entry) (last : framework.Entry) → Legal setting (front ++ last ∷ []) → SpentByHand last.op last.reply
last_hand setting front last legal = λ spent.
    let s = split-map (λ (x : Told). x.entry) legal.1.told front (last ∷ []) legal.1.tells in
    let found = last_reply setting legal.1.told s.0 s.1 last legal.1.allowed s.2 s.4 in
    spent_hand found.0 last.op (subst (λ y. IsReply found.0 last.op y) (is_spent last.reply spent) found.1)

-- ---- what a pass has seen

-- it is legal under what the hall's framework runs under
pub legal_of : {Z : Type 0} (can_make : Z → List (Entry Op Reply) → Type 0) (runs_under : Z → Setting) → ((z : Z) (h : List (Entry Op Reply)) → can_make z h ↔ Legal (runs_under z) (map from_hall h)) →
    (z : Z) (q : PassView Op Reply Z) → IsLegal can_make q → q.setting ≡ z ∷ [] → Legal (runs_under z) (map from_hall q.seen)
legal_of can_make runs_under made_is z q legal is = (made_is z q.seen).0 (All-head (λ s. can_make s q.seen) z [] (subst (All (λ s. can_make s q.seen)) is legal.can))

-- so it is within the limit
pub seen_within : (setting : Setting) (seen : List (Entry Op Reply)) → Legal setting (map from_hall seen) → length seen ≤ setting.bounds.entries
seen_within setting seen legal =
    let most = Legal-within setting (map from_hall seen) legal in
    let all = length-map seen from_hall in
    omega (arith, most, all)

-- ---- a call

-- a part of a list is no longer
filter-length : {A : Type 0} (test : A → Bool) (xs : List A) → length (filter test xs) ≤ length xs
filter-length test [] = omega arith
filter-length test (x ∷ xs) = go (test x) (filter-length test xs)
  where
    go : (k : Bool) → length (filter test xs) ≤ length xs → length (cond k (x ∷ filter test xs) (filter test xs)) ≤ length (x ∷ xs)
    go true less = omega (arith, less)
    go false less = omega (arith, less)

full-not : (reply : Reply) → says_full reply ≡ true → is_recorded reply ≡ false
full-not (Refused HistoryFull) e = refl
full-not _ e = absurd (cc e)

other-recorded : (reply : Reply) → says_full reply ≡ false → is_recorded reply ≡ true
other-recorded (Refused HistoryFull) e = absurd (cc e)
other-recorded _ e = refl

module _ {Z : Type 0} (is_recorded_by : Reply → Bool) (gives : List (Entry Op Reply) → Op → Reply → Type 0) (setting : Setting)
    (same : (r : Reply) → is_recorded_by r ≡ is_recorded r) (gives_full : (h : List (Entry Op Reply)) (o : Op) (r : Reply) → gives h o r → IsFullReply setting h r) where
  -- the caller's calls are no more than there may be entries
  within_own : (q : PassView Op Reply Z) → Legal setting (map from_hall q.seen) → calls_by q.caller q.seen ≡ q.own → length (calls_of q) ≤ setting.bounds.entries
  within_own q legal own =
      let most = seen_within setting q.seen legal in
      let less = filter-length (λ (x : Entry Op Reply). x.tag.caller == q.caller) q.seen in
      let count = ap (λ (l : List (Entry Op Reply)). length l) own in
      let mapped = length-map q.own from_hall in
      omega (arith, most, less, count, mapped)

  by_hand : (p q : PassView Op Reply Z) (command : ℕ) (op : Op) (reply : Reply) → Legal setting (map from_hall q.seen) → AddsEntry p q (entry (tag_of p command) op reply) → SpentByHand op reply
  by_hand p q command op reply legal one =
      let is = ap (map from_hall) one.1 ∙ map-append from_hall (p.seen ++ one.0) (entry (tag_of p command) op reply ∷ []) in
      last_hand setting (map from_hall (p.seen ++ one.0)) (record { tag = tag_of p command; op = op; reply = reply }) (subst (Legal setting) is legal)

  answered : (p q : PassView Op Reply Z) (command : ℕ) (op : Op) (reply : Reply) → Legal setting (map from_hall q.seen) → calls_by q.caller q.seen ≡ q.own →
      MatchBool (is_recorded_by reply) (AddsEntry p q (entry (tag_of p command) op reply)) (AddsNone p q × gives q.seen op reply) →
      (k : Bool) → says_full reply ≡ k → IsAnswered k setting.bounds.entries (tag_of p command) op reply (has_seen setting.bounds.entries q) (calls_of p) (calls_of q)
  answered p q command op reply legal own call true e =
      let none : AddsNone p q × gives q.seen op reply = subst (λ b. MatchBool b (AddsEntry p q (entry (tag_of p command) op reply)) (AddsNone p q × gives q.seen op reply)) (same reply ∙ full-not reply e) call in
      (eq-eqb (length q.seen) setting.bounds.entries (gives_full q.seen op reply none.1).0, ap (map from_hall) none.0.1)
  answered p q command op reply legal own call false e =
      let one : AddsEntry p q (entry (tag_of p command) op reply) = subst (λ b. MatchBool b (AddsEntry p q (entry (tag_of p command) op reply)) (AddsNone p q × gives q.seen op reply)) (same reply ∙ other-recorded reply e) call in (
        ap (map from_hall) one.2 ∙ map-append from_hall p.own (entry (tag_of p command) op reply ∷ []),
        within_own q legal own,
        by_hand p q command op reply legal one,
      )

  pub called : {E : Type 0} (p q : PassView Op Reply Z) (command : ℕ) (op : Op) (result : Result Reply E) → Legal setting (map from_hall q.seen) → calls_by q.caller q.seen ≡ q.own →
      IsCall is_recorded_by gives p q command op result → IsCalled result setting.bounds.entries (tag_of p command) op (has_seen setting.bounds.entries q) (calls_of p) (calls_of q)
  called p q command op (Ok reply) legal own call = answered p q command op reply legal own call (says_full reply) refl
  called p q command op (Err e) legal own call = ap (map from_hall) call.1

  more_by : (p q : PassView Op Reply Z) (command : ℕ) (op : Op) (reply : Reply) (recorded : Bool) →
      MatchBool recorded (AddsEntry p q (entry (tag_of p command) op reply)) (AddsNone p q × gives q.seen op reply) → BeginsWith q.seen p.seen
  more_by p q command op reply true one = (one.0 ++ entry (tag_of p command) op reply ∷ [], one.1 ∙ append_assoc p.seen one.0 (entry (tag_of p command) op reply ∷ []))
  more_by p q command op reply false none = none.0.0

  -- what is then seen begins with what was seen before
  pub begins : {E : Type 0} (p q : PassView Op Reply Z) (command : ℕ) (op : Op) (result : Result Reply E) → IsCall is_recorded_by gives p q command op result → BeginsWith q.seen p.seen
  begins p q command op (Ok reply) call = more_by p q command op reply (is_recorded_by reply) call
  begins p q command op (Err e) call = call.0
