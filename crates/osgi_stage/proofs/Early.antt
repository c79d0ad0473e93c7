-- What an entry of a legal history says while these operations have not come: each is of an operation that has come, or is refused as an
-- invalid operation. So none updates or uninstalls a bundle, sets a level, begins a walk or a refresh, or has a bundle wait.
use Rattle.std.proofs.Common.{◌≡◌, ◌⊎◌, inl, inr, Bool, true, false, List, [], ◌∷◌, refl, sym, ap, ◌∙◌, subst}
use Rattle.std.specs.Prelude.{All, Option, None}
use Rattle.std.specs.List.{cons_option, filter_map, last_or}
use Rattle.std.proofs.lemmas.List.Elements.{All-head, All-nil, All-push, All-tail, All-weaker}
use Rattle.osgi_base.specs.declared.ids.BundleId.{BundleId}
use Rattle.osgi_legal.specs.Quiet.{QuietRefresh}
use Rattle.osgi_ops.specs.Along.{carry, latest}
use Rattle.osgi_ops.specs.Bundles.{is_uninstall, updated_to}
use Rattle.osgi_legal.specs.Legal.{AreAllowed, IsAllowed}
use Rattle.osgi_ops.specs.Levels.{leveled, moved_to, Refresh, refresh_by, Walk, walk_by}
use Rattle.osgi_ops.specs.Moments.{entries_in, Moment, moment, Told}
use Rattle.osgi_legal.specs.Operations.{IsReply}
use Rattle.osgi_ops.specs.Settings.{Setting}
use Rattle.osgi_legal.specs.Stages.{is_here}
use Rattle.osgi_ops.specs.declared.entry.Entry.{Entry}
use Rattle.osgi_ops.specs.declared.op.Op.{Op}
use Rattle.osgi_ops.specs.declared.op.Op.TheVariants as op
use Rattle.osgi_ops.specs.declared.refusal.Refusal.TheVariants.{InvalidOperation}
use Rattle.osgi_ops.specs.declared.reply.Reply.{Reply}
use Rattle.osgi_ops.specs.declared.reply.Reply.TheVariants as answer
use Rattle.osgi_ops.specs.declared.target.Target.{Target}
use Rattle.osgi_ops.specs.laws.Along.{holds}
use Rattle.osgi_ops.specs.laws.Waiting.{none-waiting, NoneWaits}
use Rattle.osgi_ops.specs.Waiting.{waiting}
use Rattle.osgi_legal.specs.laws.Stages.{late-refused}
use Rattle.osgi_legal.proofs.Owned.{entries-last}
use Rattle.osgi_legal.proofs.Quiet.{refused-quiet}

-- ---- lists of items that say nothing

nothing-read : {A B : Type 0} (sets : A → Option B) (xs : List A) → All (λ x. sets x ≡ None) xs → filter_map sets xs ≡ []
nothing-read sets [] none = refl
nothing-read {A} {B} sets (x ∷ xs) none =
    ap (λ (o : Option B). cons_option o (filter_map sets xs)) (All-head (λ y. sets y ≡ None) x xs none) ∙ nothing-read sets xs (All-tail (λ y. sets y ≡ None) x xs none)

-- where no item sets it, nothing was set last
pub latest-none : {A B : Type 0} (sets : A → Option B) (xs : List A) → All (λ x. sets x ≡ None) xs → latest sets xs ≡ None
latest-none sets xs none = ap (last_or None) (nothing-read sets xs none)

-- a state that each item leaves is left
pub carry-still : {S A : Type 0} (step : S → A → S) (state : S) (xs : List A) → All (λ x. step state x ≡ state) xs → carry step state xs ≡ state
carry-still step state [] still = refl
carry-still step state (x ∷ xs) still =
    ap (λ s. carry step s xs) (All-head (λ y. step state y ≡ state) x xs still) ∙ carry-still step state xs (All-tail (λ y. step state y ≡ state) x xs still)

-- ---- what has come says nothing of these

-- the operation with its reply changes no level, begins no walk and no refresh, and uninstalls and updates no bundle
pub record IsCalm (o : Op) (y : Reply) : Type 0 where
  pub level : (b : BundleId) → leveled b o y ≡ None
  pub moved : moved_to o y ≡ None
  pub walk : (before : Option Walk) (e : Entry) → walk_by before e o y ≡ before
  pub refresh : QuietRefresh o y
  pub gone : (b : BundleId) → is_uninstall b o y ≡ false
  pub updated : (b : BundleId) → updated_to b o y ≡ None
  pub waits : NoneWaits o y

-- a begin has nobody wait
start-waits : (asked : BundleId) (transient : Bool) (y : Reply) → NoneWaits (op.BeginStart asked transient) y
start-waits asked transient (answer.Begun bundle row) b is = cc is
start-waits asked transient y b is = cc is

stop-waits : (target : Target) (transient : Bool) (y : Reply) → NoneWaits (op.BeginStop target transient) y
stop-waits target transient (answer.Begun bundle row) b is = cc is
stop-waits target transient (answer.Idle bundle) b is = cc is
stop-waits target transient y b is = cc is

refused-waits : (o : Op) → NoneWaits o (answer.Refused InvalidOperation)
refused-waits (op.Await asked) b is = cc is
refused-waits (op.BeginStart asked transient) b is = cc is
refused-waits (op.BeginStop target transient) b is = cc is
refused-waits (op.Update u location) b is = cc is
refused-waits (op.Uninstall u) b is = cc is
refused-waits op.DropWirings b is = cc is
refused-waits o b is = cc is

pub here-calm : (o : Op) (y : Reply) → is_here o ≡ true → IsCalm o y
here-calm o y here = record {
  level = λ b. level o b here;
  moved = moved o here;
  walk = λ before e. walks o before e here;
  refresh = λ before e. refreshes o before e here;
  gone = λ b. gone o b here;
  updated = λ b. updated o b here;
  waits = waits o here;
}
  where
    level : (o : Op) (b : BundleId) → is_here o ≡ true → leveled b o y ≡ None
    level (op.SetBundleLevel bundle to) b h = absurd (cc h)
    level o b h = refl

    moved : (o : Op) → is_here o ≡ true → moved_to o y ≡ None
    moved (op.MoveLevel to) h = absurd (cc h)
    moved o h = refl

    walks : (o : Op) (before : Option Walk) (e : Entry) → is_here o ≡ true → walk_by before e o y ≡ before
    walks (op.BeginLevel target) before e h = absurd (cc h)
    walks op.EndLevel before e h = absurd (cc h)
    walks o before e h = refl

    refreshes : (o : Op) (before : Option Refresh) (e : Entry) → is_here o ≡ true → refresh_by before e o y ≡ before
    refreshes (op.BeginRefresh named) before e h = absurd (cc h)
    refreshes op.DropWirings before e h = absurd (cc h)
    refreshes op.EndRefresh before e h = absurd (cc h)
    refreshes o before e h = refl

    gone : (o : Op) (b : BundleId) → is_here o ≡ true → is_uninstall b o y ≡ false
    gone (op.Uninstall bundle) b h = absurd (cc h)
    gone o b h = refl

    updated : (o : Op) (b : BundleId) → is_here o ≡ true → updated_to b o y ≡ None
    updated (op.Update bundle location) b h = absurd (cc h)
    updated o b h = refl

    waits : (o : Op) → is_here o ≡ true → NoneWaits o y
    waits (op.Await asked) h b is = absurd (cc h)
    waits (op.BeginStart asked transient) h b is = start-waits asked transient y b is
    waits (op.BeginStop target transient) h b is = stop-waits target transient y b is
    waits (op.Update u location) h b is = absurd (cc h)
    waits (op.Uninstall u) h b is = absurd (cc h)
    waits op.DropWirings h b is = absurd (cc h)
    waits o h b is = cc is

-- what is refused as an invalid operation says nothing of them either
pub invalid-calm : (o : Op) → IsCalm o (answer.Refused InvalidOperation)
invalid-calm o =
    let q = refused-quiet o InvalidOperation refl in
    record {
      level = q.levels.level;
      moved = q.levels.moved;
      walk = q.levels.walk;
      refresh = q.refresh;
      gone = q.bundles.gone;
      updated = q.bundles.updated;
      waits = λ b is. refused-waits o b is;
    }

-- ---- entries

-- the entry is of an operation that has come, or it is refused as an invalid operation
abbrev pub IsEarly : Entry → Type 0
IsEarly e = (is_here e.op ≡ true) ⊎ (e.reply ≡ answer.Refused InvalidOperation)

pub early-calm : (e : Entry) → IsEarly e → IsCalm e.op e.reply
early-calm e (inl here) = here-calm e.op e.reply here
early-calm e (inr is) = subst (IsCalm e.op) (sym is) (invalid-calm e.op)

-- what is due to an operation that has not come is this refusal
pub due-early : (now : Moment) (o : Op) (y : Reply) → IsReply now o y → (is_here o ≡ true) ⊎ (y ≡ answer.Refused InvalidOperation)
due-early now o y r = by (is_here o) refl
  where
    by : (here : Bool) → is_here o ≡ here → (is_here o ≡ true) ⊎ (y ≡ answer.Refused InvalidOperation)
    by true is = inl is
    by false is = inr (late-refused now o y is r)

-- ---- histories

-- each entry of a legal history is such
pub all-early : (setting : Setting) (told : List Told) → AreAllowed setting told → All IsEarly (entries_in told)
all-early setting told legal =
    holds (IsAllowed setting) (λ l. All IsEarly (entries_in l)) (All-nil IsEarly)
    (λ front x before early a.
    subst (All IsEarly) (sym (entries-last front x))
    (All-push IsEarly (entries_in front) x.entry early (due-early (moment setting front x.entry.tag) x.entry.op x.entry.reply a.replied)))
    told legal

-- so nobody waits in one
pub nobody-waits : (setting : Setting) (told : List Told) → AreAllowed setting told → waiting (entries_in told) ≡ []
nobody-waits setting told legal =
    none-waiting (entries_in told) (All-weaker IsEarly (λ e. NoneWaits e.op e.reply) (λ e is. (early-calm e is).waits) (entries_in told) (all-early setting told legal))
