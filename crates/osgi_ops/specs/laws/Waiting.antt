-- Who waits after one more entry, and where nobody began to.
use Rattle.std.proofs.Common.{◌≡◌, List, [], ◌∷◌, ◌++◌, ap, ◌∙◌, refl}
use Rattle.std.specs.Prelude.{false, All, Option, None, Some}
use Rattle.std.proofs.lemmas.List.Elements.{All-weaker}
use Rattle.osgi_base.specs.declared.ids.BundleId.{BundleId}
use Rattle.osgi_ops.specs.Bundles.{lists_bundle}
use Rattle.osgi_ops.specs.Levels.{refresh}
use Rattle.osgi_ops.specs.Waiting.{drops, is_waiting, members_of, wait_begins, wait_ends, WaitChange, waited_by, waiting, with_wait}
use Rattle.osgi_ops.specs.declared.entry.Entry.{Entry}
use Rattle.osgi_ops.specs.declared.op.Op.{Op}
use Rattle.osgi_ops.specs.declared.reply.Reply.{Reply}
use Rattle.osgi_ops.specs.laws.Along.{carried-last, carried-still}

pub waiting-push : (history : List Entry) (e : Entry) → waiting (history ++ e ∷ []) ≡ with_wait (members_of (refresh history)) (waited_by e.op e.reply) (waiting history)
waiting-push history e = carried-last (λ before list (x : Entry). with_wait (members_of (refresh before)) (waited_by x.op x.reply) list) [] history e

-- an entry that says nothing of it leaves them
pub waiting-quiet : (history : List Entry) (e : Entry) → waited_by e.op e.reply ≡ None → waiting (history ++ e ∷ []) ≡ waiting history
waiting-quiet history e none = waiting-push history e ∙ ap (λ c. with_wait (members_of (refresh history)) c (waiting history)) none

-- an operation with its reply has no bundle wait
abbrev pub NoneWaits : Op → Reply → Type 0
NoneWaits op reply = (b : BundleId) → waited_by op reply ≡ Some (wait_begins b) → ⊥

still : (members : List BundleId) (change : Option WaitChange) → ((b : BundleId) → change ≡ Some (wait_begins b) → ⊥) → with_wait members change [] ≡ []
still members None none = refl
still members (Some (wait_begins b)) none = absurd (none b refl)
still members (Some (wait_ends b)) none = refl
still members (Some drops) none = refl

-- where no entry did, nobody waits
pub none-waiting : (history : List Entry) → All (λ (e : Entry). NoneWaits e.op e.reply) history → waiting history ≡ []
none-waiting history none =
    carried-still (λ before list (x : Entry). with_wait (members_of (refresh before)) (waited_by x.op x.reply) list) [] [] history
    (All-weaker (λ (e : Entry). NoneWaits e.op e.reply) (λ e. (before : List Entry) → with_wait (members_of (refresh before)) (waited_by e.op e.reply) [] ≡ [])
    (λ e m before. still (members_of (refresh before)) (waited_by e.op e.reply) m) history none)

pub not-waiting : (bundle : BundleId) (history : List Entry) → waiting history ≡ [] → is_waiting bundle history ≡ false
not-waiting bundle history none = ap (λ l. lists_bundle l bundle.0) none
