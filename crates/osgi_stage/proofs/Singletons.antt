-- While factories have not come, each service that was registered has one object for all.
use Rattle.std.proofs.Common.{◌≡◌, ◌≢◌, ◌+◌, inr, ℕ, Bool, true, false, List, [], ◌∷◌, length, map, refl, sym, subst}
use Rattle.std.specs.Prelude.{cond, All, Some, find}
use Rattle.std.proofs.lemmas.List.Elements.{All-append, All-cons, All-filter, All-head, All-map, All-nil, All-tail}
use Rattle.osgi_base.specs.declared.ids.ServiceId.{ServiceId}
use Rattle.osgi_legal.specs.Legal.{AreAllowed, IsAllowed}
use Rattle.osgi_legal.specs.Operations.{IsReply}
use Rattle.osgi_ops.specs.Moments.{entries_in, Moment, moment, Told}
use Rattle.osgi_ops.specs.Replies.{is_accepted}
use Rattle.osgi_ops.specs.Services.{is_live_service, is_service, live_service_at, live_services, Registered, registered, registered_by}
use Rattle.osgi_ops.specs.Settings.{Setting}
use Rattle.osgi_ops.specs.declared.entry.Entry.{Entry}
use Rattle.osgi_ops.specs.declared.op.Op.{Op}
use Rattle.osgi_ops.specs.declared.op.Op.TheVariants as op
use Rattle.osgi_ops.specs.declared.refusal.Refusal.TheVariants.{InvalidOperation}
use Rattle.osgi_ops.specs.declared.reply.Reply.{Reply}
use Rattle.osgi_ops.specs.declared.scope.Scope.{Scope}
use Rattle.osgi_ops.specs.declared.scope.Scope.TheVariants.{Singleton}
use Rattle.osgi_ops.specs.laws.Along.{holds}
use Rattle.osgi_ops.specs.laws.Services.{later, registered-push}
use Rattle.osgi_legal.proofs.Accepted.{accepted}
use Rattle.osgi_legal.proofs.Owned.{entries-last}

abbrev pub IsSingle : Registered → Type 0
IsSingle r = r.scope ≡ Singleton

abbrev pub AreSingle : List Entry → Type 0
AreSingle history = All IsSingle (registered history)

-- a scope that may not be another is this one
single-scope : (s : Scope) → (s ≢ Singleton → ⊥) → s ≡ Singleton
single-scope Singleton never = refl
single-scope s never = absurd (never (λ e. cc e))

one-single : (k : Bool) (r : Registered) → (k ≡ true → IsSingle r) → All IsSingle (cond k (r ∷ []) [])
one-single true r is = All-cons IsSingle r [] (is refl) (All-nil IsSingle)
one-single false r is = All-nil IsSingle

-- what is due registers such services alone
due-single : (now : Moment) (o : Op) (y : Reply) → IsReply now o y → (n : ℕ) (since : List Entry) → All IsSingle (registered_by n o y since)
due-single now (op.Register owner classes object scope properties) y r n since =
    one-single (is_accepted y)
    (record { service = record { 0 = n + 1 }; owner = owner; classes = classes; object = object; scope = scope; given = properties; since = since })
    (λ e. single-scope scope (λ other. (accepted now (op.Register owner classes object scope properties) y r e).0.1.1.0 InvalidOperation (refl, (other, inr refl))))
due-single now o y r n since = All-nil IsSingle

pub all-single : (setting : Setting) (told : List Told) → AreAllowed setting told → AreSingle (entries_in told)
all-single setting told legal =
    holds (IsAllowed setting) (λ l. AreSingle (entries_in l)) (All-nil IsSingle)
    (λ front x before single a.
    let h : List Entry = entries_in front in
    subst AreSingle (sym (entries-last front x))
    (subst (All IsSingle) (sym (registered-push h x.entry))
    (All-append IsSingle (map (later x.entry) (registered h)) (registered_by (length (registered h)) x.entry.op x.entry.reply [])
    (All-map IsSingle (later x.entry) (registered h) single)
    (due-single (moment setting front x.entry.tag) x.entry.op x.entry.reply a.replied (length (registered h)) []))))
    told legal

found-all : {X : Type 0} (P : X → Type 0) (p : X → Bool) (xs : List X) (x : X) → All P xs → find p xs ≡ Some x → P x
found-all P p [] x all is = absurd (cc is)
found-all {X} P p (y ∷ xs) x all is = go (p y) is (found-all P p xs x (All-tail P y xs all))
  where
    go : (k : Bool) → cond k (Some y) (find p xs) ≡ Some x → (find p xs ≡ Some x → P x) → P x
    go true e rest = let same : y ≡ x = cc e in subst P same (All-head P y xs all)
    go false e rest = rest e

-- so of a live one
pub live-single : (history : List Entry) (service : ServiceId) (r : Registered) → AreSingle history → live_service_at service history ≡ Some r → r.scope ≡ Singleton
live-single history service r single is = found-all IsSingle (is_service service) (live_services history) r (All-filter is_live_service IsSingle (registered history) single) is
