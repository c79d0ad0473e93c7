-- The objects that are held are those of live services, and each is its user's own or its user has a use of the service.
use Rattle.std.proofs.Common.{◌≡◌, Bool, true, false, List, [], ◌∷◌, ◌++◌, sym, subst}
use Rattle.std.specs.Prelude.{◌&&◌, ◌||◌, All, filter, is_some, nat_lt, not}
use Rattle.std.proofs.lemmas.List.Elements.{All-nil, All-weaker, filter_passes}
use Rattle.osgi_ops.specs.Along.{AllAlong}
use Rattle.osgi_ops.specs.Cleaning.{cleans}
use Rattle.osgi_ops.specs.Objects.{is_given_back, HeldObject, object_by, objects, is_still_held}
use Rattle.osgi_ops.specs.Services.{live_service_at, made, uses}
use Rattle.osgi_ops.specs.declared.entry.Entry.{Entry}
use Rattle.osgi_ops.specs.laws.Along.{holds}
use Rattle.osgi_ops.specs.laws.Makes.{objects-push}

abbrev pub IsHeldIn : List Entry → HeldObject → Type 0
IsHeldIn history o = (is_some (live_service_at o.service history) && (o.own || nat_lt 0 (uses o.user o.service history))) ≡ true

-- an object that stays is so: what else is asked of it does not count
outer : (a b c d : Bool) → (a && b && c && d) ≡ true → (a && d) ≡ true
outer true true true d e = e
outer true true false d e = absurd (cc e)
outer true false c d e = absurd (cc e)
outer false b c d e = absurd (cc e)

stay-held : (history : List Entry) (e : Entry) (o : HeldObject) → is_still_held history e o ≡ true → IsHeldIn history o
stay-held history e o is = outer (is_some (live_service_at o.service history)) (not (cleans o.user e.op e.reply)) (not (is_given_back o e.op e.reply)) (o.own || nat_lt 0 (uses o.user o.service history)) is

any : (before history : List Entry) → AllAlong (λ (xs : List Entry) (e : Entry). Unit {0}) before history
any before [] = tt
any before (e ∷ rest) = (tt, any (before ++ e ∷ []) rest)

-- each object that a history has
pub are-held : (history : List Entry) → All (IsHeldIn history) (objects history)
are-held history =
    holds (λ xs e. Unit {0}) (λ h. All (IsHeldIn h) (objects h)) (All-nil (IsHeldIn []))
    (λ front e legal before allowed.
    let now : List Entry = front ++ e ∷ [] in
    let there : List HeldObject = objects front ++ object_by front e (made front e) in
    subst (All (IsHeldIn now)) (sym (objects-push front e))
    (All-weaker (λ o. is_still_held now e o ≡ true) (IsHeldIn now) (stay-held now e) (filter (is_still_held now e) there) (filter_passes (is_still_held now e) there)))
    history (any [] history)
