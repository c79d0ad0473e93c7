-- What the registry answers is what is due at each moment that it stands for.
use Rattle.std.proofs.Common.{◌≡◌, ◌≢◌, ◌+◌, ◌≤◌, ◌<◌, ℕ, inl, inr, List, [], ◌∷◌, length, map, ap, sym, subst, ◌∙◌, refl, arith}
use Rattle.std.specs.Prelude.{Bool, true, false, cond, ◌==◌, nat_le, nat_lt, Option, None, Some, Ok, Err, IsSomeAnd}
use Rattle.std.specs.Option.{option_map_or, option_or}
use Rattle.std.proofs.lemmas.Bool.{eqb-false, eqb-true, leb-false, leb-true}
use Rattle.osgi_base.specs.declared.ids.BundleId.{BundleId}
use Rattle.osgi_base.specs.declared.ids.ServiceId.{ServiceId}
use Rattle.osgi_model.specs.declared.filter.Filter.{Filter}
use Rattle.osgi_model.specs.declared.value.Attribute.{Attribute}
use Rattle.osgi_ops.specs.Cleaning.{cleaned_by}
use Rattle.osgi_ops.specs.Classes.{AreRanked, IsOf}
use Rattle.osgi_legal.specs.Operations.{Answers}
use Rattle.osgi_ops.specs.Properties.{has_twins}
use Rattle.osgi_ops.specs.rows.Lists.{service_row}
use Rattle.osgi_ops.specs.Conditions.{IsDeep}
use Rattle.osgi_ops.specs.Moments.{Moment}
use Rattle.osgi_ops.specs.Objects.{bundle_object}
use Rattle.osgi_ops.specs.Services.{live_service_at, live_services, made_uses, Registered, registered, services, uses, uses_without_makes}
use Rattle.osgi_ops.specs.declared.limits.TheConstants.{MAX_SERVICES}
use Rattle.osgi_base.specs.Verdict.{answers, Gives, refuses, Verdict, Where}
use Rattle.osgi_ops.specs.declared.entry.Entry.{Entry}
use Rattle.osgi_ops.specs.declared.op.Op.{Op}
use Rattle.osgi_ops.specs.declared.op.Op.TheVariants as op
use Rattle.osgi_ops.specs.declared.refusal.Many.TheVariants.{Services}
use Rattle.osgi_ops.specs.declared.refusal.Refusal.{Refusal}
use Rattle.osgi_ops.specs.declared.refusal.Refusal.TheVariants.{InvalidOperation, NoSuchService, BadProperties, NotOwner, TooDeep, TooMany}
use Rattle.osgi_ops.specs.declared.reply.Reply.{Reply}
use Rattle.osgi_ops.specs.declared.reply.Reply.TheVariants as answer
use Rattle.osgi_ops.specs.declared.scope.Scope.{Scope}
use Rattle.osgi_ops.specs.declared.scope.Scope.TheVariants.{Singleton}
use Rattle.osgi_ops.specs.declared.service.Service.{Service}
use Rattle.osgi_ops.specs.declared.service.ServiceRow.{ServiceRow}
use Rattle.osgi_ops.specs.laws.Services.{uses-plain}
use Rattle.osgi_ops.specs.rows.Services.{got, got_as, got_reply, make_is_open, IsToMake, shared, to_make}
use Rattle.osgi_stage.proofs.Stage.{live-single-at, no-made-uses}
use Rattle.osgi_registry.specs.laws.Standing.{Found, nowhere, quiet_find_all, quiet_list, quiet_refused, rows_found, rows_length, rows_services, stands_quiet, there}
use Rattle.osgi_registry.specs.Rows.{count_of, modify_refusal, object_at, refusal_at, register_refusal, RegistryRows, LiveService, row_at, services_in, twins_refusal, use_count}
use Rattle.osgi_registry.specs.Stands.{IsRowOf, StandsAfter, StandsFor}
use Rattle.osgi_reply_services.specs.Served.{IsServedToAll}

-- ---- services

abbrev Others : BundleId → Option Registered → Refusal → Type 0
Others owner of refusal = IsSomeAnd of (λ r. (r.owner ≢ owner) × (refusal ≡ NotOwner r.owner))

same_owner : (row : LiveService) (r : Registered) → IsRowOf row r → row.service.owner ≡ r.owner
same_owner row r is = ap (λ (s : Service). s.owner) is.service

refused_there : (owner : BundleId) (row : LiveService) (r : Registered) (refusal : Refusal) (rest : List (Refusal → Type 0)) (due : Reply → Type 0) (own : Bool) → (owner.0 == row.service.owner.0) ≡ own → IsRowOf row r →
    Some refusal ≡ cond own None (Some (NotOwner row.service.owner)) → Gives (Where NoSuchService (Some r ≡ None) ∷ Others owner (Some r) ∷ rest) due (refuses refusal)
refused_there owner row r refusal rest due true own is e = absurd (cc e)
refused_there owner row r refusal rest due false own is e =
    let named : refusal ≡ NotOwner row.service.owner = cc e in
    let other : r.owner ≡ owner → ⊥ = λ same. eqb-false owner.0 row.service.owner.0 own (ap (λ (b : BundleId). b.0) (sym same ∙ sym (same_owner row r is))) in
    inr ((λ f called. cc called.1), inl (refusal, (other, named ∙ ap NotOwner (same_owner row r is)), refl))

-- the refusal by the row is the first that is called for
change_refused : (owner : BundleId) (at : Option LiveService) (of : Option Registered) (refusal : Refusal) (rest : List (Refusal → Type 0)) (due : Reply → Type 0) → Found at of → Some refusal ≡ refusal_at owner at →
    Gives (Where NoSuchService (of ≡ None) ∷ Others owner of ∷ rest) due (refuses refusal)
change_refused owner None (Some r) refusal rest due found e = elim found [ ]
change_refused owner (Some row) None refusal rest due found e = elim found [ ]
change_refused owner None None refusal rest due nowhere e =
    let named : refusal ≡ NoSuchService = cc e in
    inl (NoSuchService, (refl, refl), ap refuses named)
change_refused owner (Some row) (Some r) refusal rest due (there is) e = refused_there owner row r refusal rest due (owner.0 == row.service.owner.0) refl is e

passed_there : (owner : BundleId) (row : LiveService) (r : Registered) (rest : List (Refusal → Type 0)) (due : Reply → Type 0) (v : Verdict Refusal Reply) (own : Bool) → (owner.0 == row.service.owner.0) ≡ own → IsRowOf row r →
    None ≡ cond own None (Some (NotOwner row.service.owner)) → Gives rest due v → Gives (Where NoSuchService (Some r ≡ None) ∷ Others owner (Some r) ∷ rest) due v
passed_there owner row r rest due v true own is e issued =
    let same : r.owner ≡ owner = sym (same_owner row r is) ∙ (λ i. record { 0 = sym (eqb-true owner.0 row.service.owner.0 own) i }) in
    inr ((λ f called. cc called.1), inr ((λ f called. called.0 same), issued))
passed_there owner row r rest due v false own is e issued = absurd (cc e)

-- where there is none, neither is
change_passed : (owner : BundleId) (at : Option LiveService) (of : Option Registered) (rest : List (Refusal → Type 0)) (due : Reply → Type 0) (v : Verdict Refusal Reply) → Found at of → None ≡ refusal_at owner at → Gives rest due v →
    Gives (Where NoSuchService (of ≡ None) ∷ Others owner of ∷ rest) due v
change_passed owner None (Some r) rest due v found e issued = elim found [ ]
change_passed owner (Some row) None rest due v found e issued = elim found [ ]
change_passed owner None None rest due v nowhere e issued = absurd (cc e)
change_passed owner (Some row) (Some r) rest due v (there is) e issued = passed_there owner row r rest due v (owner.0 == row.service.owner.0) refl is e issued

-- ---- each operation

found_now : (history : List Entry) (registry : RegistryRows) (service : ServiceId) → StandsFor history registry → Found (row_at service registry.rows) (live_service_at service history)
found_now history registry service stands = rows_found service registry.rows (live_services history) stands.rows

-- what refuses an operation changes nothing that the registry stands for
refused_stands : (o : Op) (old new : RegistryRows) (refusal : Refusal) → cleaned_by o (answer.Refused refusal) ≡ None → new ≡ old → StandsAfter o (answer.Refused refusal) old new
refused_stands o old new refusal none same history tag stands = subst (StandsFor _) (sym same) (stands_quiet history old _ stands (quiet_refused tag o refusal none))

-- Register
room_is : (history : List Entry) (registry : RegistryRows) → StandsFor history registry → length registry.rows ≡ length (live_services history)
room_is history registry stands = rows_length registry.rows (live_services history) stands.rows

register_refused : (properties : List Attribute) (rows : List LiveService) (count : ℕ) (refusal : Refusal) (due : Reply → Type 0) (twins full : Bool) → has_twins properties ≡ twins → nat_le MAX_SERVICES (length rows) ≡ full → length rows ≡ count →
    Some refusal ≡ option_or (cond twins (Some BadProperties) None) (cond full (Some (TooMany Services)) None) →
    Gives (Where BadProperties (has_twins properties ≡ true) ∷ Where (TooMany Services) (MAX_SERVICES ≤ count) ∷ []) due (refuses refusal)
register_refused properties rows count refusal due true full t f is e =
    let named : refusal ≡ BadProperties = cc e in
    inl (BadProperties, (refl, t), ap refuses named)
register_refused properties rows count refusal due false true t f is e =
    let named : refusal ≡ TooMany Services = cc e in
    inr ((λ g called. absurd (cc (called.1, t))), inl (TooMany Services, (refl, rw is at (leb-true _ _ f)), ap refuses named))
register_refused properties rows count refusal due false false t f is e = absurd (cc e)

register_passed : (properties : List Attribute) (rows : List LiveService) (count : ℕ) (due : Reply → Type 0) (v : Verdict Refusal Reply) (twins full : Bool) → has_twins properties ≡ twins → nat_le MAX_SERVICES (length rows) ≡ full → length rows ≡ count →
    None ≡ option_or (cond twins (Some BadProperties) None) (cond full (Some (TooMany Services)) None) → Gives [] due v →
    Gives (Where BadProperties (has_twins properties ≡ true) ∷ Where (TooMany Services) (MAX_SERVICES ≤ count) ∷ []) due v
register_passed properties rows count due v true full t f is e issued = absurd (cc e)
register_passed properties rows count due v false true t f is e issued = absurd (cc e)
register_passed properties rows count due v false false t f is e issued =
    let room : length rows < MAX_SERVICES = leb-false _ _ f in
    inr ((λ g called. absurd (cc (called.1, t))), inr ((λ g called. let c = called.1 in absurd (omega (arith, room, c, is))), issued))

pub served_registered : (owner : BundleId) (classes : List (List ℕ)) (object : List ℕ) (scope : Scope) (properties : List Attribute) (old new : RegistryRows) (service : ServiceId) → scope ≡ Singleton → None ≡ register_refusal properties old.rows →
    service.0 ≡ old.issued + 1 → StandsAfter (op.Register owner classes object scope properties) (answer.Service service) old new → IsServedToAll (op.Register owner classes object scope properties) old new (answer.Service service)
served_registered owner classes object scope properties old new service single none id stands who = record {
  due = λ now asked stood.
      let is : answer.Service service ≡ answer.Service (record { 0 = length (registered now.before) + 1 }) = λ i. answer.Service (record { 0 = (id ∙ ap (λ n. n + 1) stood.issued) i }) in
      inr (
        (λ g called. called.1.0 single),
        register_passed properties old.rows (length (live_services now.before)) (Answers now (op.Register owner classes object scope properties)) (answers (answer.Service service)) (has_twins properties) (nat_le MAX_SERVICES (length old.rows)) refl refl (room_is now.before old stood) none is,
      );
  stands = stands;
}

pub served_unregistered : (owner : BundleId) (classes : List (List ℕ)) (object : List ℕ) (scope : Scope) (properties : List Attribute) (old new : RegistryRows) (refusal : Refusal) → scope ≡ Singleton → Some refusal ≡ register_refusal properties old.rows →
    new ≡ old → IsServedToAll (op.Register owner classes object scope properties) old new (answer.Refused refusal)
served_unregistered owner classes object scope properties old new refusal single some same who = record {
  due = λ now asked stood.
      inr (
        (λ g called. called.1.0 single),
        register_refused properties old.rows (length (live_services now.before)) refusal (Answers now (op.Register owner classes object scope properties)) (has_twins properties) (nat_le MAX_SERVICES (length old.rows)) refl refl (room_is now.before old stood) some,
      );
  stands = refused_stands _ old new refusal refl same;
}

-- no factory is registered yet
pub served_no_singleton : (owner : BundleId) (classes : List (List ℕ)) (object : List ℕ) (scope : Scope) (properties : List Attribute) (old new : RegistryRows) → scope ≢ Singleton → new ≡ old →
    IsServedToAll (op.Register owner classes object scope properties) old new (answer.Refused InvalidOperation)
served_no_singleton owner classes object scope properties old new other same who = record {
  due = λ now asked stood. inl (InvalidOperation, (refl, (other, inr refl)), refl);
  stands = refused_stands _ old new InvalidOperation refl same;
}

-- Modify
twins_refused : (properties : List Attribute) (refusal : Refusal) (due : Reply → Type 0) (twins : Bool) → has_twins properties ≡ twins → Some refusal ≡ cond twins (Some BadProperties) None →
    Gives (Where BadProperties (has_twins properties ≡ true) ∷ []) due (refuses refusal)
twins_refused properties refusal due true t e =
    let named : refusal ≡ BadProperties = cc e in
    inl (BadProperties, (refl, t), ap refuses named)
twins_refused properties refusal due false t e = absurd (cc e)

twins_passed : (properties : List Attribute) (due : Reply → Type 0) (v : Verdict Refusal Reply) (twins : Bool) → has_twins properties ≡ twins → None ≡ cond twins (Some BadProperties) None → Gives [] due v →
    Gives (Where BadProperties (has_twins properties ≡ true) ∷ []) due v
twins_passed properties due v true t e issued = absurd (cc e)
twins_passed properties due v false t e issued = inr ((λ g called. absurd (cc (called.1, t))), issued)

modify_refused : (owner : BundleId) (at : Option LiveService) (of : Option Registered) (properties : List Attribute) (refusal : Refusal) (due : Reply → Type 0) (first : Option Refusal) → Found at of → refusal_at owner at ≡ first →
    Some refusal ≡ option_or first (twins_refusal properties) → Gives (Where NoSuchService (of ≡ None) ∷ Others owner of ∷ Where BadProperties (has_twins properties ≡ true) ∷ []) due (refuses refusal)
modify_refused owner at of properties refusal due None found is e = change_passed owner at of (Where BadProperties (has_twins properties ≡ true) ∷ []) due (refuses refusal) found (sym is) (twins_refused properties refusal due (has_twins properties) refl e)
modify_refused owner at of properties refusal due (Some other) found is e = change_refused owner at of refusal (Where BadProperties (has_twins properties ≡ true) ∷ []) due found (e ∙ sym is)

modify_passed : (owner : BundleId) (at : Option LiveService) (of : Option Registered) (properties : List Attribute) (due : Reply → Type 0) (v : Verdict Refusal Reply) (first : Option Refusal) → Found at of → refusal_at owner at ≡ first →
    None ≡ option_or first (twins_refusal properties) → Gives [] due v → Gives (Where NoSuchService (of ≡ None) ∷ Others owner of ∷ Where BadProperties (has_twins properties ≡ true) ∷ []) due v
modify_passed owner at of properties due v None found is e issued = change_passed owner at of (Where BadProperties (has_twins properties ≡ true) ∷ []) due v found (sym is) (twins_passed properties due v (has_twins properties) refl e issued)
modify_passed owner at of properties due v (Some other) found is e issued = absurd (cc e)

pub served_modified : (owner : BundleId) (service : ServiceId) (properties : List Attribute) (old new : RegistryRows) → None ≡ modify_refusal owner service properties old.rows →
    StandsAfter (op.Modify owner service properties) answer.Done old new → IsServedToAll (op.Modify owner service properties) old new answer.Done
served_modified owner service properties old new none stands who = record {
  due = λ now asked stood. modify_passed owner (row_at service old.rows) (live_service_at service now.before) properties (Answers now (op.Modify owner service properties)) (answers answer.Done) _ (found_now now.before old service stood) refl none refl;
  stands = stands;
}

pub served_unmodified : (owner : BundleId) (service : ServiceId) (properties : List Attribute) (old new : RegistryRows) (refusal : Refusal) → Some refusal ≡ modify_refusal owner service properties old.rows → new ≡ old →
    IsServedToAll (op.Modify owner service properties) old new (answer.Refused refusal)
served_unmodified owner service properties old new refusal some same who = record {
  due = λ now asked stood. modify_refused owner (row_at service old.rows) (live_service_at service now.before) properties refusal (Answers now (op.Modify owner service properties)) _ (found_now now.before old service stood) refl some;
  stands = refused_stands _ old new refusal refl same;
}

-- Unregister
pub served_taken : (owner : BundleId) (service : ServiceId) (old new : RegistryRows) → None ≡ refusal_at owner (row_at service old.rows) → StandsAfter (op.Unregister owner service) answer.Done old new →
    IsServedToAll (op.Unregister owner service) old new answer.Done
served_taken owner service old new none stands who = record {
  due = λ now asked stood. change_passed owner (row_at service old.rows) (live_service_at service now.before) [] (Answers now (op.Unregister owner service)) (answers answer.Done) (found_now now.before old service stood) none refl;
  stands = stands;
}

pub served_untaken : (owner : BundleId) (service : ServiceId) (old new : RegistryRows) (refusal : Refusal) → Some refusal ≡ refusal_at owner (row_at service old.rows) → new ≡ old →
    IsServedToAll (op.Unregister owner service) old new (answer.Refused refusal)
served_untaken owner service old new refusal some same who = record {
  due = λ now asked stood. change_refused owner (row_at service old.rows) (live_service_at service now.before) refusal [] (Answers now (op.Unregister owner service)) (found_now now.before old service stood) some;
  stands = refused_stands _ old new refusal refl same;
}

services_now : (history : List Entry) (registry : RegistryRows) → StandsFor history registry → services_in registry.rows ≡ services history
services_now history registry stands = rows_services registry.rows (live_services history) stands.rows

-- FindAll
pub served_found_all : (asker : BundleId) (class : List ℕ) (filter : Option Filter) (registry : RegistryRows) (found : List ServiceId) → AreRanked (IsOf class filter) (services_in registry.rows) found →
    IsServedToAll (op.FindAll asker class filter) registry registry (answer.Services found)
served_found_all asker class filter registry found ranked who = record {
  due = λ now asked stood.
      (found, refl, subst (λ list. AreRanked (IsOf class filter) list found) (services_now now.before registry stood) ranked);
  stands = λ history tag stood. stands_quiet history registry _ stood (quiet_find_all tag asker class filter found);
}

-- Get
get_refused : (at : Option LiveService) (of : Option Registered) (refusal : Refusal) (rest : List (Refusal → Type 0)) (due : Reply → Type 0) → Found at of → Err refusal ≡ object_at at →
    Gives (Where NoSuchService (of ≡ None) ∷ rest) due (refuses refusal)
get_refused None (Some r) refusal rest due found e = elim found [ ]
get_refused (Some row) None refusal rest due found e = elim found [ ]
get_refused None None refusal rest due nowhere e =
    let named : refusal ≡ NoSuchService = cc e in
    inl (NoSuchService, (refl, refl), ap refuses named)
get_refused (Some row) (Some r) refusal rest due (there is) e = absurd (cc e)

-- while each service has one object for all, a Get answers that, and none is made
shared_now : (now : Moment) (user : BundleId) (r : Registered) → r.scope ≡ Singleton → got now false user r ≡ shared
shared_now now user r single = ap (λ (s : Scope). got_as false s (bundle_object user r.service now.before)) single

none_to_make : (now : Moment) (user : BundleId) (of : Option Registered) → ((r : Registered) → of ≡ Some r → r.scope ≡ Singleton) → IsSomeAnd of (λ r. got now false user r ≡ to_make) → ⊥
none_to_make now user None single is = is
none_to_make now user (Some r) single is = let bad : shared ≡ to_make = sym (shared_now now user r (single r refl)) ∙ is in cc bad

get_answers : (now : Moment) (user : BundleId) (at : Option LiveService) (of : Option Registered) (text : List ℕ) (making : Refusal → Type 0) (deep : Type 0) → ((r : Registered) → of ≡ Some r → r.scope ≡ Singleton) → Found at of →
    Ok text ≡ object_at at →
    Gives (Where NoSuchService (of ≡ None) ∷ (λ refusal. IsSomeAnd of (λ r. got now false user r ≡ to_make) × making refusal) ∷ Where TooDeep (IsSomeAnd of (λ r. got now false user r ≡ to_make) × deep) ∷ [])
    (λ reply. IsSomeAnd of (λ r. reply ≡ got_reply now r (got now false user r))) (answers (answer.Object text))
get_answers now user None (Some r) text making deep single found e = elim found [ ]
get_answers now user (Some row) None text making deep single found e = elim found [ ]
get_answers now user None None text making deep single nowhere e = absurd (cc e)
get_answers now user (Some row) (Some r) text making deep single (there is) e =
    let same : text ≡ row.service.object = cc e in
    let none = none_to_make now user (Some r) single in
    inr (
      (λ f called. cc called.1),
      inr (
        (λ f called. none called.0),
        inr ((λ f called. none called.1.0), ap answer.Object (same ∙ ap (λ (s : Service). s.object) is.service) ∙ sym (ap (got_reply now r) (shared_now now user r (single r refl)))),
      ),
    )

pub served_got : (user : BundleId) (service : ServiceId) (old new : RegistryRows) (text : List ℕ) → Ok text ≡ object_at (row_at service old.rows) → StandsAfter (op.Get user service) (answer.Object text) old new →
    IsServedToAll (op.Get user service) old new (answer.Object text)
served_got user service old new text got_it stands who = record {
  due = λ now asked stood.
      get_answers now user (row_at service old.rows) (live_service_at service now.before) text (make_is_open now user service) (IsDeep now) (live-single-at now asked.told service) (found_now now.before old service stood) got_it;
  stands = stands;
}

pub served_ungotten : (user : BundleId) (service : ServiceId) (old new : RegistryRows) (refusal : Refusal) → Err refusal ≡ object_at (row_at service old.rows) → new ≡ old →
    IsServedToAll (op.Get user service) old new (answer.Refused refusal)
served_ungotten user service old new refusal none same who = record {
  due = λ now asked stood.
      get_refused (row_at service old.rows) (live_service_at service now.before) refusal
      ((λ f. IsToMake now false user service × make_is_open now user service f) ∷ Where TooDeep (IsToMake now false user service × IsDeep now) ∷ []) (Answers now (op.Get user service)) (found_now now.before old service stood) none;
  stands = refused_stands _ old new refusal refl same;
}

-- Unget
count_found : (user : BundleId) (at : Option LiveService) (of : Option Registered) → Found at of → option_map_or (λ row. count_of user row.uses) at 0 ≡ option_map_or (uses_without_makes user) of 0
count_found user None (Some r) found = elim found [ ]
count_found user (Some row) None found = elim found [ ]
count_found user None None nowhere = refl
count_found user (Some row) (Some r) (there is) = is.uses user

-- the registry counts the uses of the history, where none of them began with a make
pub uses_now : (history : List Entry) (registry : RegistryRows) (user : BundleId) (service : ServiceId) → made_uses history ≡ [] → StandsFor history registry → use_count user service registry.rows ≡ uses user service history
uses_now history registry user service none stands =
    count_found user (row_at service registry.rows) (live_service_at service history) (found_now history registry service stands) ∙ sym (uses-plain user service history none)

pub served_ungot : (user : BundleId) (service : ServiceId) (old new : RegistryRows) (value : Bool) → value ≡ nat_lt 0 (use_count user service old.rows) → StandsAfter (op.Unget user service) (answer.Flag value) old new →
    IsServedToAll (op.Unget user service) old new (answer.Flag value)
served_ungot user service old new value is stands who = record {
  due = λ now asked stood. ap answer.Flag (is ∙ ap (nat_lt 0) (uses_now now.before old user service (no-made-uses now asked.told) stood));
  stands = stands;
}

-- ListServices
pub served_listed : (registry : RegistryRows) (rows : List ServiceRow) → rows ≡ map service_row (services_in registry.rows) → IsServedToAll op.ListServices registry registry (answer.ServiceRows rows)
served_listed registry rows are who = record {
  due = λ now asked stood. ap answer.ServiceRows (are ∙ ap (map service_row) (services_now now.before registry stood));
  stands = λ history tag stood. stands_quiet history registry _ stood (quiet_list tag rows);
}
