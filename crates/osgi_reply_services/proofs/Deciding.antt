-- What is decided of an operation: it is served so once the change is made.
use Rattle.std.proofs.Common.{◌≡◌, ◌≢◌, ◌+◌, ◌-◌, ◌^◌, ◌<◌, ℕ, List, [], ◌∷◌, ◌++◌, length, map, ap, sym, subst, ◌∙◌, refl}
use Rattle.std.specs.Prelude.{true, false, nat_lt, Option, None, Some, option_to_list}
use Rattle.std.specs.Option.{option_map, option_or}
use Rattle.std.proofs.lemmas.Bool.{ltb-true}
use Rattle.osgi_base.specs.declared.ids.BundleId.{BundleId}
use Rattle.osgi_base.specs.declared.ids.ServiceId.{ServiceId}
use Rattle.osgi_model.specs.declared.value.Attribute.{Attribute}
use Rattle.osgi_ops.specs.Listening.{modifications}
use Rattle.osgi_ops.specs.Listening as happening
use Rattle.osgi_ops.specs.declared.limits.TheConstants.{MAX_SERVICES}
use Rattle.osgi_ops.specs.declared.op.Op.TheVariants as op
use Rattle.osgi_ops.specs.declared.refusal.Refusal.{Refusal}
use Rattle.osgi_ops.specs.declared.refusal.Refusal.TheVariants.{InvalidOperation, NoSuchService}
use Rattle.osgi_ops.specs.declared.reply.Reply.TheVariants as answer
use Rattle.osgi_ops.specs.declared.scope.Scope.{Scope}
use Rattle.osgi_ops.specs.declared.scope.Scope.TheVariants.{Singleton}
use Rattle.osgi_ops.specs.declared.service.Service.{Service}
use Rattle.osgi_registry.proofs.Objects.{object_absent, object_there, row_there}
use Rattle.osgi_registry.specs.Rows.{AreInOrder, change_refusal, modify_refusal, new_row, refusal_at, register_refusal, RegistryRows, LiveService, row_at, services_in, twins_refusal, use_count, with_properties}
use Rattle.osgi_registry.specs.laws.Changing.{change_made, IsMade, made_differs, made_of}
use Rattle.osgi_registry.specs.laws.Happening.{services_at-modified, services_at-registered, services_at-rows}
use Rattle.osgi_registry.specs.laws.Standing.{stands_modified, stands_registered, stands_taken, stands_unreturned, stands_used}
use Rattle.osgi_reply_services.proofs.Serving.{served_got, served_modified, served_no_singleton, served_registered, served_taken, served_ungot, served_ungotten, served_unmodified, served_unregistered, served_untaken}
use Rattle.osgi_reply_services.specs.Changes.{happened, IsReplyAndChange}
use Rattle.osgi_reply_services.specs.Served.{IsServedToAll}
use Rattle.osgi_reply_services.specs.declared.change.ServiceChange.TheVariants as change

-- ---- Register

pub decided_registered : (owner : BundleId) (classes : List (List ℕ)) (object : List ℕ) (scope : Scope) (properties : List Attribute) (old : RegistryRows) (made : Service) → scope ≡ Singleton → None ≡ register_refusal properties old.rows →
    made ≡ (new_row (record { 0 = old.issued + 1 }) owner classes object scope properties).service → old.issued < 2 ^ 32 - 1 → length old.rows < MAX_SERVICES → AreInOrder old →
    IsReplyAndChange (op.Register owner classes object scope properties) old (answer.Service made.service) (change.Insert made scope)
decided_registered owner classes object scope properties old made single none is fits room order =
    let next : made.service.0 ≡ old.issued + 1 = ap (λ (s : Service). s.service.0) is in
    let own : made ≡ (new_row made.service owner classes object scope properties).service
    = is ∙ ap (λ (s : Service). (new_row s.service owner classes object scope properties).service) (sym is) in
    record {
      possible = (next, fits, room);
      served = λ new changed.
          served_registered owner classes object scope properties old new made.service single none next (λ history tag stands.
          stands_registered history old new tag owner classes object scope properties made.service stands next
          (changed.0 ∙ ap (λ (s : Service). let row : LiveService = record { service = s; scope = scope; uses = [] } in old.rows ++ row ∷ []) own) changed.1);
      happens = λ history tag stands before after.
          ap (map (happening.service 1)) (services_at-registered history old tag owner classes object scope properties made.service stands order next) ∙ ap (λ (s : Service). happening.service 1 s ∷ []) (sym own);
    }

pub decided_unregistered : (owner : BundleId) (classes : List (List ℕ)) (object : List ℕ) (scope : Scope) (properties : List Attribute) (old : RegistryRows) (refusal : Refusal) → scope ≡ Singleton → Some refusal ≡ register_refusal properties old.rows →
    IsReplyAndChange (op.Register owner classes object scope properties) old (answer.Refused refusal) change.Nothing
decided_unregistered owner classes object scope properties old refusal single some = record {
  possible = tt;
  served = λ new same. served_unregistered owner classes object scope properties old new refusal single some same;
  happens = λ history tag stands before after. refl;
}

-- no factory is registered yet
pub decided_no_singleton : (owner : BundleId) (classes : List (List ℕ)) (object : List ℕ) (scope : Scope) (properties : List Attribute) (old : RegistryRows) → scope ≢ Singleton →
    IsReplyAndChange (op.Register owner classes object scope properties) old (answer.Refused InvalidOperation) change.Nothing
decided_no_singleton owner classes object scope properties old other = record {
  possible = tt;
  served = λ new same. served_no_singleton owner classes object scope properties old new other same;
  happens = λ history tag stands before after. refl;
}

-- ---- Modify

-- a service whose properties may be put is live
pub live_by : (owner : BundleId) (at : Option LiveService) (properties : List Attribute) → None ≡ option_or (refusal_at owner at) (twins_refusal properties) → None ≡ option_map (λ (row : LiveService). (with_properties properties row).service) at → ⊥
live_by owner None properties none is = absurd (cc none)
live_by owner (Some row) properties none is = absurd (cc is)

-- the service as it stands, and as it is made
modified_by : (service : ServiceId) (properties : List Attribute) (old : RegistryRows) (made : Service) → IsMade service properties old.rows made →
    modifications (services_in (option_to_list (row_at service old.rows))) (services_in (option_to_list (option_map (with_properties properties) (row_at service old.rows)))) ≡ happened (change.Modify made) old
modified_by service properties old made of =
    ap (λ at. modifications (services_in (option_to_list at)) (services_in (option_to_list (option_map (with_properties properties) at)))) of.found
    ∙ ap (λ (s : Service). happening.modified of.row.service s ∷ []) (sym of.is)
    ∙ ap (λ at. modifications (services_in (option_to_list at)) (made ∷ [])) (sym of.found)
    ∙ ap (λ s. modifications (services_in (option_to_list (row_at s old.rows))) (made ∷ [])) (sym of.id)

pub decided_modified : (owner : BundleId) (service : ServiceId) (properties : List Attribute) (old : RegistryRows) (made : Service) → None ≡ modify_refusal owner service properties old.rows → AreInOrder old →
    Some made ≡ option_map (λ (row : LiveService). (with_properties properties row).service) (row_at service old.rows) → IsReplyAndChange (op.Modify owner service properties) old answer.Done (change.Modify made)
decided_modified owner service properties old made none order is =
    let of : IsMade service properties old.rows made = made_of service properties old.rows made is in
    record {
      possible = made_differs service properties old.rows made of;
      served = λ new changed.
          served_modified owner service properties old new none (λ history tag stands. stands_modified history old new tag owner service properties stands (changed.0 ∙ change_made old service properties made order of) changed.1);
      happens = λ history tag stands before after.
          (λ i. modifications (services_at-rows history old service stands i) (services_at-modified history old tag owner service properties stands i)) ∙ modified_by service properties old made of;
    }

pub decided_unmodified : (owner : BundleId) (service : ServiceId) (properties : List Attribute) (old : RegistryRows) (refusal : Refusal) → Some refusal ≡ modify_refusal owner service properties old.rows →
    IsReplyAndChange (op.Modify owner service properties) old (answer.Refused refusal) change.Nothing
decided_unmodified owner service properties old refusal some = record {
  possible = tt;
  served = λ new same. served_unmodified owner service properties old new refusal some same;
  happens = λ history tag stands before after. refl;
}

-- ---- Unregister

pub decided_taken : (owner : BundleId) (service : ServiceId) (old : RegistryRows) → None ≡ change_refusal owner service old.rows → IsReplyAndChange (op.Unregister owner service) old answer.Done (change.Remove owner service)
decided_taken owner service old none = record {
  possible = sym none;
  served = λ new changed. served_taken owner service old new none (λ history tag stands. stands_taken history old new tag owner service stands changed.0 changed.1);
  happens = λ history tag stands before after. ap (map (happening.service 4)) (services_at-rows history old service stands);
}

pub decided_untaken : (owner : BundleId) (service : ServiceId) (old : RegistryRows) (refusal : Refusal) → Some refusal ≡ change_refusal owner service old.rows →
    IsReplyAndChange (op.Unregister owner service) old (answer.Refused refusal) change.Nothing
decided_untaken owner service old refusal some = record {
  possible = tt;
  served = λ new same. served_untaken owner service old new refusal some same;
  happens = λ history tag stands before after. refl;
}

-- ---- Get

pub decided_got : (user : BundleId) (service : ServiceId) (old : RegistryRows) (text : List ℕ) → Some text ≡ option_map (λ (row : LiveService). row.service.object) (row_at service old.rows) →
    use_count user service old.rows < 2 ^ 64 - 1 → IsReplyAndChange (op.Get user service) old (answer.Object text) (change.AddUse user service)
decided_got user service old text is countable = record {
  possible = (row_there (row_at service old.rows) text is, countable);
  served = λ new changed.
      served_got user service old new text (object_there (row_at service old.rows) text is) (λ history tag stands. stands_used history old new tag user service text stands changed.0 changed.1);
  happens = λ history tag stands before after. refl;
}

pub decided_ungotten : (user : BundleId) (service : ServiceId) (old : RegistryRows) → None ≡ option_map (λ (row : LiveService). row.service.object) (row_at service old.rows) →
    IsReplyAndChange (op.Get user service) old (answer.Refused NoSuchService) change.Nothing
decided_ungotten user service old is = record {
  possible = tt;
  served = λ new same. served_ungotten user service old new NoSuchService (object_absent (row_at service old.rows) is) same;
  happens = λ history tag stands before after. refl;
}

-- ---- Unget

pub decided_ungot : (user : BundleId) (service : ServiceId) (old : RegistryRows) → true ≡ nat_lt 0 (use_count user service old.rows) → IsReplyAndChange (op.Unget user service) old (answer.Flag true) (change.TakeUse user service)
decided_ungot user service old is = record {
  possible = ltb-true 0 (use_count user service old.rows) (sym is);
  served = λ new stands. served_ungot user service old new true is stands;
  happens = λ history tag stands before after. refl;
}

pub decided_unused : (user : BundleId) (service : ServiceId) (old : RegistryRows) → false ≡ nat_lt 0 (use_count user service old.rows) → IsReplyAndChange (op.Unget user service) old (answer.Flag false) change.Nothing
decided_unused user service old is = record {
  possible = tt;
  served = λ new same.
      subst (λ (r : RegistryRows). IsServedToAll (op.Unget user service) old r (answer.Flag false)) (sym same) (served_ungot user service old old false is (λ history tag stands. stands_unreturned history old tag user service stands));
  happens = λ history tag stands before after. refl;
}
