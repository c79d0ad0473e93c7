-- What is decided of each operation is decided for who asks.
use Rattle.std.proofs.Common.{◌≡◌, ap, map, sym, subst, ◌∙◌, refl}
use Rattle.std.specs.Prelude.{true, false, List, [], ◌∷◌, None, Option, option_to_list, Some}
use Rattle.osgi_stage.proofs.Stage.{late-due, make-end-due}
use Rattle.osgi_ops.specs.Cleaning.{cleaned_by}
use Rattle.osgi_legal.specs.Legal.{entry_of, IsTold}
use Rattle.osgi_ops.specs.Listening as happening
use Rattle.osgi_ops.specs.Listening.{happenings, modifications}
use Rattle.osgi_ops.specs.Moments.{Moment}
use Rattle.osgi_legal.specs.Operations.{IsReply}
use Rattle.osgi_legal.specs.Stages.{is_here}
use Rattle.osgi_ops.specs.declared.asked.Asked.{Asked}
use Rattle.osgi_ops.specs.declared.entry.Entry.{Entry}
use Rattle.osgi_ops.specs.declared.op.Op.{Op}
use Rattle.osgi_ops.specs.declared.op.Op.TheVariants as op
use Rattle.osgi_ops.specs.declared.refusal.Refusal.{Refusal}
use Rattle.osgi_ops.specs.declared.refusal.Refusal.TheVariants.{InvalidOperation}
use Rattle.osgi_ops.specs.declared.reply.Reply.{Reply}
use Rattle.osgi_ops.specs.declared.reply.Reply.TheVariants as answer
use Rattle.osgi_registry.specs.Rows.{LiveService, RegistryRows, row_at, services_in}
use Rattle.osgi_reply_services.specs.Changes as serving
use Rattle.osgi_reply_services.specs.Served.{IsServed, IsServedToAll}
use Rattle.osgi_reply_services.specs.declared.change.ServiceChange.{ServiceChange}
use Rattle.osgi_reply_services.specs.declared.change.ServiceChange.TheVariants as service
use Rattle.osgi_tables.proofs.Asking.{plain_refusal, unasked}
use Rattle.osgi_sights.specs.Shown as shown
use Rattle.osgi_sights.specs.Shown.{AreShown, Shown}
use Rattle.osgi_tables.proofs.Replying.{decided_refused, IsOfServices, none_shown, replied_by, with_services}
use Rattle.osgi_tables.specs.Asked.{asker_here, asker_refusal, is_decided}
use Rattle.osgi_tables.specs.Changes.{IsReplyAndChange, services_shown}
use Rattle.osgi_tables.specs.Replied.{EachTime, IsAnswered, IsAnsweredToAll}
use Rattle.osgi_tables.specs.declared.change.Change.{Change}
use Rattle.osgi_tables.specs.declared.change.Change.TheVariants as change
use Rattle.osgi_tables.specs.declared.tables.Tables.{Tables}
use Rattle.osgi_world.specs.declared.world.World.{World}

-- ---- operations on services

-- what happens to services, as the tables show it
shown_services : (c : ServiceChange) (registry : RegistryRows) → AreShown (services_shown c registry) (serving.happened c registry)
shown_services (service.Insert made scope) registry = ((refl, refl), tt)
shown_services (service.Modify made) registry = by (row_at made.service registry.rows)
  where
    by : (o : Option LiveService) → AreShown (map (λ (row : LiveService). shown.modified row.service made) (option_to_list o)) (modifications (services_in (option_to_list o)) (made ∷ []))
    by None = tt
    by (Some row) = ((refl, refl), tt)
shown_services (service.Remove owner id) registry = by (row_at id registry.rows)
  where
    by : (o : Option LiveService) → AreShown (map (λ (row : LiveService). shown.service 4 row.service) (option_to_list o)) (map (happening.service 4) (services_in (option_to_list o)))
    by None = tt
    by (Some row) = ((refl, refl), tt)
shown_services c registry = tt

replied_served : (asked : Asked) (old : Tables) (new : RegistryRows) (reply : Reply) (happened : List Shown) → is_here asked.op ≡ true → IsOfServices asked.op reply → asker_refusal old.bundles (asker_here asked.op) ≡ None →
    IsServed asked old.registry new reply →
    EachTime asked old (λ now. (before after : World) → AreShown happened (happenings now.before before after (entry_of now asked.op reply) asked.op reply)) → IsAnswered asked old (with_services new old) reply happened
replied_served asked old new reply happened here quiet none served happens = replied_by asked old new reply happened here quiet none (λ now told may stood. served.due now told stood.services) happens served.stands

-- what is decided of the registry is decided of the tables
decided_served : (asked : Asked) (tables : Tables) (reply : Reply) (c : ServiceChange) → is_here asked.op ≡ true → cleaned_by asked.op reply ≡ None → IsOfServices asked.op reply → asker_refusal tables.bundles (asker_here asked.op) ≡ None →
    serving.IsReplyAndChange asked.op tables.registry reply c → IsReplyAndChange asked tables reply (change.Services c)
decided_served asked tables reply c here cleans quiet passes decided = record {
  possible = decided.possible;
  cleans = cleans;
  answered = λ new changed.
      subst (λ t. IsAnswered asked tables t reply (services_shown c tables.registry)) (sym changed.is)
      (replied_served asked tables changed.registry reply (services_shown c tables.registry) here quiet passes (decided.served changed.registry changed.changes asked.tag)
      (λ now told stood before after. subst (AreShown (services_shown c tables.registry)) (sym (decided.happens now.before now.tag stood.services before after)) (shown_services c tables.registry)));
}

pub in_registry : (asked : Asked) (o : Op) (tables : Tables) (x : Reply × Change) (d : Reply × ServiceChange) → (x.0 ≡ d.0) × (x.1 ≡ change.Services d.1) → asked.op ≡ o → is_here o ≡ true → cleaned_by o d.0 ≡ None → IsOfServices o d.0 →
    asker_refusal tables.bundles (asker_here asked.op) ≡ None → serving.IsReplyAndChange o tables.registry d.0 d.1 → IsReplyAndChange asked tables x.0 x.1
in_registry asked o tables x d same is here cleans quiet passes decided =
    subst (λ y. IsReplyAndChange asked tables y x.1) (sym same.0) (subst (IsReplyAndChange asked tables d.0) (sym same.1)
    (decided_served asked tables d.0 d.1 (ap is_here is ∙ here) (ap (λ p. cleaned_by p d.0) is ∙ cleans) (subst (λ p. IsOfServices p d.0) (sym is) quiet) passes
    (subst (λ p. serving.IsReplyAndChange p tables.registry d.0 d.1) (sym is) decided)))

-- what reads the registry alone
pub served_all : (o : Op) (tables : Tables) (reply : Reply) → is_here o ≡ true → IsOfServices o reply → asker_refusal tables.bundles (asker_here o) ≡ None → IsServedToAll o tables.registry tables.registry reply →
    ((past : List Entry) (before after : World) (e : Entry) → happenings past before after e o reply ≡ []) → IsAnsweredToAll o tables reply
served_all o tables reply here quiet passes served none who =
    replied_served (record { tag = who; op = o }) tables tables.registry reply [] here quiet passes (served who)
    (λ now told stood before after. let e : Entry = entry_of now o reply in none_shown (happenings now.before before after e o reply) (none now.before before after e))

-- ---- refusals

-- who asks may not
pub decided_unasked : (asked : Asked) (tables : Tables) (refusal : Refusal) → asker_refusal tables.bundles (asker_here asked.op) ≡ Some refusal → IsReplyAndChange asked tables (answer.Refused refusal) change.Nothing
decided_unasked asked tables refusal is =
    decided_refused asked tables refusal (plain_refusal tables.bundles (asker_here asked.op) refusal is) (λ now told stood. unasked now tables.bundles asked.op refusal told.told stood.bundles is)

-- an operation that is not decided has not come, or is the end of a make, of which none is open
pub undecided_due : (now : Moment) → IsTold now → (o : Op) → is_decided o ≡ false → IsReply now o (answer.Refused InvalidOperation)
undecided_due now told (op.EndMake failed) undecided = make-end-due now told failed
undecided_due now told o undecided = late-due now o undecided

pub decided_not_yet : (asked : Asked) (tables : Tables) → is_decided asked.op ≡ false → IsReplyAndChange asked tables (answer.Refused InvalidOperation) change.Nothing
decided_not_yet asked tables undecided = decided_refused asked tables InvalidOperation refl (λ now told stood. undecided_due now told.told asked.op undecided)
