-- What is found for who asks.
use Rattle.std.proofs.Common.{◌≡◌, ℕ, List, [], refl, subst}
use Rattle.std.specs.Prelude.{Option, None, Some}
use Rattle.osgi_base.specs.declared.ids.BundleId.{BundleId}
use Rattle.osgi_base.specs.declared.ids.ServiceId.{ServiceId}
use Rattle.osgi_model.specs.declared.filter.Filter.{Filter}
use Rattle.osgi_ops.specs.Classes.{IsFound, IsOpenTo}
use Rattle.osgi_ops.specs.Services.{live_services, services}
use Rattle.osgi_ops.specs.declared.op.Op.TheVariants as op
use Rattle.osgi_ops.specs.declared.reply.Reply.TheVariants as answer
use Rattle.osgi_registry.specs.Rows.{services_in}
use Rattle.osgi_registry.specs.laws.Standing.{quiet_find, rows_services, stands_quiet}
use Rattle.osgi_tables.proofs.Replying.{of_services, replied_by}
use Rattle.osgi_tables.specs.Asked.{asker_refusal}
use Rattle.osgi_tables.specs.Replied.{IsAnsweredToAll}
use Rattle.osgi_tables.specs.declared.tables.Tables.{Tables}
use Rattle.osgi_world.specs.declared.world.World.{World}

-- the best of the services that are open to who asks in the world that the tables have
pub replied_found : (tables : Tables) (asker : BundleId) (class : List ℕ) (filter : Option Filter) (found : Option ServiceId) → asker_refusal tables.bundles (Some asker) ≡ None →
    IsFound (IsOpenTo tables.wirings.world asker class filter) (services_in tables.registry.rows) found → IsAnsweredToAll (op.Find asker class filter) tables (answer.Best found)
replied_found tables asker class filter found passes is who =
    let o = op.Find asker class filter in
    let reply = answer.Best found in
    replied_by (record { tag = who; op = o }) tables tables.registry reply [] refl
    (of_services o reply (λ n since. refl) (λ b. refl) (λ b. refl) refl (λ b. refl) refl refl refl (λ l. refl) refl refl (λ now world same. same)) passes
    (λ now told may stood. (
      found,
      refl,
      subst (λ (w : World). IsFound (IsOpenTo w asker class filter) (services now.before) found) stood.world
          (subst (λ list. IsFound (IsOpenTo tables.wirings.world asker class filter) list found) (rows_services tables.registry.rows (live_services now.before) stood.services.rows) is),
    ))
    (λ now told stood before after. tt) (λ history tag stood. stands_quiet history tables.registry _ stood (quiet_find tag asker class filter found))
