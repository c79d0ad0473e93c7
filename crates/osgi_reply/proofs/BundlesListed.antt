-- The list of bundles.
use Rattle.std.proofs.Common.{List, map, ap, refl}
use Rattle.osgi_bundle.specs.Rows.{row_of}
use Rattle.osgi_bundle.specs.laws.Standing as table
use Rattle.osgi_legal.specs.Quiet.{QuietServices}
use Rattle.osgi_stage.proofs.Stage.{first-levels, never-waits}
use Rattle.osgi_ops.specs.declared.op.Op.TheVariants as op
use Rattle.osgi_ops.specs.declared.reply.Reply.TheVariants as answer
use Rattle.osgi_ops.specs.declared.rows.BundleRow.{BundleRow}
use Rattle.osgi_tables.proofs.Replying.{of_services, still_tables, unseen}
use Rattle.osgi_tables.specs.Replied.{IsAnsweredToAll}
use Rattle.osgi_tables.specs.declared.tables.Tables.{Tables}

quiet_bundles : (rows : List BundleRow) → QuietServices op.ListBundles (answer.Bundles rows)
quiet_bundles rows = record { registered = λ n since. refl; taken = λ s owner. refl; given = λ s. refl; got = λ u s. refl; let_go = λ u s. refl; cleaned = refl; made = λ tag opened. refl }

pub replied_bundles : (tables : Tables) → IsAnsweredToAll op.ListBundles tables (answer.Bundles (map row_of tables.bundles.rows))
replied_bundles tables who =
    let reply = answer.Bundles (map row_of tables.bundles.rows) in
    unseen (record { tag = who; op = op.ListBundles }) tables tables reply
    (λ now told stood. ap answer.Bundles (table.rows_shown now tables.bundles stood.bundles (first-levels now told.told) (never-waits now told.told)))
    (λ now told stood. stood.world) (λ past before after e. refl)
    (λ now told stood.
    still_tables now tables op.ListBundles reply stood
    (of_services op.ListBundles reply (λ n since. refl) (λ b. refl) (λ b. refl) refl (λ b. refl) refl refl refl (λ l. refl) refl refl (λ now world same. same)) (quiet_bundles (map row_of tables.bundles.rows)))
