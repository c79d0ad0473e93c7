-- A bundle that is known, what the depot refuses, what the table refuses, and a new bundle.
use Rattle.std.proofs.Common.{◌≡◌, ◌+◌, ap, sym, ◌∙◌, refl}
use Rattle.std.specs.Prelude.{is_some, Some, true}
use Rattle.osgi_bundle.specs.Rows.{new_row}
use Rattle.osgi_bundle.specs.declared.kept.BundleKept.{BundleKept}
use Rattle.osgi_reply_resolving.proofs.Brought.{decided_installed, replied_known, replied_uninstalled, replied_unread}
use Rattle.osgi_tables.proofs.Replying.{decided_all}
use Rattle.osgi_ops.specs.Depots.{stored_at}
use Rattle.osgi_ops.specs.Conditions.{depot_refusal}
use Rattle.osgi_ops.specs.declared.depot.Stored.TheVariants as stored
use Rattle.osgi_ops.specs.declared.op.Op.TheVariants as op
use Rattle.osgi_ops.specs.declared.refusal.Refusal.TheVariants.{NoFolder}
use Rattle.osgi_ops.specs.declared.reply.Reply.TheVariants as answer
use Rattle.osgi_reply_resolving.proofs.installing.install.Goals as goal

pub returns-in-Some : goal.returns-in-Some
returns-in-Some c = record {
  decided = decided_all (op.Install c.args.location.now) c.args.tables.now (answer.Bundle c.in-Some.bundle true) refl (replied_known c.args.tables.now c.args.location.now c.in-Some.bundle (sym c.in-Some.ensures.bundle));
}

pub returns-in_default-find : goal.returns-in_default-find
returns-in_default-find c = record {
  decided =
      decided_all (op.Install c.args.location.now) c.args.tables.now (answer.Refused NoFolder) refl
      (replied_unread c.args.tables.now c.args.location.now NoFolder (sym c.in_default.ensures.bundle) (ap depot_refusal c.in_default-find.ensures.found));
}

pub returns-in_ok-revision-in-Ok : goal.returns-in_ok-revision-in-Ok
returns-in_ok-revision-in-Ok c =
    let read : stored_at c.args.tables.now.depot.rows c.args.location.now ≡ Some (stored.Read c.in-Read.revision c.in-Read.manifest) = c.in-Some-find.ensures.found.0 ∙ ap Some c.in-Read.is in
    record {
      decided =
          rw c.in_ok-revision-in-Ok.ensures.same
          (decided_installed c.args.tables.now c.args.location.now c.in-Some-find.row c.in-Read.revision c.in-Read.manifest c.in-Ok.made c.requires.room (sym c.in_default.ensures.bundle) read c.in-Some-find.ensures.found.1
          (rw c.in-Ok.is at c.in_ok-made.ensures.answer));
    }

pub returns-in-Err : goal.returns-in-Err
returns-in-Err c =
    let read : stored_at c.args.tables.now.depot.rows c.args.location.now ≡ Some (stored.Read c.in-Read.revision c.in-Read.manifest) = c.in-Some-find.ensures.found.0 ∙ ap Some c.in-Read.is in
    let due : BundleKept → Type 0 = λ (m : BundleKept). m ≡ new_row (record { 0 = c.args.tables.now.bundles.issued + 1 }) c.args.location.now c.in-Read.revision.name c.in-Read.revision.version (is_some c.in-Read.revision.host) c.in-Some-find.row in
    record {
      decided =
          decided_all (op.Install c.args.location.now) c.args.tables.now (answer.Refused c.in-Err.refusal) refl
          (replied_uninstalled c.args.tables.now c.args.location.now c.in-Read.revision c.in-Read.manifest due c.in-Err.refusal (sym c.in_default.ensures.bundle) read (rw c.in-Err.is at c.in_ok-made.ensures.answer));
    }

pub returns : goal.returns
returns c = record {
  decided =
      decided_all (op.Install c.args.location.now) c.args.tables.now (answer.Refused c.in-Some-2.refusal) refl
      (replied_unread c.args.tables.now c.args.location.now c.in-Some-2.refusal (sym c.in_default.ensures.bundle) (ap depot_refusal c.in-Some-find.ensures.found.0 ∙ sym c.in_ok-refusal.ensures.refusal ∙ c.in-Some-2.is));
}
