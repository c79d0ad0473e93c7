-- What a script writes changes nothing.
use Rattle.std.proofs.Common.{◌≡◌, refl}
use Rattle.std.specs.Prelude.{ℕ, List, [], true, None, Some}
use Rattle.osgi_base.specs.Verdict.{Gives}
use Rattle.osgi_base.specs.declared.ids.BundleId.{BundleId}
use Rattle.osgi_legal.specs.Quiet.{IsQuiet}
use Rattle.osgi_legal.proofs.Quiet.{asking-quiet}
use Rattle.osgi_legal.specs.Legal.{entry_of}
use Rattle.osgi_ops.specs.Listening.{happenings}
use Rattle.osgi_ops.specs.Moments.{Moment}
use Rattle.osgi_legal.specs.Operations.{Answers, own_conditions}
use Rattle.osgi_ops.specs.Replies.{verdict}
use Rattle.osgi_legal.specs.Stages.{is_here}
use Rattle.osgi_ops.specs.declared.entry.Entry.{Entry}
use Rattle.osgi_ops.specs.declared.op.Op.{Op}
use Rattle.osgi_ops.specs.declared.op.Op.TheVariants as op
use Rattle.osgi_ops.specs.declared.reply.Reply.TheVariants as answer
use Rattle.osgi_registry.specs.laws.Standing as registry
use Rattle.osgi_tables.proofs.Hearing.{quiet_keeps}
use Rattle.osgi_tables.proofs.Replying.{IsOfServices, none_shown, replied_by, unsaid}
use Rattle.osgi_tables.specs.Asked.{asker_here, asker_refusal}
use Rattle.osgi_tables.specs.Replied.{IsAnsweredToAll}
use Rattle.osgi_tables.specs.declared.tables.Tables.{Tables}

-- an operation that says nothing is done
done : (tables : Tables) (o : Op) → is_here o ≡ true → IsQuiet o answer.Done → IsOfServices o answer.Done → ((now : Moment) → Gives (own_conditions now o) (Answers now o) (verdict answer.Done)) → asker_refusal tables.bundles (asker_here o) ≡ None →
    IsAnsweredToAll o tables answer.Done
done tables o here quiet of due passes who =
    replied_by (record { tag = who; op = o }) tables tables.registry answer.Done [] here of passes (λ now told may stood. due now)
    (λ now told stood before after. none_shown (happenings now.before before after (entry_of now o answer.Done) o answer.Done) (quiet.listeners.happens now.before before after (entry_of now o answer.Done)))
    (λ history tag stood. let e : Entry = record { tag = tag; op = o; reply = answer.Done } in registry.stands_quiet history tables.registry e stood (unsaid e quiet.services))

pub replied_printed : (tables : Tables) (owner : BundleId) (text : List ℕ) → asker_refusal tables.bundles (Some owner) ≡ None → IsAnsweredToAll (op.Print owner text) tables answer.Done
replied_printed tables owner text passes =
    let quiet : IsQuiet (op.Print owner text) answer.Done = asking-quiet (op.Print owner text) answer.Done refl in
    done tables (op.Print owner text) refl quiet (record { bundles = quiet.bundles; phases = quiet.phases; opened = quiet.opened; no_end = refl; keeps = quiet_keeps _ answer.Done quiet.listeners; jobs = quiet.jobs; leaves = λ now world same. same }) (λ now. refl) passes

pub replied_failed : (tables : Tables) (owner : BundleId) (text : List ℕ) → asker_refusal tables.bundles (Some owner) ≡ None → IsAnsweredToAll (op.Fail owner text) tables answer.Done
replied_failed tables owner text passes =
    let quiet : IsQuiet (op.Fail owner text) answer.Done = asking-quiet (op.Fail owner text) answer.Done refl in
    done tables (op.Fail owner text) refl quiet (record { bundles = quiet.bundles; phases = quiet.phases; opened = quiet.opened; no_end = refl; keeps = quiet_keeps _ answer.Done quiet.listeners; jobs = quiet.jobs; leaves = λ now world same. same }) (λ now. refl) passes
