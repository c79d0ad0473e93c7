-- What is made is inserted.
use Rattle.std.proofs.Common.{◌≡◌, ◌+◌, subst, sym}
use Rattle.osgi_bundle.specs.Rows.{row_refusals, IsTwin, new_row}
use Rattle.osgi_bundle.specs.Stands.{StandsAfter}
use Rattle.osgi_bundle.specs.declared.kept.BundleKept.{BundleKept}
use Rattle.osgi_ops.specs.declared.refusal.Refusal.{Refusal}
use Rattle.osgi_bundle.proofs.Made.{gives_due, made_apart}
use Rattle.osgi_bundle.proofs.table.Table.install.Goals as goal

pub insert-requires-clause-apart : goal.insert-requires-clause-apart
insert-requires-clause-apart c =
    let due : BundleKept → Type 0 = λ (m : BundleKept). m ≡ new_row (record { 0 = c.args.self.now.issued + 1 }) c.args.location c.args.name c.args.version c.args.fragment c.args.row in
    let given = rw c.in-Ok.is at c.in_ok-made.ensures.answer in
    subst (λ (m : BundleKept). (refusal : Refusal) → ¬ IsTwin m.name m.version c.args.self.now.rows refusal) (sym (gives_due (row_refusals c.args.name c.args.version c.args.self.now.rows) due c.in-Ok.made given))
    (made_apart c.args.name c.args.version c.args.self.now.rows due c.in-Ok.made given)

pub returns-in_ok-insert-in-Ok-clause-stands : goal.returns-in_ok-insert-in-Ok-clause-stands
returns-in_ok-insert-in-Ok-clause-stands c =
    let due : BundleKept → Type 0 = λ (m : BundleKept). m ≡ new_row (record { 0 = c.args.self.now.issued + 1 }) c.args.location c.args.name c.args.version c.args.fragment c.args.row in
    let given = rw c.in-Ok.is at c.in_ok-made.ensures.answer in
    subst (λ (m : BundleKept). StandsAfter m.location m.name m.version m.fragment m.row c.in-Ok.made.bundle c.args.self.now c.insert.new.self)
    (gives_due (row_refusals c.args.name c.args.version c.args.self.now.rows) due c.in-Ok.made given) c.in_ok-insert-in-Ok.ensures.stands
