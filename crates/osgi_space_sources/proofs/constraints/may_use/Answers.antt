-- By the rows of its uses, and of its fragments.
use Rattle.std.proofs.Common.{◌≡◌, ◌==◌, not, inl, inr, List, length, ◌∙◌, ap, refl}
use Rattle.osgi_space_rows.specs.Rows.{attached_to, uses_for}
use Rattle.osgi_space_rows.specs.declared.rows.Attachment.{Attachment}
use Rattle.osgi_space_rows.specs.declared.rows.Use.{Use}
use Rattle.osgi_space_sources.proofs.Using.{attached-filled, uses-filled}
use Rattle.osgi_space_sources.proofs.constraints.may_use.Goals as goal

pub returns-then-not-is_empty : goal.returns-then-not-is_empty
returns-then-not-is_empty c =
    let R = c.args.rows.now in
    let is : c.is_empty.result ≡ (length (uses_for R c.args.exporter c.args.package) == 0) = c.is_empty.ensures ∙ ap (λ (xs : List Use). length xs == 0) c.of.ensures.rows in
    record { uses = (λ t. inl ((uses-filled R c.args.exporter c.args.package c.is_empty.result is).0 (ap not c.if-not-is_empty.true)), λ may. refl) }

pub returns : goal.returns
returns c =
    let R = c.args.rows.now in
    let e = c.args.exporter in
    let is : c.is_empty.result ≡ (length (uses_for R e c.args.package) == 0) = c.is_empty.ensures ∙ ap (λ (xs : List Use). length xs == 0) c.of.ensures.rows in
    let attached : c.is_empty-2.result ≡ (length (attached_to R e) == 0) = c.is_empty-2.ensures ∙ ap (λ (xs : List Attachment). length xs == 0) c.of-2.ensures.rows in
    record {
      uses = (
        λ t. inr ((attached-filled R e c.is_empty-2.result attached).0 t),
        λ may. elim may [
          | inl own ↦ let yes = (uses-filled R e c.args.package c.is_empty.result is).1 own in let no = c.if-not-is_empty.false in absurd cc
          | inr some ↦ (attached-filled R e c.is_empty-2.result attached).1 some
        ],
      );
    }
