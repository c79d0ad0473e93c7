-- By the rows of its wires for packages, and of those for required bundles.
use Rattle.std.proofs.Common.{◌≡◌, [], inl, inr, refl, sym, ◌∙◌}
use Rattle.osgi_space_rows.specs.Rows.{imports_of}
use Rattle.osgi_space_sources.proofs.Alone.{import-there, required-there, wires-there}
use Rattle.osgi_space_sources.proofs.Lengths.{empty-true, empty-false, not_empty, some_item}
use Rattle.osgi_space_sources.proofs.uses.has_wires.Goals as goal

pub returns-then-not-is_empty : goal.returns-then-not-is_empty
returns-then-not-is_empty c =
    let some : ¬ (imports_of c.args.rows.now c.args.revision ≡ []) = λ none. empty-false c.of_revision.result.now (sym c.is_empty.ensures ∙ c.if-not-is_empty.true) (c.of_revision.ensures.rows ∙ none) in
    record { wires = (λ t. import-there c.args.rows.now c.args.revision some, λ has. refl) }

pub returns : goal.returns
returns c =
    let R = c.args.rows.now in
    let r = c.args.revision in
    record {
      wires = (
        λ t. required-there R r (λ none. not_empty c.of.result.now c.is_empty-2.result c.is_empty-2.ensures t (c.of.ensures.rows ∙ none)),
        λ has. elim (wires-there R r has) [
          | inl some ↦ absurd (some (sym c.of_revision.ensures.rows ∙ empty-true c.of_revision.result.now (sym c.is_empty.ensures ∙ c.if-not-is_empty.false)))
          | inr some ↦ some_item c.of.result.now c.is_empty-2.result c.is_empty-2.ensures (λ none. some (sym c.of.ensures.rows ∙ none))
        ],
      );
    }
