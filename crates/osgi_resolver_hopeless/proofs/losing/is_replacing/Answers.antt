-- It stays in the revision, or the revision has an export of its package or not.
use Rattle.std.proofs.Common.{sym, ◌∙◌}
use Rattle.osgi_resolver_hopeless.proofs.Answering.{no}
use Rattle.osgi_space_sources.proofs.Lengths.{not_empty, some_item}
use Rattle.osgi_space_sources.proofs.Rows.{has_export, no_export}
use Rattle.osgi_resolver_hopeless.proofs.losing.is_replacing.Goals as goal

pub returns-then-row-revision : goal.returns-then-row-revision
returns-then-row-revision c = record { replacing = no (λ r. r.0 c.if-row-revision.true) }

pub returns : goal.returns
returns c =
    let R = c.args.rows.now in
    let r = c.args.revision in
    let p = c.args.row.imported in
    record {
      replacing = (
        λ t. (c.if-row-revision.false, has_export R r p (λ none. not_empty c.of.result.now c.is_empty.result c.is_empty.ensures t (c.of.ensures.rows ∙ none))),
        λ own. some_item c.of.result.now c.is_empty.result c.is_empty.ensures (λ none. no_export R r p (sym c.of.ensures.rows ∙ none) own.1),
      );
    }
