-- Another one, and attached.
use Rattle.std.proofs.Common.{ap, sym, subst}
use Rattle.osgi_base.specs.declared.ids.RevisionId.{RevisionId}
use Rattle.osgi_resolver_hopeless.proofs.Answering.{no}
use Rattle.osgi_resolver_hopeless.proofs.Newly.{attached-in}
use Rattle.osgi_resolver_path.specs.Standing.{made}
use Rattle.osgi_space_rows.specs.Agree.{id}
use Rattle.osgi_space_rows.specs.Names.{name_numbered}
use Rattle.osgi_space_rows.specs.Rows.{Attaches, RowLists}
use Rattle.osgi_resolver_hopeless.proofs.stuck.is_other_fragment.Goals as goal

pub returns-then-other-fragment : goal.returns-then-other-fragment
returns-then-other-fragment c = record { other = λ P L is_member. no (λ o. o.1 (ap id c.if-other-fragment.true)) }

pub returns : goal.returns
returns c = record {
  other = λ P L is_member.
      let m = c.args.member in
      let g = c.args.other in
      let rows = c.rows.result.now in
      let in_it = attached-in P L.is (made P c.args.path.now) m is_member rows.known (name_numbered rows.names) rows.rows (c.rows.ensures.rows P L) g in (
        λ t. (in_it.0 (subst (λ (R : RowLists). Attaches R m.0 g.0) c.rows-2.ensures.rows (c.is_attached.ensures.attached.0 t)), λ e. c.if-other-fragment.false (ap (λ (r : RevisionId). r.0) e)),
        λ o. c.is_attached.ensures.attached.1 (subst (λ (R : RowLists). Attaches R m.0 g.0) (sym c.rows-2.ensures.rows) (in_it.1 o.0)),
      );
}
