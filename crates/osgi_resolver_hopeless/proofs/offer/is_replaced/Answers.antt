-- What is no export, or of a package without a number, is not replaced.
use Rattle.std.proofs.Common.{◌≡◌, ◌↔◌, ◌∙◌, inl, [], sym, ap, subst, IsTrue}
use Rattle.osgi_resolver_hopeless.proofs.Answering.{no}
use Rattle.osgi_resolver_hopeless.proofs.Offering.{no-import-of}
use Rattle.osgi_resolver_hopeless.proofs.Tested.{some-none}
use Rattle.osgi_space_sources.proofs.Lengths.{empty-true}
use Rattle.osgi_space.proofs.Bridge.{elsewhere-from, elsewhere-to}
use Rattle.osgi_space.proofs.Numbering.{named, source-number}
use Rattle.osgi_space_sources.specs.computed.RowSources.{ImportsElsewhere as RowsElsewhere}
use Rattle.osgi_space_rows.specs.Names.{name_numbered}
use Rattle.osgi_space_rows.specs.Rows.{RowLists, imports_of}
use Rattle.osgi_world.specs.Wirings.{ImportsElsewhere}
use Rattle.osgi_resolver_hopeless.proofs.offer.is_replaced.Goals as goal

pub returns-then-is_empty : goal.returns-then-is_empty
returns-then-is_empty c = record {
  replaced = λ W is. no (λ r.
      let world = c.args.rows.now in
      let provider = c.args.capability.provider in
      let none : imports_of world.rows provider.0 ≡ [] = ap (λ (R : RowLists). imports_of R provider.0) (sym c.rows.ensures.rows) ∙ sym c.of_revision.ensures.rows ∙ empty-true c.of_revision.result.now (sym c.is_empty.ensures ∙ c.if-is_empty.true) in
      let at = is.imports_from provider.0 r.2.from.0 r.0 r.2.imports in
      no-import-of world.rows provider.0 none at.0 r.2.from.0 at.2);
}

pub returns-in-None : goal.returns-in-None
returns-in-None c = record {
  replaced = λ W is. no (λ r.
      let number = source-number c.args.rows.now W is c.exported_number.ensures.numbered (inl r.2.imports) in
      some-none c.exported_number.result number.0 c.in-None.is ((c.exported_number.ensures.number number.0).1 (r.0, r.1, number.1)));
}

pub returns-in-Some : goal.returns-in-Some
returns-in-Some c = record {
  replaced = λ W is.
      let world = c.args.rows.now in
      let N = name_numbered world.names in
      let number = c.in-Some.number in
      let provider = c.args.capability.provider in
      let at = (c.exported_number.ensures.number number).0 c.in-Some.is in
      let name : N number ≡ at.0 = named world.names at.0 number at.2 in
      let elsewhere : IsTrue c.imports_elsewhere.result ↔ RowsElsewhere world.rows provider.0 number =
      subst (λ (R : RowLists). IsTrue c.imports_elsewhere.result ↔ RowsElsewhere R provider.0 number) c.rows-in-Some.ensures.rows c.imports_elsewhere.ensures.elsewhere in (
        λ t. (at.0, at.1, subst (ImportsElsewhere world.known W provider) name (elsewhere-to world.known W N world.rows is provider.0 number (elsewhere.0 t))),
        λ r.
            let same : r.0 ≡ N number = sym r.1.1 ∙ at.1.1 ∙ sym name in
            elsewhere.1 (elsewhere-from world.known W N world.rows is provider.0 number (subst (ImportsElsewhere world.known W provider) same r.2)),
      );
}
