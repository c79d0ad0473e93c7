-- The wire is not of the revision; its package's wires tell; or it is for no package.
use Rattle.std.proofs.Common.{◌≡◌, ◌==◌, ◌≢◌, ◌∙◌, refl, inl, Any, sym, ap, subst}
use Rattle.osgi_base.specs.declared.ids.RevisionId.{RevisionId}
use Rattle.osgi_resolver_hopeless.proofs.Answering.{no}
use Rattle.osgi_resolver_hopeless.proofs.Tested.{some-none}
use Rattle.osgi_resolver_hopeless.proofs.TwoProviders.{other-provider}
use Rattle.osgi_space.proofs.Bridge.{imports-from}
use Rattle.osgi_space.proofs.Numbering.{named, source-number}
use Rattle.osgi_space_rows.specs.Agree.{id}
use Rattle.osgi_space_rows.specs.Names.{name_numbered}
use Rattle.osgi_space_rows.specs.Rows.{RowLists, imports_for, imports_of}
use Rattle.osgi_space_rows.specs.declared.rows.Import.{Import}
use Rattle.osgi_world.specs.Wirings.{IsExport, PackageWire}
use Rattle.osgi_space_sources.specs.laws.Adding.{any-of}
use Rattle.osgi_space_sources.specs.laws.Members.{contains-filter}
use Rattle.std.proofs.lemmas.Bool.{eq-eqb, false≢true}
use Rattle.osgi_resolver_hopeless.proofs.providers.has_other_provider.Goals as goal

pub returns-then-wired-revision : goal.returns-then-wired-revision
returns-then-wired-revision c = record { other = λ W is. no (λ o. c.if-wired-revision.true (ap (λ (r : RevisionId). r.0) o.holder)) }

pub returns-then-not-may_have_other_provider : goal.returns-then-not-may_have_other_provider
returns-then-not-may_have_other_provider c = record {
  other = λ W is. no (λ o.
      let world = c.args.rows.now in
      let r = c.args.revision in
      let number = source-number world W is c.rows-wires.ensures.numbered (inl o.other_wire) in
      let n = number.0 in
      let wire = subst (λ p. PackageWire world.known W r p o.other) (sym (named world.names o.name n number.1)) o.other_wire in
      let at = imports-from world.known W (name_numbered world.names) world.rows is r.0 n o.other.0 wire in
      let row : Import = record { revision = r.0; imported = n; provider = o.other.0 } in
      let Q : Import → Type 0 = λ i. i.provider ≢ c.args.wired.wire.capability.provider.0 in
      let own = contains-filter (λ (i : Import). i.revision == r.0) world.rows.imports row at (eq-eqb r.0 r.0 refl) in
      let any = any-of Q (imports_of world.rows r.0) row own (λ e. o.differ (sym (ap id e))) in
      false≢true (sym c.if-not-may_have_other_provider.true ∙ c.may_have_other_provider.ensures.another (subst (λ (R : RowLists). Any Q (imports_of R r.0)) (sym c.rows-wires.ensures.rows) any)));
}

pub returns-in-Some : goal.returns-in-Some
returns-in-Some c = record {
  other = λ W is.
      let world = c.args.rows.now in
      let N = name_numbered world.names in
      let r = c.args.revision in
      let w = c.args.wired in
      let n = c.in-Some.number in
      let at = (c.exported_number.ensures.number n).0 c.in-Some.is in
      let export : IsExport world.known w.wire.capability.owner w.wire.capability.index (N n) = subst (λ p. IsExport world.known w.wire.capability.owner w.wire.capability.index p) (sym (named world.names at.0 n at.2)) at.1 in
      let other = other-provider world.known W N world.rows is r w n export (ap id c.if-wired-revision.false) in
      let Q : Import → Type 0 = λ row. row.provider ≢ w.wire.capability.provider.0 in
      let rows : c.of.result.now ≡ imports_for world.rows r.0 n = c.of.ensures.rows ∙ ap (λ (R : RowLists). imports_for R r.0 n) c.rows-wires.ensures.rows in (
        λ t. other.0 (subst (λ xs. Any Q xs) rows (c.has_another.ensures.another.0 t)),
        λ o. c.has_another.ensures.another.1 (subst (λ xs. Any Q xs) (sym rows) (other.1 o)),
      );
}

pub returns-in-None : goal.returns-in-None
returns-in-None c = record {
  other = λ W is. no (λ o.
      let number = source-number c.args.rows.now W is c.exported_number.ensures.numbered (inl o.other_wire) in
      some-none c.exported_number.result number.0 c.in-None.is ((c.exported_number.ensures.number number.0).1 (o.name, o.export, number.1)));
}
