-- A clause has its first fault, or offers its attributes.
use Rattle.std.proofs.Common.{◌≡◌, ◌∙◌, ap, sym, subst}
use Rattle.std.specs.Prelude.{false}
use Rattle.std.specs.List.{list_any}
use Rattle.std.proofs.lemmas.Bool.{false≢true}
use Rattle.osgi_world.specs.declared.capability.Capability.{Capability}
use Rattle.osgi_package.specs.Only.{IsOnly}
use Rattle.osgi_clause.specs.Faults.{is_reserved}
use Rattle.osgi_clause.specs.Members.{IsProvided}
use Rattle.osgi_clause.specs.computed.Templates.{provided_in}
use Rattle.osgi_clause.proofs.ByClause.{not_so, provided_bad, provided_capability, provided_none, provided_reserved}
use Rattle.osgi_clause.proofs.capabilities.ProvidedCapabilitiesClauseReader.template.Goals as goal

pub returns-in-Err : goal.returns-in-Err
returns-in-Err c = record {
  template = provided_bad c.args.clause.now c.in_ok-attributes.field-0 c.in-Err.kind (not_so _ c.in_ok-repeats.field-0 c.if-branch.false c.in_ok-repeats.ensures.repeats)
      c.in_ok-attributes.ensures.attributes c.in-Err.is;
}

pub returns-then-has_reserved : goal.returns-then-has_reserved
returns-then-has_reserved c = record {
  template = provided_reserved c.args.clause.now c.in_ok-attributes.field-0 c.in-Ok.attributes
      (not_so _ c.in_ok-repeats.field-0 c.if-branch.false c.in_ok-repeats.ensures.repeats) c.in_ok-attributes.ensures.attributes c.in-Ok.is
      (ap (list_any is_reserved) (sym c.items.ensures.items) ∙ sym c.has_reserved.ensures.reserved ∙ c.if-has_reserved.true);
}

pub returns : goal.returns
returns c =
    let clause = c.args.clause.now in
    let free : list_any is_reserved clause.paths ≡ false = ap (list_any is_reserved) (sym c.items.ensures.items) ∙ sym c.has_reserved.ensures.reserved ∙ c.if-has_reserved.false in
    record {
      template = (
        provided_none clause c.in_ok-attributes.field-0 c.in-Ok.attributes (not_so _ c.in_ok-repeats.field-0 c.if-branch.false c.in_ok-repeats.ensures.repeats)
            c.in_ok-attributes.ensures.attributes c.in-Ok.is (λ reserved. false≢true (sym free ∙ reserved)),
        λ path.
            subst (λ (t : Capability). IsOnly (IsProvided clause path) (provided_in t path)) (sym c.in_ok-capability.ensures.provided)
            (provided_capability clause c.in_ok-attributes.field-0 c.in-Ok.attributes c.in_ok-attributes.ensures.attributes c.in-Ok.is path),
      );
    }
