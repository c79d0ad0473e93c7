-- A clause without a fault asks for its filter.
use Rattle.std.proofs.Common.{◌≡◌, ◌∙◌, ap, sym, subst}
use Rattle.std.specs.Prelude.{codes, false}
use Rattle.std.specs.List.{list_any}
use Rattle.std.proofs.lemmas.Bool.{false≢true}
use Rattle.osgi_world.specs.declared.requirement.Requirement.{Requirement}
use Rattle.osgi_package.specs.Parameters.{directive_value}
use Rattle.osgi_package.specs.Only.{IsOnly}
use Rattle.osgi_clause.specs.Faults.{is_reserved}
use Rattle.osgi_clause.specs.Members.{IsRequired}
use Rattle.osgi_clause.specs.computed.Templates.{IsFilterRead, required_in}
use Rattle.osgi_clause.proofs.ByClause.{not_so, required_capability, required_none}
use Rattle.osgi_clause.proofs.requirements.RequiredCapabilitiesClauseReader.template.Goals as goal

pub returns : goal.returns
returns c =
    let clause = c.args.clause.now in
    let free : list_any is_reserved clause.paths ≡ false = ap (list_any is_reserved) (sym c.items.ensures.items) ∙ sym c.has_reserved.ensures.reserved ∙ c.if-has_reserved.false in
    let filtered = subst (IsFilterRead (directive_value (codes "filter") clause)) c.in-Ok.is c.in_ok-filter.ensures.filter in
    record {
      template = (
        required_none clause (not_so _ c.in_ok-repeats.field-0 c.if-branch.false c.in_ok-repeats.ensures.repeats) filtered.0 (λ reserved. false≢true (sym free ∙ reserved)),
        λ path.
            subst (λ (t : Requirement). IsOnly (IsRequired clause path) (required_in t path)) (sym c.in_ok-requirement.ensures.required)
            (required_capability clause c.in-Ok.filter c.in_ok-ranges.ranges.0 c.in_ok-ranges.ranges.1 filtered.1 c.in_ok-ranges.ensures.first c.in_ok-ranges.ensures.second path),
      );
    }
