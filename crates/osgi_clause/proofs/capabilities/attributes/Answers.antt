-- The values of all attributes are read, or one has the type Double, or one has no value.
use Rattle.std.proofs.Common.{◌∙◌, ap, sym}
use Rattle.std.specs.List.{list_any}
use Rattle.osgi_package.specs.Parameters.{is_double}
use Rattle.osgi_clause.specs.computed.Templates.{double}
use Rattle.osgi_clause.proofs.ByClause.{attributes_bad, attributes_read}
use Rattle.osgi_clause.proofs.capabilities.attributes.Goals as goal

pub returns-then-has_double : goal.returns-then-has_double
returns-then-has_double c = record { attributes = double (ap (list_any is_double) (sym c.items.ensures.items) ∙ sym c.has_double.ensures.double ∙ c.if-has_double.true) }

pub returns-in-Some : goal.returns-in-Some
returns-in-Some c = record {
  attributes = attributes_read c.args.clause.now c.items-2.result.now c.in-Some.attributes c.in_ok-attributes.field-0 c.items-2.ensures.items c.in-Some.is
      (ap (list_any is_double) (c.items-2.ensures.items ∙ sym c.items.ensures.items) ∙ sym c.has_double.ensures.double ∙ c.if-has_double.false) c.in_ok-attributes.ensures.reads
      c.in_ok-attributes.ensures.only;
}

pub returns-in-None : goal.returns-in-None
returns-in-None c = record {
  attributes = attributes_bad c.args.clause.now c.items-2.result.now c.in_ok-attributes.field-0 c.items-2.ensures.items c.in-None.is
      (ap (list_any is_double) (c.items-2.ensures.items ∙ sym c.items.ensures.items) ∙ sym c.has_double.ensures.double ∙ c.if-has_double.false) c.in_ok-attributes.ensures.only;
}
