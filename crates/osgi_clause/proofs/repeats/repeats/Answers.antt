-- A clause repeats a name where the names of its attributes or of its directives are not distinct.
use Rattle.std.proofs.Common.{◌∙◌, ap}
use Rattle.std.specs.Prelude.{map}
use Rattle.osgi_header.specs.declared.clause.Pair.{Pair}
use Rattle.osgi_header.specs.declared.clause.Typed.{Typed}
use Rattle.osgi_clause.proofs.Names.{distinct_names, one_twice, other_twice}
use Rattle.osgi_clause.proofs.repeats.repeats.Goals as goal

pub returns-then-not-branch : goal.returns-then-not-branch
returns-then-not-branch c = record {
  repeats = one_twice _ _ c.in_ok-are_distinct.field-0 c.if-not-branch.true
      (distinct_names (λ (a : Typed). a.name) c.args.clause.now.attributes c.items-2.result.now c.in_ok-are_distinct.field-0
      (c.items-2.ensures.items ∙ c.in_ok-attributes.ensures.names ∙ ap (map (λ (a : Typed). a.name)) c.items.ensures.items) c.in_ok-are_distinct.ensures.distinct);
}

pub returns : goal.returns
returns c = record {
  repeats = other_twice _ _ c.in_ok-are_distinct.field-0 c.in_ok-are_distinct-2.field-0 c.if-not-branch.false
      (distinct_names (λ (a : Typed). a.name) c.args.clause.now.attributes c.items-2.result.now c.in_ok-are_distinct.field-0
      (c.items-2.ensures.items ∙ c.in_ok-attributes.ensures.names ∙ ap (map (λ (a : Typed). a.name)) c.items.ensures.items) c.in_ok-are_distinct.ensures.distinct)
      (distinct_names (λ (d : Pair). d.name) c.args.clause.now.directives c.items-4.result.now c.in_ok-are_distinct-2.field-0
      (c.items-4.ensures.items ∙ c.in_ok-directives.ensures.names ∙ ap (map (λ (d : Pair). d.name)) c.items-3.ensures.items) c.in_ok-are_distinct-2.ensures.distinct);
}
