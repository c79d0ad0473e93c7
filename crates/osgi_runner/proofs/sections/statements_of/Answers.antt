-- The statements of the part that was found.
use Rattle.std.proofs.Common.{List, [], ap, ◌∙◌}
use Rattle.std.specs.Prelude.{find, Option}
use Rattle.std.specs.Option.{option_map_or}
use Rattle.osgi_session.specs.Scripts.{is_section}
use Rattle.osgi_session.specs.declared.script.Part.{Part}
use Rattle.osgi_runner.proofs.sections.statements_of.Goals as goal

pub returns-in-Some : goal.returns-in-Some
returns-in-Some c = record {
  statements =
      c.items.ensures.items
      ∙ ap (λ (o : Option Part). option_map_or (λ (part : Part). part.statements) o [])
      (c.in-Some.ensures.found ∙ ap (λ (l : List Part). find (λ (part : Part). is_section c.args.which.now part.section) l) c.parts_of.ensures.parts);
}

pub returns-in-None : goal.returns-in-None
returns-in-None c = record {
  statements =
      ap (λ (o : Option Part). option_map_or (λ (part : Part). part.statements) o [])
      (c.in-None.ensures.found ∙ ap (λ (l : List Part). find (λ (part : Part). is_section c.args.which.now part.section) l) c.parts_of.ensures.parts);
}
