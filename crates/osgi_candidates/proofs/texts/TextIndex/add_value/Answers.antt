-- The elements of a list are added.
use Rattle.osgi_candidates.proofs.ByText.{list_texts}
use Rattle.osgi_candidates.proofs.texts.TextIndex.add_value.Goals as goal

pub returns-in_ok-add_elements-in-Some : goal.returns-in_ok-add_elements-in-Some
returns-in_ok-add_elements-in-Some c =
    let old = c.args.self.now in
    let new = c.add_elements.new.self in
    record { added = list_texts old new c.args.place c.args.name.now c.args.attribute.now c.args.value.now c.in-Some.elements.now c.in-Some.ensures.elements c.in_ok-add_elements-in-Some.ensures.added }
