-- A place in its own stead, or one added and another taken out.
use Rattle.std.proofs.Common.{◌≡◌, rules}
use Rattle.std.specs.Prelude.{false, true}
use Rattle.osgi_registry_index.specs.Places.{same_place}
use Rattle.osgi_registry_index.proofs.Exact.{places_apart}
use Rattle.osgi_registry_index.proofs.Holds.{moves_elsewhere, moves_nowhere}
use Rattle.osgi_registry_index.proofs.class_index.ClassIndex.move_all.Goals as goal

pub returns-then-eq-clause-moved : goal.returns-then-eq-clause-moved
returns-then-eq-clause-moved c =
    let same : same_place c.args.from c.args.to ≡ true = search rules in
    moves_nowhere c.args.self.now.classes c.args.classes.now c.args.from c.args.to c.requires.stands same

pub returns-clause-moved : goal.returns-clause-moved
returns-clause-moved c =
    let apart : same_place c.args.from c.args.to ≡ false = search rules in
    moves_elsewhere c.args.self.now.classes c.add_all.new.self.classes c.take_all.new.self.classes c.args.classes.now c.args.from c.args.to (λ p same. places_apart c.args.from c.args.to p apart same)
    c.in_ok-add_all.ensures.added c.take_all.ensures.taken
