-- A place added under one class after another, or under none.
use Rattle.std.proofs.Common.{arith}
use Rattle.std.specs.Prelude.{true}
use Rattle.std.proofs.lemmas.Grind.{common_steps}
use Rattle.osgi_registry_index.proofs.Holds.{put_same, restored}
use Rattle.osgi_registry_index.proofs.class_index.ClassIndex.add_all.Goals as goal

pub returns-in-Err-clause-unchanged : goal.returns-in-Err-clause-unchanged
returns-in-Err-clause-unchanged c =
    restored c.args.self.now.classes c.add.new.self.classes c.take_all.new.self.classes c.args.classes.now c.loop-class.class-index c.args.place c.requires
    (put_same c.args.self.now.classes c.loop-class.self.classes c.add.new.self.classes _ c.args.place true c.loop-class.invariant c.in-Err.ensures.unchanged) c.take_all.ensures.taken

pub loop-class-preserved : goal.loop-class-preserved
loop-class-preserved c = λ q p. grind (arith, common_steps, c.loop-class.invariant q p, c.in_default.ensures.added q p)
