-- The text so far, and that of the classes that are left.
use Rattle.std.proofs.Common.{◌≡◌, ◌∷◌, ◌++◌, drop, map}
use Rattle.std.specs.List.{concat}
use Rattle.osgi_console_text.proofs.rows.add_classes.Given as goal

abbrev pub invariant-loop-class : goal.invariant-loop-class
invariant-loop-class l =
    l.out.items ++ concat (map (λ class. 44 ∷ class) (drop l.class-index l.others)) ≡ l.initial.out.items ++ concat (map (λ class. 44 ∷ class) l.others)
