-- The values of the marks so far.
use Rattle.std.proofs.Common.{◌≡◌, map, take}
use Rattle.osgi_resolver_path.specs.declared.course.Mark.{Mark}
use Rattle.osgi_resolver_path.proofs.views.word.Given as goal

abbrev pub invariant-loop-mark : goal.invariant-loop-mark
invariant-loop-mark l = l.word ≡ map (λ (m : Mark). m.value) (take l.mark-index l.marks)
