-- The values of all marks.
use Rattle.std.proofs.Common.{◌∙◌, map, ap, sym, arith}
use Rattle.std.proofs.lemmas.List.{take_all}
use Rattle.osgi_resolver_path.specs.declared.course.Mark.{Mark}
use Rattle.osgi_resolver_path.proofs.Marks.{word-values}
use Rattle.osgi_resolver_path.proofs.views.word.Goals as goal

pub returns : goal.returns
returns c = record {
  word =
      c.loop-mark.invariant
      ∙ ap (map (λ (m : Mark). m.value)) (take_all c.loop-mark.mark-index c.args.marks.now (omega arith))
      ∙ sym (word-values c.args.marks.now);
}
