-- What is found may be put in force.
use Rattle.std.proofs.Common.{subst, sym}
use Rattle.osgi_resolver.specs.Answers.{IsAnswerTo}
use Rattle.osgi_resolver.specs.declared.answer.Answer.TheVariants.{Found}
use Rattle.osgi_wiring.specs.States.{MayExtend, WiringState}
use Rattle.cases_resolver.proofs.Resolvable.{found_extends}
use Rattle.cases_resolver.proofs.asked.push_answer.Goals as goal

pub extend-requires : goal.extend-requires
extend-requires c =
    let world = c.args.wirings.now.world in
    let a : IsAnswerTo world c.args.root c.from.result (Found c.in-Found.word c.in-Found.added) = rw c.in-Found.is at c.in_ok-word.ensures.answer in
    record {
      extends =
          subst (λ (s : WiringState). MayExtend s.world c.in-Found.added) (sym c.resolve.ensures.unchanged)
          (found_extends world c.args.root c.from.result c.in-Found.word c.in-Found.added a);
    }
