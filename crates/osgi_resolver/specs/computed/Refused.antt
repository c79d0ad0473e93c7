-- Which world the refusals that are kept belong to.
use Rattle.std.specs.Prelude.{ℕ, IfSome}
use Rattle.std.specs.BTreeMap.{get}
use Rattle.std.specs.Ordering.{nat_cmp}
use Rattle.osgi_resolver.specs.Answers.{IsAnswerTo}
use Rattle.osgi_resolver.specs.declared.answer.Answer.{Answer}
use Rattle.osgi_resolver.specs.declared.answer.Answer.TheVariants as answers
use Rattle.osgi_resolver.specs.declared.refusals.Refusal.{Refusal}
use Rattle.osgi_resolver.specs.declared.refusals.Refusal.TheVariants.{NoWord, Spent}
use Rattle.osgi_resolver.specs.declared.refusals.Refusals.{Refusals}
use Rattle.osgi_world.specs.declared.world.World.{World}

abbrev pub answer_of : Refusal → Answer
answer_of (NoWord cause) = answers.NoWord cause
answer_of (Spent visited) = answers.Spent visited

-- each is the answer to the resolve of its root in this world, within its budget
abbrev pub AreOf : Refusals → World → Type 0
AreOf refusals world = (root : ℕ) → IfSome (get nat_cmp refusals.by_root root) (λ refused. IsAnswerTo world (record { 0 = root }) refused.budget (answer_of refused.refusal))
