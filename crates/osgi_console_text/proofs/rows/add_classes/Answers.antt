-- Each class after the first adds a comma and its name.
use Rattle.std.proofs.Common.{◌≡◌, ◌∷◌, ◌++◌, List, ℕ, arith}
use Rattle.std.proofs.lemmas.Grind.{common_steps}
use Rattle.osgi_console_text.proofs.Parts.{join-cons, parts_end, parts_step}
use Rattle.osgi_console_text.proofs.rows.add_classes.Goals as goal

pub loop-class-preserved : goal.loop-class-preserved
loop-class-preserved c =
    let class : List ℕ = c.class-item.result in
    let added : c.extend_from_slice-in-loop-class.new.self.items ≡ c.loop-class.out.items ++ (44 ∷ class) = grind (arith, common_steps) in
    parts_step (λ (class : List ℕ). 44 ∷ class) c.in-Some.others.now c.loop-class.class-index class class _ c.loop-class.out.items _ c.loop-class-test.true c.class-item.is added
    c.loop-class.invariant

pub returns : goal.returns
returns c =
    let all = parts_end (λ (class : List ℕ). 44 ∷ class) c.in-Some.others.now c.loop-class.class-index _ c.loop-class.out.items c.loop-class-test.false c.loop-class.invariant in
    grind (arith, common_steps, join-cons)
