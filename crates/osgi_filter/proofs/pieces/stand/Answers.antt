-- The pieces are the first, those between, and the last.
use Rattle.std.proofs.Common.{◌∙◌, ap, subst, List, [], ◌∷◌, ◌++◌, ℕ}
use Rattle.std.specs.Prelude.{nat_eq, IsTrue, ◌↔◌}
use Rattle.std.specs.Cmp.Lexicographic.{pointwise}
use Rattle.osgi_model.specs.Matching.{Stand}
use Rattle.osgi_filter.proofs.Between.{joined, only}
use Rattle.osgi_filter.proofs.pieces.stand.Goals as goal

pub returns-in-None : goal.returns-in-None
returns-in-None c =
    let same = c.eq.ensures ∙ ap (λ (x : List ℕ). pointwise nat_eq c.args.text.now x) c.bytes.ensures.bytes in
    record { stand = only c.args.pieces.now c.in-Some.others.now c.in-Some.last.now c.args.text.now c.eq.result c.in-Some.ensures.cases.0 c.in-None.ensures.cases same }

pub returns-in-Some-split_first : goal.returns-in-Some-split_first
returns-in-Some-split_first c =
    let first = c.bytes-in-Some-split_first.ensures.bytes in
    let last = c.bytes-in-Some-split_first-2.ensures.bytes in
    let stands = subst (λ (x : List ℕ). IsTrue c.stand_round.result ↔ Stand (x ∷ (c.in-Some-split_first.between.now ++ c.in-Some.last.now ∷ [])) c.args.text.now) first
    (subst (λ (x : List ℕ). IsTrue c.stand_round.result ↔ Stand (c.bytes-in-Some-split_first.result.now ∷ (c.in-Some-split_first.between.now ++ x ∷ [])) c.args.text.now) last c.stand_round.ensures.stand) in
    record {
      stand = joined c.args.pieces.now c.in-Some.others.now c.in-Some-split_first.between.now c.in-Some-split_first.first.now c.in-Some.last.now c.args.text.now c.stand_round.result c.in-Some.ensures.cases.0 c.in-Some-split_first.ensures.cases.0 stands;
    }
