-- The rows of a list of wires are determined.
use Rattle.std.proofs.Common.{◌≡◌, List, [], ◌∷◌, map, refl, sym, ◌∙◌}
use Rattle.std.specs.Prelude.{Some}
use Rattle.osgi_base.specs.declared.ids.BundleId.{BundleId}
use Rattle.osgi_legal.proofs.Verdicts.{IsOne}
use Rattle.osgi_ops.specs.Moments.{Moment}
use Rattle.osgi_ops.specs.declared.reply.Reply.TheVariants as answer
use Rattle.osgi_ops.specs.rows.Lists.{ListWiresAnswers}

-- what is shown of each is shown of no other list
shown-same : {X : Type 0} (xs ys : List X) → map Some xs ≡ map Some ys → xs ≡ ys
shown-same [] [] e = refl
shown-same [] (y ∷ ys) e = absurd (cc e)
shown-same (x ∷ xs) [] e = absurd (cc e)
shown-same (x ∷ xs) (y ∷ ys) e = let first : x ≡ y = cc e in let rest : xs ≡ ys = shown-same xs ys (cc e) in λ i. first i ∷ rest i

pub wires-one : (now : Moment) (bundle : BundleId) → IsOne (ListWiresAnswers now bundle)
wires-one now bundle y z a b =
    let rows : a.0 ≡ b.0 = shown-same a.0 b.0 (a.3.wires ∙ sym b.3.wires) in
    let fragments : a.1 ≡ b.1 = shown-same a.1 b.1 (a.3.attached ∙ sym b.3.attached) in
    a.2 ∙ (λ i. answer.Wires (rows i) (fragments i)) ∙ sym b.2
