-- Names are compared first, and of one name the revisions that see it.
use Rattle.std.proofs.Common.{◌≡◌, ℕ, List, sym, ◌∙◌, subst}
use Rattle.std.proofs.lemmas.Bool.{false≢true}
use Rattle.std.specs.Cmp.Lexicographic.{slice_cmp}
use Rattle.std.specs.Ordering.{nat_cmp}
use Rattle.std.specs.declared.cmp.Ordering.{Ordering}
use Rattle.std.specs.declared.cmp.Ordering.TheVariants.{Equal, Greater}
use Rattle.osgi_space_rows.specs.Names.{name_numbered}
use Rattle.osgi_space.proofs.Before.{equal-before, greater-before}
use Rattle.osgi_space.proofs.first.is_before.Goals as goal

-- the comparison of equal texts
of-texts : (a b x y : List ℕ) (r o : Ordering) → a ≡ x → b ≡ y → r ≡ slice_cmp nat_cmp a b → r ≡ o → slice_cmp nat_cmp x y ≡ o
of-texts a b x y r o e f is at = let P : List ℕ → List ℕ → Type 0 = λ s t. slice_cmp nat_cmp s t ≡ o in subst (λ s. P s y) e (subst (λ t. P a t) f (sym is ∙ at))

pub returns-in-Equal : goal.returns-in-Equal
returns-in-Equal c =
    let x = name_numbered c.args.names.now c.args.first.package in
    let y = name_numbered c.args.names.now c.args.second.package in
    record {
      before = equal-before x y c.args.first.source c.args.second.source
          (of-texts c.name_bytes-one.result.now c.name_bytes-other.result.now x y c.cmp.result Equal c.name_bytes-one.ensures.name c.name_bytes-other.ensures.name c.cmp.ensures c.in-Equal.is);
    }

pub returns-in-Greater : goal.returns-in-Greater
returns-in-Greater c =
    let x = name_numbered c.args.names.now c.args.first.package in
    let y = name_numbered c.args.names.now c.args.second.package in
    let greater = of-texts c.name_bytes-one.result.now c.name_bytes-other.result.now x y c.cmp.result Greater c.name_bytes-one.ensures.name c.name_bytes-other.ensures.name c.cmp.ensures c.in-Greater.is in
    record { before = (λ t. absurd (false≢true t), λ before. absurd (greater-before x y c.args.first.source c.args.second.source greater before)) }
