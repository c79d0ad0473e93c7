-- How many clauses stand before the first that repeats something.
use Rattle.std.proofs.Common.{◌≡◌, ◌<◌, ◌≤◌, ◌+◌, ℕ, List, ◌∷◌, length, take, drop, get_or, ap, sym, ◌∙◌, subst, arith, suc, drop-cons, length-append}
use Rattle.std.specs.Prelude.{All}
use Rattle.std.proofs.lemmas.List.{take-append-drop, take_all}
use Rattle.std.proofs.lemmas.List.Elements.{All-more}
use Rattle.osgi_header.specs.declared.clause.ClauseAt.{ClauseAt}
use Rattle.osgi_clause.specs.computed.Packages.{IsPlainLen}
use Rattle.osgi_clause.specs.Directives.{Repeats}
use Rattle.osgi_clause.proofs.Made.{heads}

abbrev IsOnce : ClauseAt → Type 0
IsOnce item = ¬ Repeats item.clause

pub found_len : (items : List ClauseAt) (n : ℕ) (item : ClauseAt) → n < length items → item ≡ get_or items n item → All (λ (c : ClauseAt). ¬ Repeats c.clause) (take n items) →
    Repeats item.clause → IsPlainLen items n
found_len items n item below is all twice = record {
  within = omega (arith, below);
  before = all;
  at = λ clause rest e.
      let same : item ≡ clause = is ∙ heads (get_or items n item) clause (drop (suc n) items) rest (sym (drop-cons items n item below) ∙ e) in
      subst (λ (c : ClauseAt). Repeats c.clause) same twice;
}

pub once_more : (items : List ClauseAt) (n : ℕ) (item : ClauseAt) → n < length items → item ≡ get_or items n item → All (λ (c : ClauseAt). ¬ Repeats c.clause) (take n items) →
    ¬ Repeats item.clause → All (λ (c : ClauseAt). ¬ Repeats c.clause) (take (n + 1) items)
once_more items n item below is all once = All-more IsOnce items n item below all (subst IsOnce is once)

none_left : (items rest : List ClauseAt) (item : ClauseAt) → drop (length items) items ≡ item ∷ rest → ⊥
none_left items rest item e =
    let whole : take (length items) items ≡ items = take_all (length items) items (omega arith) in
    let both : length (take (length items) items) + length (drop (length items) items) ≡ length items
    = sym (length-append (take (length items) items) (drop (length items) items)) ∙ ap length (take-append-drop (length items) items) in
    omega (arith, both, ap length whole, ap length e)

pub whole_len : (items : List ClauseAt) (n : ℕ) → length items ≤ n → All (λ (c : ClauseAt). ¬ Repeats c.clause) (take n items) → IsPlainLen items (length items)
whole_len items n past all = record {
  within = omega arith;
  before = subst (All IsOnce) (take_all n items past ∙ sym (take_all (length items) items (omega arith))) all;
  at = λ item rest e. absurd (none_left items rest item e);
}
