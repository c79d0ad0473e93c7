-- The first word of an option is its name, or begins with the name and `=`.
use Rattle.std.proofs.Common.{◌≡◌, ◌∷◌, ◌++◌, List, ℕ, ap, sym, ◌∙◌, inl, inr, length, true, false}
use Rattle.std.specs.Prelude.{◌==◌, codes}
use Rattle.osgi_program.proofs.WordLaws.{append_same, no_option, option_of}
use Rattle.osgi_program.proofs.words.option.Goals as goal

pub returns-in_err-after-clause-only : goal.returns-in_err-after-clause-only
returns-in_err-after-clause-only c =
    let is : c.args.words.now ≡ c.bytes.result.now ∷ c.in_ok-first.more.now = c.in_ok-first.ensures.cases.0 ∙ ap (λ f. f ∷ c.in_ok-first.more.now) (sym c.bytes.ensures.bytes) in
    λ word rest o. absurd (no_option c.args.name.now c.args.words.now c.bytes.result.now c.in_ok-first.more.now is c.in_err-after.ensures.behind word rest o)

pub returns-in_err-behind-clause-only : goal.returns-in_err-behind-clause-only
returns-in_err-behind-clause-only c =
    let is : c.args.words.now ≡ c.bytes.result.now ∷ c.in_ok-first.more.now = c.in_ok-first.ensures.cases.0 ∙ ap (λ f. f ∷ c.in_ok-first.more.now) (sym c.bytes.ensures.bytes) in
    λ word rest o. absurd (elim (option_of c.args.name.now c.args.words.now c.bytes.result.now c.in_ok-after.after.now c.in_ok-first.more.now is c.in_ok-after.ensures.behind word rest o) [
      | inl two ↦ (let bad : false ≡ true = c.if-is_empty.ensures ∙ ap (λ (l : List ℕ). length l == 0) two.0 in cc bad)
      | inr one ↦ c.in_err-behind.ensures.behind word (one.0 ∙ ap (λ (l : List ℕ). l ++ word) (sym c.as_slice.ensures))
    ])

pub returns-clause-only : goal.returns-clause-only
returns-clause-only c =
    let is : c.args.words.now ≡ c.bytes.result.now ∷ c.in_ok-first.more.now = c.in_ok-first.ensures.cases.0 ∙ ap (λ f. f ∷ c.in_ok-first.more.now) (sym c.bytes.ensures.bytes) in
    λ word rest o. elim (option_of c.args.name.now c.args.words.now c.bytes.result.now c.in_ok-after.after.now c.in_ok-first.more.now is c.in_ok-after.ensures.behind word rest o) [
      | inl two ↦ absurd (let bad : false ≡ true = c.if-is_empty.ensures ∙ ap (λ (l : List ℕ). length l == 0) two.0 in cc bad)
      | inr one ↦ (
        append_same (codes "=") c.in_ok-behind.field-0.now word (sym (ap (λ (l : List ℕ). l ++ c.in_ok-behind.field-0.now) c.as_slice.ensures) ∙ sym c.in_ok-behind.ensures.behind ∙ one.0),
        one.1,
      )
    ]
