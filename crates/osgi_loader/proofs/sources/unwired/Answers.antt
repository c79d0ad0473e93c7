-- What is given, and the revision itself where it exports the package.
use Rattle.std.proofs.Common.{◌↔◌, ◌∙◌, List, ℕ, Contains, subst, sym}
use Rattle.osgi_loader.specs.computed.Wires.{IsGiven, required_by}
use Rattle.osgi_loader.proofs.Shared.{with-own, without-own}
use Rattle.osgi_loader.proofs.sources.unwired.Goals as goal
use Rattle.osgi_loader.proofs.sources.unwired.Goals.{then-has_export+in_ok-push, else-has_export}

pub returns : goal.returns
returns c =
    let world = c.args.wirings.now.world in
    let p = c.args.package.now in
    let numbers = c.in_ok-numbers.numbers.items in
    let given : (n : ℕ) → Contains numbers n ↔ IsGiven world p (required_by world c.args.revision) n =
    subst (λ (l : List ℕ). (n : ℕ) → Contains numbers n ↔ IsGiven world p l n) (c.as_slice.ensures.value ∙ c.in_ok-starts.ensures.required) c.in_ok-numbers.ensures.given in
    record {
      sources = elim c.if-has_export.branch [
        | then-has_export+in_ok-push w ↦ rw (w.numbers-is, w.in_ok-push.ensures.items) (with-own world p c.args.revision numbers given (sym c.has_export.ensures.exports ∙ w.if-has_export.true))
        | else-has_export w ↦ rw w.numbers-is (without-own world p c.args.revision numbers given (sym c.has_export.ensures.exports ∙ w.if-has_export.false))
      ];
    }
