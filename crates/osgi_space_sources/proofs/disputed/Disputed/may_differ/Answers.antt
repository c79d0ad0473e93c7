-- Where all three answers are no, both are noted as ends, and the package is not disputed: so they do not clash.
use Rattle.std.proofs.Common.{◌≡◌, ◌∙◌, sym, true}
use Rattle.std.proofs.lemmas.Bool.{false_from_ne_true, not-false}
use Rattle.osgi_space_sources.proofs.Agreeing.{clash-disputed}
use Rattle.osgi_space_sources.proofs.disputed.Disputed.may_differ.Goals as goal
use Rattle.osgi_space_sources.proofs.disputed.Disputed.may_differ.Goals.{then-has, else-has}

pub returns-else-not-has_end : goal.returns-else-not-has_end
returns-else-not-has_end c = record {
  same = λ no R are clash. elim c.if-has.branch [
    | then-has w ↦ let value = w.value-is in let yes = w.if-has.true in let none = c.if-not-has_end.false in cc
    | else-has w ↦
        let here = w.has_end.ensures.has.0 (not-false w.has_end.result (sym w.value-is ∙ c.if-not-has_end.false)) in
        let last = c.has_end-else-not-has_end in
        let there = last.ensures.has.0 (not-false last.result (false_from_ne_true _ no)) in
        let is : c.has.result ≡ true = c.has.ensures.has.1 (clash-disputed R c.args.self.now are here there clash) in
        let none = w.if-has.false in cc
  ];
}
