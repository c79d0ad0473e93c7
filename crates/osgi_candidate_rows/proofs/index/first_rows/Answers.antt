-- One row more.
use Rattle.std.proofs.Common.{◌≡◌, ◌+◌, ◌-◌, ◌≤◌, Some, ap, drop, get_or, length, arith, subst, sym}
use Rattle.std.specs.BTreeMap.{Updates}
use Rattle.osgi_candidate_rows.specs.computed.Index.{AreFirstRows}
use Rattle.osgi_candidate_rows.specs.contracts.index.KeyOrd.TheImpl.{cmp-value}
use Rattle.osgi_candidate_rows.proofs.Indexed.{rows-more, rows-none}
use Rattle.osgi_candidate_rows.proofs.index.first_rows.Goals as goal

pub loop-done-init : goal.loop-done-init
loop-done-init c =
    let choices = c.args.choices.now in
    let all : length choices ≤ length choices - 0 = omega arith in
    rows-none choices c.new-rows.result (length choices - 0) c.new-rows.ensures.empty all

pub loop-done-preserved : goal.loop-done-preserved
loop-done-preserved c =
    let choices = c.args.choices.now in
    let row = length choices - 1 - c.loop-done.done in
    let old = c.loop-done.rows in
    let new = c.insert.new.self in
    let choice = get_or choices row c.index-choices-row.result in
    let here : length choices - (c.loop-done.done + 1) ≡ row = omega arith in
    let before : length choices - c.loop-done.done ≡ row + 1 = omega (arith, c.loop-done-test.true) in
    let updates = subst (λ k. Updates cmp-value.it old new k (Some row)) c.key_of.ensures.key c.in_ok-insert.ensures.updates in
    subst (λ k. AreFirstRows choices (drop k choices) new) (sym here)
    (rows-more choices row choice old new (omega (arith, c.loop-done-test.true)) (ap (get_or choices row) c.index-choices-row.is) (subst (λ k. AreFirstRows choices (drop k choices) old) before c.loop-done.invariant) updates)

pub returns : goal.returns
returns c =
    let choices = c.args.choices.now in
    let end : length choices - c.loop-done.done ≡ 0 = omega (arith, c.loop-done-test.false) in
    record { rows = subst (λ k. AreFirstRows choices (drop k choices) c.loop-done.rows) end c.loop-done.invariant }
