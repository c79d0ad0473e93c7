-- One row more, and all of them.
use Rattle.std.proofs.Common.{◌↔◌, ◌+◌, ℕ, List, get_or, sym, subst, take, Contains}
use Rattle.std.proofs.lemmas.List.{get_or_default}
use Rattle.osgi_resolver_path.proofs.Fragments.{AreOf, all-rows, no-row, row-more}
use Rattle.osgi_space_rows.specs.Rows.{Attaches}
use Rattle.osgi_space_rows.specs.declared.rows.Attachment.{Attachment}
use Rattle.osgi_resolver_path.proofs.attached.attached_numbers.Goals as goal

pub loop-row-init : goal.loop-row-init
loop-row-init c = no-row c.in_ok-numbers.numbers.items c.in_ok-numbers.ensures.items

pub loop-row-preserved : goal.loop-row-preserved
loop-row-preserved c =
    let rows = c.of-attached.result.now in
    let i = c.loop-row.row-index in
    let within = c.loop-row-test.true in
    let none : Attachment = record { host = 0; fragment = 0 } in
    let row = get_or rows i none in
    subst (λ (list : List ℕ). AreOf list (take (i + 1) rows)) (sym c.in_ok-push.ensures.items)
    (row-more c.loop-row.numbers.items rows i row within (get_or_default rows i none row within) c.loop-row.invariant)

pub returns : goal.returns
returns c = record {
  numbers = λ n.
      let R = c.args.rows.now in
      let h = c.args.host in
      subst (λ (xs : List ℕ). Contains xs n ↔ Attaches R h.0 n) (sym c.in_ok-of.ensures.revisions)
      (all-rows R h.0 c.loop-row.numbers.items c.of-attached.result.now c.loop-row.row-index c.of-attached.ensures.rows c.loop-row-test.false c.loop-row.invariant n);
}
