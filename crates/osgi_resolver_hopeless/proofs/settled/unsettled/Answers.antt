-- What is not decided is in the set at first, and the next member is put into it or not.
use Rattle.std.proofs.Common.{◌≡◌, ◌+◌, ℕ, List, [], sym, ◌∙◌, subst, get_or, take}
use Rattle.osgi_space_rules.proofs.Grow.{at_in}
use Rattle.osgi_space_rules.proofs.Items.{no_revision, there}
use Rattle.osgi_space_rules.proofs.OneValue.{not_true}
use Rattle.osgi_resolver_hopeless.proofs.Answering.{known-is}
use Rattle.osgi_resolver_hopeless.proofs.Settling.{Covers, alone-unsettled, covers-done, covers-first, covers-put, covers-skip}
use Rattle.osgi_resolver_path.specs.Standing.{made}
use Rattle.osgi_space_sources.proofs.Lengths.{empty-true}
use Rattle.osgi_space_rows.specs.Agree.{AreRowsOf}
use Rattle.osgi_space_rows.specs.Names.{name_numbered}
use Rattle.osgi_space_rows.specs.Rows.{RowLists}
use Rattle.osgi_world.specs.Lists.{In}
use Rattle.osgi_world.specs.Partial.{partial}
use Rattle.osgi_resolver_hopeless.proofs.settled.unsettled.Goals as goal
use Rattle.osgi_resolver_hopeless.proofs.settled.unsettled.Goals.{then-branch+in_ok-set-2, else-branch}

pub returns-then-is_empty : goal.returns-then-is_empty
returns-then-is_empty c = record {
  unsettled = λ P L.
      let D = made P c.args.path.now in
      let rows = c.rows.result.now in
      let N = name_numbered rows.names in
      let is : AreRowsOf P.world.known (partial P D) N rows.rows = subst (λ K. AreRowsOf K (partial P D) N rows.rows) (known-is c.args.path.now P L rows.known c.rows.ensures.known) (c.rows.ensures.rows P L) in
      let empty : c.rows-2.result.now.required ≡ [] = sym c.all.ensures.rows ∙ empty-true c.all.result.now (sym c.is_empty.ensures ∙ c.if-is_empty.true) in
      let none : rows.rows.required ≡ [] = subst (λ (R : RowLists). R.required ≡ []) c.rows-2.ensures.rows empty in
      alone-unsettled P L.is D N rows.rows is none c.in_ok-set.set (c.in_ok-set.ensures.undecided P L);
}

pub loop-member-init : goal.loop-member-init
loop-member-init c = λ P L. covers-first P (made P c.args.path.now) c.in_ok-set.set (c.in_ok-set.ensures.undecided P L) c.members-member-items.result.now

pub loop-member-preserved : goal.loop-member-preserved
loop-member-preserved c = λ P L.
    let D = made P c.args.path.now in
    let members = c.members-member-items.result.now in
    let i = c.loop-member.member-index in
    let within = c.loop-member-test.true in
    let m = get_or members i no_revision in
    let at = there members i no_revision within in
    let in-it : In m _ = subst (In m) (c.members-member-items.ensures.members P L) (at_in members i m within at) in
    elim c.if-branch.branch [
      | then-branch+in_ok-set-2 w ↦ subst (λ (set : List ℕ). Covers P D set (take (i + 1) members)) (sym w.set-is) (covers-put P D members i m within at in-it c.loop-member.set _ w.in_ok-set-2.ensures.added (c.in_ok-is_unsettled_by_wire.ensures.unsettled P L in-it w.if-branch.true) (c.loop-member.invariant P L))
      | else-branch w ↦ subst (λ (set : List ℕ). Covers P D set (take (i + 1) members)) (sym w.set-is) (covers-skip P D members i m within at in-it c.loop-member.set (λ d. c.in_ok-is_unsettled_by_wire.ensures.decided P L in-it d (λ t. not_true _ w.if-branch.false t)) (c.loop-member.invariant P L))
    ]

pub returns : goal.returns
returns c = record {
  unsettled = λ P L. covers-done P (made P c.args.path.now) c.loop-member.set c.members-member-items.result.now c.loop-member.member-index (c.members-member-items.ensures.members P L) c.loop-member-test.false (c.loop-member.invariant P L);
}
