-- One revision more, if it may.
use Rattle.std.proofs.Common.{inl, inr, ℕ, List, [], get_or, sym, subst, arith, Contains}
use Rattle.std.proofs.lemmas.List.{get_or_default}
use Rattle.osgi_space_rows.specs.Rows.{RowLists}
use Rattle.osgi_space_sources.specs.computed.Amongst.{IsAmong}
use Rattle.osgi_space_sources.specs.computed.Clashes.{BreaksUses}
use Rattle.osgi_space_sources.proofs.Whole.{each-more, each-none, each-whole}
use Rattle.osgi_space_sources.proofs.breaking.those_to_ask.Goals as goal

abbrev Is : RowLists → (ℕ → Type 0) → List ℕ → ℕ → Type 0
Is R A list n = BreaksUses R A n → Contains list n

pub loop-revision-init : goal.loop-revision-init
loop-revision-init c = record {
  those = λ n at. let none : Contains [] n = subst (λ (xs : List ℕ). Contains xs n) c.new-list.ensures.items at in absurd (omega (arith, none.1));
  all = each-none (Is c.args.rows.now (IsAmong c.args.among) c.new-list.result.items) c.args.revisions.now;
}

pub loop-revision-preserved : goal.loop-revision-preserved
loop-revision-preserved c =
    let R = c.args.rows.now in
    let A = IsAmong c.args.among in
    let revisions = c.args.revisions.now in
    let i = c.loop-revision.revision-index in
    let n = get_or revisions i 0 in
    let at = get_or_default revisions i 0 n c.loop-revision-test.true in
    let adds = c.in_ok-add_that.ensures in
    record {
      those = λ m there. elim (adds.those m there) [ inl old ↦ c.loop-revision.invariant.those m old | inr e ↦ subst (Contains revisions) (sym e) (i, c.loop-revision-test.true, sym at) ];
      all = each-more (Is R A c.loop-revision.list.items) (Is R A c.add_that.new.list.items) revisions i n c.loop-revision-test.true at
          (λ m is breaks. adds.kept m (is breaks)) c.loop-revision.invariant.all (λ breaks. adds.added (c.in_ok-may.ensures.may breaks));
    }

pub returns-clause-all : goal.returns-clause-all
returns-clause-all c = each-whole (Is c.args.rows.now (IsAmong c.args.among) c.loop-revision.list.items) c.args.revisions.now c.loop-revision.revision-index c.loop-revision-test.false c.loop-revision.invariant.all
