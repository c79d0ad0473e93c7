-- What is found follows, and when nothing is left to look at, all that follows is found.
use Rattle.std.proofs.Common.{◌≡◌, ◌⊎◌, ℕ, ◌<◌, List, [], length, get_or, arith, sym, subst, Contains}
use Rattle.osgi_space_sources.specs.computed.Amongst.{IsAmong}
use Rattle.osgi_space_sources.specs.computed.Pairs.{IsNext, IsUseOfSome, IsUseOfWired}
use Rattle.osgi_space_sources.specs.declared.given.Given.{Given}
use Rattle.osgi_space_sources.specs.laws.Adding.{adds-from, adds-then, item-at}
use Rattle.osgi_space_sources.proofs.Worklist.{worklist-init, worklist-step, worklist-done}
use Rattle.osgi_space_rows.specs.Rows.{RowLists}
use Rattle.osgi_space_rows.specs.declared.rows.Import.{Import}
use Rattle.osgi_space_sources.proofs.constraints.constraints_between.Goals as goal

abbrev begun : RowLists → (ℕ → Type 0) → List Import → List Given → Given → Type 0
begun R A imports givens g = IsUseOfWired R A imports g ⊎ IsUseOfSome R A givens g

none-at : (xs : List ℕ) → xs ≡ [] → (p : ℕ) → ¬ Contains xs p
none-at xs empty p at = let none : Contains [] p = subst (λ ys. Contains ys p) empty at in omega (arith, none.1)

pub loop-next-init : goal.loop-next-init
loop-next-init c = record {
  worklist = worklist-init (begun c.args.rows.now (IsAmong c.args.among) c.args.imports.now c.args.givens.now) (IsNext c.args.rows.now (IsAmong c.args.among)) c.add_uses_of_all.new.found
      (adds-from c.new-found.ensures.empty (adds-then c.in_ok-add_uses_of_imports.ensures.added c.in_ok-add_uses_of_all.ensures.added));
  followed = λ p x at possible among g uses. absurd (none-at _ c.new-followed.ensures.empty p at);
}

pub follow-requires : goal.follow-requires
follow-requires c =
    let found = c.loop-next.found in
    let next = c.loop-next.next in
    let slice = c.items.result.now in
    let none : Given = record { «package» = 0; source = 0 } in
    let within : next < length found = omega arith in
    let pair = get_or slice next none in
    record {
      disputed = c.requires.disputed;
      end = c.requires.ends pair (c.loop-next.invariant.worklist.reached pair (next, within, sym (item-at found slice next none c.items.ensures.items within)));
      followed = c.loop-next.invariant.followed;
    }

pub loop-next-preserved : goal.loop-next-preserved
loop-next-preserved c =
    let found = c.loop-next.found in
    let next = c.loop-next.next in
    let slice = c.items.result.now in
    let none : Given = record { «package» = 0; source = 0 } in
    let within : next < length found = omega arith in
    record {
      worklist = worklist-step (begun c.args.rows.now (IsAmong c.args.among) c.args.imports.now c.args.givens.now) (IsNext c.args.rows.now (IsAmong c.args.among)) found c.follow.new.found next (get_or slice next none) within
          (item-at found slice next none c.items.ensures.items within) c.loop-next.invariant.worklist c.in_ok-follow.ensures.added;
      followed = c.in_ok-follow.ensures.followed;
    }

pub returns : goal.returns
returns c = record {
  following = worklist-done (begun c.args.rows.now (IsAmong c.args.among) c.args.imports.now c.args.givens.now) (IsNext c.args.rows.now (IsAmong c.args.among)) c.loop-next.found c.loop-next.next (omega arith) c.loop-next.invariant.worklist;
}
