-- A place of the class.
use Rattle.std.proofs.Common.{ap, sym, ◌∙◌, rules}
use Rattle.std.specs.Prelude.{cond, None, Some, true}
use Rattle.std.specs.BTreeMap.{is_at}
use Rattle.std.specs.List.{list_any}
use Rattle.std.proofs.lemmas.Result.{err_from_is_err_and}
use Rattle.osgi_registry_index.specs.Places.{place_cmp, same_place}
use Rattle.osgi_registry_index.proofs.Holds.{put_at, PutsAt, same_at}
use Rattle.osgi_registry_index.proofs.class_index.ClassIndex.add.Goals as goal

pub returns-in_err-insert-clause-unchanged : goal.returns-in_err-insert-clause-unchanged
returns-in_err-insert-clause-unchanged c =
    let p = err_from_is_err_and c.from_residual.result c.from_residual.ensures.1 in
    rw p.1
    (same_at c.args.self.now.classes (c.get_mut.follows.lender c.insert.new.self) c.args.class.now (Some c.in-Some.places.now) (Some c.insert.new.self) (sym c.in-Some.ensures.value)
    ((c.get_mut.follows.holds c.insert.new.self).3 (search rules)).0 (λ q. ap (list_any (is_at (place_cmp q))) c.in_err-insert.ensures.err))

pub returns-in-Some-clause-added : goal.returns-in-Some-clause-added
returns-in-Some-clause-added c =
    put_at c.args.self.now.classes (c.get_mut.follows.lender c.insert.new.self) c.args.class.now c.args.place true (Some c.in-Some.places.now) (Some c.insert.new.self) (sym c.in-Some.ensures.value)
    ((c.get_mut.follows.holds c.insert.new.self).3 (search rules)).0 c.in_ok-insert.ensures.updates.0

pub returns-clause-added : goal.returns-clause-added
returns-clause-added c =
    let puts : PutsAt c.args.self.now.classes c.insert-3.new.self c.args.class.now (Some c.insert-2.new.self)
    = λ q. rw (← c.in_ok-copy.ensures.same, ← c.get_mut.follows.holds-at-none) (c.in_ok-insert-3.ensures.updates.0 q) in
    put_at c.args.self.now.classes c.insert-3.new.self c.args.class.now c.args.place true None (Some c.insert-2.new.self) (sym c.in_default.ensures.value) puts
    (λ q. c.in_ok-insert-2.ensures.updates.0 q ∙ ap (λ keys. cond (same_place c.args.place q) true (list_any (is_at (place_cmp q)) keys)) c.new-places.ensures.empty)
