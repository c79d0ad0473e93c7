-- The next decision is made.
use Rattle.std.proofs.Common.{◌≡◌, Ok, Err, sym, subst}
use Rattle.std.specs.Prelude.{OnErr, OnOk}
use Rattle.osgi_resolver_path.specs.Standing.{HasValue}
use Rattle.osgi_world.specs.declared.world.World.{World}
use Rattle.osgi_resolver_path.specs.computed.Moving.{IsLonger, IsOnWay, IsSpaceOf}
use Rattle.osgi_resolver_path.specs.computed.Nexts.{IsSameCourse}
use Rattle.osgi_resolver_path.proofs.OnWay.{last-within, next-within, on-longer, on-same}
use Rattle.osgi_resolver_path.proofs.path.Path.longer.Goals as goal

pub longer-requires-clause-spaces : goal.longer-requires-clause-spaces
longer-requires-clause-spaces c = subst (λ (w : World). IsSpaceOf w c.self.inside.course c.self.inside.spaces) (sym c.self.invariant.offers) c.self.invariant.spaces_are

pub longer-requires-clause-next : goal.longer-requires-clause-next
longer-requires-clause-next c = (next-within c.self.inside.world.now c.self.inside.root c.self.inside.lists c.self.inside.spaces c.self.inside.course c.self.invariant c.args.value (subst (λ s. HasValue s c.args.value) (sym c.self.view_is) c.requires.value)).1

pub longer-requires-clause-last_in : goal.longer-requires-clause-last_in
longer-requires-clause-last_in c = last-within c.self.inside.world.now c.self.inside.root c.self.inside.lists c.self.inside.spaces c.self.inside.course c.self.invariant c.args.value (subst (λ s. HasValue s c.args.value) (sym c.self.view_is) c.requires.value)

pub invariant_of-self : goal.invariant_of-self
invariant_of-self c =
    let old = c.self.inside.course in
    let new = c.longer.new.course in
    let lists = c.longer.new.lists in
    let spaces = c.longer.new.spaces in
    let has = subst (λ s. HasValue s c.args.value) (sym c.self.view_is) c.requires.value in
    elim c.longer.result as (λ r. OnOk r (IsLonger c.self.inside.lists.offers old new c.self.inside.spaces spaces c.args.value) → OnErr r (spaces ≡ c.self.inside.spaces) → OnErr r (IsSameCourse old new) → IsOnWay c.self.inside.world.now c.self.inside.root lists spaces new) [
      | Ok x ↦ λ by same course. on-longer c.self.inside.world.now c.self.inside.root c.self.inside.lists c.self.inside.spaces c.self.inside.course c.self.invariant c.args.value has lists new spaces c.longer.ensures.offers c.longer.ensures.learnt c.longer.ensures.placed by
      | Err e ↦ λ by same course. on-same c.self.inside.world.now c.self.inside.root c.self.inside.lists c.self.inside.spaces c.self.inside.course c.self.invariant lists new spaces c.longer.ensures.offers c.longer.ensures.learnt c.longer.ensures.placed same course
    ] c.longer.ensures.longer c.longer.ensures.spaces_unchanged c.longer.ensures.unchanged
