-- By the steps of the marks.
use Rattle.std.proofs.Common.{◌≡◌, ◌↔◌, ℕ, List, reverse, sym, ◌∙◌, ap, subst}
use Rattle.osgi_uses.specs.States.{SpacesState}
use Rattle.osgi_world.specs.Decisions.{Made}
use Rattle.osgi_world.specs.Lists.{In}
use Rattle.osgi_resolver_path.specs.Wires.{IsWiredTo}
use Rattle.osgi_resolver_path.specs.computed.Courses.{lists_of, made_of, steps_of}
use Rattle.osgi_resolver_path.specs.computed.Links.{holders_of}
use Rattle.osgi_resolver_path.proofs.Links.{wired_to-seen}
use Rattle.osgi_resolver_path.proofs.OnWay.{made-at, stands-at}
use Rattle.osgi_resolver_path.proofs.path.Path.wired_to.Goals as goal

pub returns : goal.returns
returns c = record {
  wired = λ P of n.
      let x = c.self.inside in
      let provider = c.args.provider in
      let same = made-at x.world.now x.root x.lists x.spaces x.course c.self.invariant c.args.self.now (sym c.self.view_is) P of in
      let at = stands-at x.world.now x.root x.lists x.spaces x.course c.self.invariant c.args.self.now (sym c.self.view_is) P of in
      let steps : x.spaces.steps ≡ steps_of (reverse x.course.marks.items) = ap (λ (s : SpacesState). s.steps) c.self.invariant.spaces_are in
      subst (λ (D : Made). In n c.wired_to.result.now ↔ IsWiredTo P D provider n) (sym same)
      (subst (λ (l : List ℕ). In n l ↔ IsWiredTo P (made_of (reverse x.course.marks.items)) provider n) (sym (c.wired_to.ensures.wired ∙ ap (holders_of provider.0) steps)) (wired_to-seen P of.is (reverse x.course.marks.items) (lists_of x.course) at provider n));
}
