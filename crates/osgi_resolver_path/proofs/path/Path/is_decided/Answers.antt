-- Of the decisions of the course.
use Rattle.std.proofs.Common.{sym, subst}
use Rattle.std.specs.Bool.{Decides}
use Rattle.osgi_world.specs.Decisions.{Made}
use Rattle.osgi_world.specs.Hopeless.{IsDecided}
use Rattle.osgi_world.specs.Lists.{In}
use Rattle.osgi_resolver_path.proofs.OnWay.{knows-at, lists-at, made-at, members-at, stands-at}
use Rattle.osgi_resolver_path.proofs.path.Path.is_decided.Goals as goal

pub returns : goal.returns
returns c = record {
  decided = λ P of i.
      let lists = c.self.inside.lists in
      let spaces = c.self.inside.spaces in
      let course = c.self.inside.course in
      let W = c.self.inside.world.now in
      let root = c.self.inside.root in
      let on = c.self.invariant in
      let is = sym c.self.view_is in
      let s = c.args.self.now in
      let m = c.args.member in
      subst (λ (D : Made). Decides c.is_decided.result (IsDecided P D m)) (sym (made-at W root lists spaces course on s is P of))
      (c.is_decided.ensures.decided P (lists-at W root lists spaces course on s is P of) (knows-at W root lists spaces course on s is P of m i) (stands-at W root lists spaces course on s is P of)
      (subst (In m) (sym (members-at W root lists spaces course on s is P of)) i));
}
