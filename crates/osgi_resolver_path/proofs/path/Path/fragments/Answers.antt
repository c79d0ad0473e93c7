-- Of the rows of what is decided.
use Rattle.std.proofs.Common.{◌≡◌, ◌∙◌, Ok, Err, ap, filter, sym, subst}
use Rattle.std.specs.Prelude.{IfOk}
use Rattle.osgi_space_rows.specs.Rows.{RowLists}
use Rattle.osgi_world.specs.Decisions.{Made, attaching, is_yes, value_made}
use Rattle.osgi_world.specs.DueDecisions.{fragments_of, members}
use Rattle.osgi_world.specs.Lists.{In}
use Rattle.osgi_world.specs.declared.problem.Problem.{Problem}
use Rattle.osgi_resolver_path.specs.Standing.{IsProblemOf, made}
use Rattle.osgi_resolver_path.specs.computed.Attached.{AreAttached}
use Rattle.osgi_resolver_path.proofs.OnWay.{attached-at, knows-at, lists-at}
use Rattle.osgi_resolver_path.proofs.path.Path.fragments.Goals as goal

pub returns : goal.returns
returns c = record {
  fragments =
      let W = c.self.inside.world.now in
      let root = c.self.inside.root in
      let lists = c.self.inside.lists in
      let spaces = c.self.inside.spaces in
      let course = c.self.inside.course in
      let on = c.self.invariant in
      let s = c.args.self.now in
      let at = sym c.self.view_is in
      let member = c.args.member in
      let R = c.rows-2.result.now in
      let all = c.fragments_for-fragments.result.now in
      let is_all : (P : Problem) → IsProblemOf s P → In member (members P (made P s)) → all ≡ Rattle.osgi_world.specs.Candidates.matching P member = λ P of i. c.fragments_for-fragments.ensures.fragments P (lists-at W root lists spaces course on s at P of) (knows-at W root lists spaces course on s at P of member i) in
      let rows : (P : Problem) → IsProblemOf s P → In member (members P (made P s)) → AreAttached R (made P s) member = λ P of i.
      subst (λ (r : RowLists). AreAttached r (made P s) member) (sym c.rows-2.ensures.rows) (attached-at W root lists spaces course on s at P of c.rows.result.now c.rows.ensures.known c.rows.ensures.rows member i) in
      elim c.attached_among.result as (λ r. IfOk r (λ list. (D : Made) → AreAttached R D member → list.items ≡ filter (λ f. is_yes (value_made D (attaching member f))) all) → IfOk r (λ list. (P : Problem) → IsProblemOf s P → In member (members P (made P s)) → list.items ≡ fragments_of P (made P s) member)) [
        | Ok x ↦ λ is P of i. is (made P s) (rows P of i) ∙ ap (filter (λ f. is_yes (value_made (made P s) (attaching member f)))) (is_all P of i)
        | Err e ↦ λ x. x
      ] c.attached_among.ensures.attached;
}
