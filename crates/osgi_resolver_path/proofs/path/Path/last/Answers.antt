-- The last mark of the course.
use Rattle.std.proofs.Common.{◌≡◌, [], None, Some, sym}
use Rattle.std.specs.Prelude.{MatchOption}
use Rattle.osgi_world.specs.declared.problem.Problem.{Problem}
use Rattle.osgi_resolver_path.specs.Last.{IsLast}
use Rattle.osgi_resolver_path.specs.Standing.{IsProblemOf}
use Rattle.osgi_resolver_path.specs.computed.Lasts.{IsLastOf}
use Rattle.osgi_resolver_path.specs.declared.last.Last.{Last}
use Rattle.osgi_resolver_path.proofs.Lasts.{last-at, none-made}
use Rattle.osgi_resolver_path.proofs.path.Path.last.Goals as goal

pub returns : goal.returns
returns c = record {
  last =
      let course = c.self.inside.course in
      let s = c.args.self.now in
      elim c.last_of.result as (λ r. MatchOption r (course.marks.items ≡ []) (IsLastOf course) → MatchOption r (s.word ≡ []) (λ (last : Last). (P : Problem) → IsProblemOf s P → IsLast P s last)) [
        | Some last ↦ λ is. last-at c.self.inside.world.now c.self.inside.root c.self.inside.lists c.self.inside.spaces course c.self.invariant s (sym c.self.view_is) last is
        | None ↦ λ none. none-made c.self.inside.world.now c.self.inside.root course s (sym c.self.view_is) none
      ] c.last_of.ensures.last;
}
