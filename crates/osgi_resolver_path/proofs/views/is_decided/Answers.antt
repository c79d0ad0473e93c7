-- A member has a place.
use Rattle.std.proofs.Common.{◌≡◌, Some, sym, subst}
use Rattle.std.specs.Prelude.{slice_get}
use Rattle.osgi_resolver_theory.proofs.Values.{some-inj}
use Rattle.osgi_resolver_path.proofs.Placed.{in-get, none-some}
use Rattle.osgi_resolver_path.proofs.views.is_decided.Goals as goal

pub returns-in-Some : goal.returns-in-Some
returns-in-Some c = record {
  decided = λ P in_it knows at i.
      let ids = c.args.course.now.ids.items in
      let m = c.args.member in
      let found = in-get ids m i in
      let place : c.in-Some.place ≡ found.0 = some-inj c.in-Some.place found.0 (c.in-Some.ensures.place found.0 found.1) in
      c.is_decided_at.ensures.decided P in_it knows at (subst (λ n. slice_get ids n ≡ Some m) (sym place) found.1);
}

pub returns-in-None : goal.returns-in-None
returns-in-None c = record {
  decided = λ P in_it knows at i.
      let found = in-get c.args.course.now.ids.items c.args.member i in
      absurd (none-some found.0 (c.in-None.ensures.place found.0 found.1));
}
