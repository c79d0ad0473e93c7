-- The list at the place.
use Rattle.std.proofs.Common.{◌≡◌, List, None, Some, refl, subst, sym}
use Rattle.std.specs.Global.{Vec}
use Rattle.std.specs.Option.{option_map}
use Rattle.std.specs.Prelude.{IfSome, slice_get}
use Rattle.std.specs.Slice.{IsItemAt}
use Rattle.osgi_world.specs.Candidates.{CanBeAsked, candidates}
use Rattle.osgi_world.specs.declared.problem.Problem.{Problem}
use Rattle.osgi_world.specs.declared.wiring.CapRef.{CapRef}
use Rattle.osgi_resolver_decisions.specs.computed.Known.{IsProblemIn}
use Rattle.osgi_resolver_decisions.proofs.Owners.{lent-listed}
use Rattle.osgi_resolver_decisions.proofs.lists.Lists.listed.Goals as goal

pub returns : goal.returns
returns c = record {
  listed =
      let q = c.args.requirement in
      let lists = c.deref.result.now in
      elim c.get.result as (λ o. IsItemAt lists q.index o → IfSome o (λ list. (P : Problem) → IsProblemIn c.args.self.now.offers P → CanBeAsked P.world.known q → list.now.items ≡ candidates P q)) [
        | Some list ↦ λ at P in_it asked.
            let says : List (Vec CapRef) → Type 0 = λ all. option_map (λ (list : Vec CapRef). list.items) (slice_get all q.index) ≡ Some (candidates P q) in
            lent-listed lists q.index list (candidates P q) at (subst says (sym c.deref.ensures.value) ((c.in_ok-owned.ensures.right P in_it).candidates_are q refl asked))
        | None ↦ λ at. tt
      ] c.get.ensures.lookup;
}
