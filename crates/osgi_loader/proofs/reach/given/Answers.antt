-- What is given is given by one of those that are reached.
use Rattle.std.proofs.Common.{◌↔◌, ◌∙◌, ap, List, ℕ, Contains, map, sym, subst}
use Rattle.std.specs.Prelude.{filter_map}
use Rattle.osgi_base.specs.declared.ids.RevisionId.{RevisionId}
use Rattle.osgi_loader.specs.computed.Wires.{IsGiven, given_by, numbered}
use Rattle.osgi_loader.proofs.Hosts.{given-numbers}
use Rattle.osgi_loader.proofs.reach.given.Goals as goal

pub returns : goal.returns
returns c =
    let world = c.args.wirings.now.world in
    let p = c.args.package.now in
    let starts = c.args.starts.now in
    record {
      given = λ n.
          subst (λ (l : List ℕ). Contains l n ↔ IsGiven world p starts n)
          (sym (c.in_ok-numbers.ensures.given ∙ ap (λ (l : List ℕ). map (λ (x : RevisionId). x.0) (filter_map (λ b. given_by world p (numbered b)) l)) c.as_slice.ensures.keys))
          (given-numbers world p starts c.in_ok-bundles.bundles.keys c.in_ok-bundles.ensures.reached n);
    }
