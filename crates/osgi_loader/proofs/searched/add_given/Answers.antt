-- The numbers rise, and are those of what is given.
use Rattle.std.proofs.Common.{◌++◌, ◌∙◌, List, ℕ, ap, map}
use Rattle.osgi_loader.specs.computed.Wires.{numbered}
use Rattle.osgi_loader.proofs.Hosts.{are-given}
use Rattle.osgi_loader.proofs.searched.add_given.Goals as goal

pub returns : goal.returns
returns c =
    let numbers = c.rising-numbers.result.items in
    record {
      added = record {
        given = map numbered numbers;
        are = are-given c.args.wirings.now.world c.args.wirings.now.issued c.requires.holds c.args.package.now c.args.bundle numbers c.rising-numbers.ensures.rising (λ n.
            let same = c.rising-numbers.ensures.same n in
            let given = c.in_ok-given.ensures.given n in
            ((λ at. given.0 (same.0 at)), (λ is. same.1 (given.1 is))));
        added = c.in_ok-add_numbered.ensures.added ∙ ap (λ (l : List ℕ). c.args.hosts.now.items ++ map numbered l) c.as_slice.ensures.value;
      };
    }
