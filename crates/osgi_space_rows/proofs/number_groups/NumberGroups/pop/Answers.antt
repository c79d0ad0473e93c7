-- The number's values are written, and no others.
use Rattle.std.proofs.Common.{◌≡◌, [], rules}
use Rattle.osgi_space_rows.specs.computed.Groups.{front}
use Rattle.osgi_space_rows.proofs.Written.{at-written, on-some}
use Rattle.osgi_space_rows.proofs.number_groups.NumberGroups.pop.Goals as goal

pub returns-in-Some : goal.returns-in-Some
returns-in-Some g c =
    let shorter : c.pop.new.self.items ≡ front c.in-Some.values.now.items = search rules in
    record {
      taken = at-written c.args.self.now.groups (c.get_mut.follows.lender c.pop.new.self) c.args.number c.in-Some.values.now c.pop.new.self c.in-Some.ensures.value
          (on-some _ _ _ c.in-Some.is (c.get_mut.follows.holds c.pop.new.self)) (λ values. values.items) [] front shorter;
    }
