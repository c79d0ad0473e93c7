-- The revision's values are written, and no others.
use Rattle.std.proofs.Common.{[], ◌∙◌, cond}
use Rattle.std.specs.BTreeMap.{is_at}
use Rattle.std.specs.Ordering.{nat_cmp}
use Rattle.osgi_space_rows.specs.computed.Groups.{front, values_of}
use Rattle.osgi_space_rows.specs.computed.NameGroups.{values_at}
use Rattle.osgi_space_rows.proofs.Written.{at-written, cond-two, on-some}
use Rattle.osgi_space_rows.proofs.name_groups.NameGroups.pop.Goals as goal

pub returns-in-Some : goal.returns-in-Some
returns-in-Some g c = record {
  taken = λ r n.
      at-written c.args.self.now.revisions (c.get_mut.follows.lender c.pop.new.self) c.args.revision c.in-Some.groups.now c.pop.new.self c.in-Some.ensures.value
      (on-some _ _ _ c.in-Some.is (c.get_mut.follows.holds c.pop.new.self)) (λ own. values_of nat_cmp own n) []
      (λ values. cond (is_at (nat_cmp c.args.name) n) (front values) values) (c.pop.ensures.taken n) r
      ∙ cond-two r c.args.revision c.args.name n (front (values_at c.args.self.now r n)) (values_at c.args.self.now r n);
}
