-- The revision's values are written, and no others.
use Rattle.std.proofs.Common.{[], ◌∷◌, ◌++◌, ◌∙◌, ap, cond}
use Rattle.std.proofs.lemmas.Result.{on_err_weaker, on_ok_weaker}
use Rattle.std.specs.BTreeMap.{is_at}
use Rattle.std.specs.Ordering.{nat_cmp}
use Rattle.osgi_space_rows.specs.computed.Groups.{values_of}
use Rattle.osgi_space_rows.specs.computed.NameGroups.{values_at}
use Rattle.osgi_space_rows.proofs.Written.{at-appended, at-kept, cond-two, on-some}
use Rattle.osgi_space_rows.proofs.name_groups.NameGroups.push.Goals as goal

pub returns-in-Some-clause-added : goal.returns-in-Some-clause-added
returns-in-Some-clause-added g c = on_ok_weaker c.push.result
    (λ added. λ r n.
    at-appended c.args.self.now.revisions (c.get_mut.follows.lender c.push.new.self) c.args.revision c.in-Some.groups.now c.push.new.self c.in-Some.ensures.value
    (on-some _ _ _ c.in-Some.is (c.get_mut.follows.holds c.push.new.self)) (λ own. values_of nat_cmp own n)
    (cond (is_at (nat_cmp c.args.name) n) (c.args.value ∷ []) []) (added n) r
    ∙ ap (λ more. values_at c.args.self.now r n ++ more) (cond-two r c.args.revision c.args.name n (c.args.value ∷ []) []))
    c.push.ensures.added

pub returns-in-Some-clause-unchanged : goal.returns-in-Some-clause-unchanged
returns-in-Some-clause-unchanged g c = on_err_weaker c.push.result
    (λ same. λ r n.
    at-kept c.args.self.now.revisions (c.get_mut.follows.lender c.push.new.self) c.args.revision c.in-Some.groups.now c.push.new.self c.in-Some.ensures.value
    (on-some _ _ _ c.in-Some.is (c.get_mut.follows.holds c.push.new.self)) (λ own. values_of nat_cmp own n) [] (same n) r)
    c.push.ensures.unchanged
