-- The number's values are written, and no others.
use Rattle.std.proofs.Common.{[], ◌∷◌}
use Rattle.osgi_space_rows.proofs.Written.{at-appended, at-kept, on-err, on-some}
use Rattle.osgi_space_rows.proofs.number_groups.NumberGroups.push.Goals as goal

pub returns-in_err-push-clause-unchanged : goal.returns-in_err-push-clause-unchanged
returns-in_err-push-clause-unchanged g c = on-err c.from_residual.result
    (at-kept c.args.self.now.groups (c.get_mut.follows.lender c.push.new.self) c.args.number c.in-Some.values.now c.push.new.self c.in-Some.ensures.value
    (on-some _ _ _ c.in-Some.is (c.get_mut.follows.holds c.push.new.self)) (λ values. values.items) [] c.in_err-push.ensures.items)

pub returns-in-Some-clause-added : goal.returns-in-Some-clause-added
returns-in-Some-clause-added g c =
    at-appended c.args.self.now.groups (c.get_mut.follows.lender c.push.new.self) c.args.number c.in-Some.values.now c.push.new.self c.in-Some.ensures.value
    (on-some _ _ _ c.in-Some.is (c.get_mut.follows.holds c.push.new.self)) (λ values. values.items) (c.args.value ∷ []) c.in_ok-push.ensures.items
