-- One class more for which the service is assignable.
use Rattle.std.proofs.Common.{◌<◌, ◌∙◌, ap, get_or, length, subst}
use Rattle.osgi_ops.specs.Assignable.{IsAssignable}
use Rattle.osgi_sights.proofs.Answers.{all_more}
use Rattle.osgi_sights.proofs.onlookers.Onlookers.are_assignable.Goals as goal

pub loop-class-preserved : goal.loop-class-preserved
loop-class-preserved c =
    let i = c.loop-class.class-index in
    let class = c.class-item.result in
    let items = c.items-class-items.ensures.items in λ rest.
    c.loop-class.invariant
    (all_more (λ class. IsAssignable c.args.self.now.wirings.now.world c.args.service.now.owner c.args.asker class) c.args.service.now.classes i class
    (subst (λ list. i < length list) items c.loop-class-test.true) (c.class-item.is ∙ ap (λ list. get_or list i class) items) (c.in_ok-is_assignable.ensures.assignable.0 c.if-not-branch.false) rest)
