-- The caller's brackets are written, and no others.
use Rattle.std.proofs.Common.{◌∷◌, ap, ◌∙◌}
use Rattle.osgi_ops.specs.Brackets.{bracket}
use Rattle.osgi_brackets.specs.Kinds.{cause_of}
use Rattle.osgi_brackets.proofs.Kept.{on-err, on-some, shown, shown-after, shown-by, shown-kept, shown-pushed}
use Rattle.osgi_brackets.proofs.brackets.Brackets.push.Goals as goal

pub returns-in_err-push-clause-unchanged : goal.returns-in_err-push-clause-unchanged
returns-in_err-push-clause-unchanged c =
    on-err c.from_residual.result
    (shown-kept c.args.self.now.callers (c.get_mut.follows.lender c.push.new.self) c.args.tag.caller c.in-Some.own.now c.push.new.self
    (on-some _ _ _ c.in-Some.is (c.get_mut.follows.holds c.push.new.self))
    (shown-by c.args.tag.caller c.in-Some.own.now.items c.push.new.self.items c.in_err-push.ensures.items ∙ ap (shown c.args.tag.caller) c.in-Some.ensures.value))

pub returns-in-Some-clause-opened : goal.returns-in-Some-clause-opened
returns-in-Some-clause-opened c =
    shown-after c.args.self.now.callers (c.get_mut.follows.lender c.push.new.self) c.args.tag.caller c.in-Some.own.now c.push.new.self
    (on-some _ _ _ c.in-Some.is (c.get_mut.follows.holds c.push.new.self)) (λ own. bracket c.args.tag (cause_of c.args.kind) ∷ own)
    (shown-pushed c.args.tag c.args.kind c.in-Some.own.now.items c.push.new.self.items c.in_ok-push.ensures.items
    ∙ ap (λ o. bracket c.args.tag (cause_of c.args.kind) ∷ shown c.args.tag.caller o) c.in-Some.ensures.value)
