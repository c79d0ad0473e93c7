-- The caller's brackets are written, and no others.
use Rattle.std.proofs.Common.{◌≡◌, ◌-◌, length, take, rules, ap, ◌∙◌}
use Rattle.osgi_ops.specs.OwnBrackets.{without_first}
use Rattle.osgi_brackets.proofs.Kept.{on-some, shown, shown-after, shown-popped}
use Rattle.osgi_brackets.proofs.brackets.Brackets.pop.Goals as goal

pub returns-in-Some : goal.returns-in-Some
returns-in-Some c =
    let shorter : c.pop.new.self.items ≡ take (length c.in-Some.own.now.items - 1) c.in-Some.own.now.items = search rules in
    record {
      closed = shown-after c.args.self.now.callers (c.get_mut.follows.lender c.pop.new.self) c.args.caller c.in-Some.own.now c.pop.new.self
          (on-some _ _ _ c.in-Some.is (c.get_mut.follows.holds c.pop.new.self)) without_first
          (shown-popped c.args.caller c.in-Some.own.now.items c.pop.new.self.items c.pop.result c.pop.ensures.items shorter
          ∙ ap (λ o. without_first (shown c.args.caller o)) c.in-Some.ensures.value);
    }
