-- All that is true of the fields where there are no listeners.
use Rattle.std.proofs.Common.{sym, subst}
use Rattle.osgi_listeners.specs.Rows.{Listening}
use Rattle.osgi_listeners.specs.computed.Kept.{IsKept}
use Rattle.osgi_listeners.proofs.Orders.{kept_none}
use Rattle.osgi_listeners.proofs.listeners.Listeners.new.Goals as goal

pub invariant_of-result : goal.invariant_of-result
invariant_of-result c =
    subst (λ (l : Listening). IsKept l c.in_ok-new.field-0 c.new-4.result) (λ i. record { rows = sym c.new.ensures.items i; turns = sym c.new-2.ensures.empty i; issued = 0 })
    (kept_none c.in_ok-new.field-0 c.new-4.result c.in_ok-new.ensures.size c.in_ok-new.ensures.none c.new-4.ensures.none)
