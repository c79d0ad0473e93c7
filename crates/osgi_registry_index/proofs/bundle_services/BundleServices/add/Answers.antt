-- A service among the bundle's.
use Rattle.std.proofs.Common.{ap, sym, ◌∙◌, rules}
use Rattle.std.specs.Prelude.{cond, None, Some, true}
use Rattle.std.specs.BTreeMap.{is_at}
use Rattle.std.specs.List.{list_any}
use Rattle.std.specs.Ordering.{nat_cmp}
use Rattle.std.proofs.lemmas.Result.{err_from_is_err_and}
use Rattle.osgi_registry_index.proofs.Belongs.{PutsAt, same_at, set_at}
use Rattle.osgi_registry_index.proofs.bundle_services.BundleServices.add.Goals as goal

pub returns-in_err-insert-clause-unchanged : goal.returns-in_err-insert-clause-unchanged
returns-in_err-insert-clause-unchanged c =
    let p = err_from_is_err_and c.from_residual.result c.from_residual.ensures.1 in
    rw p.1
    (same_at c.args.self.now.bundles (c.get_mut.follows.lender c.insert.new.self) c.args.bundle.0 (Some c.in-Some.services.now) (Some c.insert.new.self) (sym c.in-Some.ensures.value)
    ((c.get_mut.follows.holds c.insert.new.self).3 (search rules)).0 (λ s. ap (list_any (is_at (nat_cmp s))) c.in_err-insert.ensures.err))

pub returns-in-Some-clause-added : goal.returns-in-Some-clause-added
returns-in-Some-clause-added c =
    set_at c.args.self.now.bundles (c.get_mut.follows.lender c.insert.new.self) c.args.bundle c.args.service true (Some c.in-Some.services.now) (Some c.insert.new.self) (sym c.in-Some.ensures.value)
    ((c.get_mut.follows.holds c.insert.new.self).3 (search rules)).0 c.in_ok-insert.ensures.updates.0

pub returns-clause-added : goal.returns-clause-added
returns-clause-added c =
    let puts : PutsAt c.args.self.now.bundles c.insert-3.new.self c.args.bundle.0 (Some c.insert-2.new.self)
    = λ q. rw (← c.get_mut.follows.holds-at-none) (c.in_ok-insert-3.ensures.updates.0 q) in
    set_at c.args.self.now.bundles c.insert-3.new.self c.args.bundle c.args.service true None (Some c.insert-2.new.self) (sym c.in_default.ensures.value) puts
    (λ s. c.in_ok-insert-2.ensures.updates.0 s ∙ ap (λ keys. cond (is_at (nat_cmp c.args.service.0) s) true (list_any (is_at (nat_cmp s)) keys)) c.new-services.ensures.empty)
