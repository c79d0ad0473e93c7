-- Who joins gets a place.
use Rattle.std.proofs.Common.{◌≡◌, ℕ, length, sym, subst, arith}
use Rattle.osgi_base.specs.NumberMaps.{Puts}
use Rattle.osgi_resolver_path.specs.computed.Placed.{ArePlaces, IsNoMember}
use Rattle.osgi_resolver_path.proofs.Placed.{placed-more, placed-still}
use Rattle.osgi_resolver_path.proofs.moves.join.Goals as goal

pub returns-in_err-push-clause-placed : goal.returns-in_err-push-clause-placed
returns-in_err-push-clause-placed c =
    let old = c.args.course.now in
    let r = c.in-Some.revision in
    let count : c.len.result ≡ length old.ids.items = omega arith in
    let puts = subst (λ (n : ℕ). Puts old.places c.insert.new.self r.0 n) count c.in_ok-insert.ensures.put in
    subst (ArePlaces c.insert.new.self) (sym c.in_err-push.ensures.items) (placed-still old.places c.insert.new.self old.ids.items r (subst (λ o. IsNoMember o old.ids.items) c.in-Some.is c.requires.new) puts c.requires.placed)

pub returns-in_ok-push-clause-placed : goal.returns-in_ok-push-clause-placed
returns-in_ok-push-clause-placed c =
    let old = c.args.course.now in
    let r = c.in-Some.revision in
    let count : c.len.result ≡ length old.ids.items = omega arith in
    let puts = subst (λ (n : ℕ). Puts old.places c.insert.new.self r.0 n) count c.in_ok-insert.ensures.put in
    subst (ArePlaces c.insert.new.self) (sym c.in_ok-push.ensures.items) (placed-more old.places c.insert.new.self old.ids.items r (subst (λ o. IsNoMember o old.ids.items) c.in-Some.is c.requires.new) puts c.requires.placed)
