-- What is found of the revision and of its wiring.
use Rattle.std.proofs.Common.{◌≡◌}
use Rattle.std.specs.Prelude.{false, is_some, true}
use Rattle.cases_resolver.proofs.Resolvable.{none_copied, unresolved}
use Rattle.cases_resolver.proofs.asked.obstacle.Goals as goal

pub returns : goal.returns
returns c =
    let whole : is_some c.in-Some.known.now.revision.host ≡ false = cc (c.if-is_some.false, c.is_some.ensures, c.get.ensures.value) in
    let none : is_some c.wiring.result ≡ false = cc (c.if-is_some-2.false, c.is_some-2.ensures) in
    let current : c.in-Some.known.now.current ≡ true = cc c.if-not-known.false in
    record { unresolved = λ e. unresolved c.args.wirings.now.world c.args.root c.in-Some.known.now c.in-Some.ensures.known current whole (none_copied c.wiring.result _ c.wiring.ensures.wiring none) }
