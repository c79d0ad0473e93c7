-- What is found of the bundle's current revision and of its wiring.
use Rattle.std.proofs.Common.{◌≡◌}
use Rattle.std.specs.Prelude.{false, is_some, true}
use Rattle.osgi_reply_resolving.proofs.Targets.{about_resolved, about_root, some_copied}
use Rattle.osgi_reply_resolving.proofs.resolving.target_of.Goals as goal

pub returns-then-is_some-2 : goal.returns-then-is_some-2
returns-then-is_some-2 c =
    let whole : is_some c.in-Some.known.now.revision.host ≡ false = cc (c.if-is_some.false, c.is_some.ensures, c.get.ensures.value) in
    let some : is_some c.wiring.result ≡ true = cc (c.if-is_some-2.true, c.is_some-2.ensures) in
    record { target = about_resolved c.args.wirings.now.world c.args.bundle c.in-Some.known.now c.in-Some.ensures.current whole (some_copied c.wiring.result _ true c.wiring.ensures.wiring some) }

pub returns : goal.returns
returns c =
    let whole : is_some c.in-Some.known.now.revision.host ≡ false = cc (c.if-is_some.false, c.is_some.ensures, c.get.ensures.value) in
    let none : is_some c.wiring.result ≡ false = cc (c.if-is_some-2.false, c.is_some-2.ensures) in
    record { target = about_root c.args.wirings.now.world c.args.bundle c.in-Some.known.now c.in-Some.ensures.current whole (some_copied c.wiring.result _ false c.wiring.ensures.wiring none) }
