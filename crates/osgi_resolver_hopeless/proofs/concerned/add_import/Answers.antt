-- Nothing is added of another wire.
use Rattle.std.proofs.Common.{inl, inr, refl}
use Rattle.osgi_space_rules.proofs.Grow.{pushed}
use Rattle.osgi_resolver_hopeless.proofs.concerned.add_import.Goals as goal

pub returns-then-row-host : goal.returns-then-row-host
returns-then-row-host c = record { kept = λ other i. i; added = λ same. absurd (c.if-row-host.true same) }

pub returns : goal.returns
returns c =
    let put = pushed c.args.list.now.items c.push.new.self.items c.args.row c.in_ok-push.ensures.items in
    record { kept = λ other i. (put other).1 (inl i); added = λ same. (put c.args.row).1 (inr refl) }
