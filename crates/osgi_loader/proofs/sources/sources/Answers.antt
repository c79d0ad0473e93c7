-- The provider of the wire alone, or what there is without a wire.
use Rattle.std.proofs.Common.{sym}
use Rattle.osgi_loader.proofs.Shared.{unwired-numbers, wired-numbers}
use Rattle.osgi_loader.proofs.sources.sources.Goals as goal

pub returns-in_ok-from_array-in-Some-clause-sources : goal.returns-in_ok-from_array-in-Some-clause-sources
returns-in_ok-from_array-in-Some-clause-sources c =
    rw c.in_ok-from_array-in-Some.ensures.items
    (wired-numbers c.args.wirings.now.world c.args.wirings.now.issued c.requires.holds c.args.package.now c.args.revision c.in-Some.provider (sym c.in-Some.ensures.provider))

pub returns-in_ok-unwired-in-None-clause-sources : goal.returns-in_ok-unwired-in-None-clause-sources
returns-in_ok-unwired-in-None-clause-sources c =
    unwired-numbers c.args.wirings.now.world c.args.wirings.now.issued c.requires.holds c.args.package.now c.args.revision c.rising.result.items c.in_ok-unwired-in-None.field-0.items
    (sym c.in-None.ensures.provider) c.rising.ensures.same c.in_ok-unwired-in-None.ensures.sources
