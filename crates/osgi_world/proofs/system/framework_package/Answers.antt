-- The version is the one of its numbers.
use Rattle.std.proofs.Common.{arith, ◌≡◌}
use Rattle.std.proofs.lemmas.Grind.{common_steps}
use Rattle.osgi_version.specs.Comparing.{same_parts}
use Rattle.osgi_world.specs.System.{version_1_10}
use Rattle.osgi_world.proofs.system.framework_package.Goals as goal

pub returns : goal.returns
returns c =
    let version : c.numbered.result ≡ version_1_10 = same_parts _ _ c.numbered.ensures.parts in
    record { same = grind (arith, common_steps) }
