-- Each version is the one of its numbers.
use Rattle.std.proofs.Common.{arith, ◌≡◌}
use Rattle.std.proofs.lemmas.Grind.{common_steps}
use Rattle.osgi_version.specs.Comparing.{same_parts}
use Rattle.osgi_world.specs.System.{version_1_8, version_11, version_17}
use Rattle.osgi_world.proofs.system.java_versions.Goals as goal

pub returns : goal.returns
returns c =
    let first : c.numbered.result ≡ version_1_8 = same_parts _ _ c.numbered.ensures.parts in
    let second : c.numbered-2.result ≡ version_11 = same_parts _ _ c.numbered-2.ensures.parts in
    let third : c.numbered-3.result ≡ version_17 = same_parts _ _ c.numbered-3.ensures.parts in
    record { same = grind (arith, common_steps) }
