-- The name with a zero byte, in the lowest version.
use Rattle.std.proofs.Common.{◌≡◌, ◌++◌, ◌∷◌, [], rules}
use Rattle.osgi_bundle.specs.computed.Kept.{lowest_version, named}
use Rattle.osgi_version.specs.Comparing.{same_parts}
use Rattle.osgi_bundle.proofs.directory.BundleName.after.Goals as goal

pub returns : goal.returns
returns c =
    let name : c.in_ok-from_vec.field-0 ≡ c.args.name.now ++ 0 ∷ [] = search rules in
    let version : c.numbered.result ≡ lowest_version = same_parts c.numbered.result lowest_version c.numbered.ensures.parts in
    record { after = λ i. named (name i) (version i) }
