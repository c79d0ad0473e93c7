-- The version machine is a reader, and its last state has the version.
use Rattle.std.proofs.Common.{◌∙◌}
use Rattle.std.proofs.lemmas.Option.{none-some, same_Some}
use Rattle.osgi_version.specs.laws.VersionReader.{version_reader, accepted}
use Rattle.osgi_version.proofs.read.read.Goals as goal

pub examine-requires : goal.examine-requires
examine-requires c = record { reader = version_reader }

pub returns : goal.returns
returns c = let s = c.in-Ok.ensures.state in let r = accepted c.args.bytes.now c.in-Ok.state s.1 s.2 in record { reads = rw (same_Some _ _ (c.in-Some.ensures.version ∙ r.1)) r.2 }

pub unreachable-requires : goal.unreachable-requires
unreachable-requires c = let s = c.in-Ok.ensures.state in let r = accepted c.args.bytes.now c.in-Ok.state s.1 s.2 in none-some r.0 (c.in-None.ensures.version ∙ r.1)
