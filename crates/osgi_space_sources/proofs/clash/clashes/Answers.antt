-- Two that have one source each clash where these differ.
use Rattle.osgi_space_sources.proofs.Clashing.{differ-answer}
use Rattle.osgi_space_sources.proofs.clash.clashes.Goals as goal

pub returns : goal.returns
returns c = record {
  clash = differ-answer c.args.rows.now c.args.revision c.args.pair.source c.args.pair.package c.in-Some.ours c.in-Some-only_source.theirs c.in-Some.ensures.only c.in-Some-only_source.ensures.only;
}
