-- Only a disputed package can have different sources for the ends of wires.
use Rattle.std.proofs.lemmas.Bool.{false≢true}
use Rattle.osgi_space_sources.proofs.uses.is_violated.Goals as goal

pub returns-then-not-may_differ : goal.returns-then-not-may_differ
returns-then-not-may_differ c =
    let same = c.may_differ.ensures.same (λ t. let no = c.if-not-may_differ.true in cc) in
    record {
      violated = (
        λ t. absurd (false≢true t),
        λ clash. absurd (same c.args.rows.now c.requires.disputed clash),
      );
    }
