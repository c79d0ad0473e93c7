-- One of a list, and one at a place of it.
use Rattle.std.proofs.Common.{ℕ}
use Rattle.osgi_space.proofs.Ids.{contains-in, in-contains}
use Rattle.osgi_space_sources.specs.laws.Adding.{any-in, any-of}
use Rattle.osgi_resolver_hopeless.specs.computed.Clashing.{IsBroken}
use Rattle.osgi_resolver_hopeless.proofs.clashing.is_one_broken.Goals as goal

pub returns : goal.returns
returns c =
    let P : ℕ → Type 0 = IsBroken c.args.rows.now c.args.unsettled.now in
    let revisions = c.args.revisions.now in
    let breaks = c.in_ok-one_breaks_uses.ensures.breaks in
    record {
      broken = (
        λ t. let any = breaks.0 t in (any.1, contains-in revisions any.1 (any-in P revisions any), any.4),
        λ some. breaks.1 (any-of P revisions some.0 (in-contains revisions some.0 some.1) some.2),
      );
    }
