-- Where memory runs out, no rows are kept.
use Rattle.std.proofs.Common.{subst, sym}
use Rattle.osgi_space.specs.Kept.{FollowsRows}
use Rattle.osgi_space.specs.declared.kept_rows.KeptRows.{KeptRows}
use Rattle.osgi_resolver.proofs.resolving.resolve_with.Goals as goal

pub returns-in_err-answer-clause-follows : goal.returns-in_err-answer-clause-follows
returns-in_err-answer-clause-follows c =
    let world = c.args.world.now in
    record {
      offers = c.follow.ensures.follows;
      rows = subst (λ (rows : KeptRows). FollowsRows rows world.known world.wirings) (sym c.replace-kept.ensures.after) (c.new.ensures.follows world.known world.wirings);
    }
