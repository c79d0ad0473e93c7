-- The constraints are those that follow from what the revision sees.
use Rattle.std.proofs.Common.{◌↔◌, [], arith, subst, Contains}
use Rattle.osgi_space_sources.specs.computed.Amongst.{IsAmong}
use Rattle.osgi_space_sources.specs.computed.Pairs.{IsFollowing}
use Rattle.osgi_space_sources.specs.laws.Following.{none-implied}
use Rattle.osgi_space_sources.proofs.Carried.{space-implied}
use Rattle.osgi_space_sources.proofs.constraints.constraints_of.Goals as goal

pub returns-then-not-has : goal.returns-then-not-has
returns-then-not-has c = record {
  implied = λ g.
      let away : ¬ IsAmong c.args.among c.args.revision = λ there. let yes = c.has.ensures.among.1 there in let no = c.if-not-has.true in cc in (
        λ at. let none : Contains [] g = subst (λ xs. Contains xs g) c.new.ensures.empty at in absurd (omega (arith, none.1)),
        λ implied. absurd (none-implied c.args.rows.now (IsAmong c.args.among) c.args.revision away g implied),
      );
}

pub returns : goal.returns
returns c = record {
  implied =
      let R = c.args.rows.now in
      let A = IsAmong c.args.among in
      let imports = c.of_revision-imports.result.now in
      let givens = c.in_ok-givens.givens.items in
      let there : A c.args.revision = c.has.ensures.among.0 c.if-not-has.false in
      λ g.
      let following = subst (λ xs. Contains c.in_ok-constraints_from.field-0 g ↔ IsFollowing R A imports xs g) c.as_slice.ensures.value (c.in_ok-constraints_from.ensures.following g) in
      let carried = space-implied R A c.args.revision there imports c.of_revision-imports.ensures.rows givens c.in_ok-givens.ensures.sources g in
      (λ at. carried.0 (following.0 at), λ i. following.1 (carried.1 i));
}
