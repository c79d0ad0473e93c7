-- The rules of wirings and the uses together are consistency.
use Rattle.std.proofs.Common.{◌≡◌, List, sym, subst}
use Rattle.osgi_world.specs.Consistency.{IsCoherent}
use Rattle.osgi_world.specs.declared.world.Known.{Known}
use Rattle.osgi_space_rows.specs.Agree.{AreRowsOf}
use Rattle.osgi_space_rows.specs.Names.{name_numbered}
use Rattle.osgi_space_rows.specs.Rows.{RowLists}
use Rattle.osgi_space.proofs.Coherent.{uses-hold, uses-kept}
use Rattle.osgi_space.proofs.consistent.are_consistent.Goals as goal

pub returns : goal.returns
returns c =
    let rows = c.args.rows.now in
    let N = name_numbered rows.names in
    let K = c.known.result.now in
    let W = c.args.wirings.now in
    let R = c.rows.result.now in
    let is : AreRowsOf K W N R =
    subst (λ (k : List Known). AreRowsOf k W N R) (sym c.known.ensures.known) (subst (λ (r : RowLists). AreRowsOf rows.known W N r) (sym c.rows.ensures.rows) c.requires.rows) in
    let known : K ≡ rows.known = c.known.ensures.known in
    record {
      consistent = (
        λ t. subst (λ (k : List Known). IsCoherent k W) known (c.in_ok-keeps_wiring_rules.ensures.holds c.if-not-branch.false (uses-hold K W N R is (c.in_ok-all_keep_uses.ensures.uses.0 t))),
        λ h. c.in_ok-all_keep_uses.ensures.uses.1 (uses-kept K W N R is (subst (λ (k : List Known). IsCoherent k W) (sym known) h).uses),
      );
    }
