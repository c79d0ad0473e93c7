-- One step less; without steps, the rows are those of the world.
use Rattle.std.proofs.Common.{◌≡◌, List, [], length, reverse, refl, ap, sym, ◌∙◌, subst, arith}
use Rattle.osgi_world.specs.Decisions.{Step}
use Rattle.osgi_space_rows.specs.Steps.{after_steps}
use Rattle.osgi_space_rows.specs.Worlds.{AreRowsIn}
use Rattle.osgi_uses.specs.States.{SpacesState, wirings_of}
use Rattle.osgi_uses.proofs.Trails.{first-step, no-steps, rows-along, steps-length}
use Rattle.osgi_uses.proofs.spaces.Spaces.into_rows.Goals as goal

pub loop-init : goal.loop-init
loop-init c =
    let steps : length c.args.self.steps ≡ length c.rest.inside.trail.items = ap (λ (s : SpacesState). length s.steps) (sym c.rest.view_is) ∙ steps-length c.rest.inside.trail.items in
    record { known = refl; wirings = refl; left = omega (arith, steps, c.len-end.ensures) }

pub loop-preserved : goal.loop-preserved
loop-preserved c =
    let before = c.loop.invariant in
    let first = first-step c.loop.rest.steps (omega (arith, before.left, c.loop-test.true)) in
    let is = c.undo.ensures.undone first.0 first.1 first.2 in
    record {
      known = ap (λ (s : SpacesState). s.known) is ∙ before.known;
      wirings = ap (λ (s : SpacesState). s.wirings) is ∙ before.wirings;
      left = omega (arith, before.left, ap length first.2, ap (λ (s : SpacesState). length s.steps) is);
    }

pub returns-clause-rows : goal.returns-clause-rows
returns-clause-rows c =
    let rows = c.rest-2.inside.rows in
    let left : c.loop.rest.steps ≡ [] = no-steps c.loop.rest.steps (omega (arith, c.loop.invariant.left, c.loop-test.false)) in
    let are = subst (λ (s : SpacesState). AreRowsIn rows (wirings_of s)) c.rest-2.view_is (rows-along rows c.rest-2.inside.world.now.wirings (reverse c.rest-2.inside.trail.items) c.rest-2.invariant.along) in
    subst (AreRowsIn rows) c.loop.invariant.wirings (subst (λ (steps : List Step). AreRowsIn rows (after_steps c.loop.rest.wirings steps)) left are)
