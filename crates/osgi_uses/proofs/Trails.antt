-- A trail with one step more, and the steps of a trail.
use Rattle.std.proofs.Common.{◌≡◌, ℕ, ◌<◌, ◌≤◌, List, [], ◌∷◌, ◌++◌, length, map, reverse, refl, sym, ◌∙◌, ap, subst, arith}
use Rattle.std.proofs.lemmas.List.{length-map, length-reverse, reverse-append}
use Rattle.osgi_world.specs.Decisions.{Step}
use Rattle.osgi_world.specs.declared.wiring.Wiring.{Wiring}
use Rattle.osgi_world.specs.declared.world.Known.{Known}
use Rattle.osgi_world.specs.declared.world.World.{World}
use Rattle.osgi_space_rows.specs.Steps.{after_steps}
use Rattle.osgi_space_rows.specs.Worlds.{AddsStep, AreRowsIn, WorldLists}
use Rattle.osgi_uses.specs.computed.Trail.{AreRowsAlong, IsTrailOf, step_of}
use Rattle.osgi_uses.specs.declared.trail.Taken.{Taken}

-- they are rows of the wirings with all that was added
pub rows-along : (rows : WorldLists) (W : List Wiring) (trail : List Taken) → AreRowsAlong rows W trail → AreRowsIn rows (after_steps W (map step_of trail))
rows-along rows W [] are = are
rows-along rows W (t ∷ trail) along = along.0

with_rows_of : (new old : WorldLists) → new.known ≡ old.known → new.names ≡ old.names → record new { rows = old.rows } ≡ old
with_rows_of new old known names =
    ap (λ (k : List Known). record new { known = k; rows = old.rows }) known ∙ ap (λ (n : List (List ℕ)). record old { names = n }) names

pub trail-more : (world : World) (old new : WorldLists) (trail items : List Taken) (t : Taken) → items ≡ trail ++ t ∷ [] → AddsStep old new (step_of t) t.added → IsTrailOf world old (reverse trail) → IsTrailOf world new (reverse items)
trail-more world old new trail items t more step is = record {
  known = step.known ∙ is.known;
  along =
      let turned : reverse items ≡ t ∷ reverse trail = ap reverse more ∙ reverse-append trail (t ∷ []) in
      let W = world.wirings in
      let now = step.agree (after_steps W (map step_of (reverse trail))) (rows-along old W (reverse trail) is.along) in
      let before = subst (λ (rows : WorldLists). AreRowsAlong rows W (reverse trail)) (sym (with_rows_of new old step.known step.names)) is.along in
      subst (AreRowsAlong new W) (sym turned) (now, old.rows, step.rows, before);
}

-- ---- steps that are left

pub steps-length : (trail : List Taken) → length (map step_of (reverse trail)) ≡ length trail
steps-length trail = length-map (reverse trail) step_of ∙ length-reverse trail

pub first-step : (steps : List Step) → 0 < length steps → (s : Step) × (rest : List Step) × (steps ≡ s ∷ rest)
first-step [] some = absurd (omega (arith, some))
first-step (s ∷ steps) some = (s, steps, refl)

pub no-steps : (steps : List Step) → length steps ≤ 0 → steps ≡ []
no-steps [] none = refl
no-steps (s ∷ steps) none = absurd (omega (arith, none))
