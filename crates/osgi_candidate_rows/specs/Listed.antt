-- The candidates of a problem, some of them out.
use Rattle.std.specs.Prelude.{◌≡◌, ◌+◌, ◌<◌, ◌≤◌, ℕ, List, [], ◌++◌, find, length}
use Rattle.std.specs.Option.{option_map_or}
use Rattle.osgi_base.specs.declared.ids.RevisionId.{RevisionId}
use Rattle.osgi_world.specs.Candidates.{same_place}
use Rattle.osgi_world.specs.Lists.{In, item_at}
use Rattle.osgi_world.specs.declared.problem.Choice.{Choice}
use Rattle.osgi_world.specs.declared.wiring.CapRef.{CapRef}
use Rattle.osgi_world.specs.declared.wiring.ReqRef.{ReqRef}

-- the choices, and the candidates that are out, the last one first. A capability is a candidate of each requirement that lists it,
-- and can be out of one row and not of another
pub record Listed : Type 0 where
  pub choices : List Choice
  pub out : List CapRef

-- the candidates that are listed for the requirement; none where it is not listed
abbrev pub listed : List Choice → ReqRef → List CapRef
listed choices q = option_map_or (λ (c : Choice). c.candidates) (find (λ (c : Choice). same_place c.requirement q) choices) []

-- between these places, the first one counted, each candidate of the requirement is out
abbrev pub AreOutBetween : Listed → ReqRef → ℕ → ℕ → Type 0
AreOutBetween s q from upto = (place : ℕ) (c : CapRef) → from ≤ place → place < upto → In c (item_at (listed s.choices q) place) → In c s.out

-- more are out, each of them a candidate of this provider, and the number of those that were taken out grows by as many
pub record TakesOut (provider : RevisionId) (before : ℕ) (old : Listed) (after : ℕ) (new : Listed) : Type 0 where
  pub choices : new.choices ≡ old.choices
  pub taken : List CapRef
  pub out : new.out ≡ taken ++ old.out
  pub number : after ≡ before + length taken
  pub of_provider : (c : CapRef) → In c taken → c.provider ≡ provider
