-- The candidates that are out where a path stands: those of rivals of members, in a layer for each decision.
use Rattle.std.specs.Prelude.{◌≡◌, ◌≤◌, ℕ, List, [], ◌∷◌, ◌++◌, drop, length, reverse}
use Rattle.osgi_base.specs.declared.ids.RevisionId.{RevisionId}
use Rattle.osgi_candidate_rows.specs.Listed.{Listed}
use Rattle.osgi_resolver_path.specs.Standing.{IsProblemOf, Standing, made}
use Rattle.osgi_world.specs.Candidates.{IsProblem}
use Rattle.osgi_world.specs.ChoiceWords.{made_by}
use Rattle.osgi_world.specs.Consistency.{AreRivals}
use Rattle.osgi_world.specs.Decisions.{Made}
use Rattle.osgi_world.specs.DueDecisions.{members}
use Rattle.osgi_world.specs.Lists.{In}
use Rattle.osgi_world.specs.declared.problem.Problem.{Problem}
use Rattle.osgi_world.specs.declared.wiring.CapRef.{CapRef}
use Rattle.osgi_world.specs.declared.world.Known.{Known}

-- a problem, and a word of it
pub record Place : Type 0 where
  pub problem : Problem
  pub word : List ℕ

-- the problem of the path's root in its world, with these choices
abbrev pub problem_at : Standing → Listed → Problem
problem_at s listed = record { world = s.world; root = s.root; choices = listed.choices }

-- the provider is a rival of a member
pub record IsDoomed (P : Problem) (D : Made) (provider : RevisionId) : Type 0 where
  pub member : RevisionId
  pub is_member : In member (members P D)
  pub rivals : AreRivals P.world.known provider member

abbrev pub AreDoomed : Problem → Made → List CapRef → Type 0
AreDoomed P D out = (c : CapRef) → In c out → IsDoomed P D c.provider

-- w is the word, and counts are the numbers of candidates that each of its decisions took out, the last first: what was out when
-- a decision was made was so because of members that were there then
abbrev pub AreLayers : Problem → List ℕ → List ℕ → List CapRef → Type 0
AreLayers P [] [] out = AreDoomed P [] out
AreLayers P (v ∷ w) (n ∷ counts) out = AreDoomed P (made_by P (reverse (v ∷ w))) out × (n ≤ length out) × AreLayers P w counts (drop n out)
AreLayers P [] (n ∷ counts) out = ⊥
AreLayers P (v ∷ w) [] out = ⊥

-- the path stands in its problem, and what is out of the rows stands in layers
pub record IsInRows (s : Standing) (listed : Listed) (counts : List ℕ) : Type 0 where
  pub problem : IsProblem (problem_at s listed)
  pub layers : AreLayers (problem_at s listed) (reverse s.word) (reverse counts) listed.out

-- so many more are out, each of them a candidate of a rival of the member
pub record TakesRivals (K : List Known) (member : RevisionId) (old : Listed) (count : ℕ) (new : Listed) : Type 0 where
  pub choices : new.choices ≡ old.choices
  pub taken : List CapRef
  pub out : new.out ≡ taken ++ old.out
  pub number : count ≡ length taken
  pub rivals : (c : CapRef) → In c taken → AreRivals K c.provider member

-- so many more are out, each of them a candidate of a rival of a member
pub record TakesDoomed (s : Standing) (old : Listed) (count : ℕ) (new : Listed) : Type 0 where
  pub choices : new.choices ≡ old.choices
  pub taken : List CapRef
  pub out : new.out ≡ taken ++ old.out
  pub number : count ≡ length taken
  pub doomed : (P : Problem) → IsProblemOf s P → AreDoomed P (made P s) taken
