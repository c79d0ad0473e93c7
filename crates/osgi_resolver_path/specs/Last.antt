-- The last decision of a search, with what it changed.
use Rattle.std.specs.Prelude.{◌≡◌, ◌↔◌, ◌<◌, ◌++◌, ◌∷◌, [], ℕ, List, Some}
use Rattle.osgi_base.specs.declared.ids.RevisionId.{RevisionId}
use Rattle.osgi_world.specs.ChoiceWords.{IsWord, made_by}
use Rattle.osgi_world.specs.Decisions.{adds, arity, attached, host, wired}
use Rattle.osgi_world.specs.DueDecisions.{members, next_decision}
use Rattle.osgi_world.specs.Lists.{In}
use Rattle.osgi_world.specs.declared.problem.Problem.{Problem}
use Rattle.osgi_world.specs.declared.wiring.Wire.{Wire}
use Rattle.osgi_resolver_decisions.specs.DecisionOf.{decision_of}
use Rattle.osgi_resolver_path.specs.Standing.{Standing, made}
use Rattle.osgi_resolver_path.specs.declared.last.Last.{Last}

-- the value of the last decision stands last in the word; the decision was the next one before, and the value in range for it; and
-- the wire, the fragment and the new member are those that it added
pub record IsLast (P : Problem) (s : Standing) (last : Last) : Type 0 where
  pub before : List ℕ
  pub word_is : s.word ≡ before ++ last.value ∷ []
  pub word : IsWord P before
  pub next : next_decision P (made_by P before) ≡ Some (decision_of last.decision)
  pub range : last.value < arity P (decision_of last.decision)
  pub wired : (m : RevisionId) (w : Wire) → In (wired m w) (adds P (decision_of last.decision) last.value) ↔ (last.wired ≡ Some (record { revision = m; wire = w }))
  pub fragment : (f : RevisionId) → In (attached (host (decision_of last.decision)) f) (adds P (decision_of last.decision) last.value) ↔ (last.fragment ≡ Some f)
  pub joined : (m : RevisionId) → (last.joined ≡ Some m) ↔ In m (members P (made P s)) × ¬ In m (members P (made_by P before))
