-- The decisions of a resolve, what each of their values adds, and the decisions that are made.
use Rattle.std.specs.Prelude.{◌≡◌, ℕ, zero, suc, ◌==◌, ◌&&◌, Bool, true, false, is_none, List, [], ◌∷◌, ◌++◌, length, map, Option, None, Some, if◌then◌else◌}
use Rattle.osgi_base.specs.declared.ids.RevisionId.{RevisionId}
use Rattle.osgi_world.specs.Candidates.{candidates, same_place}
use Rattle.osgi_world.specs.Lists.{nth_list}
use Rattle.osgi_world.specs.Lookups.{is_optional}
use Rattle.osgi_world.specs.declared.problem.Problem.{Problem}
use Rattle.osgi_world.specs.declared.wiring.CapRef.{CapRef}
use Rattle.osgi_world.specs.declared.wiring.ReqRef.{ReqRef}
use Rattle.osgi_world.specs.declared.wiring.Wire.{Wire}

-- ---- decisions and their values

-- whether a fragment is attached to a host; which capability a requirement of a host's payload gets; whether a requirement of it
-- that may have several wires gets this one
pub data Decision : Type 0 where
  attaching : RevisionId → RevisionId → Decision
  choose : RevisionId → ReqRef → Decision
  pick : RevisionId → ReqRef → CapRef → Decision

abbrev pub host : Decision → RevisionId
host (attaching h f) = h
host (choose h q) = h
host (pick h q c) = h

abbrev pub same_capability : CapRef → CapRef → Bool
same_capability c d = (c.provider.0 == d.provider.0) && ((c.owner.0 == d.owner.0) && (c.index == d.index))

abbrev pub same_decision : Decision → Decision → Bool
same_decision (attaching h f) (attaching k g) = (h.0 == k.0) && (f.0 == g.0)
same_decision (choose h q) (choose k n) = (h.0 == k.0) && same_place q n
same_decision (pick h q c) (pick k n d) = (h.0 == k.0) && (same_place q n && same_capability c d)
same_decision _ _ = false

-- what a value adds: the fragment to the host, or the wire to the revision
pub data Step : Type 0 where
  attached : RevisionId → RevisionId → Step
  wired : RevisionId → Wire → Step

abbrev pub wired_to : RevisionId → ReqRef → CapRef → Step
wired_to h q c = wired h (record { requirement = q; capability = c })

-- what each value of a decision adds. An attachment has the values yes (0) and no (1); a requirement has one for each
-- candidate, and where it is optional one more, for none; one of several wires has yes (0) and no (1)
abbrev pub menu : Problem → Decision → List (List Step)
menu P (attaching h f) = (attached h f ∷ []) ∷ [] ∷ []
menu P (choose h q) = map (λ c. wired_to h q c ∷ []) (candidates P q) ++ (if is_optional P.world.known q then [] ∷ [] else [])
menu P (pick h q c) = (wired_to h q c ∷ []) ∷ [] ∷ []

-- the number of values
abbrev pub arity : Problem → Decision → ℕ
arity P d = length (menu P d)

abbrev pub adds : Problem → Decision → ℕ → List Step
adds P d v = nth_list (menu P d) v

-- ---- decisions that are made

-- with their values, the last first
abbrev pub Made : Type 0
Made = List (Decision × ℕ)

-- the value of a decision, once it is made
abbrev pub value_made : Made → Decision → Option ℕ
value_made [] d = None
value_made (t ∷ D) d = if same_decision t.0 d then Some t.1 else value_made D d

abbrev pub IsMade : Made → Decision → Type 0
IsMade D d = (v : ℕ) × (value_made D d ≡ Some v)

abbrev pub is_open : Made → Decision → Bool
is_open D d = is_none (value_made D d)

abbrev pub is_yes : Option ℕ → Bool
is_yes None = false
is_yes (Some zero) = true
is_yes (Some (suc v)) = false
