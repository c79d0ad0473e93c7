-- Which decisions are due, and in which order they are made: the members of a resolve, and the queue of their decisions.
use Rattle.std.specs.Prelude.{ℕ, ◌==◌, ◌&&◌, ◌||◌, not, Bool, List, [], ◌∷◌, ◌++◌, map, filter, find, flat_map, Option, if◌then◌else◌}
use Rattle.std.specs.List.{list_any}
use Rattle.osgi_base.specs.declared.ids.RevisionId.{RevisionId}
use Rattle.osgi_world.specs.Candidates.{candidates, matching}
use Rattle.osgi_world.specs.Lookups.{is_effective, is_multiple, requirement_namespace}
use Rattle.osgi_world.specs.Payloads.{requirements_of}
use Rattle.osgi_world.specs.Satisfaction.{is_bundle, is_package}
use Rattle.osgi_world.specs.declared.problem.Problem.{Problem}
use Rattle.osgi_world.specs.declared.wiring.ReqRef.{ReqRef}
use Rattle.osgi_world.specs.declared.wiring.Wiring.{Wiring}
use Rattle.osgi_world.specs.Decisions.{Decision, Step, adds, Made, value_made, is_open, is_yes, attaching, choose, pick, attached, wired}

-- the fragments that are attached to a host, by bundle id
abbrev pub fragments_of : Problem → Made → RevisionId → List RevisionId
fragments_of P D h = filter (λ f. is_yes (value_made D (attaching h f))) (matching P h)

-- the requirements of a host's payload, as far as decided
abbrev pub payload : Problem → Made → RevisionId → List ReqRef
payload P D h = requirements_of P.world.known (h ∷ fragments_of P D h)

abbrev pub is_generic : List ℕ → Bool
is_generic namespace = not (is_bundle namespace || is_package namespace)

-- the effective ones of a kind
abbrev pub of_kind : Problem → (List ℕ → Bool) → List ReqRef → List ReqRef
of_kind P kind qs = filter (λ q. is_effective P.world.known q && kind (requirement_namespace P.world.known q)) qs

-- bundle requirements, then imports, then others
abbrev pub in_turn : Problem → List ReqRef → List ReqRef
in_turn P qs = of_kind P is_bundle qs ++ (of_kind P is_package qs ++ of_kind P is_generic qs)

-- the decisions of a requirement: one, or one for each candidate
abbrev pub decisions_of : Problem → RevisionId → ReqRef → List Decision
decisions_of P h q = if is_multiple P.world.known q then map (pick h q) (candidates P q) else choose h q ∷ []

abbrev pub attachments : Problem → RevisionId → List Decision
attachments P h = map (attaching h) (matching P h)

-- the decisions of a host that are due: its attachments, and when these are made, those of its payload's requirements
abbrev pub due_decisions : Problem → Made → RevisionId → List Decision
due_decisions P D h = attachments P h ++ (if list_any (is_open D) (attachments P h) then [] else flat_map (decisions_of P h) (in_turn P (payload P D h)))

-- the providers that a value pulls in
abbrev pub provider_of : Step → List RevisionId
provider_of (attached h f) = []
provider_of (wired r w) = w.capability.provider ∷ []

abbrev pub pulled : Problem → Decision → ℕ → List RevisionId
pulled P d v = flat_map provider_of (adds P d v)

abbrev pub is_in_force : List Wiring → RevisionId → Bool
is_in_force W r = list_any (λ (g : Wiring). g.revision.0 == r.0) W

-- those of xs that are not in force come after the members, unless they are members already
abbrev pub pull_in : Problem → List RevisionId → List RevisionId → List RevisionId
pull_in P ms [] = ms
pull_in P ms (x ∷ xs) = pull_in P (if is_in_force P.world.wirings x || list_any (λ (m : RevisionId). m.0 == x.0) ms then ms else ms ++ x ∷ []) xs

-- the root, then the revisions that were pulled in, in order
abbrev pub members : Problem → Made → List RevisionId
members P [] = P.root ∷ []
members P (t ∷ D) = pull_in P (members P D) (pulled P t.0 t.1)

abbrev pub queue : Problem → Made → List Decision
queue P D = flat_map (due_decisions P D) (members P D)

-- the first decision of the queue that is not made
abbrev pub next_decision : Problem → Made → Option Decision
next_decision P D = find (is_open D) (queue P D)
