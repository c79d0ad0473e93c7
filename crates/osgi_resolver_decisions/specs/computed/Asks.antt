-- The decisions of requirements, by the kind of these.
use Rattle.std.specs.Prelude.{ℕ, List, Bool, [], ◌∷◌, flat_map, map}
use Rattle.osgi_base.specs.declared.ids.RevisionId.{RevisionId}
use Rattle.osgi_world.specs.Candidates.{matching}
use Rattle.osgi_world.specs.Decisions.{Decision, attaching}
use Rattle.osgi_world.specs.DueDecisions.{decisions_of, in_turn, is_generic, of_kind}
use Rattle.osgi_world.specs.Payloads.{own_requirements, requirements_of}
use Rattle.osgi_world.specs.Satisfaction.{is_bundle, is_package}
use Rattle.osgi_world.specs.declared.problem.Problem.{Problem}
use Rattle.osgi_world.specs.declared.wiring.ReqRef.{ReqRef}
use Rattle.osgi_resolver_decisions.specs.declared.kind.Kind.{Kind}
use Rattle.osgi_resolver_decisions.specs.declared.kind.Kind.TheVariants.{Bundle, Package, Other}
use Rattle.osgi_resolver_decisions.specs.declared.decision_ref.DecisionRef.{DecisionRef}
use Rattle.osgi_resolver_decisions.specs.DecisionOf.{decision_of}

abbrev pub has_kind : Kind → List ℕ → Bool
has_kind Bundle namespace = is_bundle namespace
has_kind Package namespace = is_package namespace
has_kind Other namespace = is_generic namespace

-- the decisions of these requirements, those of the kind that are effective
abbrev pub asks_among : Problem → RevisionId → Kind → List ReqRef → List Decision
asks_among P host kind qs = flat_map (decisions_of P host) (of_kind P (has_kind kind) qs)

-- of what owners have
abbrev pub asks_by : Problem → RevisionId → Kind → List RevisionId → List Decision
asks_by P host kind owners = flat_map (λ owner. asks_among P host kind (own_requirements P.world.known owner)) owners

-- of all kinds, in turn
abbrev pub asks_of : Problem → RevisionId → List RevisionId → List Decision
asks_of P host owners = flat_map (decisions_of P host) (in_turn P (requirements_of P.world.known owners))

abbrev pub first_among : Problem → RevisionId → List RevisionId → List Decision
first_among P m [] = asks_of P m (m ∷ [])
first_among P m (f ∷ fs) = map (attaching m) (f ∷ fs)

-- those of a member of which nothing is decided yet
abbrev pub first_due : Problem → RevisionId → List Decision
first_due P m = first_among P m (matching P m)

abbrev pub decisions_in : List DecisionRef → List Decision
decisions_in ds = map decision_of ds
