-- Attachments, bundle requirements and imports come first among the decisions of a member: where the next one is none of these, no
-- later one is.
use Rattle.std.proofs.Common.{◌≡◌, ℕ, ◌&&◌, ◌||◌, ◌⊎◌, inl, inr, zero, suc, Bool, true, false, IsTrue, List, [], ◌∷◌, ◌++◌, flat_map, map, Option, None, Some, if◌then◌else◌, refl, sym, ◌∙◌, ap, subst}
use Rattle.std.specs.Prelude.{not, slice_get}
use Rattle.std.specs.List.{list_any}
use Rattle.std.proofs.lemmas.Grind.{flat_map-append}
use Rattle.osgi_base.specs.declared.ids.RevisionId.{RevisionId}
use Rattle.osgi_world.specs.Candidates.{candidates, matching}
use Rattle.osgi_world.specs.Decisions.{Decision, Made, attaching, choose, is_open, pick}
use Rattle.osgi_world.specs.DueDecisions.{attachments, decisions_of, due_decisions, in_turn, is_generic, of_kind, payload}
use Rattle.osgi_world.specs.Lists.{In}
use Rattle.osgi_world.specs.Lookups.{is_effective, is_multiple, requirement_namespace}
use Rattle.osgi_world.specs.Satisfaction.{is_bundle, is_package}
use Rattle.osgi_world.specs.declared.problem.Problem.{Problem}
use Rattle.osgi_world.specs.declared.wiring.ReqRef.{ReqRef}
use Rattle.osgi_world.specs.declared.world.Known.{Known}
use Rattle.osgi_resolver_theory.proofs.Lists.{and-cases, any-in, filter-in, flat_map-in, map-in, or-left, or-right, true-or-false}
use Rattle.osgi_resolver_decisions.specs.computed.Asks.{decisions_in}
use Rattle.osgi_resolver_decisions.specs.computed.Free.{is_of_space}
use Rattle.osgi_resolver_path.specs.computed.Views.{is_spatial, is_spatial_next}
use Rattle.osgi_resolver_decisions.specs.declared.decision_ref.DecisionRef.{DecisionRef}

-- ---- lists

-- those that pass come first
abbrev pub InTurn : {X : Type 0} → (X → Bool) → List X → Type 0
InTurn p [] = Unit {0}
InTurn p (x ∷ xs) = (IsTrue (p x) ⊎ (list_any p xs ≡ false)) × InTurn p xs

abbrev pub passes : {X : Type 0} → (X → Bool) → Option X → Bool
passes p None = false
passes p (Some x) = p x

or-same : (a b : Bool) → IsTrue a ⊎ (b ≡ false) → a ≡ (a || b)
or-same true b h = refl
or-same false b (inl t) = cc
or-same false b (inr e) = sym e

no-both : (b : Bool) → IsTrue (not b) → IsTrue b → ⊥
no-both true e t = cc
no-both false e t = cc

none-any : {X : Type 0} (p : X → Bool) (xs : List X) → ((x : X) → In x xs → IsTrue (p x) → ⊥) → list_any p xs ≡ false
none-any p xs none = elim (true-or-false (list_any p xs)) [
  | inl t ↦ let a = any-in p xs t in absurd (none a.0 a.1 a.2)
  | inr e ↦ e
]

none-turn : {X : Type 0} (p : X → Bool) (xs : List X) → ((x : X) → In x xs → IsTrue (p x) → ⊥) → InTurn p xs
none-turn p [] none = tt
none-turn p (x ∷ xs) none = (inr (none-any p xs (λ y i. none y (inr i))), none-turn p xs (λ y i. none y (inr i)))

all-turn : {X : Type 0} (p : X → Bool) (xs ys : List X) → ((x : X) → In x xs → IsTrue (p x)) → InTurn p ys → InTurn p (xs ++ ys)
all-turn p [] ys all t = t
all-turn p (x ∷ xs) ys all t = (inl (all x (inl refl)), all-turn p xs ys (λ y i. all y (inr i)) t)

-- what comes later
pub later-turn : {X : Type 0} (p : X → Bool) (xs ys : List X) → InTurn p (xs ++ ys) → InTurn p ys
later-turn p [] ys t = t
later-turn p (x ∷ xs) ys t = later-turn p xs ys t.1

-- the first passes, or none does
pub first-turn : {X : Type 0} (p : X → Bool) (xs : List X) → InTurn p xs → passes p (slice_get xs 0) ≡ list_any p xs
first-turn p [] t = refl
first-turn p (x ∷ xs) t = or-same (p x) (list_any p xs) t.0

pub next-passes : (K : List Known) (ds : List DecisionRef) (n : ℕ) → is_spatial_next K (slice_get ds n) ≡ passes (is_spatial K) (slice_get (decisions_in ds) n)
next-passes K [] n = refl
next-passes K (d ∷ ds) zero = refl
next-passes K (d ∷ ds) (suc n) = next-passes K ds n

-- ---- the decisions of a member

module _ (P : Problem) (m : RevisionId) where
  of-one : (q : ReqRef) (d : Decision) (b : Bool) → In d (if b then map (pick m q) (candidates P q) else choose m q ∷ []) → is_spatial P.world.known d ≡ is_of_space (requirement_namespace P.world.known q)
  of-one q d true i = ap (is_spatial P.world.known) (map-in (pick m q) (candidates P q) d i).2
  of-one q d false (inl e) = ap (is_spatial P.world.known) e
  of-one q d false (inr i) = elim i [ ]

  -- those of the requirements of a kind
  of-kind : (kind : List ℕ → Bool) (qs : List ReqRef) (d : Decision) → In d (flat_map (decisions_of P m) (of_kind P kind qs)) → (name : List ℕ) × IsTrue (kind name) × (is_spatial P.world.known d ≡ is_of_space name)
  of-kind kind qs d i =
      let q = flat_map-in (decisions_of P m) (of_kind P kind qs) d i in
      let f = filter-in (λ q. is_effective P.world.known q && kind (requirement_namespace P.world.known q)) qs q.0 q.1 in
      let name = requirement_namespace P.world.known q.0 in
      (name, (and-cases (is_effective P.world.known q.0) (kind name) f.1).1, of-one q.0 d (is_multiple P.world.known q.0) q.2)

  asked-turn : (qs : List ReqRef) → InTurn (is_spatial P.world.known) (flat_map (decisions_of P m) (in_turn P qs))
  asked-turn qs =
      let p = is_spatial P.world.known in
      let f = decisions_of P m in
      let bundles = of_kind P is_bundle qs in
      let packages = of_kind P is_package qs in
      let others = of_kind P is_generic qs in
      let parts : flat_map f (in_turn P qs) ≡ flat_map f bundles ++ (flat_map f packages ++ flat_map f others)
      = flat_map-append f bundles (packages ++ others) ∙ ap (λ l. flat_map f bundles ++ l) (flat_map-append f packages others) in
      subst (InTurn p) (sym parts)
      (all-turn p (flat_map f bundles) (flat_map f packages ++ flat_map f others) (λ d i. let k = of-kind is_bundle qs d i in k.2 ∙ or-left (is_bundle k.0) (is_package k.0) k.1)
      (all-turn p (flat_map f packages) (flat_map f others) (λ d i. let k = of-kind is_package qs d i in k.2 ∙ or-right (is_bundle k.0) (is_package k.0) k.1)
      (none-turn p (flat_map f others) (λ d i t. let k = of-kind is_generic qs d i in no-both (is_of_space k.0) k.1 (sym k.2 ∙ t)))))

  rest-turn : (b : Bool) (qs : List ReqRef) → InTurn (is_spatial P.world.known) (if b then [] else flat_map (decisions_of P m) (in_turn P qs))
  rest-turn true qs = tt
  rest-turn false qs = asked-turn qs

  pub due-turn : (D : Made) → InTurn (is_spatial P.world.known) (due_decisions P D m)
  due-turn D = all-turn (is_spatial P.world.known) (attachments P m) (if list_any (is_open D) (attachments P m) then [] else flat_map (decisions_of P m) (in_turn P (payload P D m)))
      (λ d i. ap (is_spatial P.world.known) (map-in (attaching m) (matching P m) d i).2)
      (rest-turn (list_any (is_open D) (attachments P m)) (payload P D m))
