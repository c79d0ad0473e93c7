-- The decisions of requirements by kind.
use Rattle.std.proofs.Common.{◌≡◌, ℕ, ◌+◌, ◌<◌, length, get_or, take, Bool, true, false, ◌&&◌, if◌then◌else◌, List, [], ◌∷◌, ◌++◌, map, filter, flat_map, refl, sym, ◌∙◌, ap, ap₂, add-one, append-nil, append_assoc}
use Rattle.std.proofs.lemmas.Grind.{flat_map-append}
use Rattle.std.proofs.lemmas.List.{flat_map_more, map-append, take_more}
use Rattle.osgi_base.specs.declared.ids.RevisionId.{RevisionId}
use Rattle.osgi_world.specs.Decisions.{Decision}
use Rattle.osgi_world.specs.DueDecisions.{decisions_of, of_kind}
use Rattle.osgi_world.specs.Lists.{below}
use Rattle.osgi_world.specs.Lookups.{is_effective, requirement_namespace}
use Rattle.osgi_world.specs.Payloads.{own_requirements, requirements_of}
use Rattle.osgi_world.specs.declared.problem.Problem.{Problem}
use Rattle.osgi_world.specs.declared.wiring.ReqRef.{ReqRef}
use Rattle.osgi_resolver_decisions.specs.declared.kind.Kind.{Kind}
use Rattle.osgi_resolver_decisions.specs.declared.kind.Kind.TheVariants.{Bundle, Package, Other}
use Rattle.osgi_resolver_decisions.specs.computed.Asks.{asks_among, asks_by, asks_of, has_kind}

filter-more : {X : Type 0} (p : X → Bool) (xs ys : List X) → filter p (xs ++ ys) ≡ filter p xs ++ filter p ys
filter-more p [] ys = refl
filter-more p (x ∷ xs) ys = go (p x) (filter-more p xs ys)
  where
    go : (b : Bool) → filter p (xs ++ ys) ≡ filter p xs ++ filter p ys → (if b then x ∷ filter p (xs ++ ys) else filter p (xs ++ ys)) ≡ (if b then x ∷ filter p xs else filter p xs) ++ filter p ys
    go true e = ap (λ l. x ∷ l) e
    go false e = e

-- owner by owner is all at once
pub asks-at_once : (P : Problem) (host : RevisionId) (kind : Kind) (owners : List RevisionId) → asks_by P host kind owners ≡ flat_map (decisions_of P host) (of_kind P (has_kind kind) (requirements_of P.world.known owners))
asks-at_once P host kind [] = refl
asks-at_once P host kind (o ∷ os) =
    let own = own_requirements P.world.known o in
    let others = requirements_of P.world.known os in
    let test = λ (q : ReqRef). is_effective P.world.known q && has_kind kind (requirement_namespace P.world.known q) in
    ap (λ l. asks_among P host kind own ++ l) (asks-at_once P host kind os)
    ∙ sym (flat_map-append (decisions_of P host) (of_kind P (has_kind kind) own) (of_kind P (has_kind kind) others))
    ∙ ap (flat_map (decisions_of P host)) (sym (filter-more test own others))

-- one requirement more of an owner
pub among-more : (P : Problem) (host : RevisionId) (kind : Kind) (owner : RevisionId) (n : ℕ) →
    asks_among P host kind (map (λ (i : ℕ). let q : ReqRef = record { owner = owner; index = i } in q) (below (n + 1)))
    ≡ asks_among P host kind (map (λ (i : ℕ). let q : ReqRef = record { owner = owner; index = i } in q) (below n)) ++ asks_among P host kind (record { owner = owner; index = n } ∷ [])
among-more P host kind owner n =
    let at = λ (i : ℕ). let q : ReqRef = record { owner = owner; index = i } in q in
    let test = λ (q : ReqRef). is_effective P.world.known q && has_kind kind (requirement_namespace P.world.known q) in
    ap (λ k. asks_among P host kind (map at (below k))) (add-one n)
    ∙ ap (asks_among P host kind) (map-append at (below n) (n ∷ []))
    ∙ ap (flat_map (decisions_of P host)) (filter-more test (map at (below n)) (at n ∷ []))
    ∙ flat_map-append (decisions_of P host) (of_kind P (has_kind kind) (map at (below n))) (of_kind P (has_kind kind) (at n ∷ []))

-- kind by kind is in turn
pub asks-in_turn : (P : Problem) (host : RevisionId) (owners : List RevisionId) → (asks_by P host Bundle owners ++ asks_by P host Package owners) ++ asks_by P host Other owners ≡ asks_of P host owners
asks-in_turn P host owners =
    let qs = requirements_of P.world.known owners in
    let d = decisions_of P host in
    let b = of_kind P (has_kind Bundle) qs in
    let p = of_kind P (has_kind Package) qs in
    let o = of_kind P (has_kind Other) qs in
    append_assoc (asks_by P host Bundle owners) (asks_by P host Package owners) (asks_by P host Other owners)
    ∙ ap₂ (λ x y. x ++ y) (asks-at_once P host Bundle owners) (ap₂ (λ x y. x ++ y) (asks-at_once P host Package owners) (asks-at_once P host Other owners))
    ∙ sym (flat_map-append d b (p ++ o) ∙ ap (λ l. flat_map d b ++ l) (flat_map-append d p o))

-- those of one owner
pub asks-own : (P : Problem) (m : RevisionId) →
    (asks_among P m Bundle (own_requirements P.world.known m) ++ asks_among P m Package (own_requirements P.world.known m)) ++ asks_among P m Other (own_requirements P.world.known m) ≡ asks_of P m (m ∷ [])
asks-own P m =
    let by = λ (kind : Kind). asks_among P m kind (own_requirements P.world.known m) in
    sym (ap₂ (λ x y. x ++ y) (ap₂ (λ x y. x ++ y) (append-nil (by Bundle)) (append-nil (by Package))) (append-nil (by Other)))
    ∙ asks-in_turn P m (m ∷ [])

pub asks-more : (P : Problem) (host : RevisionId) (kind : Kind) (all : List RevisionId) (i : ℕ) (x : RevisionId) (old so_far new : List Decision) → i < length all → x ≡ get_or all i x → so_far ≡ old ++ asks_by P host kind (take i all) →
    new ≡ so_far ++ asks_among P host kind (own_requirements P.world.known x) → new ≡ old ++ asks_by P host kind (take (i + 1) all)
asks-more P host kind all i x old so_far new within is before more =
    let f = λ (o : RevisionId). asks_among P host kind (own_requirements P.world.known o) in
    more ∙ ap (λ l. l ++ f x) before ∙ flat_map_more f old (take i all) x ∙ ap (λ l. old ++ flat_map f l) (ap (λ y. take i all ++ y ∷ []) is ∙ sym (take_more all i x within))
