-- The wires that a payload's requirements have.
use Rattle.std.proofs.Common.{◌≡◌, ℕ, ◌+◌, ◌<◌, zero, suc, add-one, length, get_or, take, Bool, true, false, IsTrue, if◌then◌else◌, List, [], ◌∷◌, ◌++◌, map, filter, flat_map, Option, Some, None, refl, sym, ◌∙◌, ap, subst, append-nil}
use Rattle.std.specs.Prelude.{slice_get}
use Rattle.std.specs.Option.{option_to_list}
use Rattle.std.proofs.lemmas.Grind.{flat_map-append}
use Rattle.std.proofs.lemmas.List.{map-append, take_more}
use Rattle.osgi_base.specs.declared.ids.RevisionId.{RevisionId}
use Rattle.osgi_world.specs.Candidates.{CanBeAsked, candidates}
use Rattle.osgi_world.specs.Decisions.{Made, choose, is_yes, pick, value_made}
use Rattle.osgi_world.specs.DueDecisions.{payload}
use Rattle.osgi_world.specs.Lists.{In, below, item_at}
use Rattle.osgi_world.specs.Lookups.{is_effective, is_multiple}
use Rattle.osgi_world.specs.Partial.{chosen_by, wires_for}
use Rattle.osgi_world.specs.Payloads.{own_requirements, requirements_of}
use Rattle.osgi_world.specs.declared.problem.Problem.{Problem}
use Rattle.osgi_world.specs.declared.wiring.ReqRef.{ReqRef}
use Rattle.osgi_resolver_theory.proofs.States.{member-current, payload-asked, sound}
use Rattle.osgi_resolver_theory.proofs.Values.{yes-some}
use Rattle.osgi_resolver_theory.proofs.Views.{due-asked, due-picked}
use Rattle.osgi_resolver_theory.specs.States.{State}
use Rattle.osgi_resolver_path.proofs.Next.{right-state}
use Rattle.osgi_resolver_path.specs.computed.Courses.{lists_of}
use Rattle.osgi_resolver_path.specs.computed.Views.{IsReady, by_value, decided_in, wire_to}
use Rattle.osgi_resolver_path.specs.declared.course.Course.{Course}
use Rattle.osgi_resolver_decisions.specs.declared.lists.Lists.{Lists}

pub item-listed : {X : Type 0} (xs : List X) (n : ℕ) → option_to_list (slice_get xs n) ≡ item_at xs n
item-listed [] n = refl
item-listed (x ∷ xs) zero = refl
item-listed (x ∷ xs) (suc n) = item-listed xs n

-- ---- of a requirement

none-of : {X : Type 0} (p : X → Bool) (xs : List X) → ((x : X) → IsTrue (p x) → ⊥) → filter p xs ≡ []
none-of p [] none = refl
none-of p (x ∷ xs) none = go (p x) (none x) (none-of p xs none)
  where
    go : (b : Bool) → (IsTrue b → ⊥) → filter p xs ≡ [] → (if b then x ∷ filter p xs else filter p xs) ≡ []
    go true f rest = absurd (f refl)
    go false f rest = rest

not-both : (b : Bool) → b ≡ false → IsTrue b → ⊥
not-both true e t = cc
not-both false e t = cc

none-chosen : (P : Problem) (q : ReqRef) (o : Option ℕ) → ((v : ℕ) → o ≡ Some v → ⊥) → chosen_by P q o ≡ []
none-chosen P q None none = refl
none-chosen P q (Some v) none = absurd (none v refl)

-- one that is not effective has none
pub ineffective-none : (P : Problem) (D : Made) → State P D → (h : RevisionId) (q : ReqRef) → is_effective P.world.known q ≡ false → wires_for P D h q ≡ []
ineffective-none P D s h q e = ap (map (wire_to q)) (go (is_multiple P.world.known q))
  where
    go : (b : Bool) → (if b then filter (λ c. is_yes (value_made D (pick h q c))) (candidates P q) else chosen_by P q (value_made D (choose h q))) ≡ []
    go true = none-of (λ c. is_yes (value_made D (pick h q c))) (candidates P q) (λ c t. not-both (is_effective P.world.known q) e (due-picked P D h q c (sound P D s (pick h q c) 0 (yes-some _ t)).due).0.effective)
    go false = none-chosen P q (value_made D (choose h q)) (λ v x. not-both (is_effective P.world.known q) e (due-asked P D h q (sound P D s (choose h q) v x).due).0.effective)

pub picked-wires : (P : Problem) (D : Made) (h : RevisionId) (q : ReqRef) → is_multiple P.world.known q ≡ true → wires_for P D h q ≡ map (wire_to q) (filter (λ c. is_yes (value_made D (pick h q c))) (candidates P q))
picked-wires P D h q e = ap (λ b. map (wire_to q) (if b then filter (λ c. is_yes (value_made D (pick h q c))) (candidates P q) else chosen_by P q (value_made D (choose h q)))) e

chosen-value : (P : Problem) (q : ReqRef) (o : Option ℕ) → chosen_by P q o ≡ by_value (candidates P q) o
chosen-value P q None = refl
chosen-value P q (Some v) = refl

pub chosen-wires : (P : Problem) (D : Made) (h : RevisionId) (q : ReqRef) → is_multiple P.world.known q ≡ false → wires_for P D h q ≡ map (wire_to q) (by_value (candidates P q) (value_made D (choose h q)))
chosen-wires P D h q e =
    ap (λ b. map (wire_to q) (if b then filter (λ c. is_yes (value_made D (pick h q c))) (candidates P q) else chosen_by P q (value_made D (choose h q)))) e
    ∙ ap (map (wire_to q)) (chosen-value P q (value_made D (choose h q)))

-- its candidates can be asked for
pub ready-has : (P : Problem) (lists : Lists) (course : Course) → IsReady P lists course → (h : RevisionId) (q : ReqRef) → In h course.ids.items → In q (payload P (decided_in course) h) → IsTrue (is_effective P.world.known q) → CanBeAsked P.world.known q
ready-has P lists course ready h q i j eff =
    let D = decided_in course in
    let s = right-state P _ (lists_of course) ready.at in
    payload-asked P ready.in_it.is D h q (member-current P ready.in_it.is D s h (subst (In h) ready.at.ids i)).0 j eff

-- ---- of owners

pub below-more : (P : Problem) (D : Made) (h owner : RevisionId) (n : ℕ) →
    flat_map (wires_for P D h) (map (λ (i : ℕ). let q : ReqRef = record { owner = owner; index = i } in q) (below (n + 1))) ≡ flat_map (wires_for P D h) (map (λ (i : ℕ). let q : ReqRef = record { owner = owner; index = i } in q) (below n)) ++ wires_for P D h (record { owner = owner; index = n })
below-more P D h owner n =
    let at = λ (i : ℕ). let q : ReqRef = record { owner = owner; index = i } in q in
    ap (λ k. flat_map (wires_for P D h) (map at (below k))) (add-one n)
    ∙ ap (flat_map (wires_for P D h)) (map-append at (below n) (n ∷ []))
    ∙ flat_map-append (wires_for P D h) (map at (below n)) (at n ∷ [])
    ∙ ap (λ l. flat_map (wires_for P D h) (map at (below n)) ++ l) (append-nil (wires_for P D h (at n)))

pub owners-more : (P : Problem) (D : Made) (h : RevisionId) (owners : List RevisionId) (n : ℕ) (owner : RevisionId) → n < length owners → owner ≡ get_or owners n owner →
    flat_map (wires_for P D h) (requirements_of P.world.known (take (n + 1) owners)) ≡ flat_map (wires_for P D h) (requirements_of P.world.known (take n owners)) ++ flat_map (wires_for P D h) (own_requirements P.world.known owner)
owners-more P D h owners n owner within is =
    let own = own_requirements P.world.known in
    ap (λ l. flat_map (wires_for P D h) (flat_map own l)) (take_more owners n owner within ∙ ap (λ x. take n owners ++ x ∷ []) (sym is))
    ∙ ap (flat_map (wires_for P D h)) (flat_map-append own (take n owners) (owner ∷ []) ∙ ap (λ l. flat_map own (take n owners) ++ l) (append-nil (own owner)))
    ∙ flat_map-append (wires_for P D h) (flat_map own (take n owners)) (own owner)

pub member-more : {X Y : Type 0} (f : X → Y) (xs : List X) (n : ℕ) (x : X) → n < length xs → x ≡ get_or xs n x → map f (take (n + 1) xs) ≡ map f (take n xs) ++ f x ∷ []
member-more f xs n x within is = ap (map f) (take_more xs n x within ∙ ap (λ y. take n xs ++ y ∷ []) (sym is)) ∙ map-append f (take n xs) (x ∷ [])
