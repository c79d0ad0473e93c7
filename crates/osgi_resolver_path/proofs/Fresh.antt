-- One member more is opened: its decisions are those of a member of which nothing is decided yet.
use Rattle.std.proofs.Common.{◌≡◌, ℕ, ◌+◌, ◌<◌, inl, inr, zero, suc, length, take, drop, get_or, List, [], ◌∷◌, ◌++◌, map, filter, flat_map, None, Some, refl, sym, ◌∙◌, ap, subst, arith, length-append}
use Rattle.std.proofs.lemmas.List.{get_or_default}
use Rattle.osgi_base.specs.declared.ids.RevisionId.{RevisionId}
use Rattle.osgi_world.specs.Candidates.{IsProblem, matching}
use Rattle.osgi_world.specs.Decisions.{Decision, IsMade, Made, attaching, is_yes, value_made}
use Rattle.osgi_world.specs.DueDecisions.{attachments, decisions_of, due_decisions, fragments_of, in_turn, members}
use Rattle.osgi_world.specs.Lists.{In, Two}
use Rattle.osgi_world.specs.Payloads.{own_requirements}
use Rattle.osgi_world.specs.declared.problem.Problem.{Problem}
use Rattle.osgi_resolver_theory.proofs.Complete.{members-once}
use Rattle.osgi_resolver_theory.proofs.Lists.{flat_map-in}
use Rattle.osgi_resolver_theory.proofs.Queue.{made-in_order, queued}
use Rattle.osgi_resolver_theory.proofs.States.{due-host, due-in}
use Rattle.osgi_resolver_theory.specs.Queue.{in_order}
use Rattle.osgi_resolver_theory.specs.States.{State}
use Rattle.osgi_resolver_decisions.specs.computed.Asks.{first_among, first_due}
use Rattle.osgi_resolver_path.specs.computed.Openings.{IsOpened}
use Rattle.osgi_resolver_path.proofs.Grown.{asked, made-due, one-more, open-due, same-front}
use Rattle.osgi_resolver_path.proofs.Next.{length-in_order, queue-parts}

-- ---- a member of which nothing is decided

new-due : (P : Problem) (D : Made) (m : RevisionId) → ((f : RevisionId) → In f (matching P m) → value_made D (attaching m f) ≡ None) → (fs : List RevisionId) → matching P m ≡ fs → due_decisions P D m ≡ first_among P m fs
new-due P D m none [] e =
    let no-attachments : attachments P m ≡ [] = ap (map (attaching m)) e in
    let all : (x : Decision) → In x (attachments P m) → IsMade D x = λ x i. absurd (nothing x (subst (In x) no-attachments i)) in
    let no-fragments : fragments_of P D m ≡ [] = ap (filter (λ f. is_yes (value_made D (attaching m f)))) e in
    made-due P D m all ∙ ap (λ l. l ++ asked P D m) no-attachments ∙ ap (λ fs. flat_map (decisions_of P m) (in_turn P (flat_map (own_requirements P.world.known) (m ∷ fs)))) no-fragments
  where
    nothing : (x : Decision) → In x [] → ⊥
    nothing x i = i
new-due P D m none (f ∷ fs) e =
    let i : In f (matching P m) = subst (In f) (sym e) (inl refl) in
    open-due P D m f i (none f i) ∙ ap (map (attaching m)) e

-- ---- the members that are not opened yet

pub get-in : {X : Type 0} (xs : List X) (n : ℕ) (d : X) → n < length xs → In (get_or xs n d) xs
get-in [] n d h = absurd (omega arith)
get-in (y ∷ ys) zero d h = inl refl
get-in (y ∷ ys) (suc n) d h = inr (get-in ys n d (omega arith))

-- what stands at a place stands at no place before it, in a list of items that differ
not-before : {X : Type 0} (xs : List X) (n : ℕ) (d : X) → ¬ Two ◌≡◌ xs → n < length xs → In (get_or xs n d) (take n xs) → ⊥
not-before [] n d once h i = absurd (omega arith)
not-before (y ∷ ys) zero d once h i = i
not-before (y ∷ ys) (suc n) d once h (inl e) = once (inl (get_or ys n d, get-in ys n d (omega arith), sym e))
not-before (y ∷ ys) (suc n) d once h (inr i) = not-before ys n d (λ t. once (inr t)) (omega arith) i

module _ (P : Problem) (L : IsProblem P) (D : Made) (s : State P D) (ids : List RevisionId) (qs : List Decision) (k : ℕ) (members-are : ids ≡ members P D) (o : IsOpened P D ids qs k) (waits : length qs ≡ length D) where
  -- all that is opened is made
  all-made : qs ≡ in_order D
  all-made =
      let q = queued P L D s in
      let others = flat_map (due_decisions P D) (drop (k + 1) ids) in
      let whole : (qs ++ others) ≡ (in_order D ++ q.rest) = ap (λ l. l ++ others) o.queue_is ∙ sym (queue-parts P D ids (k + 1) members-are) ∙ q.is in
      sym (same-front qs others (in_order D) q.rest whole (waits ∙ sym (length-in_order D))).0

  fresh : (d : RevisionId) → k + 1 < length ids → (f : RevisionId) → IsMade D (attaching (get_or ids (k + 1) d) f) → ⊥
  fresh d within f made =
      let m = get_or ids (k + 1) d in
      let there = subst (In (attaching m f)) (sym all-made ∙ o.queue_is) (made-in_order D (attaching m f) made) in
      let x = flat_map-in (due_decisions P D) (take (k + 1) ids) (attaching m f) there in
      let same = due-host P D x.0 (attaching m f) (due-in P D x.0 (attaching m f) x.2) in
      not-before ids (k + 1) d (subst (λ l. ¬ Two ◌≡◌ l) (sym members-are) (members-once P D)) within (subst (λ y. In y (take (k + 1) ids)) (sym same) x.1)

  none-of : (d : RevisionId) → k + 1 < length ids → (f : RevisionId) → value_made D (attaching (get_or ids (k + 1) d) f) ≡ None
  none-of d within f = go (value_made D (attaching (get_or ids (k + 1) d) f)) refl
    where
      go : (v : Rattle.std.proofs.Common.Option ℕ) → value_made D (attaching (get_or ids (k + 1) d) f) ≡ v → v ≡ None
      go None e = refl
      go (Some v) e = absurd (fresh d within f (v, e))

  pub opened-next : (d : RevisionId) → k + 1 < length ids → IsOpened P D ids (qs ++ first_due P (get_or ids (k + 1) d)) (k + 1)
  opened-next d within =
      let m = get_or ids (k + 1) d in
      let first : due_decisions P D m ≡ first_due P m = new-due P D m (λ f i. none-of d within f) (matching P m) refl in
      record {
        queue_is = ap (λ l. qs ++ l) (sym first) ∙ ap (λ l. l ++ due_decisions P D m) o.queue_is ∙ sym (one-more (due_decisions P D) ids (k + 1) m within (get_or_default ids (k + 1) d m within));
        done = let a = ap length o.queue_is in omega (arith, a, waits);
        within = let a = length-append qs (first_due P m) in omega (arith, a, waits);
        last_in = within;
      }
