-- The next decision stands in the queue after those that are made.
use Rattle.std.proofs.Common.{◌≡◌, ℕ, ◌+◌, ◌<◌, ◌≤◌, ◌⊎◌, inl, inr, zero, suc, length, List, [], ◌∷◌, ◌++◌, flat_map, find, take, drop, Option, Some, None, refl, sym, ◌∙◌, ap, subst, arith}
use Rattle.std.specs.Prelude.{slice_get}
use Rattle.std.proofs.lemmas.Grind.{flat_map-append}
use Rattle.std.proofs.lemmas.List.{length-map, take-append-drop, take_all}
use Rattle.osgi_base.specs.declared.ids.RevisionId.{RevisionId}
use Rattle.osgi_world.specs.Candidates.{IsProblem}
use Rattle.osgi_world.specs.Decisions.{Decision, Made, is_open, value_made}
use Rattle.osgi_world.specs.DueDecisions.{due_decisions, members, next_decision, queue}
use Rattle.osgi_world.specs.Lists.{In}
use Rattle.osgi_world.specs.declared.problem.Problem.{Problem}
use Rattle.osgi_resolver_theory.proofs.Queue.{next-queued, queued}
use Rattle.osgi_resolver_theory.proofs.Words.{word-state}
use Rattle.osgi_resolver_theory.specs.Queue.{in_order}
use Rattle.osgi_resolver_theory.specs.States.{State}
use Rattle.osgi_resolver_decisions.specs.DecisionOf.{decision_of}
use Rattle.osgi_resolver_decisions.specs.computed.Asks.{decisions_in}
use Rattle.osgi_resolver_path.specs.computed.Courses.{CourseLists, IsRight, made_of, word_of}
use Rattle.osgi_resolver_path.specs.declared.course.Mark.{Mark}

-- ---- lists

pub get-append_at : {X : Type 0} (xs ys : List X) → slice_get (xs ++ ys) (length xs) ≡ slice_get ys 0
get-append_at [] ys = refl
get-append_at (x ∷ xs) ys = get-append_at xs ys

get-append_within : {X : Type 0} (xs ys : List X) (n : ℕ) → n < length xs → slice_get (xs ++ ys) n ≡ slice_get xs n
get-append_within [] ys n h = absurd (omega arith)
get-append_within (x ∷ xs) ys zero h = refl
get-append_within (x ∷ xs) ys (suc n) h = get-append_within xs ys n (omega arith)

pub length-in_order : (D : Made) → length (in_order D) ≡ length D
length-in_order [] = refl
length-in_order (t ∷ D) = Rattle.std.proofs.Common.length-append (in_order D) (t.0 ∷ []) ∙ (let e = length-in_order D in omega (arith, e))

pub length-made_of : (ms : List Mark) → length (made_of ms) ≡ length ms
length-made_of [] = refl
length-made_of (m ∷ ms) = ap suc (length-made_of ms)

-- the first of a list whose items all are open
first-open : (D : Made) (rest : List Decision) → ((d : Decision) → In d rest → value_made D d ≡ None) → find (is_open D) rest ≡ slice_get rest 0
first-open D [] opens = refl
first-open D (d ∷ rest) opens = opened (value_made D d) (opens d (inl refl))
  where
    opened : (o : Option ℕ) → o ≡ None → (Rattle.std.specs.Prelude.cond (Rattle.std.specs.Prelude.is_none o) (Some d) (find (is_open D) rest)) ≡ Some d
    opened None e = refl
    opened (Some v) e = cc

-- ---- the next decision

-- a made list, and a queue that goes on after what is here
pub next-after : (P : Problem) → IsProblem P → (D : Made) → State P D → next_decision P D ≡ slice_get (queue P D) (length D)
next-after P L D s =
    let q = queued P L D s in
    next-queued P D q ∙ first-open D q.rest q.open_rest
    ∙ sym (ap (λ l. slice_get l (length D)) q.is ∙ ap (slice_get (in_order D ++ q.rest)) (sym (length-in_order D)) ∙ get-append_at (in_order D) q.rest)

-- the queue of all members is that of the first, and of the others
pub queue-parts : (P : Problem) (D : Made) (ids : List RevisionId) (n : ℕ) → ids ≡ members P D → queue P D ≡ flat_map (due_decisions P D) (take n ids) ++ flat_map (due_decisions P D) (drop n ids)
queue-parts P D ids n e =
    ap (flat_map (due_decisions P D)) (sym e ∙ sym (take-append-drop n ids)) ∙ flat_map-append (due_decisions P D) (take n ids) (drop n ids)

pub right-state : (P : Problem) (ms : List Mark) (F : CourseLists) → IsRight P ms F → State P (made_of ms)
right-state P ms F r = subst (State P) r.is (word-state P (word_of ms) r.word)

next-go : (P : Problem) (D : Made) (F : CourseLists) (n : ℕ) → decisions_in F.queue ≡ flat_map (due_decisions P D) (take (F.last + 1) F.ids) → F.ids ≡ members P D → n ≤ length F.queue → ((n < length F.queue) ⊎ (F.last + 1 ≡ length F.ids)) →
    slice_get (queue P D) n ≡ slice_get (decisions_in F.queue) n
next-go P D F n is ids within (inl less) =
    let rest = flat_map (due_decisions P D) (drop (F.last + 1) F.ids) in
    ap (λ l. slice_get l n) (queue-parts P D F.ids (F.last + 1) ids ∙ ap (λ l. l ++ rest) (sym is))
    ∙ get-append_within (decisions_in F.queue) rest n (let e = length-map F.queue decision_of in omega (arith, less, e))
next-go P D F n is ids within (inr all) =
    ap (λ l. slice_get l n) (ap (flat_map (due_decisions P D)) (sym ids ∙ sym (take_all (F.last + 1) F.ids (omega (arith, all)))) ∙ sym is)

-- the next decision stands at the place after those that are made
pub next-there : (P : Problem) → IsProblem P → (ms : List Mark) (F : CourseLists) → IsRight P ms F → next_decision P (made_of ms) ≡ slice_get (decisions_in F.queue) (length ms)
next-there P L ms F r =
    let D = made_of ms in
    next-after P L D (right-state P ms F r) ∙ ap (slice_get (queue P D)) (length-made_of ms) ∙ next-go P D F (length ms) r.queue r.ids r.within r.pending
