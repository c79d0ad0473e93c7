-- What is due after one decision more.
use Rattle.std.proofs.Common.{◌≡◌, ℕ, ◌+◌, ◌<◌, ◌≤◌, inl, inr, zero, suc, IsTrue, length, List, [], ◌∷◌, ◌++◌, map, flat_map, reverse, Some, refl, sym, ◌∙◌, ap, subst, arith, append-nil, length-append}
use Rattle.std.specs.Prelude.{All, slice_get}
use Rattle.std.proofs.lemmas.List.{length-map, length-reverse, map-append, take-append-le}
use Rattle.std.proofs.lemmas.List.Elements.{All-cons}
use Rattle.osgi_base.specs.declared.ids.RevisionId.{RevisionId}
use Rattle.osgi_world.specs.Candidates.{IsProblem, matching}
use Rattle.osgi_world.specs.Decisions as spec
use Rattle.osgi_world.specs.Decisions.{Made, attaching, choose, is_yes, pick, value_made}
use Rattle.osgi_world.specs.DueDecisions.{due_decisions, fragments_of, members, next_decision}
use Rattle.osgi_world.specs.Lists.{In}
use Rattle.osgi_world.specs.Lookups.{is_current, is_host_of}
use Rattle.osgi_world.specs.Payloads.{current_fragments}
use Rattle.osgi_world.specs.declared.problem.Problem.{Problem}
use Rattle.osgi_resolver_theory.proofs.Laws.{laws}
use Rattle.osgi_resolver_theory.proofs.Lists.{filter-in}
use Rattle.osgi_resolver_theory.proofs.States.{due-host, member-current, next-due}
use Rattle.osgi_resolver_theory.specs.States.{State, step}
use Rattle.osgi_resolver_decisions.specs.DecisionOf.{decision_of}
use Rattle.osgi_resolver_path.specs.computed.Afters.{IsAskedAfter, owners_with}
use Rattle.osgi_resolver_decisions.specs.computed.Asks.{decisions_in}
use Rattle.osgi_resolver_path.specs.computed.Courses.{CourseLists, IsRight, lists_of, made_of}
use Rattle.osgi_resolver_path.specs.computed.Nexts.{IsNextOf, IsOpenedBy}
use Rattle.osgi_resolver_path.specs.computed.Openings.{IsOpened, Waits}
use Rattle.osgi_resolver_path.specs.declared.course.Course.{Course}
use Rattle.osgi_resolver_path.specs.declared.course.Mark.{Mark}
use Rattle.osgi_resolver_decisions.specs.declared.decision_ref.DecisionRef.{DecisionRef}
use Rattle.osgi_resolver_path.specs.declared.opening.More.{More}
use Rattle.osgi_resolver_path.proofs.Grown.{asked, opened-ask, opened-last, opened-some}
use Rattle.osgi_resolver_path.proofs.Next.{length-made_of, next-there, right-state}

-- ---- lists

pub get-map : {X Y : Type 0} (f : X → Y) (xs : List X) (n : ℕ) (x : X) → slice_get xs n ≡ Some x → slice_get (map f xs) n ≡ Some (f x)
get-map f [] n x e = cc
get-map f (y ∷ ys) zero x e = ap (λ o. Rattle.std.specs.Option.option_map f o) e
get-map f (y ∷ ys) (suc n) x e = get-map f ys n x e

-- who joins stands after those that are opened
pub opened-longer : (P : Problem) (D : Made) (ids joined : List RevisionId) (qs : List spec.Decision) (k : ℕ) → IsOpened P D ids qs k → IsOpened P D (ids ++ joined) qs k
opened-longer P D ids joined qs k o = record {
  queue_is = o.queue_is ∙ ap (flat_map (due_decisions P D)) (sym (take-append-le (k + 1) ids joined (let h = o.last_in in omega (arith, h))));
  done = subst (λ l. length (flat_map (due_decisions P D) l) ≤ length D) (sym (take-append-le k ids joined (let h = o.last_in in omega (arith, h)))) o.done;
  within = o.within;
  last_in = let h = o.last_in in let e = length-append ids joined in omega (arith, h, e);
}

module _ (P : Problem) (L : IsProblem P) (c : Course) (ids : List RevisionId) (decision : DecisionRef) (value : ℕ) (r : IsRight P (reverse c.marks.items) (record (lists_of c) { ids = ids })) (n : IsNextOf P c ids decision value) where
  abbrev ms : List Mark
  ms = reverse c.marks.items

  abbrev D : Made
  D = made_of ms

  abbrev d : spec.Decision
  d = decision_of decision

  abbrev F : CourseLists
  F = record (lists_of c) { ids = ids }

  pub size : length D ≡ length c.marks.items
  size = length-made_of ms ∙ length-reverse c.marks.items

  pub there : slice_get (decisions_in c.queue) (length D) ≡ Some d
  there = ap (slice_get (decisions_in c.queue)) size ∙ get-map decision_of c.queue (length c.marks.items) decision n.next

  pub next-is : next_decision P D ≡ Some d
  next-is = next-there P L ms F r ∙ ap (slice_get (decisions_in c.queue)) (sym (length-made_of ms)) ∙ there

  pub state : State P D
  state = right-state P ms F r

  pub state-then : State P ((d, value) ∷ D)
  state-then = step state next-is n.range

  opened : IsOpened P D ids (decisions_in c.queue) c.last
  opened = record {
    queue_is = r.queue;
    done = let h = r.done in let e = length-made_of ms in omega (arith, h, e);
    within = let h = r.within in let e = length-made_of ms in let f = length-map c.queue decision_of in omega (arith, h, e, f);
    last_in = r.last_in;
  }

  same-then : ((h f : RevisionId) → d ≡ attaching h f → length D + 1 < length (decisions_in c.queue)) → IsOpened P ((d, value) ∷ D) ids (decisions_in c.queue) c.last
  same-then waits = go d refl
    where
      go : (x : spec.Decision) → d ≡ x → IsOpened P ((d, value) ∷ D) ids (decisions_in c.queue) c.last
      go (attaching h f) e = opened-some P L D state ids (decisions_in c.queue) c.last value d r.ids opened there h f e (waits h f e)
      go (choose h q) e = opened-ask P L D state ids (decisions_in c.queue) c.last value d r.ids opened there (λ k f x. clash k f (sym x ∙ e))
        where
          clash : (k f : RevisionId) → attaching k f ≡ choose h q → ⊥
          clash k f y = cc
      go (pick h q y) e = opened-ask P L D state ids (decisions_in c.queue) c.last value d r.ids opened there (λ k f x. clash k f (sym x ∙ e))
        where
          clash : (k f : RevisionId) → attaching k f ≡ pick h q y → ⊥
          clash k f z = cc

  -- other decisions wait in the queue
  pub waiting-then : (more : More) → length c.marks.items + 1 < length c.queue → more.decisions ≡ [] → more.last ≡ c.last → IsOpenedBy P c decision value more
  waiting-then more waits none last-is =
      let same = same-then (λ h f e. let z = length-map c.queue decision_of in let y = size in omega (arith, waits, z, y)) in
      let queue-is : (c.queue ++ more.decisions) ≡ c.queue = ap (λ l. c.queue ++ l) none ∙ append-nil c.queue in
      record {
        opened =
            subst (λ k. IsOpened P ((d, value) ∷ D) c.ids.items (decisions_in (c.queue ++ more.decisions)) k) (sym last-is)
            (subst (λ q. IsOpened P ((d, value) ∷ D) c.ids.items (decisions_in q) c.last) (sym queue-is)
            (subst (λ l. IsOpened P ((d, value) ∷ D) l (decisions_in c.queue) c.last) (sym n.ids_are) (opened-longer P ((d, value) ∷ D) ids n.joined (decisions_in c.queue) c.last same)));
        pending = inl (subst (λ q. length c.marks.items + 1 < length q) (sym queue-is) waits);
      }

  current-then : (h f : RevisionId) → d ≡ attaching h f → All (λ (o : RevisionId). IsTrue (is_current P.world.known o)) (owners_with P D h f value)
  current-then h f e =
      let due-is = next-due P D d next-is in
      let host-is : due-is.0 ≡ h = sym (due-host P D due-is.0 d due-is.2) ∙ ap spec.host e in
      let host-in : In h (members P D) = subst (λ x. In x (members P D)) host-is due-is.1 in
      let E : Made = (attaching h f, value) ∷ D in
      All-cons (λ (o : RevisionId). IsTrue (is_current P.world.known o)) h (fragments_of P E h) (member-current P L D state h host-in).0
      (all-in (fragments_of P E h) (λ g i. (((laws P L).fragments_are g).0 (filter-in (λ (x : RevisionId). is_host_of P.world.known x h) (current_fragments P.world.known) g (filter-in (λ (x : RevisionId). is_yes (value_made E (attaching h x))) (matching P h) g i).0).0).0))
    where
      all-in : (xs : List RevisionId) → ((x : RevisionId) → In x xs → IsTrue (is_current P.world.known x)) → All (λ (o : RevisionId). IsTrue (is_current P.world.known o)) xs
      all-in [] f = λ k x h. absurd (omega (arith, h))
      all-in (x ∷ xs) f = All-cons (λ (o : RevisionId). IsTrue (is_current P.world.known o)) x xs (f x (inl refl)) (all-in xs (λ y i. f y (inr i)))

  -- all decisions of the queue are made then: with what it makes due itself
  pub all-then : (asks : List spec.Decision) → length c.marks.items + 1 ≡ length c.queue → IsAskedAfter P D d value asks → IsOpened P ((d, value) ∷ D) c.ids.items (decisions_in c.queue ++ asks) c.last
  all-then asks all asked-is =
      subst (λ l. IsOpened P ((d, value) ∷ D) l (decisions_in c.queue ++ asks) c.last) (sym n.ids_are) (opened-longer P ((d, value) ∷ D) ids n.joined (decisions_in c.queue ++ asks) c.last (go d refl asked-is))
    where
      whole : length D + 1 ≡ length (decisions_in c.queue)
      whole = let z = length-map c.queue decision_of in let y = size in omega (arith, all, z, y)

      go : (x : spec.Decision) → d ≡ x → IsAskedAfter P D x value asks → IsOpened P ((d, value) ∷ D) ids (decisions_in c.queue ++ asks) c.last
      go (attaching h f) e is =
          let o = opened-last P L D state ids (decisions_in c.queue) c.last value d r.ids opened there h f e whole in
          let same : asks ≡ asked P ((d, value) ∷ D) h = is (current-then h f e) ∙ ap (λ x. asked P ((x, value) ∷ D) h) (sym e) in
          subst (λ l. IsOpened P ((d, value) ∷ D) ids (decisions_in c.queue ++ l) c.last) (sym same) o
      go (choose h q) e is =
          let o = opened-ask P L D state ids (decisions_in c.queue) c.last value d r.ids opened there (λ k f x. clash k f (sym x ∙ e)) in
          subst (λ l. IsOpened P ((d, value) ∷ D) ids l c.last) (sym (ap (λ l. decisions_in c.queue ++ l) is ∙ append-nil (decisions_in c.queue))) o
        where
          clash : (k f : RevisionId) → attaching k f ≡ choose h q → ⊥
          clash k f y = cc
      go (pick h q y) e is =
          let o = opened-ask P L D state ids (decisions_in c.queue) c.last value d r.ids opened there (λ k f x. clash k f (sym x ∙ e)) in
          subst (λ l. IsOpened P ((d, value) ∷ D) ids l c.last) (sym (ap (λ l. decisions_in c.queue ++ l) is ∙ append-nil (decisions_in c.queue))) o
        where
          clash : (k f : RevisionId) → attaching k f ≡ pick h q y → ⊥
          clash k f z = cc

  -- and then members are opened until a decision waits
  pub opened-then : (more : More) → length c.marks.items + 1 ≡ length c.queue → IsOpened P ((d, value) ∷ D) c.ids.items (decisions_in c.queue ++ decisions_in more.decisions) more.last → Waits more (length c.ids.items) → IsOpenedBy P c decision value more
  opened-then more all o waits = record {
    opened = subst (λ q. IsOpened P ((d, value) ∷ D) c.ids.items q more.last) (sym (map-append decision_of c.queue more.decisions)) o;
    pending = elim waits [
      | inl some ↦ inl (let e = length-append c.queue more.decisions in omega (arith, all, some, e))
      | inr last ↦ inr last
    ];
  }
