-- The members before the last one that is opened are decided; then one member more, and all of them.
use Rattle.std.proofs.Common.{refl, ◌≡◌, ◌↔◌, ◌<◌, inl, inr, ℕ, zero, suc, ◌∷◌, [], ◌++◌, ◌∙◌, List, sym, ap, subst, arith, take, ◌+◌, reverse, Some}
use Rattle.std.specs.Prelude.{slice_get}
use Rattle.std.proofs.lemmas.List.{take_all}
use Rattle.osgi_base.specs.declared.ids.RevisionId.{RevisionId}
use Rattle.osgi_space_rows.specs.Agree.{id}
use Rattle.osgi_world.specs.Hopeless.{IsDecided}
use Rattle.osgi_world.specs.Lists.{In}
use Rattle.osgi_resolver_path.specs.computed.Views.{decided_in}
use Rattle.osgi_resolver_path.specs.computed.Courses.{lists_of}
use Rattle.osgi_resolver_path.proofs.Decided.{decided-before, get-in, get-some, more-kept, more-left}
use Rattle.osgi_resolver_path.proofs.views.undecided.Goals as goal
use Rattle.osgi_resolver_path.proofs.views.undecided.Goals.{then-not-is_decided_at+in_ok-push, else-not-is_decided_at}

-- the place of one of the first items
take-get : {X : Type 0} (xs : List X) (k : ℕ) (x : X) → In x (take k xs) → (n : ℕ) × (n < k) × (slice_get xs n ≡ Some x)
take-get [] zero x i = elim i [ ]
take-get [] (suc k) x i = elim i [ ]
take-get (y ∷ ys) zero x i = elim i [ ]
take-get (y ∷ ys) (suc k) x (inl e) = (0, omega arith, ap Some (sym e))
take-get (y ∷ ys) (suc k) x (inr i) = let r = take-get ys k x i in (suc r.0, (let h = r.1 in omega (arith, h)), r.2)

pub loop-place-init : goal.loop-place-init
loop-place-init c P in_it learnt at n = (
  λ here. let none : ⊥ = subst (λ (l : List ℕ). In n l) c.in_ok-list.ensures.items here in absurd none,
  λ both.
      let course = c.args.course.now in
      let found = take-get course.ids.items course.last (id n) both.0 in
      absurd (both.1 (decided-before P in_it.is (reverse course.marks.items) (lists_of course) at found.0 (id n) found.2 found.1)),
)

pub loop-place-preserved : goal.loop-place-preserved
loop-place-preserved c P in_it learnt at n =
    let ids = c.args.course.now.ids.items in
    let place = c.loop-place.place in
    let m = c.index-member.result.now in
    let there : slice_get ids place ≡ Some m = get-some ids place m (omega arith) ∙ ap Some (sym c.index-member.ensures) in
    let T = λ (r : RevisionId). ¬ IsDecided P (decided_in c.args.course.now) r in
    let decides = c.is_decided_at.ensures.decided P in_it (learnt.members m (get-in ids place m there)) at there in
    let so = c.loop-place.invariant P in_it learnt at in
    elim c.if-not-is_decided_at.branch [
      | then-not-is_decided_at+in_ok-push w ↦
          let more : c.if-not-is_decided_at.list.items ≡ c.loop-place.list.items ++ m.0 ∷ [] = cc (w.in_ok-push.ensures.items) in
          let left : T m = λ d. let e = decides.1 d in let f = w.if-not-is_decided_at.true in cc in
          subst (λ (l : List ℕ). In n l ↔ In (id n) (take (place + 1) ids) × T (id n)) (sym more) (more-kept id T ids c.loop-place.list.items place m m.0 refl (λ k e. ap (λ (r : RevisionId). r.0) e) there so left n)
      | else-not-is_decided_at w ↦
          let none : T m → ⊥ = λ t. t (decides.0 w.if-not-is_decided_at.false) in
          let kept : c.if-not-is_decided_at.list.items ≡ c.loop-place.list.items = cc in
          subst (λ (l : List ℕ). In n l ↔ In (id n) (take (place + 1) ids) × T (id n)) (sym kept) (more-left id T ids c.loop-place.list.items place m there so none n)
    ]

pub returns : goal.returns
returns c = record {
  undecided = λ P in_it learnt at n.
      let ids = c.args.course.now.ids.items in
      subst (λ (l : List RevisionId). In n c.loop-place.list.items ↔ In (id n) l × ¬ IsDecided P (decided_in c.args.course.now) (id n)) (take_all c.loop-place.place ids (omega arith) ∙ at.ids) (c.loop-place.invariant P in_it learnt at n);
}
