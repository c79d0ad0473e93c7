-- The last mark of a course says which decision is the last, and what it changed.
use Rattle.std.proofs.Common.{◌≡◌, ℕ, ◌+◌, ◌-◌, ◌<◌, ◌||◌, ◌==◌, ◌↔◌, inl, inr, zero, suc, Bool, true, false, List, [], ◌∷◌, ◌++◌, flat_map, length, take, reverse, Option, None, Some, if◌then◌else◌, append-nil, refl, sym, ◌∙◌, ap, ap₂, subst, arith}
use Rattle.std.specs.Prelude.{slice_get}
use Rattle.std.specs.List.{list_any}
use Rattle.std.specs.Option.{option_to_list}
use Rattle.std.proofs.lemmas.Bool.{false≢true}
use Rattle.std.proofs.lemmas.Option.{slice_get_within}
use Rattle.osgi_base.specs.declared.ids.RevisionId.{RevisionId}
use Rattle.osgi_world.specs.ChoiceWords.{arity_of, made_by, make}
use Rattle.osgi_world.specs.Decisions as decisions
use Rattle.osgi_world.specs.Decisions.{Made, adds, arity, attached, host, wired}
use Rattle.osgi_world.specs.DueDecisions.{is_in_force, members, next_decision, provider_of, pull_in}
use Rattle.osgi_world.specs.Lists.{In}
use Rattle.osgi_world.specs.declared.problem.Problem.{Problem}
use Rattle.osgi_world.specs.declared.wiring.Wire.{Wire}
use Rattle.osgi_world.specs.declared.world.World.{World}
use Rattle.osgi_uses.specs.States.{SpacesState}
use Rattle.osgi_resolver_theory.proofs.Lists.{in-any, in-append_cases, in-append_right}
use Rattle.osgi_resolver_theory.proofs.Values.{rev-same, some-inj}
use Rattle.osgi_resolver_theory.proofs.Views.{adds-attached}
use Rattle.osgi_resolver_theory.proofs.Words.{made-more, word-next}
use Rattle.osgi_resolver_path.specs.Last.{IsLast}
use Rattle.osgi_resolver_decisions.specs.DecisionOf.{decision_of}
use Rattle.osgi_resolver_path.specs.Standing.{IsProblemOf, Standing, made}
use Rattle.osgi_resolver_path.specs.computed.Courses.{IsAlong, IsRight, lists_of, made_of, taken_back, word_of}
use Rattle.osgi_resolver_path.specs.computed.Lasts.{IsLastOf, fragment_by}
use Rattle.osgi_resolver_path.specs.computed.Moving.{IsOnWay}
use Rattle.osgi_resolver_path.specs.computed.Steps.{steps_in}
use Rattle.osgi_resolver_path.specs.Wires.{wired_by}
use Rattle.osgi_resolver_path.specs.declared.course.Course.{Course}
use Rattle.osgi_resolver_path.specs.declared.course.Mark.{Mark}
use Rattle.osgi_resolver_path.specs.declared.last.Last.{Last}
use Rattle.osgi_resolver_decisions.specs.declared.lists.Lists.{Lists}
use Rattle.osgi_resolver_path.specs.declared.step.Step.{Step}
use Rattle.osgi_resolver_path.specs.declared.step.Step.TheVariants.{Attached, Wired as WiredStep}
use Rattle.osgi_resolver_path.specs.declared.wired.Wired.{Wired}
use Rattle.osgi_resolver_path.proofs.Longer.{last-mark}
use Rattle.osgi_resolver_path.proofs.OnWay.{along-right, standing_of}
use Rattle.osgi_resolver_path.proofs.Placed.{new-false}
use Rattle.osgi_resolver_path.proofs.Viewing.{step-wired, wired-step}

-- ---- lists

split-end : {X : Type 0} (xs : List X) (n : ℕ) (x : X) → slice_get xs n ≡ Some x → length xs ≡ n + 1 → xs ≡ take n xs ++ x ∷ []
split-end [] n x e h = cc
split-end (y ∷ []) zero x e h = ap (λ z. z ∷ []) (some-inj y x e)
split-end (y ∷ z ∷ ys) zero x e h = absurd (omega (arith, h))
split-end (y ∷ ys) (suc n) x e h = ap (λ l. y ∷ l) (split-end ys n x e (omega (arith, h)))

-- the last item, and what comes before
pub last-split : {X : Type 0} (xs : List X) (x : X) → Some x ≡ slice_get xs (length xs - 1) → xs ≡ take (length xs - 1) xs ++ x ∷ []
last-split xs x e = let w = slice_get_within xs (length xs - 1) x (sym e) in split-end xs (length xs - 1) x (sym e) (omega (arith, w))

in-some : {X : Type 0} (o : Option X) (x : X) → In x (option_to_list o) → o ≡ Some x
in-some None x i = elim i [ ]
in-some (Some y) x (inl e) = ap Some (sym e)
in-some (Some y) x (inr i) = elim i [ ]

some-in : {X : Type 0} (o : Option X) (x : X) → o ≡ Some x → In x (option_to_list o)
some-in None x e = cc
some-in (Some y) x e = inl (sym (some-inj y x e))

-- one more than these at most, found where these end
ends-at : {X : Type 0} (xs : List X) (o : Option X) (k : ℕ) → take k (xs ++ option_to_list o) ≡ xs → slice_get (xs ++ option_to_list o) k ≡ o
ends-at [] None k e = refl
ends-at [] (Some x) zero e = refl
ends-at [] (Some x) (suc k) e = cc
ends-at (y ∷ xs) o zero e = cc
ends-at (y ∷ xs) o (suc k) e = let t : take k (xs ++ option_to_list o) ≡ xs = cc in ends-at xs o k t

-- ---- wires and fragments

wired-both : (s : Option Step) (o : Option Wired) → option_to_list o ≡ wired_by s → (m : RevisionId) (w : Wire) → In (wired m w) (steps_in s) ↔ (o ≡ Some (record { revision = m; wire = w }))
wired-both s o e m w =
    let x : Wired = record { revision = m; wire = w } in
    (λ i. in-some o x (subst (In x) (sym e) (step-wired s x i)), λ h. wired-step s x (subst (In x) e (some-in o x h)))

step-fragment : (s : Option Step) (h f : RevisionId) → In (attached h f) (steps_in s) → In f (fragment_by s)
step-fragment None h f i = elim i [ ]
step-fragment (Some (Attached k g)) h f (inl e) = let same : f ≡ g = cc in inl same
step-fragment (Some (Attached k g)) h f (inr i) = elim i [ ]
step-fragment (Some (WiredStep r w)) h f (inl e) = cc
step-fragment (Some (WiredStep r w)) h f (inr i) = elim i [ ]

fragment-step : (s : Option Step) (f : RevisionId) → In f (fragment_by s) → (h : RevisionId) × In (attached h f) (steps_in s)
fragment-step None f i = elim i [ ]
fragment-step (Some (Attached k g)) f (inl e) = (k, inl (ap (attached k) e))
fragment-step (Some (Attached k g)) f (inr i) = elim i [ ]
fragment-step (Some (WiredStep r w)) f i = elim i [ ]

fragment-both : (s : Option Step) (o : Option RevisionId) (h : RevisionId) → option_to_list o ≡ fragment_by s → ((r f : RevisionId) → In (attached r f) (steps_in s) → r ≡ h) → (f : RevisionId) → In (attached h f) (steps_in s) ↔ (o ≡ Some f)
fragment-both s o h e own f = (
  λ i. in-some o f (subst (In f) (sym e) (step-fragment s h f i)),
  λ some. let at = fragment-step s f (subst (In f) e (some-in o f some)) in subst (λ r. In (attached r f) (steps_in s)) (own at.0 f at.1) at.1,
)

-- ---- who joins

-- the members with at most one more, who is new
record Grows (ms after : List RevisionId) : Type 0 where
  joined : Option RevisionId
  are : after ≡ ms ++ option_to_list joined
  new : (x : RevisionId) → joined ≡ Some x → ¬ In x ms

grows-none : (ms : List RevisionId) → Grows ms ms
grows-none ms = record { joined = None; are = sym (append-nil ms); new = λ x e. cc }

grows-one : (P : Problem) (ms : List RevisionId) (x : RevisionId) (b : Bool) → (is_in_force P.world.wirings x || list_any (λ (k : RevisionId). k.0 == x.0) ms) ≡ b → Grows ms (if b then ms else ms ++ x ∷ [])
grows-one P ms x true e = grows-none ms
grows-one P ms x false e = record {
  joined = Some x;
  are = refl;
  new = λ y s i. false≢true (sym (new-false (is_in_force P.world.wirings x) (list_any (λ (k : RevisionId). k.0 == x.0) ms) e) ∙ in-any (λ (k : RevisionId). k.0 == x.0) ms y i (rev-same y x (sym (some-inj x y s))));
}

grows : (P : Problem) (ms : List RevisionId) (s : Option Step) → Grows ms (pull_in P ms (flat_map provider_of (steps_in s)))
grows P ms None = grows-none ms
grows P ms (Some (Attached h f)) = grows-none ms
grows P ms (Some (WiredStep r w)) = grows-one P ms w.capability.provider (is_in_force P.world.wirings w.capability.provider || list_any (λ (k : RevisionId). k.0 == w.capability.provider.0) ms) refl

joined-both : (ms after : List RevisionId) (g : Grows ms after) (joined : Option RevisionId) → joined ≡ g.joined → (m : RevisionId) → (joined ≡ Some m) ↔ In m after × ¬ In m ms
joined-both ms after g joined is m = (
  λ e. let s = sym is ∙ e in (subst (In m) (sym g.are) (in-append_right ms (option_to_list g.joined) m (some-in g.joined m s)), g.new m s),
  λ h. is ∙ elim (in-append_cases ms (option_to_list g.joined) m (subst (In m) g.are h.0)) [ inl old ↦ absurd (h.1 old) | inr new ↦ in-some g.joined m new ],
)

-- ---- the decision

next-made : (o : Option decisions.Decision) (D E : Made) (d : decisions.Decision) (v : ℕ) → D ≡ E → make o D v ≡ (d, v) ∷ E → o ≡ Some d
next-made None D E d v same e = let n = ap length same in let m = ap length e in absurd (omega (arith, n, m))
next-made (Some x) D E d v same e = let pair : (x, v) ≡ (d, v) = cc in ap (λ (t : decisions.Decision × ℕ). Some t.0) pair

module _ (P : Problem) (c : Course) (m : Mark) (rest : List Mark) (now : IsRight P (m ∷ rest) (lists_of c)) (before : IsRight P rest (taken_back m (lists_of c))) where
  next-was : next_decision P (made_by P (word_of rest)) ≡ Some (decision_of m.decision)
  next-was = next-made (next_decision P (made_by P (word_of rest))) (made_by P (word_of rest)) (made_of rest) (decision_of m.decision) m.value before.is (sym (made-more P (word_of rest) m.value) ∙ now.is)

  in-range : m.value < arity P (decision_of m.decision)
  in-range = subst (λ o. m.value < arity_of P o) next-was (word-next P (word_of rest) m.value now.word)

  then-grows : Grows (members P (made_of rest)) c.ids.items
  then-grows =
      let ms = members P (made_of rest) in
      subst (Grows ms) (sym (now.ids ∙ ap (λ l. pull_in P ms (flat_map provider_of l)) (sym now.steps.0))) (grows P ms m.step)

  joined-there : slice_get c.ids.items m.ids ≡ then-grows.joined
  joined-there =
      ap (λ l. slice_get l m.ids) then-grows.are
      ∙ ends-at (members P (made_of rest)) then-grows.joined m.ids (ap (take m.ids) (sym then-grows.are) ∙ before.ids)

  is-last : (s : Standing) (last : Last) (of : IsLastOf c last) → of.mark ≡ m → s.word ≡ word_of (m ∷ rest) → IsLast P s last
  is-last s last of mark word =
      let decision : last.decision ≡ m.decision = of.decision_is ∙ ap (λ (k : Mark). k.decision) mark in
      let value : last.value ≡ m.value = of.value_is ∙ ap (λ (k : Mark). k.value) mark in
      let step : of.mark.step ≡ m.step = ap (λ (k : Mark). k.step) mark in
      let d = decision_of last.decision in
      let steps : steps_in m.step ≡ adds P d last.value = now.steps.0 ∙ sym (ap₂ (λ x y. adds P (decision_of x) y) decision value) in
      record {
        before = word_of rest;
        word_is = word ∙ ap (λ x. word_of rest ++ x ∷ []) (sym value);
        word = before.word;
        next = next-was ∙ ap (λ x. Some (decision_of x)) (sym decision);
        range = subst (λ x. x < arity P d) (sym value) (subst (λ x. m.value < arity P (decision_of x)) (sym decision) in-range);
        wired = λ k w. subst (λ l. In (wired k w) l ↔ (last.wired ≡ Some (record { revision = k; wire = w }))) steps (wired-both m.step last.wired (of.wired_is ∙ ap wired_by step) k w);
        fragment = λ f. subst (λ l. In (attached (host d) f) l ↔ (last.fragment ≡ Some f)) steps (fragment-both m.step last.fragment (host d) (of.fragment_is ∙ ap fragment_by step) (λ r g i. ap host (adds-attached P d last.value r g (subst (In (attached r g)) steps i)).0) f);
        joined = λ k.
            let is : last.joined ≡ then-grows.joined = of.joined_is ∙ ap (λ (x : Mark). slice_get c.ids.items x.ids) mark ∙ joined-there in
            let all : c.ids.items ≡ members P (made P s) = now.ids ∙ ap (members P) (sym (ap (made_by P) word ∙ now.is)) in
            let old : members P (made_of rest) ≡ members P (made_by P (word_of rest)) = ap (members P) (sym before.is) in
            subst (λ l. (last.joined ≡ Some k) ↔ In k (members P (made P s)) × ¬ In k l) old
            (subst (λ l. (last.joined ≡ Some k) ↔ In k l × ¬ In k (members P (made_of rest))) all (joined-both (members P (made_of rest)) c.ids.items then-grows last.joined is k));
      }

-- of a path
pub last-at : (W : World) (root : RevisionId) (lists : Lists) (spaces : SpacesState) (c : Course) → IsOnWay W root lists spaces c → (s : Standing) → s ≡ standing_of W root c → (last : Last) → IsLastOf c last → (P : Problem) → IsProblemOf s P → IsLast P s last
last-at W root lists spaces c on s is last of P p =
    let m = of.mark in
    let rest = reverse of.before in
    let marks : reverse c.marks.items ≡ m ∷ rest = last-mark of.before m c.marks.items of.marks in
    let along = on.along P (record { world = p.world ∙ ap (λ (x : Standing). x.world) is; is = p.is }) (p.root_is ∙ ap (λ (x : Standing). x.root) is) in
    let both = subst (IsAlong P (lists_of c)) marks along in
    is-last P c m rest both.0 (along-right P (taken_back m (lists_of c)) rest both.1) s last of refl (ap (λ (x : Standing). x.word) is ∙ ap word_of marks)

-- where there is no mark, the word is empty
pub none-made : (W : World) (root : RevisionId) (c : Course) (s : Standing) → s ≡ standing_of W root c → c.marks.items ≡ [] → s.word ≡ []
none-made W root c s is none = ap (λ (x : Standing). x.word) is ∙ ap (λ l. word_of (reverse l)) none
