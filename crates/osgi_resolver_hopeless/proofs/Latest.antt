-- What is known of the last decision of a search.
use Rattle.std.proofs.Common.{◌≡◌, ◌↔◌, ℕ, inl, inr, Bool, IsTrue, List, [], ◌∷◌, ◌++◌, Some, refl, sym, ◌∙◌, ap, subst}
use Rattle.osgi_base.specs.declared.ids.RevisionId.{RevisionId}
use Rattle.osgi_resolver_theory.proofs.Before.{state-after}
use Rattle.osgi_resolver_theory.proofs.States.{in-fragments, sound}
use Rattle.osgi_resolver_theory.proofs.Values.{some-inj, value-head}
use Rattle.osgi_resolver_theory.proofs.Views.{due-picked, sound-matches}
use Rattle.osgi_resolver_theory.specs.States.{State}
use Rattle.osgi_resolver_decisions.specs.DecisionOf.{decision_of}
use Rattle.osgi_resolver_decisions.specs.declared.decision_ref.DecisionRef.{DecisionRef}
use Rattle.osgi_resolver_decisions.specs.declared.decision_ref.DecisionRef.TheVariants.{Attach, Choose, Pick}
use Rattle.osgi_resolver_path.specs.Last.{IsLast}
use Rattle.osgi_resolver_path.specs.Standing.{IsProblemOf, Standing, made}
use Rattle.osgi_resolver_path.specs.declared.last.Last.{Last}
use Rattle.osgi_resolver_hopeless.proofs.Tested.{made-is, more}
use Rattle.osgi_resolver_hopeless.specs.computed.Onward.{IsNewBy}
use Rattle.osgi_resolver_hopeless.specs.computed.Stuck.{CannotBeMet, IsAmissBy, IsFragmentAmiss}
use Rattle.osgi_world.specs.ChoiceWords.{made_by}
use Rattle.osgi_world.specs.Decisions.{Decision, Made, adds, attached, attaching, choose, host, pick, value_made}
use Rattle.osgi_world.specs.DueDecisions.{fragments_of, members, next_decision, payload}
use Rattle.osgi_world.specs.Lists.{In}
use Rattle.osgi_world.specs.declared.problem.Problem.{Problem}
use Rattle.osgi_world.specs.declared.wiring.CapRef.{CapRef}
use Rattle.osgi_world.specs.declared.wiring.ReqRef.{ReqRef}

-- ---- words

pub no-last : (xs : List ℕ) (v : ℕ) → xs ++ v ∷ [] ≡ [] → ⊥
no-last [] v e = cc
no-last (x ∷ xs) v e = cc

last-same : (xs ys : List ℕ) (v w : ℕ) → xs ++ v ∷ [] ≡ ys ++ w ∷ [] → (xs ≡ ys) × (v ≡ w)
last-same [] [] v w e = (refl, cc)
last-same [] (y ∷ ys) v w e = let rest : ys ++ w ∷ [] ≡ [] = cc in absurd (no-last ys w rest)
last-same (x ∷ xs) [] v w e = let rest : xs ++ v ∷ [] ≡ [] = cc in absurd (no-last xs v rest)
last-same (x ∷ xs) (y ∷ ys) v w e =
    let rest : xs ++ v ∷ [] ≡ ys ++ w ∷ [] = cc in
    let first : x ≡ y = cc in
    let r = last-same xs ys v w rest in
    let tail : xs ≡ ys = r.0 in (cc, r.1)

-- ---- two descriptions of the last decision

module _ (P : Problem) (s : Standing) (a b : Last) (x : IsLast P s a) (y : IsLast P s b) where
  same-word : (x.before ≡ y.before) × (a.value ≡ b.value)
  same-word = last-same x.before y.before a.value b.value (sym x.word_is ∙ y.word_is)

  same-decision : decision_of a.decision ≡ decision_of b.decision
  same-decision = some-inj _ _ (sym x.next ∙ ap (λ w. next_decision P (made_by P w)) same-word.0 ∙ y.next)

  -- what one says to be new is new for the other
  pub new-same : (r : RevisionId) → IsNewBy a r → IsNewBy b r
  new-same r (inl e) = inl ((y.joined r).1 (subst (λ (w : List ℕ). In r (members P (made P s)) × ¬ In r (members P (made_by P w))) same-word.0 ((x.joined r).0 e)))
  new-same r (inr e) = inr ((y.fragment r).0 (subst (λ (v : ℕ). In (attached (host (decision_of b.decision)) r) (adds P (decision_of b.decision) v)) same-word.1
      (subst (λ (d : Decision). In (attached (host d) r) (adds P d a.value)) same-decision ((x.fragment r).1 e))))

-- ---- what it did to its host

module _ (s : Standing) (P : Problem) (L : IsProblemOf s P) (last : Last) (x : IsLast P s last) where
  pub state-now : State P (made P s)
  state-now = subst (State P) (sym (made-is s P L last x)) (state-after P (made_by P x.before) (decision_of last.decision) last.value (more s P L last x))

  value-now : value_made (made P s) (decision_of last.decision) ≡ Some last.value
  value-now = subst (λ (D : Made). value_made D (decision_of last.decision) ≡ Some last.value) (sym (made-is s P L last x)) (value-head (made_by P x.before) (decision_of last.decision) last.value)

  -- with yes the fragment is attached
  pub last-attached : (h f : RevisionId) → last.decision ≡ Attach h f → last.value ≡ 0 → In f (fragments_of P (made P s) h)
  last-attached h f is at =
      let now : value_made (made P s) (attaching h f) ≡ Some 0 = subst (λ (r : DecisionRef). value_made (made P s) (decision_of r) ≡ Some 0) is (subst (λ n. value_made (made P s) (decision_of last.decision) ≡ Some n) at value-now) in
      in-fragments P (made P s) h f (sound-matches P (made P s) state-now h f 0 now) now

  -- the requirement of a wire is one of the payload
  pub last-picked : (h : RevisionId) (q : ReqRef) (c : CapRef) → last.decision ≡ Pick h q c → In q (payload P (made P s) h)
  last-picked h q c is =
      let now : value_made (made P s) (pick h q c) ≡ Some last.value = subst (λ (r : DecisionRef). value_made (made P s) (decision_of r) ≡ Some last.value) is value-now in
      (due-picked P (made P s) h q c (sound P (made P s) state-now (pick h q c) last.value now).due).0.in_payload

-- ---- its kinds

-- on a wire of m
pub pick-is : (d : DecisionRef) (h m : RevisionId) (q : ReqRef) (c : CapRef) → d ≡ Pick h q c → h ≡ m → decision_of d ≡ pick m q c
pick-is d h m q c is own = ap decision_of is ∙ ap (λ (r : RevisionId). pick r q c) own

module _ (P : Problem) (D : Made) (m : RevisionId) (d : DecisionRef) (v : ℕ) where
  pub host-is : (e : DecisionRef) → d ≡ e → m ≡ host (decision_of d) → host (decision_of e) ≡ m
  host-is e is same = sym (same ∙ ap (λ (r : DecisionRef). host (decision_of r)) is)

  pub attach-by : (h f : RevisionId) (b : Bool) → d ≡ Attach h f → h ≡ m → IsTrue b ↔ (v ≡ 0) × In f (fragments_of P D m) × IsFragmentAmiss P D m f → IsTrue b ↔ IsAmissBy P D (decision_of d) v m
  attach-by h f b is own by = subst (λ (r : DecisionRef). IsTrue b ↔ IsAmissBy P D (decision_of r) v m) (sym is) (λ t. let r = by.0 t in (own, r.0, r.1, r.2), λ a. by.1 (a.1, a.2, a.3))

  pub choose-by : (h : RevisionId) (q : ReqRef) → d ≡ Choose h q → ¬ IsAmissBy P D (decision_of d) v m
  choose-by h q is = subst (λ (r : DecisionRef). ¬ IsAmissBy P D (decision_of r) v m) (sym is) (λ a. a)

  pub pick-by : (h : RevisionId) (q : ReqRef) (c : CapRef) (b : Bool) → d ≡ Pick h q c → h ≡ m → IsTrue b ↔ (v ≡ 1) × In q (payload P D m) × CannotBeMet P D m q → IsTrue b ↔ IsAmissBy P D (decision_of d) v m
  pick-by h q c b is own by = subst (λ (r : DecisionRef). IsTrue b ↔ IsAmissBy P D (decision_of r) v m) (sym is) (λ t. let r = by.0 t in (own, r.0, r.1, r.2), λ a. by.1 (a.1, a.2, a.3))

  -- of another host
  pub other-by : (e : Decision) → decision_of d ≡ e → (host e ≡ m → ⊥) → ¬ IsAmissBy P D (decision_of d) v m
  other-by (attaching h f) is away = subst (λ (r : Decision). ¬ IsAmissBy P D r v m) (sym is) (λ a. away a.0)
  other-by (choose h q) is away = subst (λ (r : Decision). ¬ IsAmissBy P D r v m) (sym is) (λ a. a)
  other-by (pick h q c) is away = subst (λ (r : Decision). ¬ IsAmissBy P D r v m) (sym is) (λ a. away a.0)
