-- Why a resolve is refused and what it answers is determined: any two problems of one bundle say the same.
use Rattle.std.proofs.Common.{◌≡◌, ◌<◌, inl, Bool, true, false, List, [], ◌∷◌, refl, sym, ap, ◌∙◌, subst, arith}
use Rattle.std.specs.Prelude.{Some, IsTrue}
use Rattle.osgi_base.specs.declared.ids.BundleId.{BundleId}
use Rattle.osgi_base.specs.declared.ids.RevisionId.{RevisionId}
use Rattle.osgi_legal.proofs.Verdicts.{IsOne}
use Rattle.osgi_ops.specs.Moments.{Moment}
use Rattle.osgi_ops.specs.Resolving.{AnswersResolve, IsOverBudget, IsResolvedTo, IsUnmet, IsUnresolvable, newly_resolved}
use Rattle.osgi_ops.specs.declared.refusal.Refusal.TheVariants.{Unresolvable}
use Rattle.osgi_ops.specs.declared.refusal.Unmet.{Unmet}
use Rattle.osgi_ops.specs.declared.refusal.Unmet.TheVariants.{Clash, NoCandidate}
use Rattle.osgi_ops.specs.declared.reply.Reply.TheVariants as answer
use Rattle.osgi_resolver_theory.proofs.Once.{current-once, wirings-once}
use Rattle.osgi_world.specs.Candidates.{AreOrdered, CanBeAsked, candidates, IsCandidate, IsFirstLacking, IsLacking, IsProblem}
use Rattle.osgi_world.specs.Effort.{IsResolveOf}
use Rattle.osgi_world.specs.Lists.{In}
use Rattle.osgi_world.specs.Lookups.{is_current, requirement_at, requirement_count}
use Rattle.osgi_world.specs.declared.problem.Choice.{Choice}
use Rattle.osgi_world.specs.declared.problem.Problem.{Problem}
use Rattle.osgi_world.specs.declared.requirement.Requirement.{Requirement}
use Rattle.osgi_world.specs.declared.wiring.CapRef.{CapRef}
use Rattle.osgi_world.specs.declared.wiring.ReqRef.{ReqRef}
use Rattle.osgi_world.specs.declared.world.World.{World}

-- the problem with other lists of candidates
abbrev other : Problem → List Choice → Problem
other P cs = record P { choices = cs }

-- ---- what the root lacks

module _ (P : Problem) (cs : List Choice) (L : IsProblem P) (M : IsProblem (other P cs)) where
  candidate-from : (q : ReqRef) (c : CapRef) → IsCandidate (other P cs) q c → IsCandidate P q c
  candidate-from q c is = record { satisfies = is.satisfies; current = is.current; no_fragment = is.no_fragment; not_owner = is.not_owner; stands = is.stands }

  asked : (q : ReqRef) → IsLacking P q → CanBeAsked P.world.known q
  asked q l = record {
    current = subst (λ (r : RevisionId). IsTrue (is_current P.world.known r)) (sym l.owner) L.root_is.current;
    known = subst (λ (r : RevisionId). q.index < requirement_count P.world.known r) (sym l.owner) l.known;
    effective = l.needed.effective;
  }

  none-other : (q : ReqRef) → IsLacking P q → (list : List CapRef) → candidates (other P cs) q ≡ list → list ≡ []
  none-other q l [] e = refl
  none-other q l (c ∷ list) e =
      let listed : In c (candidates (other P cs) q) = subst (In c) (sym e) (inl refl) in
      let here : In c (candidates P q) = (L.candidates_are q c (asked q l)).1 (candidate-from q c ((M.candidates_are q c (asked q l)).0 listed)) in
      absurd (subst (In c) l.none here)

  lacking-to : (q : ReqRef) → IsLacking P q → IsLacking (other P cs) q
  lacking-to q l = record { owner = l.owner; known = l.known; needed = l.needed; none = none-other q l (candidates (other P cs) q) refl }

module _ (P : Problem) (cs : List Choice) (L : IsProblem P) (M : IsProblem (other P cs)) where
  unmet-to : (u : Unmet) → IsUnmet P u → IsUnmet (other P cs) u
  unmet-to (NoCandidate namespace name) u = record {
    place = u.place;
    first = record { lacking = lacking-to P cs L M u.place u.first.lacking; first = λ n l. u.first.first n (lacking-to (other P cs) P.choices M L n l) };
    requirement = u.requirement;
    is = u.is;
    namespace_is = u.namespace_is;
    name_is = u.name_is;
  }
  unmet-to Clash u = λ place l. u place (lacking-to (other P cs) P.choices M L place l)

-- ---- the cause of one problem

first-place : (P : Problem) (q n : ReqRef) → IsFirstLacking P q → IsFirstLacking P n → q ≡ n
first-place P q n a b =
    let owner : q.owner ≡ n.owner = a.lacking.owner ∙ sym b.lacking.owner in
    let least : ¬ (n.index < q.index) = a.first n b.lacking in
    let also : ¬ (q.index < n.index) = b.first q a.lacking in
    let index : q.index ≡ n.index = omega (arith, least, also) in
    λ i. record { owner = owner i; index = index i }

unmet-one : (P : Problem) → IsOne (IsUnmet P)
unmet-one P (NoCandidate namespace name) (NoCandidate other_namespace other_name) a b =
    let place : a.place ≡ b.place = first-place P a.place b.place a.first b.first in
    let requirement : a.requirement ≡ b.requirement =
    (let e : Some a.requirement ≡ Some b.requirement = sym a.is ∙ ap (requirement_at P.world.known) place ∙ b.is in cc e) in
    let namespaces : namespace ≡ other_namespace = a.namespace_is ∙ ap (λ (r : Requirement). r.namespace) requirement ∙ sym b.namespace_is in
    let names : name ≡ other_name = a.name_is ∙ ap (λ (r : Requirement). r.name) requirement ∙ sym b.name_is in
    λ i. NoCandidate (namespaces i) (names i)
unmet-one P (NoCandidate namespace name) Clash a b = absurd (b a.place a.first.lacking)
unmet-one P Clash (NoCandidate namespace name) a b = absurd (a b.place b.first.lacking)
unmet-one P Clash Clash a b = refl

-- ---- any two problems of resolving a bundle

module _ (world : World) (b : BundleId) (P Q : Problem) (p : IsResolveOf world b P) (q : IsResolveOf world b Q) where
  is-other : Q ≡ other P Q.choices
  is-other =
      let worlds : Q.world ≡ P.world = q.world ∙ sym p.world in
      let ordered : AreOrdered world.known world.wirings = subst (λ (w : World). AreOrdered w.known w.wirings) p.world p.problem.ordered in
      let roots : Q.root ≡ P.root = current-once world.known world.wirings ordered b Q.root P.root q.root p.root in
      λ i. record { world = worlds i; root = roots i; choices = Q.choices }

  unmet-same : (c d : Unmet) → IsUnmet P c → IsUnmet Q d → c ≡ d
  unmet-same c d here there =
      let listed : IsProblem (other P Q.choices) = subst IsProblem is-other q.problem in
      let back : IsUnmet P d = unmet-to (other P Q.choices) P.choices listed p.problem d (subst (λ (R : Problem). IsUnmet R d) is-other there) in
      unmet-one P c d here back

pub unresolvable-one : (now : Moment) (bundle : BundleId) → IsOne (IsUnresolvable now bundle)
unresolvable-one now bundle f g a b =
    a.says ∙ ap Unresolvable (unmet-same now.world bundle a.problem b.problem a.is_problem b.is_problem a.cause b.cause a.unmet b.unmet) ∙ sym b.says

pub over_budget-one : (now : Moment) (bundle : BundleId) → IsOne (IsOverBudget now bundle)
over_budget-one now bundle f g a b = a.says ∙ sym b.says

-- ---- the answer

resolved-one : (world : World) (bundle : BundleId) → IsOne (IsResolvedTo world bundle)
resolved-one world bundle w v a b =
    a.is ∙ (λ i. record world { wirings = wirings-once world bundle a.problem b.problem a.is_problem b.is_problem a.word b.word a.first b.first i }) ∙ sym b.is

pub resolve-one : (resolved : Bool) (now : Moment) (bundle : BundleId) → IsOne (AnswersResolve resolved now bundle)
resolve-one true now bundle y z a b = a ∙ sym b
resolve-one false now bundle y z a b = a.2 ∙ ap (λ w. answer.Resolved (newly_resolved now w)) (resolved-one now.world bundle a.0 b.0 a.1 b.1) ∙ sym b.2
