-- A requirement that is needed and has no candidate, by the lists of its owner.
use Rattle.std.proofs.Common.{◌≡◌, ◌↔◌, ◌<◌, ℕ, true, false, IsTrue, List, [], refl, sym, ◌∙◌, subst}
use Rattle.std.proofs.lemmas.Bool.{false≢true}
use Rattle.std.specs.Global.{Vec}
use Rattle.osgi_base.specs.declared.ids.RevisionId.{RevisionId}
use Rattle.osgi_world.specs.Candidates.{CanBeAsked, candidates}
use Rattle.osgi_world.specs.Lookups.{IsNeeded, is_current, requirement_count}
use Rattle.osgi_world.specs.declared.problem.Problem.{Problem}
use Rattle.osgi_world.specs.declared.wiring.CapRef.{CapRef}
use Rattle.osgi_world.specs.declared.wiring.ReqRef.{ReqRef}
use Rattle.osgi_world.specs.declared.world.World.{World}
use Rattle.osgi_resolver_decisions.specs.Sure.{LacksCandidate}
use Rattle.osgi_resolver_decisions.specs.computed.Known.{AreListsOf, IsProblemIn}
use Rattle.osgi_resolver_decisions.specs.computed.Sureness.{list_at}
use Rattle.osgi_resolver_decisions.proofs.Owners.{listed-at}

-- the answer is yes, and it is so
pub yes : {A : Type 0} → A → IsTrue true ↔ A
yes a = (λ t. a, λ b. refl)

-- the answer is no, and it is not so
pub no : {A : Type 0} → ¬ A → IsTrue false ↔ A
no n = (λ t. absurd (false≢true t), λ a. absurd (n a))

-- the requirement at this place
abbrev pub place : RevisionId → ℕ → ReqRef
place owner index = record { owner = owner; index = index }

-- the list at this place is empty, of a requirement that is needed
abbrev pub IsLackingAt : World → RevisionId → List (Vec CapRef) → ℕ → Type 0
IsLackingAt W owner lists index = IsNeeded W.known (place owner index) × (list_at lists index ≡ [])

module _ (W : World) (owner : RevisionId) (lists : List (Vec CapRef)) (are : AreListsOf W owner lists) (P : Problem) (in_it : IsProblemIn W P) where
  listed : (q : ReqRef) → q.owner ≡ owner → IsTrue (is_current P.world.known owner) → q.index < requirement_count P.world.known owner → IsNeeded P.world.known q → list_at lists q.index ≡ candidates P q
  listed q e current within needed =
      let asked : CanBeAsked P.world.known q = record {
        current = subst (λ (r : RevisionId). IsTrue (is_current P.world.known r)) (sym e) current;
        known = subst (λ (r : RevisionId). q.index < requirement_count P.world.known r) (sym e) within;
        effective = needed.effective;
      } in
      listed-at lists q.index (candidates P q) (are P q in_it e asked)

  pub lacks-one : IsTrue (is_current W.known owner) → (i : ℕ) → i < requirement_count W.known owner → IsLackingAt W owner lists i → IsTrue (is_current P.world.known owner) × LacksCandidate P owner
  lacks-one current i within lacking =
      let here : IsTrue (is_current P.world.known owner) = subst (λ (w : World). IsTrue (is_current w.known owner)) (sym in_it.world) current in
      let less : i < requirement_count P.world.known owner = subst (λ (w : World). i < requirement_count w.known owner) (sym in_it.world) within in
      let needed : IsNeeded P.world.known (place owner i) = subst (λ (w : World). IsNeeded w.known (place owner i)) (sym in_it.world) lacking.0 in
      (here, (place owner i, refl, less, needed, sym (listed (place owner i) refl here less needed) ∙ lacking.1))

  pub lacks-none : ((i : ℕ) → i < requirement_count W.known owner → ¬ IsLackingAt W owner lists i) → ¬ (IsTrue (is_current P.world.known owner) × LacksCandidate P owner)
  lacks-none none l =
      let q = l.1.0 in
      let less : q.index < requirement_count W.known owner = subst (λ (w : World). q.index < requirement_count w.known owner) in_it.world l.1.2 in
      let here : q ≡ place owner q.index = λ j. record { owner = l.1.1 j; index = q.index } in
      let needed : IsNeeded W.known (place owner q.index) = subst (λ (n : ReqRef). IsNeeded W.known n) here (subst (λ (w : World). IsNeeded w.known q) in_it.world l.1.3) in
      none q.index less (needed, listed q l.1.1 l.0 l.1.2 l.1.3 ∙ l.1.4)
