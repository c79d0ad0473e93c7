-- The loop over what leads to a revision, from there backwards.
use Rattle.std.proofs.Common.{◌≡◌, ◌↔◌, inl, inr, ℕ, ◌+◌, ◌<◌, ◌≤◌, List, length, get_or, refl, sym, ◌∙◌, ap, subst, arith, Contains, length-append, below_more}
use Rattle.std.proofs.lemmas.List.{get_or_append_left, get_or_default}
use Rattle.osgi_base.specs.declared.ids.RevisionId.{RevisionId}
use Rattle.osgi_resolver_hopeless.specs.computed.Leading.{LeadsBack}
use Rattle.osgi_resolver_path.specs.Wires.{IsWiredTo}
use Rattle.osgi_space_rows.specs.Agree.{id}
use Rattle.osgi_space_sources.specs.computed.Adds.{Adds}
use Rattle.osgi_space_sources.specs.computed.Reach.{starts, steps}
use Rattle.osgi_world.specs.Decisions.{Made}
use Rattle.osgi_world.specs.declared.problem.Problem.{Problem}

-- what is there leads to h, h is there, and who is wired to one before `next` is there
pub record IsWorklist (P : Problem) (D : Made) (h : RevisionId) (all : List ℕ) (next : ℕ) : Type 0 where
  pub in_range : next ≤ length all
  pub reached : (n : ℕ) → Contains all n → LeadsBack P D h n
  pub begins : Contains all h.0
  pub closed : (k : ℕ) → k < next → (x y : ℕ) → get_or all k x ≡ x → IsWiredTo P D (id x) y → Contains all y

module _ (P : Problem) (D : Made) (h : RevisionId) where
  pub worklist-init : (all : List ℕ) → ((n : ℕ) → Contains all n ↔ (n ≡ h.0)) → IsWorklist P D h all 0
  worklist-init all exact = record {
    in_range = omega arith;
    reached = λ n c. starts ((exact n).0 c);
    begins = (exact h.0).1 refl;
    closed = λ k less. absurd (omega arith);
  }

  pub worklist-step : (old new : List ℕ) (next from : ℕ) → next < length old → from ≡ get_or old next from → IsWorklist P D h old next → Adds (IsWiredTo P D (id from)) old new → IsWorklist P D h new (next + 1)
  worklist-step old new next from within at before adds =
      let longer : length new ≡ length old + length adds.grown.0 = ap length adds.grown.1 ∙ length-append old adds.grown.0 in
      let kept = λ (k x : ℕ) (less : k < length old). ap (λ (l : List ℕ). get_or l k x) adds.grown.1 ∙ get_or_append_left old adds.grown.0 x k less in
      record {
        in_range = omega arith;
        reached = λ n c. elim ((adds.exact n).0 c) [ inl o ↦ before.reached n o | inr w ↦ steps (before.reached from (next, within, sym at)) w ];
        begins = (adds.exact h.0).1 (inl before.begins);
        closed = below_more (λ k. (x y : ℕ) → get_or new k x ≡ x → IsWiredTo P D (id x) y → Contains new y) next
            (λ k less x y is w. (adds.exact y).1 (inl (before.closed k less x y (sym (kept k x (omega (arith, before.in_range))) ∙ is) w)))
            (λ x y is w.
            let same : x ≡ from = sym is ∙ kept next x within ∙ get_or_default old next x from within ∙ sym at in
            (adds.exact y).1 (inr (subst (λ z. IsWiredTo P D (id z) y) same w)));
      }

  all-found : (all : List ℕ) (next : ℕ) → length all ≤ next → IsWorklist P D h all next → {n : ℕ} → LeadsBack P D h n → Contains all n
  all-found all next end w (starts e) = subst (Contains all) (sym e) w.begins
  all-found all next end w (steps {x = x} {y = y} l s) = let c = all-found all next end w l in w.closed c.0 (omega (arith, c.1)) x y c.2 s

  pub worklist-done : (all : List ℕ) (next : ℕ) → length all ≤ next → IsWorklist P D h all next → (n : ℕ) → Contains all n ↔ LeadsBack P D h n
  worklist-done all next end w n = (w.reached n, λ l. all-found all next end w l)
