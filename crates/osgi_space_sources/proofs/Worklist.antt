-- The loop over what is reached.
use Rattle.std.proofs.Common.{◌≡◌, ◌↔◌, inl, inr, ℕ, ◌+◌, ◌<◌, ◌≤◌, List, length, get_or, sym, ◌∙◌, ap, subst, arith, Contains, length-append, below_more}
use Rattle.std.proofs.lemmas.List.{get_or_append_left, get_or_default}
use Rattle.osgi_space_sources.specs.computed.Adds.{Adds}
use Rattle.osgi_space_sources.specs.computed.Reach.{Reach, starts, steps}

-- what is reached is in each set with the start that is closed under the step
pub reach-least : {A : Type 0} {Start : A → Type 0} {Step : A → A → Type 0} (S : A → Type 0) → ((x : A) → Start x → S x) → ((x y : A) → S x → Step x y → S y) → {x : A} → Reach Start Step x → S x
reach-least S begins goes (starts s) = begins _ s
reach-least S begins goes (steps r s) = goes _ _ (reach-least S begins goes r) s

-- what is there is reached, what begins is there, and steps from the nodes before `next` lead to what is there
pub record IsWorklist {T : Type 0} (Start : T → Type 0) (Step : T → T → Type 0) (all : List T) (next : ℕ) : Type 0 where
  pub in_range : next ≤ length all
  pub reached : (x : T) → Contains all x → Reach Start Step x
  pub begins : (x : T) → Start x → Contains all x
  pub closed : (k : ℕ) → k < next → (x y : T) → get_or all k x ≡ x → Step x y → Contains all y

pub worklist-init : {T : Type 0} (Start : T → Type 0) (Step : T → T → Type 0) (all : List T) → ((x : T) → Contains all x ↔ Start x) → IsWorklist Start Step all 0
worklist-init Start Step all exact = record {
  in_range = omega arith;
  reached = λ x c. starts ((exact x).0 c);
  begins = λ x s. (exact x).1 s;
  closed = λ k h. absurd (omega arith);
}

pub worklist-step : {T : Type 0} (Start : T → Type 0) (Step : T → T → Type 0) (old new : List T) (next : ℕ) (from : T) → next < length old → from ≡ get_or old next from → IsWorklist Start Step old next
    → Adds (Step from) old new → IsWorklist Start Step new (next + 1)
worklist-step {T} Start Step old new next from h at before adds =
    let longer : length new ≡ length old + length adds.grown.0 = ap length adds.grown.1 ∙ length-append old adds.grown.0 in
    let kept = λ (k : ℕ) (x : T) (lt : k < length old). ap (λ (l : List T). get_or l k x) adds.grown.1 ∙ get_or_append_left old adds.grown.0 x k lt in
    record {
      in_range = omega arith;
      reached = λ x c. elim ((adds.exact x).0 c) [ inl o ↦ before.reached x o | inr s ↦ steps (before.reached from (next, h, sym at)) s ];
      begins = λ x s. (adds.exact x).1 (inl (before.begins x s));
      closed = below_more (λ k. (x y : T) → get_or new k x ≡ x → Step x y → Contains new y) next
          (λ k lt x y is s. (adds.exact y).1 (inl (before.closed k lt x y (sym (kept k x (omega (arith, before.in_range))) ∙ is) s)))
          (λ x y is s.
          let same_node : x ≡ from = sym is ∙ kept next x h ∙ get_or_default old next x from h ∙ sym at in
          (adds.exact y).1 (inr (subst (λ z. Step z y) same_node s)));
    }

pub worklist-done : {T : Type 0} (Start : T → Type 0) (Step : T → T → Type 0) (all : List T) (next : ℕ) → length all ≤ next → IsWorklist Start Step all next → (x : T) → Contains all x ↔ Reach Start Step x
worklist-done Start Step all next h w x =
    (w.reached x, λ r. reach-least (Contains all) w.begins (λ a b c s. w.closed c.0 (omega (arith, c.1)) a b c.2 s) r)
