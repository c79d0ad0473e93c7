-- Answers that are turned, and what a member's problem says.
use Rattle.std.proofs.Common.{◌≡◌, ◌↔◌, Bool, true, false, not, IsTrue, List, refl, sym, ◌∙◌, ap}
use Rattle.std.proofs.lemmas.Bool.{false≢true}
use Rattle.osgi_resolver_theory.proofs.Closure.{Decided}
use Rattle.osgi_resolver_theory.proofs.Twos.{stable}
use Rattle.osgi_resolver_path.specs.Standing.{IsProblemOf, Standing}
use Rattle.osgi_world.specs.declared.problem.Problem.{Problem}
use Rattle.osgi_world.specs.declared.world.Known.{Known}
use Rattle.osgi_world.specs.declared.world.World.{World}

-- a fact that is decided holds where its opposite does not
pub turned : (b : Bool) (A : Type 0) → Decided A → IsTrue b ↔ ¬ A → IsTrue (not b) ↔ A
turned true A dec is = (λ t. absurd (false≢true t), λ a. absurd (is.0 refl a))
turned false A dec is = (λ t. stable dec (λ n. false≢true (is.1 n)), λ a. refl)

-- of two facts that exclude each other one is the opposite of the other, where a second step says so
pub opposite : {b : Bool} {A C : Type 0} → IsTrue b ↔ A → (C → ¬ A) → (¬ A → C) → IsTrue (not b) ↔ C
opposite {b = true} is away other = (λ t. absurd (false≢true t), λ c. absurd (away c (is.0 refl)))
opposite {b = false} is away other = (λ t. other (λ a. false≢true (is.1 a)), λ c. refl)

-- the answer is yes, and it is so
pub yes : {A : Type 0} → A → IsTrue true ↔ A
yes a = (λ t. a, λ b. refl)

-- the answer is no, and it is not so
pub no : {A : Type 0} → ¬ A → IsTrue false ↔ A
no n = (λ t. absurd (false≢true t), λ a. absurd (n a))

-- what the problem knows is what the world knows
pub known-is : (s : Standing) (P : Problem) → IsProblemOf s P → (K : List Known) → K ≡ s.world.known → K ≡ P.world.known
known-is s P L K e = e ∙ sym (ap (λ (w : World). w.known) L.world)

-- an answer is turned, and what it says is not so, or is
pub denied : (b : Bool) {A : Type 0} → IsTrue b ↔ A → IsTrue (not b) → ¬ A
denied true is t a = false≢true t
denied false is t a = false≢true (is.1 a)

pub granted : (b : Bool) {A : Type 0} → IsTrue b ↔ A → ¬ IsTrue (not b) → A
granted true is n = is.0 refl
granted false is n = absurd (n refl)

-- an answer says that something is not so, which is so
pub refuted : (b : Bool) {A : Type 0} → IsTrue b ↔ ¬ A → A → IsTrue (not b)
refuted true is a = absurd (is.0 refl a)
refuted false is a = refl

-- what is not so is turned to yes
pub disproved : (b : Bool) {A : Type 0} → IsTrue b ↔ A → ¬ A → IsTrue (not b)
disproved true is n = absurd (n (is.0 refl))
disproved false is n = refl

-- a flag that was asked turned
pub flag-set : (b : Bool) → not b ≡ false → IsTrue b
flag-set true e = refl
flag-set false e = absurd (false≢true (sym e))

pub flag-unset : (b : Bool) → not b ≡ true → ¬ IsTrue b
flag-unset true e t = false≢true e
flag-unset false e t = false≢true t
