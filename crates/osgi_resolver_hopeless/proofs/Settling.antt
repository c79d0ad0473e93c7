-- A member is settled where it reaches no member that is not decided.
use Rattle.std.proofs.Common.{◌≡◌, inl, inr, ℕ, Bool, true, false, List, [], ◌∷◌, refl, subst, Contains, ◌↔◌, ◌⊎◌, ◌+◌, ◌<◌, ◌≤◌, take, length, get_or, ap, sym, filter, ◌==◌}
use Rattle.std.specs.Bool.{Decides}
use Rattle.osgi_base.specs.declared.ids.RevisionId.{RevisionId}
use Rattle.osgi_resolver_theory.proofs.Complete.{old-settled, reached-in_force}
use Rattle.osgi_resolver_theory.proofs.Decide.{settled-dec}
use Rattle.osgi_resolver_theory.proofs.Twos.{stable}
use Rattle.osgi_resolver_theory.proofs.Views.{in_force-cases}
use Rattle.osgi_space_sources.specs.computed.Reach.{Reach, starts, steps}
use Rattle.osgi_space_rules.proofs.Grow.{in_more}
use Rattle.osgi_space_sources.proofs.Rows.{in-required}
use Rattle.osgi_space_sources.specs.computed.Adds.{Adds}
use Rattle.std.proofs.lemmas.List.{take_all}
use Rattle.osgi_space.proofs.Ids.{contains-in, in-contains}
use Rattle.osgi_resolver_hopeless.specs.computed.Open.{AreUndecided, AreUnsettled, Has}
use Rattle.osgi_space_rows.specs.Agree.{AreRowsOf, id}
use Rattle.osgi_space_rows.specs.Rows.{Reexports, Requires, RowLists, required_by}
use Rattle.osgi_space_rows.specs.declared.rows.Required.{Required}
use Rattle.osgi_world.specs.Candidates.{IsProblem}
use Rattle.osgi_world.specs.Decisions.{Made}
use Rattle.osgi_world.specs.DueDecisions.{members}
use Rattle.osgi_world.specs.Hopeless.{IsDecided, IsSettled, ReachedFrom, first, more}
use Rattle.osgi_world.specs.Lists.{In}
use Rattle.osgi_world.specs.Partial.{partial}
use Rattle.osgi_world.specs.Wirings.{InForce}
use Rattle.osgi_world.specs.declared.problem.Problem.{Problem}
use Rattle.osgi_world.specs.declared.wiring.Wiring.{Wiring}
use Rattle.osgi_world.specs.declared.world.Known.{Known}

-- ---- what is reached

module _ (K : List Known) (W : List Wiring) (N : ℕ → List ℕ) (R : RowLists) (is : AreRowsOf K W N R) (r : ℕ) where
  pub reach-to : {x : ℕ} → Reach (Requires R r) (Reexports R) x → ReachedFrom K W (id r) (id x)
  reach-to (starts {x = x} at) = first ((is.requires r x).0 at)
  reach-to (steps {x = x} {y = y} l at) = more (reach-to l) ((is.reexports x y).0 at)

  pub reach-from : {c : RevisionId} → ReachedFrom K W (id r) c → Reach (Requires R r) (Reexports R) c.0
  reach-from (first {c = c} at) = starts ((is.requires r c.0).1 at)
  reach-from (more {c = c} {d = d} l at) = steps (reach-from l) ((is.reexports c.0 d.0).1 at)

-- what is reached is reached by a bundle wire at first
pub reach-first : (R : RowLists) {r x : ℕ} → Reach (Requires R r) (Reexports R) x → (c : ℕ) × Requires R r c
reach-first R (starts {x = x} at) = (x, at)
reach-first R (steps l at) = reach-first R l

-- ---- decided, and settled

-- one that is in force in the world is decided, and another one is a member
module _ (P : Problem) (L : IsProblem P) (D : Made) (r : RevisionId) (i : InForce (partial P D) r) (own : Bool) (own-is : In r (members P D) → Decides own (IsDecided P D r)) where
  pub decided-own : own ≡ true → IsDecided P D r
  decided-own t = elim (in_force-cases P D r i) [ inl o ↦ inl o | inr m ↦ (own-is m).0 t ]

  pub decided-old : own ≡ false → IsDecided P D r → InForce P.world.wirings r
  decided-old f (inl o) = o
  decided-old f (inr m) = let t = (own-is m.0).1 (inr m) in cc

module _ (P : Problem) (L : IsProblem P) (D : Made) (N : ℕ → List ℕ) (R : RowLists) (is : AreRowsOf P.world.known (partial P D) N R) (r : RevisionId) where
  pub reached-there : InForce (partial P D) r → (n : ℕ) → Reach (Requires R r.0) (Reexports R) n → InForce (partial P D) (id n)
  reached-there i n l = reached-in_force P L D i (reach-to P.world.known (partial P D) N R is r.0 l)

  -- what it reaches is reached by rows
  pub settled-by : IsDecided P D r → ((n : ℕ) → Reach (Requires R r.0) (Reexports R) n → IsDecided P D (id n)) → IsSettled P D r
  settled-by own all = record { own = own; reached = λ c l. all c.0 (reach-from P.world.known (partial P D) N R is r.0 l) }

  pub settled-all : IsSettled P D r → (n : ℕ) → Reach (Requires R r.0) (Reexports R) n → IsDecided P D (id n)
  settled-all s n l = s.reached (id n) (reach-to P.world.known (partial P D) N R is r.0 l)

-- a bundle wire has a row
pub row-there : (R : RowLists) (r x : ℕ) → Requires R r x → ¬ (required_by R r ≡ [])
row-there R r x has none =
    let row : Required = record { revision = r; provider = x; reexport = has.0 } in
    let i : In row [] = subst (In row) none (contains-in (required_by R r) row ((in-required R r row).1 (has.1, refl))) in
    elim i [ ]

some-row : (rows : List Required) → ¬ (rows ≡ []) → (row : Required) × In row rows
some-row [] some = absurd (some refl)
some-row (row ∷ rows) some = (row, inl refl)

-- and a row is one
pub wire-there : (R : RowLists) (r : ℕ) → ¬ (required_by R r ≡ []) → (x : ℕ) × Requires R r x
wire-there R r some =
    let row = some-row (required_by R r) some in
    let s = (in-required R r row.0).0 (in-contains (required_by R r) row.0 row.1) in
    (row.0.provider, (row.0.reexport, subst (Contains R.required) (λ i. record { revision = s.1 i; provider = row.0.provider; reexport = row.0.reexport }) s.0))

-- without a bundle wire nothing is reached
pub none-reached : (R : RowLists) (r : ℕ) → required_by R r ≡ [] → (n : ℕ) → ¬ Reach (Requires R r) (Reexports R) n
none-reached R r none n l = let first = reach-first R l in row-there R r first.0 first.1 none

-- ---- what the set says of revisions in force

module _ (P : Problem) (L : IsProblem P) (D : Made) (set : List ℕ) (are : AreUnsettled P D set) where
  pub settled-away : (r : RevisionId) → IsSettled P D r → ¬ Has set r.0
  settled-away r s has = ((are r.0).0 has).1 s

  pub away-settled : (r : RevisionId) → InForce (partial P D) r → ¬ Has set r.0 → IsSettled P D r
  away-settled r f away = elim (in_force-cases P D r f) [
    | inl old ↦ old-settled P L D r old
    | inr m ↦ stable (settled-dec P D r) (λ n. away ((are r.0).1 (m, n)))
  ]

-- without any bundle wire what is decided is settled
pub alone-unsettled : (P : Problem) → IsProblem P → (D : Made) (N : ℕ → List ℕ) (R : RowLists) → AreRowsOf P.world.known (partial P D) N R → R.required ≡ [] → (set : List ℕ) → AreUndecided P D set → AreUnsettled P D set
alone-unsettled P L D N R is none set are n =
    let nowhere : required_by R n ≡ [] = ap (λ rows. filter (λ (row : Required). row.revision == n) rows) none in
    let settles : IsDecided P D (id n) → IsSettled P D (id n) = λ d. settled-by P L D N R is (id n) d (λ x l. absurd (none-reached R n nowhere x l)) in (
      λ h. let b = (are n).0 h in (b.0, λ s. b.1 s.own),
      λ both. (are n).1 (both.0, λ d. both.1 (settles d)),
    )

-- ---- gathering the members that are not settled

-- the set has only such, all that are not decided, and those of this list
pub record Covers (P : Problem) (D : Made) (set : List ℕ) (seen : List RevisionId) : Type 0 where
  pub only : (n : ℕ) → Has set n → In (id n) (members P D) × ¬ IsSettled P D (id n)
  pub undecided : (r : RevisionId) → In r (members P D) → ¬ IsDecided P D r → Has set r.0
  pub all : (r : RevisionId) → In r seen → ¬ IsSettled P D r → Has set r.0

module _ (P : Problem) (D : Made) where
  pub covers-first : (set : List ℕ) → AreUndecided P D set → (ms : List RevisionId) → Covers P D set (take 0 ms)
  covers-first set are ms = record {
    only = λ n h. let b = (are n).0 h in (b.0, λ s. b.1 s.own);
    undecided = λ r i n. (are r.0).1 (i, n);
    all = λ r here. elim here [ ];
  }

  pub covers-done : (set : List ℕ) (ms : List RevisionId) (i : ℕ) → ms ≡ members P D → length ms ≤ i → Covers P D set (take i ms) → AreUnsettled P D set
  covers-done set ms i are past c n =
      (c.only n, λ both. c.all (id n) (subst (In (id n)) (sym (take_all i ms past)) (subst (In (id n)) (sym are) both.0)) both.1)

  module _ (ms : List RevisionId) (i : ℕ) (m : RevisionId) (within : i < length ms) (at : m ≡ get_or ms i m) (there : In m (members P D)) where
    pub covers-put : (old new : List ℕ) → Adds (λ x. x ≡ m.0) old new → ¬ IsSettled P D m → Covers P D old (take i ms) → Covers P D new (take (i + 1) ms)
    covers-put old new adds open-one c =
        let put : (n : ℕ) → Has new n ↔ (Has old n ⊎ (n ≡ m.0)) = adds.exact in
        record {
          only = λ n has. elim ((put n).0 has) [
            | inl o ↦ c.only n o
            | inr e ↦ subst (λ k. In (id k) (members P D) × ¬ IsSettled P D (id k)) (sym e) (there, open-one)
          ];
          undecided = λ r j n. (put r.0).1 (inl (c.undecided r j n));
          all = λ r j n. elim ((in_more ms i m within at r).0 j) [
            | inl o ↦ (put r.0).1 (inl (c.all r o n))
            | inr e ↦ (put r.0).1 (inr (ap (λ (x : RevisionId). x.0) e))
          ];
        }

    pub covers-skip : (set : List ℕ) → (IsDecided P D m → IsSettled P D m) → Covers P D set (take i ms) → Covers P D set (take (i + 1) ms)
    covers-skip set settles c = record {
      only = c.only;
      undecided = c.undecided;
      all = λ r j n. elim ((in_more ms i m within at r).0 j) [
        | inl o ↦ c.all r o n
        | inr e ↦ let open-one : ¬ IsSettled P D m = subst (λ x. ¬ IsSettled P D x) e n in subst (λ (x : RevisionId). Has set x.0) (sym e) (c.undecided m there (λ d. open-one (settles d)))
      ];
    }
