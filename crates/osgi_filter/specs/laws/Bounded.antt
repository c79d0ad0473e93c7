-- Filters of at most so many levels, one level over another, and that these are the filters with so few levels.
use Rattle.std.proofs.Common.{◌≡◌, ℕ, zero, suc, ◌≤◌, List, [], ◌∷◌, ◌++◌, map, refl, sym, subst, arith}
use Rattle.osgi_version.specs.Bytes.{Each, IsBlank}
use Rattle.osgi_model.specs.declared.filter.Test.{Test}
use Rattle.osgi_model.specs.declared.filter.Filter.{Filter, roll-Filter}
use Rattle.osgi_model.specs.declared.filter.Filter.TheOpen.{And, Or, Not, Item}
use Rattle.osgi_model.specs.declared.filter.Filter.TheFolds.{fold-roll-Filter}
use Rattle.osgi_model.specs.Filters.{IsItemName, IsTest, IsFilter, AreFilters, item, negated, all, any, none, more, most, levels}

-- filters in order, where R says how each is written
abbrev pub AreOperands : (List ℕ → Filter → Type 0) → List ℕ → List Filter → Type 0
AreOperands R text [] = Each IsBlank text
AreOperands R text (f ∷ fs) = (blanks : List ℕ) × (one : List ℕ) × (rest : List ℕ) × (text ≡ blanks ++ (one ++ rest)) × Each IsBlank blanks × R one f × AreOperands R rest fs

-- one level of a filter, where R says how the filters below it are written
pub data Level (R : List ℕ → Filter → Type 0) : List ℕ → Filter → Type 0 where
  leaf : (before name after signed : List ℕ) (test : Test) → Each IsBlank before → IsItemName name → Each IsBlank after → IsTest signed test → Level R (40 ∷ before ++ (name ++ (after ++ (signed ++ 41 ∷ [])))) (roll-Filter (Item name test))
  turned : (before one after : List ℕ) (f : Filter) → Each IsBlank before → R one f → Each IsBlank after → Level R (40 ∷ 33 ∷ before ++ (one ++ (after ++ 41 ∷ []))) (roll-Filter (Not f))
  every : (text : List ℕ) (f : Filter) (fs : List Filter) → AreOperands R text (f ∷ fs) → Level R (40 ∷ 38 ∷ text ++ 41 ∷ []) (roll-Filter (And (f ∷ fs)))
  some : (text : List ℕ) (f : Filter) (fs : List Filter) → AreOperands R text (f ∷ fs) → Level R (40 ∷ 124 ∷ text ++ 41 ∷ []) (roll-Filter (Or (f ∷ fs)))

-- a filter of at most so many levels
unfoldable pub Bare : ℕ → List ℕ → Filter → Type 0
Bare zero text f = ⊥
Bare (suc n) text f = Level (Bare n) text f

levels_not : (f : Filter) → levels (roll-Filter (Not f)) ≡ suc (levels f)
levels_not f = rw fold-roll-Filter refl

levels_and : (fs : List Filter) → levels (roll-Filter (And fs)) ≡ suc (most (map levels fs))
levels_and fs = rw fold-roll-Filter refl

levels_or : (fs : List Filter) → levels (roll-Filter (Or fs)) ≡ suc (most (map levels fs))
levels_or fs = rw fold-roll-Filter refl

levels_item : (name : List ℕ) (test : Test) → levels (roll-Filter (Item name test)) ≡ 1
levels_item name test = rw fold-roll-Filter refl

mutual
  unfolding Bare

  pub filter_bare : (text : List ℕ) (f : Filter) → IsFilter text f → (n : ℕ) → levels f ≤ n → Bare n text f
  filter_bare text f (item before name after signed test hb hn ha ht) zero le = absurd (omega (arith, levels_item name test))
  filter_bare text f (item before name after signed test hb hn ha ht) (suc n) le = leaf before name after signed test hb hn ha ht
  filter_bare text f (negated before one after g hb t ha) zero le = absurd (omega (arith, levels_not g))
  filter_bare text f (negated before one after g hb t ha) (suc n) le = turned before one after g hb (filter_bare one g t n (omega (arith, levels_not g))) ha
  filter_bare text f (all t g gs o) zero le = absurd (omega (arith, levels_and (g ∷ gs)))
  filter_bare text f (all t g gs o) (suc n) le = every t g gs (filters_bare t (g ∷ gs) o n (omega (arith, levels_and (g ∷ gs))))
  filter_bare text f (any t g gs o) zero le = absurd (omega (arith, levels_or (g ∷ gs)))
  filter_bare text f (any t g gs o) (suc n) le = some t g gs (filters_bare t (g ∷ gs) o n (omega (arith, levels_or (g ∷ gs))))

  filters_bare : (text : List ℕ) (fs : List Filter) → AreFilters text fs → (n : ℕ) → most (map levels fs) ≤ n → AreOperands (Bare n) text fs
  filters_bare text fs (none t h) n le = h
  filters_bare text fs (more blanks one rest f gs h t ts) n le = (blanks, one, rest, refl, h, filter_bare one f t n (omega arith), filters_bare rest gs ts n (omega arith))

abbrev AreFew : ℕ → Type 0
AreFew n = (text : List ℕ) (f : Filter) → Bare n text f → IsFilter text f × (levels f ≤ n)

operands_few : (n : ℕ) → AreFew n → (fs : List Filter) (text : List ℕ) → AreOperands (Bare n) text fs → AreFilters text fs × (most (map levels fs) ≤ n)
operands_few n p [] text o = (none text o, omega arith)
operands_few n p (f ∷ fs) text o =
    let one = p o.1 f o.5 in
    let others = operands_few n p fs o.2 o.6 in
    (subst (λ (x : List ℕ). AreFilters x (f ∷ fs)) (sym o.3) (more o.0 o.1 o.2 f fs o.4 one.0 others.0), omega (arith, one.1, others.1))

level_few : (n : ℕ) → AreFew n → (text : List ℕ) (f : Filter) → Level (Bare n) text f → IsFilter text f × (levels f ≤ suc n)
level_few n p text f (leaf before name after signed test hb hn ha ht) = (item before name after signed test hb hn ha ht, omega (arith, levels_item name test))
level_few n p text f (turned before one after g hb r ha) = let t = p one g r in (negated before one after g hb t.0 ha, omega (arith, levels_not g, t.1))
level_few n p text f (every t g gs o) = let r = operands_few n p (g ∷ gs) t o in (all t g gs r.0, omega (arith, levels_and (g ∷ gs), r.1))
level_few n p text f (some t g gs o) = let r = operands_few n p (g ∷ gs) t o in (any t g gs r.0, omega (arith, levels_or (g ∷ gs), r.1))

pub bare_few : (n : ℕ) → AreFew n
unfolding Bare
bare_few zero text f r = absurd r
bare_few (suc n) text f r = level_few n (bare_few n) text f r
