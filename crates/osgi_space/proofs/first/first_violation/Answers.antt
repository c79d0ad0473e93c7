-- No revision before has a violated constraint, and of this one the first is taken.
use Rattle.std.proofs.Common.{◌≡◌, ◌↔◌, ◌<◌, ℕ, List, get_or, take, sym, ◌∙◌, ap, subst, Contains, IsTrue, map}
use Rattle.std.specs.Prelude.{Option, None, Some}
use Rattle.std.specs.BTreeSet.{BTreeSet, contains}
use Rattle.std.specs.List.Sorted.{IsStrictlyIncreasing}
use Rattle.std.specs.Ordering.{nat_cmp}
use Rattle.std.proofs.lemmas.List.{get_or_default}
use Rattle.std.proofs.lemmas.List.Elements.{All-contains}
use Rattle.osgi_base.specs.declared.ids.RevisionId.{RevisionId}
use Rattle.osgi_space_rows.specs.Agree.{id}
use Rattle.osgi_space_rows.specs.Names.{name_numbered}
use Rattle.osgi_world.specs.Lists.{In}
use Rattle.osgi_space_sources.specs.declared.given.Given.{Given}
use Rattle.osgi_space_sources.specs.laws.Adding.{all-more, all-of}
use Rattle.osgi_space.specs.Violations.{IsFirstViolation}
use Rattle.osgi_space.specs.computed.Firsts.{IsFirstImplied}
use Rattle.osgi_space.specs.declared.violation.Violation.{Violation}
use Rattle.osgi_space.proofs.Firsts.{first-violated, none-violated}
use Rattle.osgi_space.proofs.Ids.{contain-id}
use Rattle.osgi_space.proofs.Rising.{stands-before}
use Rattle.osgi_space.proofs.first.first_violation.Goals as goal

abbrev Listed : BTreeSet ℕ → ℕ → Type 0
Listed set n = IsTrue (contains nat_cmp set n)

-- what is listed are the revisions
listed-among : (set : BTreeSet ℕ) (among : List RevisionId) (plain risen given : List ℕ) → plain ≡ map (λ (r : RevisionId). r.0) among → ((n : ℕ) → Contains risen n ↔ Contains plain n) → given ≡ risen
    → ((n : ℕ) → Listed set n ↔ Contains given n) → (n : ℕ) → Listed set n ↔ In (id n) among
listed-among set among plain risen given is same eq listed n =
    let P : List ℕ → Type 0 = λ xs. Contains xs n in
    let of = contain-id among n in (
      λ a. of.0 (subst P is ((same n).0 (subst P eq ((listed n).0 a)))),
      λ i. (listed n).1 (subst P (sym eq) ((same n).1 (subst P (sym is) (of.1 i)))),
    )

pub loop-number-preserved : goal.loop-number-preserved
loop-number-preserved c =
    let world = c.args.rows.now in
    let A = Listed c.in_ok-listed.listed in
    let items = c.deref-number-items.result.now in
    let i = c.loop-number.number-index in
    let h = c.loop-number-test.true in
    let n = get_or items i 0 in
    let P : ℕ → Type 0 = λ m. IsFirstImplied world.rows world.names A m None in
    all-more P P items i n h (get_or_default items i 0 n h) (λ m before. before) c.loop-number.invariant
    (subst (λ (o : Option Given). IsFirstImplied world.rows world.names A n o) c.in_default.is c.in_ok-pair.ensures.first)

pub returns : goal.returns
returns c =
    let world = c.args.rows.now in
    let A = Listed c.in_ok-listed.listed in
    let items = c.deref-number-items.result.now in
    let P : ℕ → Type 0 = λ m. IsFirstImplied world.rows world.names A m None in
    let same = listed-among c.in_ok-listed.listed c.args.among.now c.in_ok-numbers.field-0.items c.rising-numbers.result.items c.as_slice.result.now c.in_ok-numbers.ensures.numbers c.rising-numbers.ensures.same c.as_slice.ensures.value c.in_ok-listed.ensures.listed in
    record {
      first = λ W is. none-violated world.known W world.names world.rows is c.args.among.now A same
          (λ m a. all-of P items c.loop-number.number-index c.loop-number-test.false c.loop-number.invariant m
          (subst (λ (xs : List ℕ). Contains xs m) (c.as_slice.ensures.value ∙ sym c.deref-number-items.ensures.value) ((c.in_ok-listed.ensures.listed m).0 a)));
    }

pub returns-in-Some : goal.returns-in-Some
returns-in-Some c =
    let world = c.args.rows.now in
    let A = Listed c.in_ok-listed.listed in
    let items = c.deref-number-items.result.now in
    let i = c.loop-number.number-index in
    let h = c.loop-number-test.true in
    let n = get_or items i 0 in
    let pair = c.in-Some.pair in
    let P : ℕ → Type 0 = λ m. IsFirstImplied world.rows world.names A m None in
    let same = listed-among c.in_ok-listed.listed c.args.among.now c.in_ok-numbers.field-0.items c.rising-numbers.result.items c.as_slice.result.now c.in_ok-numbers.ensures.numbers c.rising-numbers.ensures.same c.as_slice.ensures.value c.in_ok-listed.ensures.listed in
    let first : IsFirstImplied world.rows world.names A n (Some pair) = subst (λ (o : Option Given). IsFirstImplied world.rows world.names A n o) c.in-Some.is c.in_ok-pair.ensures.first in
    let rising : IsStrictlyIncreasing items = subst (λ (xs : List ℕ). IsStrictlyIncreasing xs) (sym c.deref-number-items.ensures.value) c.rising-numbers.ensures.rising in
    let none : (m : ℕ) → A m → m < n → P m = λ m a below.
    let at = subst (λ (xs : List ℕ). Contains xs m) (c.as_slice.ensures.value ∙ sym c.deref-number-items.ensures.value) ((c.in_ok-listed.ensures.listed m).0 a) in
    All-contains P (take i items) m c.loop-number.invariant (stands-before items rising i m h below at) in
    let v : Violation = record { revision = id n; seen_by = id pair.source; «package» = name_numbered world.names pair.package } in
    let is_v : c.in_ok-violation_of.field-0 ≡ v = c.in_ok-violation_of.ensures.violation ∙ ap (λ (names : List (List ℕ)). record { revision = id n; seen_by = id pair.source; «package» = name_numbered names pair.package }) c.names.ensures.names in
    record {
      first = λ W is. subst (λ (w : Violation). IsFirstViolation world.known W (λ r. In r c.args.among.now) (Some w)) (sym is_v)
          (first-violated world.known W world.names world.rows is c.args.among.now A same n pair first none);
    }
