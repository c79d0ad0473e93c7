-- One number more in the set.
use Rattle.std.proofs.Common.{◌≡◌, ◌↔◌, ℕ, ◌+◌, List, [], ◌∷◌, ◌++◌, get_or, take, sym, subst, Contains, IsTrue}
use Rattle.std.proofs.lemmas.List.{take_more}
use Rattle.std.specs.BTreeSet.{contains}
use Rattle.std.specs.Ordering.{nat_cmp}
use Rattle.osgi_space_sources.specs.computed.Exact.{exact_number}
use Rattle.osgi_space_sources.specs.laws.Sets.{set_push}
use Rattle.osgi_space.proofs.first.listed.Goals as goal

pub loop-number-preserved : goal.loop-number-preserved
loop-number-preserved c =
    let numbers = c.args.numbers.now in
    let i = c.loop-number.number-index in
    let more : take (i + 1) numbers ≡ take i numbers ++ get_or numbers i 0 ∷ [] = take_more numbers i 0 c.loop-number-test.true in
    let P : List ℕ → Type 0 = λ xs. (n : ℕ) → IsTrue (contains nat_cmp c.insert.new.self n) ↔ Contains xs n in
    subst P (sym more) (set_push nat_cmp exact_number c.loop-number.set c.insert.new.self (take i numbers) (get_or numbers i 0) c.in_ok-insert.ensures.updates c.loop-number.invariant)
