-- The loop that splits: each pass that is made is one more out.
use Rattle.std.proofs.Common.{◌≡◌, ◌+◌, All, vec_len}
use Rattle.osgi_hall.specs.Passes.{IsPassOf}
use Rattle.cases_hall.proofs.crowd.split_all.Given as goal

abbrev pub invariant-loop : goal.invariant-loop
invariant-loop l = (vec_len l.passes ≡ l.counter) × IsPassOf l.hall l.first × (l.first.caller ≡ 0) × (l.first.made ≡ l.initial.first.made + vec_len l.passes) × (l.first.out ≡ l.initial.first.out + vec_len l.passes) × All (λ p. IsPassOf l.hall p) l.passes.items
