-- So many decisions are taken back.
use Rattle.std.proofs.Common.{◌≡◌, ℕ, ◌+◌, List, ◌++◌, replicate}
use Rattle.osgi_resolver_search.proofs.strides.take_back.Given as goal

abbrev pub invariant-loop : goal.invariant-loop
invariant-loop g l = record {
  same : g.W.Walker.problem l.walker ≡ g.W.Walker.problem l.fn.walker;
  back : (w : List ℕ) (kept : ℕ) → g.W.Walker.word l.fn.walker ≡ w ++ replicate (kept + l.counter) 0 → g.W.Walker.word l.walker ≡ w ++ replicate kept 0;
}
