-- The loop that joins: each pass that is joined is one fewer out.
use Rattle.std.proofs.Common.{◌≡◌, ◌+◌, All, vec_len}
use Rattle.osgi_hall.specs.Passes.{IsPassOf}
use Rattle.cases_hall.proofs.crowd.join_all.Given as goal

abbrev pub invariant-loop-pass : goal.invariant-loop-pass
invariant-loop-pass l = IsPassOf l.hall l.first × (l.first.caller ≡ 0) × (l.initial.first.out + vec_len l.ended ≡ l.first.out + vec_len l.initial.ended) × All (λ t. IsPassOf l.hall t.0) l.ended.items

abbrev pub decreases-loop-pass : goal.decreases-loop-pass
decreases-loop-pass l = vec_len l.ended
