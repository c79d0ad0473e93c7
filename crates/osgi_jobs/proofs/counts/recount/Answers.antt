-- The bundle's count is there, and is written.
use Rattle.std.proofs.Common.{◌≡◌, OnSome, Option, Some, subst}
use Rattle.osgi_jobs.proofs.counts.recount.Goals as goal

on-some : {X : Type 0} (o : Option X) (x : X) (P : Type 0) → o ≡ Some x → OnSome o P → P
on-some o x P is on = subst (λ o. OnSome o P) is on

pub returns : goal.returns
returns c = record { counted = on-some _ _ _ c.in-Some.is (c.get_mut.follows.holds c.args.count) }
