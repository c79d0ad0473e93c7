-- The classes that are left say what all of them say.
use Rattle.std.proofs.Common.{◌≡◌, ℕ, List, Bool, drop}
use Rattle.std.specs.List.{list_all}
use Rattle.osgi_base.specs.declared.ids.BundleId.{BundleId}
use Rattle.osgi_registry.proofs.finding.is_assignable.Given as goal
use denote.Bor.{Bor}

abbrev pub invariant-loop-class : goal.invariant-loop-class
invariant-loop-class g l =
    (test : BundleId → List ℕ → Bool) → ((owner : BundleId) (class : Bor (List ℕ)) (answer : Bool) → g.F.Fn.post l.fn.assignable (owner, (class, tt)) answer → answer ≡ test owner class.now)
    → list_all (test l.fn.service.owner) (drop l.class-index l.fn.service.classes) ≡ list_all (test l.fn.service.owner) l.fn.service.classes
