-- The requirements of the fragments so far can be met.
use Rattle.std.proofs.Common.{◌≡◌, take}
use Rattle.osgi_base.specs.declared.ids.RevisionId.{RevisionId}
use Rattle.osgi_resolver_hopeless.specs.computed.Stuck.{AtMember, OwnUnmet}
use Rattle.osgi_world.specs.DueDecisions.{fragments_of}
use Rattle.osgi_world.specs.Lists.{In}
use Rattle.osgi_resolver_hopeless.proofs.unmet.is_unmet.Given as goal

abbrev pub invariant-loop-fragment : goal.invariant-loop-fragment
invariant-loop-fragment l = AtMember l.path l.member (λ P D. l.fragments ≡ fragments_of P D l.member → (f : RevisionId) → In f (take l.fragment-index l.fragments) → ¬ OwnUnmet P D l.member f)
