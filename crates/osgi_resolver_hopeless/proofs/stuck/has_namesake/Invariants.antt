-- None of those so far is another fragment of the member.
use Rattle.std.proofs.Common.{take}
use Rattle.osgi_base.specs.declared.ids.RevisionId.{RevisionId}
use Rattle.osgi_resolver_hopeless.specs.computed.Stuck.{AtMember, IsOtherFragment}
use Rattle.osgi_world.specs.Lists.{In}
use Rattle.osgi_resolver_hopeless.proofs.stuck.has_namesake.Given as goal

abbrev pub invariant-loop-other : goal.invariant-loop-other
invariant-loop-other l = AtMember l.path l.member (λ P D. (t : RevisionId) → In t (take l.other-index l.named) → ¬ IsOtherFragment P D l.member l.fragment t)
