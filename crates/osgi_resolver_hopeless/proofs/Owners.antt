-- The requirements of a payload are those of the member and of its fragments.
use Rattle.osgi_base.specs.declared.ids.RevisionId.{RevisionId}
use Rattle.osgi_resolver_theory.proofs.States.{in-payload, payload-in}
use Rattle.osgi_resolver_hopeless.specs.computed.Stuck.{IsOwner, IsUnmet, OwnUnmet, place}
use Rattle.osgi_world.specs.Decisions.{Made}
use Rattle.osgi_world.specs.declared.problem.Problem.{Problem}

module _ (P : Problem) (D : Made) (m : RevisionId) where
  pub unmet-of : (o : RevisionId) → IsOwner P D m o → OwnUnmet P D m o → IsUnmet P D m
  unmet-of o owner u = (place o u.0, in-payload P D m (place o u.0) owner u.1, u.2)

  pub owner-of : IsUnmet P D m → (o : RevisionId) × IsOwner P D m o × OwnUnmet P D m o
  owner-of u = let at = payload-in P D m u.0 u.1 in (u.0.owner, at.0, (u.0.index, at.1, u.2))
