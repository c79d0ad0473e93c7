-- What is decided is hopeless for one of the reasons that are tested.
use Rattle.std.proofs.Common.{inl, inr}
use Rattle.osgi_base.specs.declared.ids.RevisionId.{RevisionId}
use Rattle.osgi_resolver_theory.proofs.Checks.{hopeless-iff_member}
use Rattle.osgi_resolver_theory.specs.Checks as check
use Rattle.osgi_resolver_theory.specs.Checks.{HopelessMember}
use Rattle.osgi_resolver_hopeless.specs.computed.Reasons.{Reason, clash, lost, rivals, stuck}
use Rattle.osgi_resolver_hopeless.specs.computed.Stuck.{IsStuck, amiss, two_providers}
use Rattle.osgi_world.specs.Candidates.{IsProblem}
use Rattle.osgi_world.specs.Decisions.{Made}
use Rattle.osgi_world.specs.DueDecisions.{members}
use Rattle.osgi_world.specs.Hopeless.{Hopeless}
use Rattle.osgi_world.specs.Lists.{In}
use Rattle.osgi_world.specs.declared.problem.Problem.{Problem}

module _ (P : Problem) (D : Made) where
  stuck-member : (m : RevisionId) → In m (members P D) → IsStuck P D m → HopelessMember P D
  stuck-member m i (amiss (inl u)) = elim u.2.no_wire [
    | inl none ↦ check.no_candidate m u.0 i u.1 u.2.needed none
    | inr refused ↦ check.all_refused m u.0 i u.1 u.2.needed refused.0 refused.1
  ]
  stuck-member m i (two_providers t) = check.two_providers m t.one t.other t.name i t.one_wire t.other_wire t.differ
  stuck-member m i (amiss (inr t)) = check.two_versions m i t

  reason-member : Reason P D → HopelessMember P D
  reason-member (stuck s) = stuck-member s.0 s.1 s.2
  reason-member (rivals r) = check.two_singletons r.new r.other r.is_new r.in_use r.rivals
  reason-member (lost l) = check.not_offered l.member l.wire l.is_member l.has l.settled l.lost
  reason-member (clash c) = check.clashes c.member c.seen_by c.used c.is_member c.implied c.clash

  member-reason : HopelessMember P D → Reason P D
  member-reason (check.no_candidate m q i j needed none) = stuck (m, i, amiss (inl (q, j, record { needed = needed; no_wire = inl none })))
  member-reason (check.all_refused m q i j needed multiple all) = stuck (m, i, amiss (inl (q, j, record { needed = needed; no_wire = inr (multiple, all) })))
  member-reason (check.two_providers m x y p i a b apart) = stuck (m, i, two_providers (record { name = p; one = x; other = y; one_wire = a; other_wire = b; differ = apart }))
  member-reason (check.two_versions m i t) = stuck (m, i, amiss (inr t))
  member-reason (check.two_singletons r s new used r_s) = rivals (record { new = r; other = s; is_new = new; in_use = used; rivals = r_s })
  member-reason (check.not_offered m w i has settled away) = lost (record { member = m; wire = w; is_member = i; has = has; settled = settled; lost = away })
  member-reason (check.clashes m e u i implied c) = clash (record { member = m; seen_by = e; used = u; is_member = i; implied = implied; clash = c })

  pub reason-hopeless : IsProblem P → Reason P D → Hopeless P D
  reason-hopeless L r = (hopeless-iff_member P L D).1 (reason-member r)

  pub hopeless-reason : IsProblem P → Hopeless P D → Reason P D
  hopeless-reason L h = member-reason ((hopeless-iff_member P L D).0 h)
