-- One more number, and all of them.
use Rattle.std.proofs.Common.{append-nil, ap, sym, map, ◌∙◌, ◌++◌}
use Rattle.std.specs.Map.Iter.{deref}
use Rattle.std.proofs.lemmas.Map.Iter.{rest_all, rest_more}
use Rattle.osgi_base.specs.declared.ids.ServiceId.{ServiceId}
use Rattle.osgi_registry_index.proofs.Belongs.{numbers_more}
use Rattle.osgi_registry_index.proofs.bundle_services.listed.Goals as goal

pub loop-service-preserved : goal.loop-service-preserved
loop-service-preserved c =
    let left = rest_more deref c.loop-service.service-iterator c.next.new.self c.next.result c.in-Some.service c.in-Some.is c.next.ensures.steps in
    rw c.in_ok-push.ensures.added (numbers_more c.loop-service.list c.loop-service.service-iterator c.next.new.self c.in-Some.service.now left ∙ c.loop-service.invariant)

pub returns-clause-listed : goal.returns-clause-listed
returns-clause-listed c =
    let none = rest_all deref c.loop-service.service-iterator c.next.new.self c.next.result c.in-None.is c.next.ensures.steps in
    sym (ap (λ l. map (λ (s : ServiceId). s.0) c.loop-service.list ++ l) none ∙ append-nil (map (λ (s : ServiceId). s.0) c.loop-service.list)) ∙ c.loop-service.invariant
