-- They are all that the bundle owns.
use Rattle.std.proofs.Common.{◌≡◌, ap, sym, subst, ◌∙◌, arith, filter}
use Rattle.std.proofs.lemmas.List.{take_all}
use Rattle.osgi_registry.specs.computed.Concerns.{AreAmong, owns}
use Rattle.osgi_registry.specs.Rows.{ids_of, is_owned}
use Rattle.osgi_registry.proofs.Owned.{owned_exact}
use Rattle.osgi_registry.proofs.registry.Registry.owned_among.Goals as goal

pub returns : goal.returns
returns c =
    let bundle = c.args.bundle in
    let services = c.args.services.now in
    let are = ap (λ r. r.rows) c.self.view_is in
    let exact = owned_exact c.self.inside.issued bundle c.self.inside.services.entries services c.self.invariant.rows (subst (AreAmong bundle services) (sym are) c.requires.all) c.requires.rising in
    record {
      owned =
          c.loop-service.invariant
          ∙ ap (filter (owns bundle c.args.self.now.rows)) (take_all c.loop-service.service-index services (omega (arith, c.loop-service-test.false)))
          ∙ subst (λ rows. filter (owns bundle rows) services ≡ ids_of (filter (is_owned bundle) rows)) are exact;
    }
