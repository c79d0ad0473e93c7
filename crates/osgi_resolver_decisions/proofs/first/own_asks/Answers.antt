-- All kinds, in turn.
use Rattle.std.proofs.Common.{◌++◌, ◌∙◌, ap}
use Rattle.osgi_world.specs.Payloads.{own_requirements}
use Rattle.osgi_resolver_decisions.specs.computed.Asks.{asks_among, decisions_in}
use Rattle.osgi_resolver_decisions.specs.declared.kind.Kind.{Kind}
use Rattle.osgi_resolver_decisions.specs.declared.kind.Kind.TheVariants.{Bundle, Other, Package}
use Rattle.osgi_resolver_decisions.proofs.Asking.{asks-own}
use Rattle.osgi_resolver_decisions.proofs.first.own_asks.Goals as goal

pub returns : goal.returns
returns c = record {
  asks = λ P in_it current.
      let member = c.args.member in
      let by = λ (kind : Kind). asks_among P member kind (own_requirements P.world.known member) in
      c.in_ok-add_owner-3.ensures.added P in_it current
      ∙ ap (λ l. l ++ by Other) (c.in_ok-add_owner-2.ensures.added P in_it current ∙ ap (λ l. l ++ by Package) (c.in_ok-add_owner.ensures.added P in_it current ∙ ap (λ l. decisions_in l ++ by Bundle) c.new-asks.ensures.items))
      ∙ asks-own P member;
}
