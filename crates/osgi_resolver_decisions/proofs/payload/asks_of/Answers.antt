-- All kinds, in turn.
use Rattle.std.proofs.Common.{◌++◌, ◌∙◌, ap}
use Rattle.osgi_resolver_decisions.specs.computed.Asks.{asks_by, decisions_in}
use Rattle.osgi_resolver_decisions.specs.declared.kind.Kind.TheVariants.{Bundle, Other, Package}
use Rattle.osgi_resolver_decisions.proofs.Asking.{asks-in_turn}
use Rattle.osgi_resolver_decisions.proofs.payload.asks_of.Goals as goal

pub returns : goal.returns
returns c = record {
  asks = λ P is current.
      let owners = c.args.owners.now in
      let by = asks_by P c.args.host in
      c.in_ok-add_kind-3.ensures.added P is current
      ∙ ap (λ l. l ++ by Other owners) (c.in_ok-add_kind-2.ensures.added P is current ∙ ap (λ l. l ++ by Package owners) (c.in_ok-add_kind.ensures.added P is current ∙ ap (λ l. decisions_in l ++ by Bundle owners) c.new-asks.ensures.items))
      ∙ asks-in_turn P c.args.host owners;
}
