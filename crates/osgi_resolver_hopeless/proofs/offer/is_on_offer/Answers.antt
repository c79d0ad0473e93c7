-- The provider's payload has the capability, and it is not replaced.
use Rattle.std.proofs.Common.{List, ◌<◌, ◌≤◌, ◌∙◌, ap, sym, subst, arith}
use Rattle.osgi_space_rules.proofs.OneValue.{not_true}
use Rattle.osgi_space_sources.specs.computed.RowSources.{Owns}
use Rattle.osgi_resolver_hopeless.proofs.Answering.{no, opposite}
use Rattle.osgi_resolver_hopeless.proofs.Offering.{offer-not_replaced, offer-owns, offered}
use Rattle.osgi_space_rows.specs.Names.{name_numbered}
use Rattle.osgi_space_rows.specs.Rows.{RowLists}
use Rattle.osgi_world.specs.Lookups.{capability_count}
use Rattle.osgi_world.specs.declared.world.Known.{Known}
use Rattle.osgi_resolver_hopeless.proofs.offer.is_on_offer.Goals as goal

pub returns-then-capability-capability_count : goal.returns-then-capability-capability_count
returns-then-capability-capability_count c = record {
  offer = λ W is. no (λ o.
      let past : capability_count c.args.rows.now.known c.args.capability.owner ≤ c.args.capability.index = subst (λ n. n ≤ c.args.capability.index) (c.capability_count.ensures.count ∙ ap (λ (K : List Known). capability_count K c.args.capability.owner) c.known.ensures.known) c.if-capability-capability_count.true in
      let within : c.args.capability.index < capability_count c.args.rows.now.known c.args.capability.owner = o.has.1 in
      omega arith);
}

pub returns-then-not-owns : goal.returns-then-not-owns
returns-then-not-owns c = record {
  offer = λ W is. no (λ o.
      let world = c.args.rows.now in
      let owns = offer-owns world.known W (name_numbered world.names) world.rows is c.args.capability o in
      not_true _ c.if-not-owns.true (c.owns.ensures.owns.1 (subst (λ (R : RowLists). Owns R c.args.capability.provider.0 c.args.capability.owner.0) (sym c.rows.ensures.rows) owns)));
}

pub returns : goal.returns
returns c = record {
  offer = λ W is.
      let world = c.args.rows.now in
      let within : c.args.capability.index < capability_count world.known c.args.capability.owner = subst (λ n. c.args.capability.index < n) (c.capability_count.ensures.count ∙ ap (λ (K : List Known). capability_count K c.args.capability.owner) c.known.ensures.known) c.if-capability-capability_count.false in
      let owns = subst (λ (R : RowLists). Owns R c.args.capability.provider.0 c.args.capability.owner.0) c.rows.ensures.rows (c.owns.ensures.owns.0 c.if-not-owns.false) in
      opposite (c.is_replaced.ensures.replaced W is) (offer-not_replaced world.known W (name_numbered world.names) world.rows is c.args.capability) (offered world.known W (name_numbered world.names) world.rows is c.args.capability within owns);
}
