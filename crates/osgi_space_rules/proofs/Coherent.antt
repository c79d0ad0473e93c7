-- The rules of consistency, from what each wiring keeps.
use Rattle.std.proofs.Common.{inl, inr, List, sym, refl, subst, IsTrue}
use Rattle.osgi_base.specs.declared.ids.RevisionId.{RevisionId}
use Rattle.osgi_space_rules.specs.computed.Entries.{OneProvider, SingletonsDiffer}
use Rattle.osgi_space_rules.specs.computed.Growing.{Each}
use Rattle.osgi_space_rules.specs.computed.Holding.{IsMet, requirement_ref, WireHolds, WiringHolds}
use Rattle.osgi_world.specs.Consistency.{KeepsRules}
use Rattle.osgi_world.specs.Lists.{In}
use Rattle.osgi_world.specs.Lookups.{is_host_of}
use Rattle.osgi_world.specs.Wirings.{Attached, HasWire, InForce, Owns}
use Rattle.osgi_world.specs.declared.wiring.Wire.{Wire}
use Rattle.osgi_world.specs.declared.wiring.Wiring.{Wiring}
use Rattle.osgi_world.specs.declared.world.Known.{Known}

module _ (K : List Known) (W : List Wiring) where
  module _ (hold : Each (WiringHolds K W) W) where
    wire_holds : (r : RevisionId) (w : Wire) → HasWire W r w → WireHolds K W r w
    wire_holds r w has = subst (λ x. WireHolds K W x w) has.revision ((hold has.wiring has.stands).wires w has.has)

    is_met : (r owner : RevisionId) → InForce W r → Owns W r owner → IsMet K W r owner
    is_met r owner force (inl own) =
        let met : IsMet K W force.wiring.revision force.wiring.revision = (hold force.wiring force.stands).met.own in
        subst (λ x. IsMet K W r x) (sym own) (subst (λ x. IsMet K W x x) force.revision met)
    is_met r owner force (inr at) =
        let met : IsMet K W at.wiring.revision owner = (hold at.wiring at.stands).met.fragments owner at.has in
        subst (λ x. IsMet K W x owner) at.revision met

    pub kept : OneProvider K W → SingletonsDiffer K W → KeepsRules K W
    kept one differ = record {
      asked = λ r w has. (wire_holds r w has).asked;
      single = λ g stands. (hold g stands).single;
      mandatory = λ r q force has needed. is_met r q.owner force has.0 q.index has.1 needed;
      provided = λ r w has. (wire_holds r w has).provided;
      offered = λ r w has. (wire_holds r w has).offered;
      not_owner = λ r w has. (wire_holds r w has).another;
      one_provider = one;
      attached = λ r f at. subst (λ x. IsTrue (is_host_of K f x)) at.revision ((hold at.wiring at.stands).matching f at.has);
      one_version = λ g stands. (hold g stands).one_version;
      singletons = differ;
    }

  force_of : (g : Wiring) → In g W → InForce W g.revision
  force_of g stands = record { wiring = g; stands = stands; revision = refl }

  attached_of : (g : Wiring) (f : RevisionId) → In g W → In f g.fragments → Attached W g.revision f
  attached_of g f stands has = record { wiring = g; stands = stands; revision = refl; has = has }

  pub each_holds : KeepsRules K W → Each (WiringHolds K W) W
  each_holds is g stands = record {
    met = record {
      own = λ n within needed. is.mandatory g.revision (requirement_ref g.revision n) (force_of g stands) (inl refl, within) needed;
      fragments = λ f has n within needed. is.mandatory g.revision (requirement_ref f n) (force_of g stands) (inr (attached_of g f stands has), within) needed;
    };
    matching = λ f has. is.attached g.revision f (attached_of g f stands has);
    single = is.single g stands;
    one_version = is.one_version g stands;
    wires = λ w has.
        let held : HasWire W g.revision w = record { wiring = g; stands = stands; revision = refl; has = has } in
        record { asked = is.asked g.revision w held; provided = is.provided g.revision w held; another = is.not_owner g.revision w held; offered = is.offered g.revision w held };
  }
