-- Each rule of a wiring.
use Rattle.std.proofs.Common.{◌≡◌, subst}
use Rattle.osgi_base.specs.declared.ids.RevisionId.{RevisionId}
use Rattle.osgi_world.specs.Consistency.{AreDouble}
use Rattle.osgi_world.specs.Lists.{Two}
use Rattle.osgi_world.specs.Lookups.{symbolic_name}
use Rattle.osgi_space_rules.proofs.rules.wiring_holds.Goals as goal

pub returns : goal.returns
returns c =
    let K = c.args.known.now in
    let single = subst (λ l. ¬ Two (AreDouble K) l) c.items.ensures.items (c.in_ok-are_wires_single.ensures.single.0 c.if-not-branch.false) in
    let names = subst (λ l. ¬ Two (λ (e f : RevisionId). symbolic_name K e ≡ symbolic_name K f) l) c.items-2.ensures.items (c.in_ok-are_names_single.ensures.single.0 c.if-not-branch-2.false) in
    record {
      holds = (
        λ t. record {
          met = c.is_payload_met.ensures.met.0 c.if-not-is_payload_met.false;
          matching = c.do_fragments_match.ensures.matching.0 c.if-not-do_fragments_match.false;
          single = single;
          one_version = names;
          wires = c.in_ok-do_wires_hold.ensures.each.0 t;
        },
        λ holds. c.in_ok-do_wires_hold.ensures.each.1 holds.wires,
      );
    }
