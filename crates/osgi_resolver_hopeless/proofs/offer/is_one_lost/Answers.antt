-- The next wire, and the first that is lost.
use Rattle.std.proofs.lemmas.List.{get_or_default}
use Rattle.osgi_resolver_theory.proofs.Lists.{flat_map-in, in-flat_map}
use Rattle.osgi_space_rules.proofs.Grow.{at_in, each_done, each_step}
use Rattle.osgi_space_rules.proofs.OneValue.{not_true}
use Rattle.osgi_resolver_hopeless.proofs.Answering.{no, yes}
use Rattle.osgi_resolver_hopeless.proofs.Offering.{listed-some, some-listed}
use Rattle.osgi_resolver_hopeless.specs.computed.Clashing.{IsLost}
use Rattle.osgi_resolver_path.specs.Wires.{wired_by}
use Rattle.osgi_resolver_path.specs.declared.course.Mark.{Mark}
use Rattle.osgi_resolver_path.specs.declared.wired.Wired.{Wired}
use Rattle.osgi_world.specs.Lists.{In}
use Rattle.osgi_resolver_hopeless.proofs.offer.is_one_lost.Goals as goal

pub loop-mark-init : goal.loop-mark-init
loop-mark-init c = λ W is m here. elim here [ ]

pub loop-mark-preserved : goal.loop-mark-preserved
loop-mark-preserved c = λ W is.
    let marks = c.args.marks.now in
    let i = c.loop-mark.mark-index in
    let within = c.loop-mark-test.true in
    each_step (λ (m : Mark). (w : Wired) → In w (wired_by m.step) → ¬ IsLost c.args.rows.now.known W c.args.unsettled.now w) marks i _ within (get_or_default marks i _ _ within) (c.loop-mark.invariant W is)
    (λ w j lost. not_true _ c.if-is_wire_lost.false ((c.is_wire_lost.ensures.lost W is).1 (w, listed-some _ _ c.wired.ensures.wired w j, lost)))

pub returns-then-is_wire_lost : goal.returns-then-is_wire_lost
returns-then-is_wire_lost c = record {
  lost = λ W is.
      let marks = c.args.marks.now in
      let i = c.loop-mark.mark-index in
      let within = c.loop-mark-test.true in
      let some = (c.is_wire_lost.ensures.lost W is).0 c.if-is_wire_lost.true in
      yes (some.0, in-flat_map (λ (m : Mark). wired_by m.step) marks _ some.0 (at_in marks i _ within (get_or_default marks i _ _ within)) (some-listed _ _ c.wired.ensures.wired some.0 some.1), some.2);
}

pub returns : goal.returns
returns c = record {
  lost = λ W is.
      let marks = c.args.marks.now in
      let none = each_done (λ (m : Mark). (w : Wired) → In w (wired_by m.step) → ¬ IsLost c.args.rows.now.known W c.args.unsettled.now w) marks c.loop-mark.mark-index c.loop-mark-test.false (c.loop-mark.invariant W is) in
      no (λ some. let m = flat_map-in (λ (m : Mark). wired_by m.step) marks some.0 some.1 in none m.0 m.1 some.0 m.2 some.2);
}
