-- The next wire, and the first that is lost.
use Rattle.std.proofs.Common.{refl}
use Rattle.std.proofs.lemmas.List.{get_or_default}
use Rattle.osgi_resolver_theory.proofs.Lists.{flat_map-in, in-flat_map}
use Rattle.osgi_space_rules.proofs.Grow.{at_in, each_done, each_step}
use Rattle.osgi_space_rules.proofs.OneValue.{not_true}
use Rattle.osgi_resolver_hopeless.proofs.Offering.{listed-some, lost-there, some-listed}
use Rattle.osgi_resolver_hopeless.specs.computed.Clashing.{IsLostAt}
use Rattle.osgi_resolver_path.specs.Standing.{made}
use Rattle.osgi_resolver_path.specs.Wires.{wired_by}
use Rattle.osgi_resolver_path.specs.declared.course.Mark.{Mark}
use Rattle.osgi_resolver_path.specs.declared.wired.Wired.{Wired}
use Rattle.osgi_world.specs.Lists.{In}
use Rattle.osgi_resolver_hopeless.proofs.offer.is_one_lost_at.Goals as goal

pub loop-mark-init : goal.loop-mark-init
loop-mark-init c = λ P L are m here. elim here [ ]

pub loop-mark-preserved : goal.loop-mark-preserved
loop-mark-preserved c = λ P L are.
    let marks = c.args.marks.now in
    let i = c.loop-mark.mark-index in
    let within = c.loop-mark-test.true in
    let at = get_or_default marks i _ _ within in
    each_step (λ (m : Mark). (w : Wired) → In w (wired_by m.step) → ¬ IsLostAt P (made P c.args.path.now) c.args.host w.wire) marks i _ within at (c.loop-mark.invariant P L are)
    (λ w j lost. not_true _ c.if-branch.false (c.in_ok-is_wire_lost_at.ensures.all P L w (listed-some _ _ c.wired.ensures.wired w j)
    ((are w).0 (in-flat_map (λ (m : Mark). wired_by m.step) marks _ w (at_in marks i _ within at) j)).1 lost))

pub returns-then-branch : goal.returns-then-branch
returns-then-branch c = record {
  lost = λ P L are t.
      let marks = c.args.marks.now in
      let i = c.loop-mark.mark-index in
      let within = c.loop-mark-test.true in
      let one = c.in_ok-is_wire_lost_at.ensures.made c.if-branch.true in
      let there = (are one.0).0 (in-flat_map (λ (m : Mark). wired_by m.step) marks _ one.0 (at_in marks i _ within (get_or_default marks i _ _ within)) (some-listed _ _ c.wired.ensures.wired one.0 one.1)) in
      lost-there P (made P c.args.path.now) one.0 there (c.in_ok-is_wire_lost_at.ensures.lost P L one.0 one.1 there.1 c.if-branch.true);
  all = λ P L are has. refl;
}

pub returns : goal.returns
returns c = record {
  lost = λ P L are t. let f = t in cc;
  all = λ P L are h.
      let marks = c.args.marks.now in
      let none = each_done (λ (m : Mark). (w : Wired) → In w (wired_by m.step) → ¬ IsLostAt P (made P c.args.path.now) c.args.host w.wire) marks c.loop-mark.mark-index c.loop-mark-test.false (c.loop-mark.invariant P L are) in
      let w : Wired = record { revision = h.lost.member; wire = h.lost.wire } in
      let m = flat_map-in (λ (m : Mark). wired_by m.step) marks w ((are w).1 (h.lost.is_member, h.lost.has)) in
      absurd (none m.0 m.1 w m.2 (h.reaches, (h.lost.settled, h.lost.lost)));
}
