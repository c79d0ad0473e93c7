-- One sight more is told to its listener.
use Rattle.std.proofs.Common.{refl, sym, ap, map, arith, ◌∙◌}
use Rattle.std.proofs.lemmas.List.{take_all}
use Rattle.osgi_listeners.specs.Sights.{sights_of, told_all}
use Rattle.osgi_listeners.proofs.Delivering.{next_accepts, told_next, told_none}
use Rattle.osgi_listeners.proofs.Standing.{seen_stands}
use Rattle.osgi_listeners.proofs.listeners.Listeners.deliver_all.Goals as goal

pub loop-sight-init : goal.loop-sight-init
loop-sight-init c = record { rows = sym (told_none c.args.entry c.args.self.now.rows); turns = refl; issued = refl }

pub deliver-requires-clause-accepts : goal.deliver-requires-clause-accepts
deliver-requires-clause-accepts c =
    next_accepts c.args.entry c.args.sights.now c.loop-sight.sight-index _ c.loop-sight-test.true c.args.self.now.rows c.loop-sight.self.rows c.from.result c.from.ensures c.loop-sight.invariant.rows
    c.requires.room c.requires.earlier c.requires.in_order

pub loop-sight-preserved : goal.loop-sight-preserved
loop-sight-preserved c = record {
  rows = c.deliver.ensures.rows ∙ told_next c.args.entry c.args.sights.now c.loop-sight.sight-index _ c.loop-sight-test.true c.args.self.now.rows c.loop-sight.self.rows c.from.result c.from.ensures c.loop-sight.invariant.rows;
  turns = c.deliver.ensures.turns ∙ c.loop-sight.invariant.turns;
  issued = c.deliver.ensures.issued ∙ c.loop-sight.invariant.issued;
}

pub returns-clause-stands : goal.returns-clause-stands
returns-clause-stands c = seen_stands c.args.self.now c.loop-sight.self c.args.entry _
    (c.loop-sight.invariant.rows ∙ ap (λ l. map (told_all c.args.entry (sights_of l)) c.args.self.now.rows) (take_all c.loop-sight.sight-index c.args.sights.now (omega (arith, c.loop-sight-test.false))))
    c.loop-sight.invariant.turns c.loop-sight.invariant.issued
