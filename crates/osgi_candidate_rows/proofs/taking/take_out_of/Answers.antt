-- One item after the other.
use Rattle.osgi_candidate_rows.proofs.Taken.{holds-after, live, removes-none, removes-one}
use Rattle.osgi_candidate_rows.proofs.taking.take_out_of.Goals as goal

pub loop-spot-init : goal.loop-spot-init
loop-spot-init c = record { removes = removes-none c.args.choices.now c.args.provider c.args.before c.args.rows.now; gone = c.requires.gone }

pub take_out_item-count-requires : goal.take_out_item-count-requires
take_out_item-count-requires c =
    let choices = c.args.choices.now in
    let holds = holds-after choices c.args.provider c.args.before c.loop-spot.count c.args.rows.now c.loop-spot.rows c.requires.holds c.loop-spot.invariant.removes in
    record { gone = c.loop-spot.invariant.gone; live = live choices c.loop-spot.rows c.args.provider _ c.in-Some.item holds c.in-Some.ensures.item }

pub loop-spot-preserved : goal.loop-spot-preserved
loop-spot-preserved c = record {
  removes = removes-one c.args.choices.now c.args.provider c.args.before c.loop-spot.count c.take_out_item-count.result c.args.rows.now c.loop-spot.rows c.take_out_item-count.new.rows _ c.in-Some.item c.loop-spot.invariant.removes c.in-Some.ensures.item
      c.take_out_item-count.ensures.taken;
  gone = c.take_out_item-count.ensures.gone;
}

pub loop-spot-preserved-in_default : goal.loop-spot-preserved-in_default
loop-spot-preserved-in_default c = c.loop-spot.invariant

pub returns : goal.returns
returns c = record { taken = c.loop-spot.invariant.removes; gone = c.loop-spot.invariant.gone }
