-- One list more.
use Rattle.std.proofs.Common.{◌++◌, ◌∙◌, List, length, ap}
use Rattle.osgi_links.specs.Held.{contents, count_up}
use Rattle.osgi_world.specs.declared.wiring.CapRef.{CapRef}
use Rattle.osgi_candidate_rows.specs.computed.Numbers.{places}
use Rattle.osgi_candidate_rows.proofs.Numbers.{places-all, places-next}
use Rattle.osgi_candidate_rows.proofs.listing.places_of.Goals as goal

pub loop-choice-init : goal.loop-choice-init
loop-choice-init c = ap (λ lists. contents lists ++ places c.args.choices.now) c.new-lists.ensures.items

pub loop-choice-preserved : goal.loop-choice-preserved
loop-choice-preserved c =
    places-next c.args.choices.now c.loop-choice.choice-index c.loop-choice.lists.items c.push.new.self.items c.in_ok-places_below.field-0 c.choice-item.result c.loop-choice-test.true c.loop-choice.invariant c.choice-item.is
    (c.in_ok-places_below.ensures.places ∙ ap (λ (xs : List CapRef). count_up 0 (length xs)) c.items-count.ensures.items) c.in_ok-push.ensures.items

pub returns : goal.returns
returns c = record { places = places-all c.args.choices.now c.loop-choice.choice-index c.loop-choice.lists.items c.loop-choice-test.false c.loop-choice.invariant }
