-- A text is asked for.
use Rattle.osgi_candidates.proofs.ByText.{asks_by}
use Rattle.osgi_candidates.proofs.offers.Offers.collected.Goals as goal

pub returns-in_ok-collected_by_text-in-Some : goal.returns-in_ok-collected_by_text-in-Some
returns-in_ok-collected_by_text-in-Some c = record {
  collected = λ fit asks.
      c.in_ok-collected_by_text-in-Some.ensures.collected fit asks
      (asks_by c.args.requirement.now c.in_ok-key-in-Some.key c.in-Some.asked.attribute.now c.in-Some.asked.text.now c.in_ok-key-in-Some.ensures.key c.in-Some.ensures.asked);
}
