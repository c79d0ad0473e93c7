-- The lists so far, and those that are to come.
use Rattle.std.proofs.Common.{◌≡◌, ◌++◌, drop}
use Rattle.osgi_links.specs.Held.{contents}
use Rattle.osgi_candidate_rows.specs.computed.Numbers.{places}
use Rattle.osgi_candidate_rows.proofs.listing.places_of.Given as goal

abbrev pub invariant-loop-choice : goal.invariant-loop-choice
invariant-loop-choice l = contents l.lists.items ++ places (drop l.choice-index l.choices) ≡ places l.choices
