-- The place that the search ends at, or none.
use Rattle.std.proofs.Common.{sym, subst, rules}
use Rattle.std.proofs.lemmas.List.Sorted.{answers_always}
use Rattle.std.specs.Prelude.{MatchOption, Option, ℕ}
use Rattle.osgi_listeners.specs.Rows.{id_of}
use Rattle.osgi_listeners.specs.computed.Kept.{IsAbsent, IsPlaceOf}
use Rattle.osgi_listeners.proofs.Changes.{searched}
use Rattle.osgi_listeners.specs.laws.Ids.{ids_rise}
use Rattle.osgi_listeners.proofs.slots.place_of.Goals as goal

pub returns : goal.returns
returns c =
    let facts = c.binary_search_by_key.ensures in
    let by_key = facts.position id_of (answers_always _ _ _ (λ f a r g called. search rules)) in
    record {
      place =
          subst (λ (place : Option ℕ). MatchOption place (IsAbsent c.args.listener c.args.slots.now) (IsPlaceOf c.args.listener c.args.slots.now)) (sym c.ok.ensures.value)
          (searched c.args.slots.now (ids_rise c.args.slots.now c.requires.rising) c.args.listener c.binary_search_by_key.result facts.bound by_key);
    }
