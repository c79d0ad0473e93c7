-- The set of the locations that were named, beside the list of them.
use Rattle.std.specs.Prelude.{ℕ, ◌≡◌, List}
use Rattle.std.specs.BTreeSet.{BTreeSet, contains}
use Rattle.std.specs.Cmp.Lexicographic.{slice_cmp}
use Rattle.std.specs.Ordering.{nat_cmp}
use Rattle.osgi_depot.specs.Depots.{firsts}
use Rattle.osgi_base.specs.Texts.{is_among}

-- the set has the texts that were named, and the list has each of them once
pub record AreSeen (set : BTreeSet (List ℕ)) (list named : List (List ℕ)) : Type 0 where
  pub has : (text : List ℕ) → contains (slice_cmp nat_cmp) set text ≡ is_among named text
  pub firsts_are : list ≡ firsts named
