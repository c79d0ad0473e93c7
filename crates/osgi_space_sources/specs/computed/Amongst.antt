-- The revisions from which constraints may come.
use Rattle.std.specs.Prelude.{ℕ, Contains, IsTrue}
use Rattle.std.specs.BTreeSet.{contains}
use Rattle.std.specs.Ordering.{nat_cmp}
use Rattle.osgi_space_sources.specs.declared.among.Among.{Among}
use Rattle.osgi_space_sources.specs.declared.among.Among.TheVariants.{All, AllBut, Listed}

abbrev pub IsAmong : Among → ℕ → Type 0
IsAmong All r = Unit {0}
IsAmong (Listed listed) r = IsTrue (contains nat_cmp listed.now r)
IsAmong (AllBut others) r = ¬ Contains others.now r
