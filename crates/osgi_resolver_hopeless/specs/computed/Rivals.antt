-- Current singletons of one symbolic name.
use Rattle.std.specs.Prelude.{◌≢◌, ℕ, ◌⊎◌, IsTrue, List, Contains}
use Rattle.osgi_base.specs.declared.ids.RevisionId.{RevisionId}
use Rattle.osgi_resolver_theory.specs.Checks.{IsNew}
use Rattle.osgi_resolver_path.specs.Standing.{Standing}
use Rattle.osgi_world.specs.Consistency.{AreRivals}
use Rattle.osgi_world.specs.Decisions.{Made}
use Rattle.osgi_world.specs.Lookups.{is_current, is_singleton}
use Rattle.osgi_world.specs.Partial.{partial}
use Rattle.osgi_world.specs.Wirings.{InUse}
use Rattle.osgi_world.specs.declared.problem.Problem.{Problem}
use Rattle.osgi_world.specs.declared.world.Known.{Known}

abbrev pub IsCurrentSingleton : List Known → RevisionId → Type 0
IsCurrentSingleton K r = IsTrue (is_current K r) × IsTrue (is_singleton K r)

-- it is in use in the world, or among the new ones
abbrev pub IsPresent : Standing → List ℕ → RevisionId → Type 0
IsPresent s new r = Contains new r.0 ⊎ InUse s.world.wirings r

-- the other one is another current singleton that is present
pub record IsOther (s : Standing) (new : List ℕ) (r other : RevisionId) : Type 0 where
  pub apart : other.0 ≢ r.0
  pub singleton : IsCurrentSingleton s.world.known other
  pub present : IsPresent s new other

-- it has a rival that is present
abbrev pub HasRival : Standing → List ℕ → RevisionId → Type 0
HasRival s new r = (t : RevisionId) × IsPresent s new t × AreRivals s.world.known r t

-- a member, or a fragment that is attached to one, has a rival in use
pub record HasRivals (P : Problem) (D : Made) : Type 0 where
  pub new : RevisionId
  pub other : RevisionId
  pub is_new : IsNew P D new
  pub in_use : InUse (partial P D) other
  pub rivals : AreRivals P.world.known new other
