-- What is found in the rows of a search is so in its wirings.
use Rattle.std.proofs.Common.{◌≡◌, ◌↔◌, ℕ, List, map, subst}
use Rattle.std.specs.Prelude.{Option}
use Rattle.std.specs.List.Sorted.{IsStrictlyIncreasing}
use Rattle.osgi_base.specs.declared.ids.RevisionId.{RevisionId}
use Rattle.osgi_world.specs.Lists.{In}
use Rattle.osgi_world.specs.Sources.{Sources}
use Rattle.osgi_world.specs.declared.wiring.Wiring.{Wiring}
use Rattle.osgi_world.specs.declared.world.Known.{Known}
use Rattle.osgi_space_rows.specs.Worlds.{AreRowsIn, WorldLists}
use Rattle.osgi_space.specs.Violations.{IsFirstViolation}
use Rattle.osgi_space.specs.declared.violation.Violation.{Violation}
use Rattle.osgi_uses.specs.Clashes.{AreSources, IsFirstAmong}
use Rattle.osgi_uses.specs.States.{SpacesState, wirings_of}

module _ (state : SpacesState) (rows : WorldLists) (known : rows.known ≡ state.known) (are : AreRowsIn rows (wirings_of state)) where
  -- what is so of the rows of any wirings
  of-wirings : (P : List Known → List Wiring → Type 0) → ((W : List Wiring) → AreRowsIn rows W → P rows.known W) → P state.known (wirings_of state)
  of-wirings P holds = subst (λ (K : List Known). P K (wirings_of state)) known (holds (wirings_of state) are)

  pub first-among : (settled : List RevisionId) (first answer : Option Violation) → first ≡ answer → ((W : List Wiring) → AreRowsIn rows W → IsFirstViolation rows.known W (λ r. In r settled) first) → IsFirstAmong state settled answer
  first-among settled first answer same holds =
      subst (IsFirstAmong state settled) same (of-wirings (λ K W. IsFirstViolation K W (λ r. In r settled) first) holds)

  pub sources-of : (r : RevisionId) (p : List ℕ) (list : List RevisionId) → IsStrictlyIncreasing (map (λ (x : RevisionId). x.0) list) → ((W : List Wiring) → AreRowsIn rows W → (x : RevisionId) → In x list ↔ Sources rows.known W r p x) → AreSources state r p list
  sources-of r p list rising holds = record {
    all = of-wirings (λ K W. (x : RevisionId) → In x list ↔ Sources K W r p x) holds;
    rising = rising;
  }
