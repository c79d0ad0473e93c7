-- What a test for hopeless words has to look at, where what was in force before is consistent: members alone.
use Rattle.std.specs.Prelude.{◌≡◌, ◌≢◌, ℕ, ◌⊎◌, IsTrue, List, [], Some}
use Rattle.osgi_base.specs.declared.ids.RevisionId.{RevisionId}
use Rattle.osgi_world.specs.Candidates.{candidates}
use Rattle.osgi_world.specs.Consistency.{AreRivals}
use Rattle.osgi_world.specs.Decisions.{Made, pick, value_made}
use Rattle.osgi_world.specs.DueDecisions.{fragments_of, members, payload}
use Rattle.osgi_world.specs.Partial.{partial}
use Rattle.osgi_world.specs.Hopeless.{IsSettled}
use Rattle.osgi_world.specs.Lists.{In, Two}
use Rattle.osgi_world.specs.Lookups.{is_multiple, symbolic_name, IsNeeded}
use Rattle.osgi_world.specs.Sources.{Clash, Implied}
use Rattle.osgi_world.specs.Wirings.{HasWire, OnOffer, PackageWire, InUse}
use Rattle.osgi_world.specs.declared.problem.Problem.{Problem}
use Rattle.osgi_world.specs.declared.wiring.CapRef.{CapRef}
use Rattle.osgi_world.specs.declared.wiring.ReqRef.{ReqRef}
use Rattle.osgi_world.specs.declared.wiring.Wire.{Wire}

-- a member, or a fragment that is attached to one
abbrev pub IsNew : Problem → Made → RevisionId → Type 0
IsNew P D r = In r (members P D) ⊎ ((m : RevisionId) × In m (members P D) × In r (fragments_of P D m))

pub data HopelessMember (P : Problem) (D : Made) : Type 0 where
  no_candidate : (m : RevisionId) (q : ReqRef) → In m (members P D) → In q (payload P D m) → IsNeeded P.world.known q → candidates P q ≡ [] → HopelessMember P D
  all_refused : (m : RevisionId) (q : ReqRef) → In m (members P D) → In q (payload P D m) → IsNeeded P.world.known q → IsTrue (is_multiple P.world.known q) →
      ((c : CapRef) → In c (candidates P q) → value_made D (pick m q c) ≡ Some 1) → HopelessMember P D
  two_providers : (m x y : RevisionId) (p : List ℕ) → In m (members P D) → PackageWire P.world.known (partial P D) m p x → PackageWire P.world.known (partial P D) m p y → x ≢ y → HopelessMember P D
  two_versions : (m : RevisionId) → In m (members P D) → Two (λ e f. symbolic_name P.world.known e ≡ symbolic_name P.world.known f) (fragments_of P D m) → HopelessMember P D
  two_singletons : (r s : RevisionId) → IsNew P D r → InUse (partial P D) s → AreRivals P.world.known r s → HopelessMember P D
  not_offered : (m : RevisionId) (w : Wire) → In m (members P D) → HasWire (partial P D) m w → IsSettled P D w.capability.provider → ¬ OnOffer P.world.known (partial P D) w.capability → HopelessMember P D
  clashes : (m e : RevisionId) (u : List ℕ) → In m (members P D) → Implied P.world.known (partial P D) (IsSettled P D) m e u → Clash P.world.known (partial P D) m e u → HopelessMember P D
