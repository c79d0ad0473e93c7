-- Settled revisions, whose class space no later decision changes; and hopeless words, below which the search tree has no
-- good word.
use Rattle.std.specs.Prelude.{◌≡◌, ◌≢◌, ℕ, ◌⊎◌, ◌||◌, IsTrue, List, [], Some}
use Rattle.osgi_base.specs.declared.ids.RevisionId.{RevisionId}
use Rattle.osgi_world.specs.Candidates.{candidates}
use Rattle.osgi_world.specs.Consistency.{AreRivals}
use Rattle.osgi_world.specs.Decisions.{Decision, attaching, choose, pick, Made, value_made, IsMade}
use Rattle.osgi_world.specs.DueDecisions.{members, due_decisions, payload}
use Rattle.osgi_world.specs.Partial.{partial}
use Rattle.osgi_world.specs.Lists.{In, Two}
use Rattle.osgi_world.specs.Lookups.{is_multiple, symbolic_name, requirement_namespace, IsNeeded}
use Rattle.osgi_world.specs.Satisfaction.{is_bundle, is_package}
use Rattle.osgi_world.specs.Sources.{Implied, Clash}
use Rattle.osgi_world.specs.Wirings.{InForce, HasWire, PackageWire, BundleWire, Reexports, OnOffer, InUse}
use Rattle.osgi_world.specs.ChoiceWords.{made_by}
use Rattle.osgi_world.specs.declared.problem.Problem.{Problem}
use Rattle.osgi_world.specs.declared.wiring.CapRef.{CapRef}
use Rattle.osgi_world.specs.declared.wiring.ReqRef.{ReqRef}
use Rattle.osgi_world.specs.declared.wiring.Wire.{Wire}
use Rattle.osgi_world.specs.declared.wiring.Wiring.{Wiring}
use Rattle.osgi_world.specs.declared.world.Known.{Known}

-- ---- settled

-- what is reached from r along a bundle wire, and after it along those with reexport
pub data ReachedFrom (K : List Known) (W : List Wiring) (r : RevisionId) : RevisionId → Type 0 where
  first : {c : RevisionId} → BundleWire K W r c → ReachedFrom K W r c
  more : {c d : RevisionId} → ReachedFrom K W r c → Reexports K W c d → ReachedFrom K W r d

-- it is a bundle requirement or an import
abbrev pub IsOfSpace : Problem → ReqRef → Type 0
IsOfSpace P q = IsTrue (is_bundle (requirement_namespace P.world.known q) || is_package (requirement_namespace P.world.known q))

-- an attachment, or a decision of a bundle requirement or an import: these decide where packages come from
abbrev pub IsSpatial : Problem → Decision → Type 0
IsSpatial P (attaching h f) = Unit {0}
IsSpatial P (choose h q) = IsOfSpace P q
IsSpatial P (pick h q c) = IsOfSpace P q

-- in force already, or a member whose attachments, bundle requirements and imports are decided
abbrev pub IsDecided : Problem → Made → RevisionId → Type 0
IsDecided P D c = InForce P.world.wirings c ⊎ In c (members P D) × ((d : Decision) → In d (due_decisions P D c) → IsSpatial P d → IsMade D d)

-- r, and each revision that is reached from it, is closed
pub record Settles (K : List Known) (W : List Wiring) (Closed : RevisionId → Type 0) (r : RevisionId) : Type 0 where
  pub own : Closed r
  pub reached : (c : RevisionId) → ReachedFrom K W r c → Closed c

-- the attachments, bundle requirements and imports of r, and of each revision that is reached from it, are decided
abbrev pub IsSettled : Problem → Made → RevisionId → Type 0
IsSettled P D r = Settles P.world.known (partial P D) (IsDecided P D) r

-- ---- hopeless

-- what makes a word hopeless
pub data Hopeless (P : Problem) (D : Made) : Type 0 where
  -- a mandatory effective requirement of a member's payload has no candidate
  no_candidate : (m : RevisionId) (q : ReqRef) → In m (members P D) → In q (payload P D m) → IsNeeded P.world.known q → candidates P q ≡ [] → Hopeless P D
  -- all decisions of a mandatory effective requirement that may have several wires are made, and each is no
  all_refused : (m : RevisionId) (q : ReqRef) → In m (members P D) → In q (payload P D m) → IsNeeded P.world.known q → IsTrue (is_multiple P.world.known q) →
      ((c : CapRef) → In c (candidates P q) → value_made D (pick m q c) ≡ Some 1) → Hopeless P D
  -- one revision has two providers of one package
  two_providers : (r x y : RevisionId) (p : List ℕ) → PackageWire P.world.known (partial P D) r p x → PackageWire P.world.known (partial P D) r p y → x ≢ y → Hopeless P D
  -- one host has two fragments of one symbolic name
  two_versions : (g : Wiring) → In g (partial P D) → Two (λ (e f : RevisionId). symbolic_name P.world.known e ≡ symbolic_name P.world.known f) g.fragments → Hopeless P D
  -- two current singletons of one symbolic name are in force or attached
  two_singletons : (r s : RevisionId) → InUse (partial P D) r → InUse (partial P D) s → AreRivals P.world.known r s → Hopeless P D
  -- the provider of a wire is settled, and does not have the capability on offer
  not_offered : (m : RevisionId) (w : Wire) → In m (members P D) → HasWire (partial P D) m w → IsSettled P D w.capability.provider → ¬ OnOffer P.world.known (partial P D) w.capability → Hopeless P D
  -- an implied constraint that comes from settled revisions alone clashes
  clashes : (r e : RevisionId) (u : List ℕ) → Implied P.world.known (partial P D) (IsSettled P D) r e u → Clash P.world.known (partial P D) r e u → Hopeless P D

abbrev pub IsHopeless : Problem → List ℕ → Type 0
IsHopeless P w = Hopeless P (made_by P w)
