-- The reasons for which a word that is not hopeless can be so with one decision more: d is the next decision after what D
-- decides, and v its value.
use Rattle.std.specs.Prelude.{◌≡◌, ◌≢◌, ℕ, ◌⊎◌, IsTrue, List, [], ◌∷◌, Some}
use Rattle.osgi_base.specs.declared.ids.RevisionId.{RevisionId}
use Rattle.osgi_world.specs.Candidates.{candidates}
use Rattle.osgi_world.specs.Consistency.{AreRivals}
use Rattle.osgi_world.specs.Decisions.{Decision, Made, adds, attached, host, pick, value_made, wired}
use Rattle.osgi_world.specs.DueDecisions.{fragments_of, members, payload}
use Rattle.osgi_world.specs.Hopeless.{IsDecided, IsSettled, ReachedFrom}
use Rattle.osgi_world.specs.Lists.{In, Two}
use Rattle.osgi_world.specs.Lookups.{is_multiple, symbolic_name, IsNeeded}
use Rattle.osgi_world.specs.Partial.{partial}
use Rattle.osgi_world.specs.Sources.{Clash, Implied}
use Rattle.osgi_world.specs.Wirings.{BundleWire, HasWire, InUse, OnOffer, PackageWire}
use Rattle.osgi_world.specs.declared.problem.Problem.{Problem}
use Rattle.osgi_world.specs.declared.wiring.CapRef.{CapRef}
use Rattle.osgi_world.specs.declared.wiring.ReqRef.{ReqRef}
use Rattle.osgi_world.specs.declared.wiring.Wire.{Wire}
use Rattle.osgi_world.specs.declared.wiring.Wiring.{Wiring}
use Rattle.osgi_world.specs.declared.world.Known.{Known}

-- ---- what the decision touches

-- m is a member that was none before: the decision pulls it in
abbrev pub Joined : Problem → Made → Decision → ℕ → RevisionId → Type 0
Joined P D d v m = In m (members P ((d, v) ∷ D)) × ¬ In m (members P D)

-- m is the host of the decision, or has joined
abbrev pub IsTouched : Problem → Made → Decision → ℕ → RevisionId → Type 0
IsTouched P D d v m = (m ≡ host d) ⊎ Joined P D d v m

-- r is newly in use: it has joined, or it is the fragment that the decision attaches
abbrev pub IsAnew : Problem → Made → Decision → ℕ → RevisionId → Type 0
IsAnew P D d v r = Joined P D d v r ⊎ In (attached (host d) r) (adds P d v)

-- r is settled now, and was not before
abbrev pub SettlesNow : Problem → Made → Decision → ℕ → RevisionId → Type 0
SettlesNow P D d v r = IsSettled P ((d, v) ∷ D) r × ¬ IsSettled P D r

-- r is h, or h is reached from it along a bundle wire, and after it along those with reexport
abbrev pub Reaches : List Known → List Wiring → RevisionId → RevisionId → Type 0
Reaches K W r h = (r ≡ h) ⊎ ReachedFrom K W r h

-- the host was not decided before, is decided now, and r is the host or reaches it
abbrev pub SettlesWithHost : Problem → Made → Decision → ℕ → RevisionId → Type 0
SettlesWithHost P D d v r = (¬ IsDecided P D (host d)) × IsDecided P ((d, v) ∷ D) (host d) × Reaches P.world.known (partial P ((d, v) ∷ D)) r (host d)

-- the host is not decided yet, or it was decided before
abbrev pub IsQuiet : Problem → Made → Decision → ℕ → Type 0
IsQuiet P D d v = (¬ IsDecided P ((d, v) ∷ D) (host d)) ⊎ IsDecided P D (host d)

-- m leads to n through revisions of A alone: n is m itself, or a bundle wire or a package wire goes to it from a revision that
-- m leads to
pub data Leads (K : List Known) (W : List Wiring) (A : RevisionId → Type 0) (m : RevisionId) : RevisionId → Type 0 where
  itself : A m → Leads K W A m m
  by_bundle : {r n : RevisionId} → Leads K W A m r → BundleWire K W r n → A n → Leads K W A m n
  by_package : {r n : RevisionId} {p : List ℕ} → Leads K W A m r → PackageWire K W r p n → A n → Leads K W A m n

-- m leads to n through decided revisions
abbrev pub LeadsTo : Problem → Made → RevisionId → RevisionId → Type 0
LeadsTo P D m n = Leads P.world.known (partial P D) (IsDecided P D) m n

-- ---- reasons

-- what makes a word hopeless of the member m alone, with its fragments, its requirements and its wires
pub data Stuck (P : Problem) (D : Made) (m : RevisionId) : Type 0 where
  -- a mandatory effective requirement of its payload has no candidate
  no_candidate : (q : ReqRef) → In q (payload P D m) → IsNeeded P.world.known q → candidates P q ≡ [] → Stuck P D m
  -- all decisions of a mandatory effective requirement that may have several wires are made, and each is no
  all_refused : (q : ReqRef) → In q (payload P D m) → IsNeeded P.world.known q → IsTrue (is_multiple P.world.known q) →
      ((c : CapRef) → In c (candidates P q) → value_made D (pick m q c) ≡ Some 1) → Stuck P D m
  -- it has two providers of one package
  two_providers : (x y : RevisionId) (p : List ℕ) → PackageWire P.world.known (partial P D) m p x → PackageWire P.world.known (partial P D) m p y → x ≢ y → Stuck P D m
  -- it has two fragments of one symbolic name
  two_versions : Two (λ e f. symbolic_name P.world.known e ≡ symbolic_name P.world.known f) (fragments_of P D m) → Stuck P D m

-- a reason that the decision gives by what it touches, newly uses or adds
pub data NewAtOnce (P : Problem) (D : Made) (d : Decision) (v : ℕ) : Type 0 where
  -- a member that it touches is stuck
  touched : (m : RevisionId) → In m (members P ((d, v) ∷ D)) → IsTouched P D d v m → Stuck P ((d, v) ∷ D) m → NewAtOnce P D d v
  -- what is newly in use has a rival
  two_singletons : (r s : RevisionId) → IsAnew P D d v r → InUse (partial P ((d, v) ∷ D)) s → AreRivals P.world.known r s → NewAtOnce P D d v
  -- the wire that it adds goes to a settled provider, which does not have the capability on offer
  wire_not_offered : (m : RevisionId) (w : Wire) → In (wired m w) (adds P d v) → IsSettled P ((d, v) ∷ D) w.capability.provider →
      ¬ OnOffer P.world.known (partial P ((d, v) ∷ D)) w.capability → NewAtOnce P D d v

-- a reason that comes from what settles by the decision
pub data NewBySettling (P : Problem) (D : Made) (d : Decision) (v : ℕ) : Type 0 where
  -- a wire's provider settles, and does not have the capability on offer
  not_offered : (m : RevisionId) (w : Wire) → In m (members P ((d, v) ∷ D)) → HasWire (partial P ((d, v) ∷ D)) m w → SettlesNow P D d v w.capability.provider →
      ¬ OnOffer P.world.known (partial P ((d, v) ∷ D)) w.capability → NewBySettling P D d v
  -- an implied constraint of m that comes from settled revisions alone clashes, and m leads to a revision that settles,
  -- through revisions that are decided
  clashes : (m n e : RevisionId) (u : List ℕ) → In m (members P ((d, v) ∷ D)) → SettlesNow P D d v n → LeadsTo P ((d, v) ∷ D) m n →
      Implied P.world.known (partial P ((d, v) ∷ D)) (IsSettled P ((d, v) ∷ D)) m e u → Clash P.world.known (partial P ((d, v) ∷ D)) m e u → NewBySettling P D d v

-- all reasons that the decision can give
abbrev pub Newly : Problem → Made → Decision → ℕ → Type 0
Newly P D d v = NewAtOnce P D d v ⊎ NewBySettling P D d v
