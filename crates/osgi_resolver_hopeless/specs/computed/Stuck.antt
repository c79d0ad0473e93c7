-- Members that make what is decided hopeless by themselves.
use Rattle.std.specs.Prelude.{◌≡◌, ◌≢◌, ℕ, ◌<◌, ◌⊎◌, IsTrue, List, [], ◌∷◌, Option, Some}
use Rattle.osgi_base.specs.declared.ids.RevisionId.{RevisionId}
use Rattle.osgi_resolver_decisions.specs.Sure.{LacksCandidate}
use Rattle.osgi_resolver_path.specs.Standing.{At, Standing}
use Rattle.osgi_resolver_path.specs.declared.wired.Wired.{Wired}
use Rattle.osgi_world.specs.Candidates.{candidates}
use Rattle.osgi_world.specs.Decisions.{Decision, Made, attaching, choose, pick, value_made}
use Rattle.osgi_world.specs.DueDecisions.{fragments_of, members, payload}
use Rattle.osgi_world.specs.Lists.{In, Two}
use Rattle.osgi_world.specs.Lookups.{is_multiple, requirement_count, symbolic_name, IsNeeded}
use Rattle.osgi_world.specs.Partial.{partial}
use Rattle.osgi_world.specs.Wirings.{IsExport, PackageWire}
use Rattle.osgi_world.specs.declared.problem.Problem.{Problem}
use Rattle.osgi_world.specs.declared.wiring.CapRef.{CapRef}
use Rattle.osgi_world.specs.declared.wiring.ReqRef.{ReqRef}
use Rattle.osgi_world.specs.declared.wiring.Wiring.{Wiring}
use Rattle.osgi_world.specs.declared.world.Known.{Known}

-- it is so with the problem and with what is decided, where m is a member
abbrev pub AtMember : Standing → RevisionId → (Problem → Made → Type 0) → Type 0
AtMember s m F = At s (λ P D. In m (members P D) → F P D)

-- ---- requirements that can get no wire any more

-- the decision on this wire is made, and is no
abbrev pub IsRefused : Made → RevisionId → ReqRef → CapRef → Type 0
IsRefused D m q c = value_made D (pick m q c) ≡ Some 1

abbrev pub AreRefused : Made → RevisionId → ReqRef → List CapRef → Type 0
AreRefused D m q cs = (c : CapRef) → In c cs → IsRefused D m q c

-- the requirement is needed, and has no candidate, or may have several wires, all of which are refused
pub record CannotBeMet (P : Problem) (D : Made) (m : RevisionId) (q : ReqRef) : Type 0 where
  pub needed : IsNeeded P.world.known q
  pub no_wire : (candidates P q ≡ []) ⊎ IsTrue (is_multiple P.world.known q) × AreRefused D m q (candidates P q)

-- the place of a requirement
abbrev pub place : RevisionId → ℕ → ReqRef
place owner index = record { owner = owner; index = index }

-- what this owner requires is in the payload of m
abbrev pub IsOwner : Problem → Made → RevisionId → RevisionId → Type 0
IsOwner P D m o = (o ≡ m) ⊎ In o (fragments_of P D m)

-- a requirement of this owner cannot be met
abbrev pub OwnUnmet : Problem → Made → RevisionId → RevisionId → Type 0
OwnUnmet P D m o = (i : ℕ) × (i < requirement_count P.world.known o) × CannotBeMet P D m (place o i)

-- a requirement of the payload cannot be met
abbrev pub IsUnmet : Problem → Made → RevisionId → Type 0
IsUnmet P D m = (q : ReqRef) × In q (payload P D m) × CannotBeMet P D m q

-- ---- all reasons that a member alone gives

-- r has two providers of one package
pub record TwoProviders (K : List Known) (W : List Wiring) (r : RevisionId) : Type 0 where
  pub name : List ℕ
  pub one : RevisionId
  pub other : RevisionId
  pub one_wire : PackageWire K W r name one
  pub other_wire : PackageWire K W r name other
  pub differ : one ≢ other

-- two revisions have one symbolic name
abbrev pub SameName : List Known → RevisionId → RevisionId → Type 0
SameName K e f = symbolic_name K e ≡ symbolic_name K f

-- a requirement of the payload of m cannot be met, or two of its fragments have one symbolic name
abbrev pub IsAmiss : Problem → Made → RevisionId → Type 0
IsAmiss P D m = IsUnmet P D m ⊎ Two (SameName P.world.known) (fragments_of P D m)

-- what makes a word hopeless of the member m alone
pub data IsStuck (P : Problem) (D : Made) (m : RevisionId) : Type 0 where
  amiss : IsAmiss P D m → IsStuck P D m
  two_providers : TwoProviders P.world.known (partial P D) m → IsStuck P D m

-- ---- after one decision more

-- the wire is one of r, which has another provider of the package that the wire is for
pub record OtherProvider (K : List Known) (W : List Wiring) (r : RevisionId) (w : Wired) : Type 0 where
  pub name : List ℕ
  pub other : RevisionId
  pub holder : w.revision ≡ r
  pub export : IsExport K w.wire.capability.owner w.wire.capability.index name
  pub other_wire : PackageWire K W r name other
  pub differ : w.wire.capability.provider ≢ other

-- g is another fragment of m than f
abbrev pub IsOtherFragment : Problem → Made → RevisionId → RevisionId → RevisionId → Type 0
IsOtherFragment P D m f g = In g (fragments_of P D m) × (g ≢ f)

-- another fragment of m has the symbolic name of f
abbrev pub HasNamesake : Problem → Made → RevisionId → RevisionId → Type 0
HasNamesake P D m f = (g : RevisionId) × IsOtherFragment P D m f g × SameName P.world.known f g

-- a requirement of the fragment f has no candidate, or another fragment of m has its symbolic name
abbrev pub IsFragmentAmiss : Problem → Made → RevisionId → RevisionId → Type 0
IsFragmentAmiss P D m f = LacksCandidate P f ⊎ HasNamesake P D m f

-- the decision with this value, of which D tells already, attached to m a fragment that does not fit, or refused m a wire of a
-- requirement that can get none any more
abbrev pub IsAmissBy : Problem → Made → Decision → ℕ → RevisionId → Type 0
IsAmissBy P D (attaching h f) v m = (h ≡ m) × (v ≡ 0) × In f (fragments_of P D m) × IsFragmentAmiss P D m f
IsAmissBy P D (choose h q) v m = ⊥
IsAmissBy P D (pick h q c) v m = (h ≡ m) × (v ≡ 1) × In q (payload P D m) × CannotBeMet P D m q

-- a requirement of m itself has no candidate, or the last decision made it amiss; where there is none, it is amiss
abbrev pub IsNewlyAmiss : Problem → Made → RevisionId → Type 0
IsNewlyAmiss P [] m = IsAmiss P [] m
IsNewlyAmiss P (t ∷ D) m = LacksCandidate P m ⊎ IsAmissBy P (t ∷ D) t.0 t.1 m

-- m is stuck by the last decision; two providers count only of the package that a wire of m, which is given, is for
pub data IsStuckBy (P : Problem) (D : Made) (m : RevisionId) (wired : Option Wired) : Type 0 where
  by_itself : IsNewlyAmiss P D m → IsStuckBy P D m wired
  by_wire : (w : Wired) → wired ≡ Some w → OtherProvider P.world.known (partial P D) m w → IsStuckBy P D m wired
