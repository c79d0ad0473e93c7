-- What the resolver's proof needs of words.
use Rattle.std.specs.Prelude.{◌≡◌, ℕ, ◌↔◌, List, ◌++◌}
use Rattle.osgi_base.specs.declared.ids.BundleId.{BundleId}
use Rattle.osgi_base.specs.declared.ids.RevisionId.{RevisionId}
use Rattle.osgi_world.specs.Consistency.{Extends}
use Rattle.osgi_world.specs.DueDecisions.{members}
use Rattle.osgi_world.specs.Candidates.{AreOrdered}
use Rattle.osgi_world.specs.Effort.{IsEffort, IsEffortAbove, IsEffortWithin, IsFirst, IsResolveOf}
use Rattle.osgi_world.specs.Hopeless.{IsHopeless, IsSettled}
use Rattle.osgi_world.specs.Lists.{In}
use Rattle.osgi_world.specs.Sources.{Sources}
use Rattle.osgi_world.specs.Wirings.{InForce, OnOffer}
use Rattle.osgi_world.specs.ChoiceWords.{IsComplete, IsGood, IsWord, made_by, partial_of}
use Rattle.osgi_world.specs.declared.problem.Problem.{Problem}
use Rattle.osgi_world.specs.declared.wiring.CapRef.{CapRef}
use Rattle.osgi_world.specs.declared.wiring.Wiring.{Wiring}
use Rattle.osgi_world.specs.declared.world.World.{World}
use Rattle.osgi_resolver_theory.specs.Cuts.{IsCut, Joins}

-- what is settled stays settled in every extension of a word, with the same offer and the same sources
pub record StaysSettled (P : Problem) (w u : List ℕ) (r : RevisionId) : Type 0 where
  pub settled : IsSettled P (made_by P u) r
  pub sources : (p : List ℕ) (x : RevisionId) → Sources P.world.known (partial_of P w) r p x ↔ Sources P.world.known (partial_of P u) r p x
  pub offer : (c : CapRef) → c.provider ≡ r → OnOffer P.world.known (partial_of P w) c ↔ OnOffer P.world.known (partial_of P u) c

abbrev pub SettledStays : Problem → Type 0
SettledStays P = (w more : List ℕ) (r : RevisionId) → IsWord P (w ++ more) → IsSettled P (made_by P w) r → StaysSettled P w (w ++ more) r

-- extensions of a hopeless word are hopeless
abbrev pub HopelessStays : Problem → Type 0
HopelessStays P = (w more : List ℕ) → IsWord P (w ++ more) → IsHopeless P w → IsHopeless P (w ++ more)

-- in the wirings of a complete word every revision in force is settled
abbrev pub CompleteSettles : Problem → Type 0
CompleteSettles P = (w : List ℕ) (r : RevisionId) → IsWord P w → IsComplete P w → InForce (partial_of P w) r → IsSettled P (made_by P w) r

-- so it is not hopeless exactly where its wirings extend the present ones
abbrev pub CompleteExtends : Problem → Type 0
CompleteExtends P = (w : List ℕ) → IsWord P w → IsComplete P w → (¬ IsHopeless P w) ↔ Extends P.world.known P.world.wirings (partial_of P w) P.root

-- wirings that extend the present ones, cut down to these and to what is reached from the root, are those of a good word, up to
-- the order of their lists
pub record IsWordOf (P : Problem) (V : List Wiring) (w : List ℕ) : Type 0 where
  pub good : IsGood P w
  pub cut : IsCut (partial_of P w) V
  pub reached : (m : RevisionId) → In m (members P (made_by P w)) ↔ Joins P V m

abbrev pub ExtensionsAreWords : Problem → Type 0
ExtensionsAreWords P = (V : List Wiring) → Extends P.world.known P.world.wirings V P.root → (w : List ℕ) × IsWordOf P V w

-- the first good word, or none
pub data FirstOrNone (P : Problem) : Type 0 where
  has_first : (w : List ℕ) → IsFirst P w → FirstOrNone P
  has_none : ((w : List ℕ) → ¬ IsGood P w) → FirstOrNone P

-- there is one of the two, and the effort is a number
abbrev pub HasOutcome : Problem → Type 0
HasOutcome P = FirstOrNone P × ((n : ℕ) × IsEffort P n)

-- two problems of resolving one bundle of one world come to the same: one effort, one first word, and one list of wirings
pub record ComeToTheSame (P Q : Problem) : Type 0 where
  pub within : (n : ℕ) → IsEffortWithin P n → IsEffortWithin Q n
  pub above : (n : ℕ) → IsEffortAbove P n → IsEffortAbove Q n
  pub first : (w : List ℕ) → IsFirst P w → IsFirst Q w
  pub wirings : (u w : List ℕ) → IsFirst P u → IsFirst Q w → partial_of P u ≡ partial_of Q w

abbrev pub ResolvesAgree : World → Type 0
ResolvesAgree world = (b : BundleId) (P Q : Problem) → IsResolveOf world b P → IsResolveOf world b Q → ComeToTheSame P Q

-- the wirings that a resolve comes to stand in order
abbrev pub StandsInOrder : World → Type 0
StandsInOrder world = (b : BundleId) (P : Problem) (w : List ℕ) → IsResolveOf world b P → IsFirst P w → AreOrdered world.known (partial_of P w)
