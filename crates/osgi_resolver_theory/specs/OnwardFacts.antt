-- What an incremental test for hopeless words has to look at, where the word before was not hopeless.
use Rattle.std.specs.Prelude.{◌≡◌, ℕ, ◌<◌, ◌⊎◌, ◌↔◌, List, ◌∷◌, ◌++◌, [], Some}
use Rattle.osgi_base.specs.declared.ids.RevisionId.{RevisionId}
use Rattle.osgi_world.specs.Candidates.{candidates}
use Rattle.osgi_world.specs.ChoiceWords.{IsWord, made_by}
use Rattle.osgi_world.specs.Decisions.{Decision, adds, arity, host, wired}
use Rattle.osgi_world.specs.DueDecisions.{members, next_decision}
use Rattle.osgi_world.specs.Hopeless.{IsDecided, IsHopeless, IsSettled}
use Rattle.osgi_world.specs.Lists.{In}
use Rattle.osgi_world.specs.Lookups.{requirement_count, IsNeeded}
use Rattle.osgi_world.specs.Partial.{partial}
use Rattle.osgi_world.specs.Sources.{Clash, Implied}
use Rattle.osgi_world.specs.Wirings.{HasWire, OnOffer}
use Rattle.osgi_world.specs.declared.problem.Problem.{Problem}
use Rattle.osgi_world.specs.declared.wiring.ReqRef.{ReqRef}
use Rattle.osgi_world.specs.declared.wiring.Wire.{Wire}
use Rattle.osgi_resolver_theory.specs.Reasons.{IsQuiet, IsTouched, Joined, LeadsTo, NewAtOnce, Newly, SettlesNow, SettlesWithHost, Stuck}

-- d is the next decision after the word w, and v one of its values
pub record IsOnward (P : Problem) (w : List ℕ) (d : Decision) (v : ℕ) : Type 0 where
  pub word : IsWord P w
  pub next : next_decision P (made_by P w) ≡ Some d
  pub range : v < arity P d

-- with the value, a word that was not hopeless is so exactly for a reason that the decision gives
abbrev pub OnlyNewReasons : Problem → Type 0
OnlyNewReasons P = (w : List ℕ) (d : Decision) (v : ℕ) → IsOnward P w d v → ¬ IsHopeless P w → IsHopeless P (w ++ v ∷ []) ↔ Newly P (made_by P w) d v

-- then a member that is stuck is one that the decision touches
abbrev pub OnlyTouchedAreStuck : Problem → Type 0
OnlyTouchedAreStuck P = (w : List ℕ) (d : Decision) (v : ℕ) (m : RevisionId) → IsOnward P w d v → ¬ IsHopeless P w → In m (members P ((d, v) ∷ made_by P w)) → Stuck P ((d, v) ∷ made_by P w) m →
    IsTouched P (made_by P w) d v m

-- what settles has joined, or is the host or reaches it, and with it the host is decided now and was not before
abbrev pub OnlyTheseSettle : Problem → Type 0
OnlyTheseSettle P = (w : List ℕ) (d : Decision) (v : ℕ) (r : RevisionId) → IsOnward P w d v → SettlesNow P (made_by P w) d v r →
    Joined P (made_by P w) d v r ⊎ SettlesWithHost P (made_by P w) d v r

-- where the host is not decided yet, or was decided before, only what the decision touches, newly uses or adds is a reason: there
-- is no new clash that comes from settled revisions alone, and no earlier wire counts
abbrev pub QuietWhileUndecided : Problem → Type 0
QuietWhileUndecided P = (w : List ℕ) (d : Decision) (v : ℕ) → IsOnward P w d v → ¬ IsHopeless P w → IsQuiet P (made_by P w) d v → IsHopeless P (w ++ v ∷ []) ↔ NewAtOnce P (made_by P w) d v

-- and otherwise a new clash that comes from settled revisions alone is at a revision that leads to the host through decided ones
abbrev pub ClashesLeadToHost : Problem → Type 0
ClashesLeadToHost P = (w : List ℕ) (d : Decision) (v : ℕ) (m e : RevisionId) (u : List ℕ) → IsOnward P w d v → ¬ IsHopeless P w →
    Implied P.world.known (partial P ((d, v) ∷ made_by P w)) (IsSettled P ((d, v) ∷ made_by P w)) m e u → Clash P.world.known (partial P ((d, v) ∷ made_by P w)) m e u →
    (¬ IsDecided P (made_by P w) (host d)) × IsDecided P ((d, v) ∷ made_by P w) (host d)
    × LeadsTo P ((d, v) ∷ made_by P w) m (host d)

-- a wire to a settled provider that does not have the capability on offer is one that the decision adds, or its provider settles
-- with the host
abbrev pub OffersEndWithHost : Problem → Type 0
OffersEndWithHost P = (w : List ℕ) (d : Decision) (v : ℕ) (m : RevisionId) (x : Wire) → IsOnward P w d v → ¬ IsHopeless P w →
    In m (members P ((d, v) ∷ made_by P w)) → HasWire (partial P ((d, v) ∷ made_by P w)) m x → IsSettled P ((d, v) ∷ made_by P w) x.capability.provider →
    ¬ OnOffer P.world.known (partial P ((d, v) ∷ made_by P w)) x.capability →
    In (wired m x) (adds P d v) ⊎ SettlesNow P (made_by P w) d v x.capability.provider × SettlesWithHost P (made_by P w) d v x.capability.provider

-- what joins is stuck only by a requirement of its own
abbrev pub JoinedLack : Problem → Type 0
JoinedLack P = (w : List ℕ) (d : Decision) (v : ℕ) (m : RevisionId) → IsOnward P w d v → Joined P (made_by P w) d v m → Stuck P ((d, v) ∷ made_by P w) m →
    (q : ReqRef) × (q.owner ≡ m) × (q.index < requirement_count P.world.known m) × IsNeeded P.world.known q × (candidates P q ≡ [])
