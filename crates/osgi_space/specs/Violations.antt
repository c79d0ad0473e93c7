-- Violated uses clauses among some revisions, and the first of them.
use Rattle.std.specs.Prelude.{◌≡◌, ℕ, ◌<◌, ◌⊎◌, IsTrue, List, Option, None, Some}
use Rattle.std.specs.Cmp.Lexicographic.{slice_cmp}
use Rattle.std.specs.Ordering.{is_lt, nat_cmp}
use Rattle.osgi_base.specs.declared.ids.RevisionId.{RevisionId}
use Rattle.osgi_world.specs.Sources.{Implied, Clash}
use Rattle.osgi_world.specs.declared.wiring.Wiring.{Wiring}
use Rattle.osgi_world.specs.declared.world.Known.{Known}
use Rattle.osgi_space.specs.declared.violation.Violation.{Violation}

-- an implied constraint of the revision, which comes from revisions of A alone: the revision and the one that sees the package each
-- have a source of the package that the other lacks
pub record IsViolated (K : List Known) (W : List Wiring) (A : RevisionId → Type 0) (v : Violation) : Type 0 where
  pub implied : Implied K W A v.revision v.seen_by v.package
  pub clash : Clash K W v.revision v.seen_by v.package

-- the first text is before the second, byte by byte
abbrev pub IsBelow : List ℕ → List ℕ → Type 0
IsBelow a b = IsTrue (is_lt (slice_cmp nat_cmp a b))

-- by revision, then by package, then by the revision that sees it
abbrev pub IsEarlier : Violation → Violation → Type 0
IsEarlier v w = (v.revision.0 < w.revision.0) ⊎ (v.revision ≡ w.revision) × (IsBelow v.package w.package ⊎ (v.package ≡ w.package) × (v.seen_by.0 < w.seen_by.0))

-- the first, or none where there is none
abbrev pub IsFirstViolation : List Known → List Wiring → (RevisionId → Type 0) → Option Violation → Type 0
IsFirstViolation K W A None = (v : Violation) → ¬ IsViolated K W A v
IsFirstViolation K W A (Some first) = IsViolated K W A first × ((v : Violation) → IsViolated K W A v → ¬ IsEarlier v first)
