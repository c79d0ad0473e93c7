-- A word is hopeless exactly where a member makes it so.
use Rattle.std.proofs.Common.{◌≡◌, ℕ, ◌⊎◌, ◌↔◌, inl, inr, List, map, sym, subst}
use Rattle.osgi_resolver_theory.specs.Checks as check
use Rattle.osgi_base.specs.declared.ids.RevisionId.{RevisionId}
use Rattle.osgi_world.specs.Candidates.{IsProblem}
use Rattle.osgi_world.specs.Consistency.{AreRivals}
use Rattle.osgi_world.specs.Decisions.{Made}
use Rattle.osgi_world.specs.DueDecisions.{members}
use Rattle.osgi_world.specs.Partial.{partial, wiring}
use Rattle.osgi_world.specs.Hopeless.{Hopeless, IsSettled, all_refused, clashes, no_candidate, not_offered, two_providers, two_singletons, two_versions}
use Rattle.osgi_world.specs.Lists.{Two}
use Rattle.osgi_world.specs.Lookups.{symbolic_name}
use Rattle.osgi_world.specs.Sources.{Clash, Implied}
use Rattle.osgi_world.specs.Wirings.{InForce, InUse}
use Rattle.osgi_world.specs.declared.problem.Problem.{Problem}
use Rattle.osgi_world.specs.declared.wiring.Wiring.{Wiring}
use Rattle.osgi_resolver_theory.proofs.Agree.{implied-same, implied-starts, package-part}
use Rattle.osgi_resolver_theory.proofs.Complete.{part-from, part-to, wire-was}
use Rattle.osgi_resolver_theory.proofs.Inside.{clash-agree}
use Rattle.osgi_resolver_theory.proofs.Lists.{in-append_cases, in-append_right, in-map, map-in}
use Rattle.osgi_resolver_theory.proofs.Restrict.{wire-holder}
use Rattle.osgi_resolver_theory.proofs.States.{in-fragments}
use Rattle.osgi_resolver_theory.proofs.Views.{attached-cases, attached-member, in_force-cases, in_force-member}
use Rattle.osgi_resolver_theory.specs.Checks.{HopelessMember, IsNew}
use Rattle.osgi_resolver_theory.specs.Cuts.{IsInside}

old-inside : (P : Problem) → IsProblem P → (D : Made) → IsInside (partial P D) (InForce P.world.wirings)
old-inside P L D r w i h = L.consistent.coherent.rules.provided r w (wire-was P L D r w i h)

-- revisions that were in force clash with nothing, whatever is decided
pub old-no_clash : (P : Problem) → IsProblem P → (D : Made) (A : RevisionId → Type 0) (r e : RevisionId) (u : List ℕ) → InForce P.world.wirings r → Implied P.world.known (partial P D) A r e u → ¬ Clash P.world.known (partial P D) r e u
old-no_clash P L D A r e u i pair c =
    let moved = clash-agree (InForce P.world.wirings) (λ x j. part-from P L D x j) (λ x j. part-to P D x) (old-inside P L D) (λ x w j h. L.consistent.coherent.rules.provided x w h) i pair c in
    let everywhere = implied-same {B = λ x. Unit {0}} (λ x s. tt) (λ x p y s h. h) (λ x p v s h. h) moved.0 in
    L.consistent.coherent.uses r e u i everywhere.1 moved.1

pub old-new : (P : Problem) → IsProblem P → (D : Made) (r : RevisionId) → InUse (partial P D) r → InUse P.world.wirings r ⊎ IsNew P D r
old-new P L D r (inl i) = elim (in_force-cases P D r i) [ inl o ↦ inl (inl o) | inr m ↦ inr (inl m) ]
old-new P L D r (inr h) = elim (attached-cases P D h.0 r h.1) [ inl o ↦ inl (inr (h.0, o)) | inr m ↦ inr (inr (h.0, m.0, in-fragments P D h.0 r m.1 m.2)) ]

rivals-sym : (P : Problem) (r s : RevisionId) → AreRivals P.world.known r s → AreRivals P.world.known s r
rivals-sym P r s d = record { different = λ e. d.different (sym e); name = sym d.name; current = (d.current.1, d.current.0); singletons = (d.singletons.1, d.singletons.0) }

rivals-new : (P : Problem) → IsProblem P → (D : Made) (r s : RevisionId) → InUse (partial P D) r → InUse (partial P D) s → AreRivals P.world.known r s → InUse P.world.wirings r ⊎ IsNew P D r → InUse P.world.wirings s ⊎ IsNew P D s → HopelessMember P D
rivals-new P L D r s a b d (inr n) t = check.two_singletons r s n b d
rivals-new P L D r s a b d (inl o) (inr n) = check.two_singletons s r n a (rivals-sym P r s d)
rivals-new P L D r s a b d (inl o) (inl u) = absurd (L.consistent.coherent.rules.singletons r s o u d)

pub hopeless-member : (P : Problem) → IsProblem P → (D : Made) → Hopeless P D → HopelessMember P D
hopeless-member P L D (no_candidate m q i j o c) = check.no_candidate m q i j o c
hopeless-member P L D (all_refused m q i j o k all) = check.all_refused m q i j o k all
hopeless-member P L D (two_providers r x y p a b d) = elim (in_force-cases P D r (wire-holder a.has)) [
  | inl o ↦ let part = part-from P L D r o in absurd (d (L.consistent.coherent.rules.one_provider r p x y (package-part part a) (package-part part b)))
  | inr m ↦ check.two_providers r x y p m a b d
]
hopeless-member P L D (two_versions g i t) = elim (in-append_cases P.world.wirings (map (wiring P D) (members P D)) g i) [
  | inl o ↦ absurd (L.consistent.coherent.rules.one_version g o t)
  | inr j ↦ let m = map-in (wiring P D) (members P D) g j in check.two_versions m.0 m.1 (subst (λ (g : Wiring). Two (λ e f. symbolic_name P.world.known e ≡ symbolic_name P.world.known f) g.fragments) m.2 t)
]
hopeless-member P L D (two_singletons r s a b d) = rivals-new P L D r s a b d (old-new P L D r a) (old-new P L D s b)
hopeless-member P L D (not_offered m w i h s n) = check.not_offered m w i h s n
hopeless-member P L D (clashes r e u i c) = elim (implied-starts i).own [
  | inl o ↦ absurd (old-no_clash P L D (IsSettled P D) r e u o i c)
  | inr m ↦ check.clashes r e u m.0 i c
]

pub new-present : (P : Problem) (D : Made) (r : RevisionId) → IsNew P D r → InUse (partial P D) r
new-present P D r (inl m) = inl (in_force-member P D r m)
new-present P D r (inr h) = inr (h.0, attached-member P D h.0 r h.1 h.2)

pub member-hopeless : (P : Problem) (D : Made) → HopelessMember P D → Hopeless P D
member-hopeless P D (check.no_candidate m q i j o c) = no_candidate m q i j o c
member-hopeless P D (check.all_refused m q i j o k all) = all_refused m q i j o k all
member-hopeless P D (check.two_providers m x y p i a b d) = two_providers m x y p a b d
member-hopeless P D (check.two_versions m i t) = two_versions (wiring P D m) (in-append_right P.world.wirings (map (wiring P D) (members P D)) (wiring P D m) (in-map (wiring P D) (members P D) m i)) t
member-hopeless P D (check.two_singletons r s a b d) = two_singletons r s (new-present P D r a) b d
member-hopeless P D (check.not_offered m w i h s n) = not_offered m w i h s n
member-hopeless P D (check.clashes m e u i p c) = clashes m e u p c

-- so a test needs to look at members alone
pub hopeless-iff_member : (P : Problem) → IsProblem P → (D : Made) → Hopeless P D ↔ HopelessMember P D
hopeless-iff_member P L D = (hopeless-member P L D, member-hopeless P D)
