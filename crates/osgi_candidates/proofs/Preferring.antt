-- The greater of two ranked capabilities is preferred.
use Rattle.std.proofs.Common.{◌≡◌, ◌↔◌, ◌⊎◌, inl, inr, ℕ, ◌<◌, refl, sym, ◌∙◌, ap, subst, arith}
use Rattle.std.specs.Prelude.{Bool, true, false, IsTrue}
use Rattle.std.specs.Ordering.{MatchOrdering, bool_cmp, is_gt, nat_cmp, ordering_reverse, ordering_then}
use Rattle.std.specs.declared.cmp.Ordering.{Ordering}
use Rattle.std.specs.declared.cmp.Ordering.TheVariants.{Less, Equal, Greater}
use Rattle.std.specs.declared.cmp.Reverse.{Reverse}
use Rattle.std.proofs.lemmas.Cmp.{ranked}
use Rattle.std.proofs.lemmas.Map.Lookups.{exact_unsigned}
use Rattle.osgi_base.specs.declared.ids.RevisionId.{RevisionId}
use Rattle.osgi_candidates.specs.computed.Fitting.{bare}
use Rattle.osgi_candidates.specs.computed.Ranking.{IsRankOf, back_cmp, capability_of, ranked_cmp}
use Rattle.osgi_candidates.specs.declared.ranked.Ranked.{Ranked}
use Rattle.osgi_version.specs.Comparing.{version_cmp, version_total}
use Rattle.osgi_version.specs.VersionValues.{order, parts}
use Rattle.osgi_world.specs.Candidates.{IsPreferred, is_higher, preference_version}
use Rattle.osgi_world.specs.Lookups.{bundle_of, is_current}
use Rattle.osgi_world.specs.Wirings.{InForce}
use Rattle.osgi_world.specs.declared.wiring.CapRef.{CapRef}
use Rattle.osgi_world.specs.declared.world.World.{World}

pub then_less : (o p : Ordering) → ordering_then o p ≡ Less → (o ≡ Less) ⊎ (o ≡ Equal) × (p ≡ Less)
then_less Less p e = inl refl
then_less Equal p e = inr (refl, e)
then_less Greater p e = absurd (cc e)

pub then_tie : (o p : Ordering) → ordering_then o p ≡ Equal → (o ≡ Equal) × (p ≡ Equal)
then_tie Less p e = absurd (cc e)
then_tie Equal p e = (refl, e)
then_tie Greater p e = absurd (cc e)

pub nat-less : (a b : ℕ) → nat_cmp a b ≡ Less → a < b
nat-less a b e = subst (λ o. MatchOrdering o (a < b) (a ≡ b) (b < a)) e (ranked a b (nat_cmp a b) refl)

bool-less : (a b : Bool) → bool_cmp a b ≡ Less → IsTrue b × ¬ IsTrue a
bool-less false false e = absurd (cc e)
bool-less false true e = (refl, λ t. (let f : false ≡ true = t in cc f))
bool-less true false e = absurd (cc e)
bool-less true true e = absurd (cc e)

bool-tie : (a b : Bool) → bool_cmp a b ≡ Equal → a ≡ b
bool-tie false false e = refl
bool-tie false true e = absurd (cc e)
bool-tie true false e = absurd (cc e)
bool-tie true true e = refl

greater : (o : Ordering) → o ≡ Less → IsTrue (is_gt (ordering_reverse o))
greater o e = subst (λ p. IsTrue (is_gt (ordering_reverse p))) (sym e) refl

not-greater : (o : Ordering) → o ≡ Equal → ¬ IsTrue (is_gt o)
not-greater o e t = let u : IsTrue (is_gt Equal) = subst (λ p. IsTrue (is_gt p)) e t in (let f : false ≡ true = u in cc f)

module _ (w : World) (current : (r s : RevisionId) → IsTrue (is_current w.known r) → IsTrue (is_current w.known s) → bundle_of w.known r ≡ bundle_of w.known s → r ≡ s) (r s : Ranked) (rank_r : IsRankOf w (capability_of r) r) (rank_s : IsRankOf w (capability_of s) s)
    (stands_r : IsTrue (is_current w.known (capability_of r).provider)) (stands_s : IsTrue (is_current w.known (capability_of s).provider)) where
  abbrev c : CapRef
  c = capability_of s

  abbrev d : CapRef
  d = capability_of r

  same-force : r.in_force ≡ s.in_force → InForce w.wirings c.provider ↔ InForce w.wirings d.provider
  same-force e = (
    λ f. rank_r.in_force.0 (subst IsTrue (sym e) (rank_s.in_force.1 f)),
    λ f. rank_s.in_force.0 (subst IsTrue e (rank_r.in_force.1 f)),
  )

  higher : version_cmp r.version s.version ≡ Less → IsTrue (is_higher w.known c d)
  higher e =
      let back : version_cmp s.version r.version ≡ ordering_reverse (version_cmp r.version s.version) = version_total.antisymm s.version r.version in
      let gt : IsTrue (is_gt (order (parts s.version) (parts r.version))) = subst (λ o. IsTrue (is_gt o)) (sym back) (greater (version_cmp r.version s.version) e) in
      subst (λ v. IsTrue (is_gt (order (preference_version w.known c) v))) rank_r.version (subst (λ v. IsTrue (is_gt (order v (parts r.version)))) rank_s.version gt)

  no-higher : version_cmp r.version s.version ≡ Equal → ¬ IsTrue (is_higher w.known d c)
  no-higher e t =
      let gt : IsTrue (is_gt (order (parts r.version) (preference_version w.known c))) = subst (λ v. IsTrue (is_gt (order v (preference_version w.known c)))) (sym rank_r.version) t in
      let both : IsTrue (is_gt (order (parts r.version) (parts s.version))) = subst (λ v. IsTrue (is_gt (order (parts r.version) v))) (sym rank_s.version) gt in
      not-greater (version_cmp r.version s.version) e both

  lower-bundle : back_cmp r.bundle s.bundle ≡ Less → bundle_of w.known c.provider < bundle_of w.known d.provider
  lower-bundle e = subst (λ n. n < bundle_of w.known d.provider) rank_s.bundle (subst (λ n. s.bundle.0 < n) rank_r.bundle (nat-less s.bundle.0 r.bundle.0 e))

  back-tie : (x y : Reverse ℕ) → back_cmp x y ≡ Equal → y.0 ≡ x.0
  back-tie x y e = exact_unsigned y.0 x.0 e

  same-provider : back_cmp r.bundle s.bundle ≡ Equal → c.provider ≡ d.provider
  same-provider e = current c.provider d.provider stands_s stands_r (sym rank_s.bundle ∙ (back-tie r.bundle s.bundle e ∙ rank_r.bundle))

  by-place : c.provider ≡ d.provider → ordering_then (back_cmp r.provider s.provider) (ordering_then (back_cmp r.owner s.owner) (back_cmp r.index s.index)) ≡ Less → (c.owner.0 < d.owner.0) ⊎ (c.owner ≡ d.owner) × (c.index < d.index)
  by-place same e = elim (then_less (back_cmp r.provider s.provider) (ordering_then (back_cmp r.owner s.owner) (back_cmp r.index s.index)) e) [
    | inl less ↦ (let l : c.provider.0 < d.provider.0 = nat-less s.provider.0 r.provider.0 less in let f = ap (λ (x : RevisionId). x.0) same in absurd (omega (arith, l, f)))
    | inr more ↦ elim (then_less (back_cmp r.owner s.owner) (back_cmp r.index s.index) more.1) [
      | inl less ↦ inl (nat-less s.owner.0 r.owner.0 less)
      | inr last ↦ inr (ap (λ n. record { 0 = n }) (back-tie r.owner s.owner last.0), nat-less s.index.0 r.index.0 last.1)
    ]
  ]

  -- the greater one is preferred
  pub preferred_is : ranked_cmp r s ≡ Less → IsPreferred (bare w) c d
  preferred_is e = elim (then_less (bool_cmp r.in_force s.in_force) _ e) [
    | inl force ↦ (let p = bool-less r.in_force s.in_force force in inl (rank_s.in_force.0 p.0, λ f. p.1 (rank_r.in_force.1 f)))
    | inr rest ↦ inr (
      same-force (bool-tie r.in_force s.in_force rest.0),
      elim (then_less (version_cmp r.version s.version) _ rest.1) [
        | inl less ↦ inl (higher less)
        | inr more ↦ inr (
          no-higher more.0,
          elim (then_less (back_cmp r.bundle s.bundle) _ more.1) [
            | inl less ↦ inl (lower-bundle less)
            | inr tied ↦ (let same = same-provider tied.0 in inr (same, by-place same tied.1))
          ],
        )
      ],
    )
  ]

-- those that tie are one capability
pub tied_same : (r s : Ranked) → ranked_cmp r s ≡ Equal → capability_of s ≡ capability_of r
tied_same r s e =
    let a = then_tie (bool_cmp r.in_force s.in_force) _ e in
    let b = then_tie (version_cmp r.version s.version) _ a.1 in
    let x = then_tie (back_cmp r.bundle s.bundle) _ b.1 in
    let y = then_tie (back_cmp r.provider s.provider) _ x.1 in
    let z = then_tie (back_cmp r.owner s.owner) (back_cmp r.index s.index) y.1 in
    let provider = exact_unsigned s.provider.0 r.provider.0 y.0 in
    let owner = exact_unsigned s.owner.0 r.owner.0 z.0 in
    let index = exact_unsigned s.index.0 r.index.0 z.1 in
    λ i. record { provider = record { 0 = provider i }; owner = record { 0 = owner i }; index = index i }
