-- Lists of bundles in an order, and the state change of the lowest of several bundles, are determined.
use Rattle.std.proofs.Common.{◌≡◌, inl, inr, ◌≤◌, List, ◌∙◌, subst, arith}
use Rattle.std.specs.Prelude.{Bool}
use Rattle.std.proofs.lemmas.List.Elements.{All-contains}
use Rattle.osgi_base.specs.declared.ids.BundleId.{BundleId}
use Rattle.osgi_legal.proofs.Verdicts.{IsOne}
use Rattle.osgi_ops.specs.Bundles.{State}
use Rattle.osgi_ops.specs.Closures.{IsClosure, IsMember, Rises}
use Rattle.osgi_ops.specs.Conditions.{AreThose, Falls, IsStopOrder, lowest_change, state_change}
use Rattle.osgi_ops.specs.Moments.{Moment}
use Rattle.osgi_ops.specs.laws.Members.{AreAmong, ordered-once}
use Rattle.osgi_verdicts.proofs.Conditions.{change-one}
use Rattle.osgi_world.specs.declared.world.World.{World}

those-among : (Is : BundleId → Type 0) (Before : BundleId → BundleId → Type 0) (xs ys : List BundleId) → AreThose Is Before xs → AreThose Is Before ys → AreAmong xs ys
those-among Is Before xs ys a b = λ x i. b.every x (All-contains Is xs x a.only i)

those-one : (Is : BundleId → Type 0) (Before : BundleId → BundleId → Type 0) → ((b : BundleId) → Before b b → ⊥) → ((b c d : BundleId) → Before b c → Before c d → Before b d) → IsOne (AreThose Is Before)
those-one Is Before not_itself onward xs ys a b =
    ordered-once Before not_itself onward xs ys a.in_order b.in_order (those-among Is Before xs ys a b) (those-among Is Before ys xs b a)

pub rising-one : (Is : BundleId → Type 0) → IsOne (AreThose Is Rises)
rising-one Is = those-one Is Rises (λ b less. omega (arith, less)) (λ b c d less more. omega (arith, less, more))

pub falling-one : (Is : BundleId → Type 0) → IsOne (AreThose Is Falls)
falling-one Is = those-one Is Falls (λ b less. omega (arith, less)) (λ b c d less more. omega (arith, less, more))

not-after-itself : (now : Moment) (b : BundleId) → IsStopOrder now b b → ⊥
not-after-itself now b (inl less) = omega (arith, less)
not-after-itself now b (inr (same, less)) = omega (arith, less)

stops-on : (now : Moment) (b c d : BundleId) → IsStopOrder now b c → IsStopOrder now c d → IsStopOrder now b d
stops-on now b c d (inl one) (inl two) = inl (omega (arith, one, two))
stops-on now b c d (inl one) (inr (same, two)) = inl (omega (arith, one, same))
stops-on now b c d (inr (same, one)) (inl two) = inl (omega (arith, same, two))
stops-on now b c d (inr (same, one)) (inr (also, two)) = inr (same ∙ also, omega (arith, one, two))

pub stopped-one : (now : Moment) (Is : BundleId → Type 0) → IsOne (AreThose Is (IsStopOrder now))
stopped-one now Is = those-one Is (IsStopOrder now) (not-after-itself now) (stops-on now)

closed-among : (world : World) (Asked : BundleId → Type 0) (xs ys : List BundleId) → IsClosure world Asked xs → IsClosure world Asked ys → AreAmong xs ys
closed-among world Asked xs ys a b = λ x i. b.every x (All-contains (IsMember world Asked) xs x a.only i)

pub closure-one : (world : World) (Asked : BundleId → Type 0) → IsOne (IsClosure world Asked)
closure-one world Asked xs ys a b =
    ordered-once Rises (λ b less. omega (arith, less)) (λ b c d less more. omega (arith, less, more)) xs ys a.rising b.rising (closed-among world Asked xs ys a b) (closed-among world Asked ys xs b a)

-- ---- the lowest

pub lowest-one : (is_such : State → Bool) (now : Moment) (Among : BundleId → Type 0) → IsOne (lowest_change is_such now Among)
lowest-one is_such now Among f g a b =
    let low : a.0.0 ≤ b.0.0 = a.3 b.0 b.1 b.2.0 in
    let high : b.0.0 ≤ a.0.0 = b.3 a.0 a.1 a.2.0 in
    let number : b.0.0 ≡ a.0.0 = omega (arith, low, high) in
    let same : b.0 ≡ a.0 = λ i. record { 0 = number i } in
    change-one is_such now a.0 f g a.2 (subst (λ x. state_change is_such now x g) same b.2)
