-- A target names no more than one bundle, and that is a live one.
use Rattle.std.proofs.Common.{◌≡◌, ◌≤◌, inl, inr, true, false, sym, ap, ◌∙◌, arith}
use Rattle.std.specs.Prelude.{ℕ, List}
use Rattle.std.specs.Ordering.{is_gt, ordering_reverse}
use Rattle.std.specs.declared.cmp.Ordering.{Ordering}
use Rattle.std.specs.declared.cmp.Ordering.TheVariants.{Equal, Greater, Less}
use Rattle.std.proofs.lemmas.List.Elements.{All-contains}
use Rattle.osgi_base.specs.declared.ids.BundleId.{BundleId}
use Rattle.osgi_ops.specs.Bundles.{Bundle, bundles}
use Rattle.osgi_ops.specs.Conditions.{IsNamed, IsPreferredTo, IsTarget, no_target}
use Rattle.osgi_ops.specs.Moments.{Moment}
use Rattle.osgi_ops.specs.declared.refusal.Refusal.{Refusal}
use Rattle.osgi_ops.specs.declared.target.Target.{Target}
use Rattle.osgi_ops.specs.declared.target.Target.TheVariants.{Id, Name}
use Rattle.osgi_resolver_theory.proofs.Laws.{order_total}
use Rattle.osgi_version.specs.VersionValues.{order, parts}
use Rattle.osgi_version.specs.Versions.{Parts}

-- ---- of two bundles of one name only one is first

one-greater : (o : Ordering) → is_gt o ≡ true → is_gt (ordering_reverse o) ≡ true → ⊥
one-greater Less a b = cc a
one-greater Equal a b = cc a
one-greater Greater a b = cc b

one-higher : (a b : Parts) → is_gt (order a b) ≡ true → is_gt (order b a) ≡ true → ⊥
one-higher a b above below = one-greater (order a b) above (sym (ap is_gt (order_total.antisymm b a)) ∙ below)

first-once : (r s : Bundle) → IsPreferredTo r s → IsPreferredTo s r → r.bundle ≡ s.bundle
first-once r s (inl above) (inl below) = absurd (one-higher (parts r.revision.version) (parts s.revision.version) above below)
first-once r s (inl above) (inr low) = absurd (let bad : true ≡ false = sym above ∙ low.0 in cc bad)
first-once r s (inr low) (inl above) = absurd (let bad : true ≡ false = sym above ∙ low.0 in cc bad)
first-once r s (inr low) (inr high) =
    let a : r.bundle.0 ≤ s.bundle.0 = low.1 in
    let b : s.bundle.0 ≤ r.bundle.0 = high.1 in
    let same : r.bundle.0 ≡ s.bundle.0 = omega (arith, a, b) in λ i. record { 0 = same i }

named-once : (now : Moment) (name : List ℕ) (b c : BundleId) → IsNamed now name b → IsNamed now name c → b ≡ c
named-once now name b c m n =
    sym m.is
    ∙ first-once m.row n.row
    (All-contains (λ (other : Bundle). other.revision.name ≡ name → IsPreferredTo m.row other) (bundles now.setting.depot now.before) n.row m.first n.live n.named)
    (All-contains (λ (other : Bundle). other.revision.name ≡ name → IsPreferredTo n.row other) (bundles now.setting.depot now.before) m.row n.first m.live m.named)
    ∙ n.is

-- ---- what a target names

-- no more than one bundle
pub target-once : (now : Moment) (t : Target) (b c : BundleId) → IsTarget now t b → IsTarget now t c → b ≡ c
target-once now (Id id) b c is other = is.0 ∙ sym other.0
target-once now (Name name) b c is other = named-once now name b c is other

-- and it is not refused since there is no such bundle
pub no-target : (now : Moment) (t : Target) (b : BundleId) → IsTarget now t b → (f : Refusal) → no_target now t f → ⊥
no-target now t b is f none = none.1 (b, is)
