-- Conditions that several operations share: each calls for one refusal at most.
use Rattle.std.proofs.Common.{◌≡◌, ℕ, List, sym, ap, ◌∙◌, subst}
use Rattle.std.specs.Prelude.{◌≢◌, Bool, Option, None, Some, find, IsSomeAnd}
use Rattle.osgi_base.specs.declared.ids.BundleId.{BundleId}
use Rattle.osgi_base.specs.declared.ids.ServiceId.{ServiceId}
use Rattle.osgi_base.specs.declared.ids.Tag.{Tag}
use Rattle.osgi_legal.proofs.Facts.{named-apart-at}
use Rattle.osgi_legal.proofs.Targets.{target-once}
use Rattle.osgi_legal.proofs.Verdicts.{IsOne}
use Rattle.osgi_ops.specs.Brackets.{Bracket, brackets, Making}
use Rattle.osgi_ops.specs.Bundles.{last_begin, State}
use Rattle.osgi_ops.specs.Conditions.{at_target, IsDuplicate, not_owner, not_read, refreshing_where, state_change}
use Rattle.osgi_legal.specs.Legal.{IsTold}
use Rattle.osgi_ops.specs.Levels.{Refresh, refresh}
use Rattle.osgi_ops.specs.Moments.{Moment}
use Rattle.osgi_ops.specs.Services.{live_service_at, Registered}
use Rattle.osgi_ops.specs.declared.refusal.Refusal.{Refusal}
use Rattle.osgi_ops.specs.declared.refusal.Refusal.TheVariants as no
use Rattle.osgi_ops.specs.declared.target.Target.{Target}
use Rattle.osgi_ops.specs.rows.Services.{in_make, is_bundle_make, make_is_open, making_now}
use Rattle.osgi_world.specs.declared.revision.Revision.{Revision}

pub change-one : (is_such : State → Bool) (now : Moment) (bundle : BundleId) → IsOne (state_change is_such now bundle)
change-one is_such now bundle f g one other = go (last_begin bundle now.before) one.1 other.1
  where
    go : (o : Option Tag) → IsSomeAnd o (λ by. f ≡ no.StateChange by) → IsSomeAnd o (λ by. g ≡ no.StateChange by) → f ≡ g
    go None p q = absurd p
    go (Some by) p q = p ∙ sym q

pub refreshing-one : (now : Moment) (holds : Refresh → Type 0) → IsOne (refreshing_where now holds)
refreshing-one now holds f g one other = go (refresh now.before) one other
  where
    go : (o : Option Refresh) → IsSomeAnd o (λ r. holds r × (f ≡ no.Refreshing r.tag)) → IsSomeAnd o (λ r. holds r × (g ≡ no.Refreshing r.tag)) → f ≡ g
    go None p q = absurd p
    go (Some r) p q = p.1 ∙ sym q.1

pub owner-one : (now : Moment) (owner : BundleId) (service : ServiceId) → IsOne (not_owner now owner service)
owner-one now owner service f g one other = go (live_service_at service now.before) one other
  where
    go : (o : Option Registered) → IsSomeAnd o (λ r. (r.owner ≢ owner) × (f ≡ no.NotOwner r.owner)) → IsSomeAnd o (λ r. (r.owner ≢ owner) × (g ≡ no.NotOwner r.owner)) → f ≡ g
    go None p q = absurd p
    go (Some r) p q = p.1 ∙ sym q.1

-- a condition on a target is one on the bundle that it names
pub target-one : (now : Moment) (target : Target) (condition : BundleId → Refusal → Type 0) → ((bundle : BundleId) → IsOne (condition bundle)) → IsOne (at_target now target condition)
target-one now target condition each f g one other =
    each one.0 f g one.2 (subst (λ b. condition b g) (target-once now target other.0 one.0 other.1 one.1) other.2)

-- the make that a Get waits for
pub making-one : (now : Moment) (user : BundleId) (service : ServiceId) → IsOne (make_is_open now user service)
making-one now user service f g one other = go (find (is_bundle_make now user service) (brackets now.before)) one other
  where
    go : (o : Option Bracket) → IsSomeAnd o (λ b. f ≡ no.StateChange b.tag) → IsSomeAnd o (λ b. g ≡ no.StateChange b.tag) → f ≡ g
    go None p q = absurd p
    go (Some b) p q = p ∙ sym q

-- a condition with one more that no refusal is part of
pub with-one : (X : Type 0) (condition : Refusal → Type 0) → IsOne condition → IsOne (λ f. X × condition f)
with-one X condition each f g one other = each f g one.1 other.1

-- a condition on what the innermost bracket of the caller makes
pub make-one : (now : Moment) (condition : Making → Refusal → Type 0) → ((m : Making) → IsOne (condition m)) → IsOne (in_make now condition)
make-one now condition each f g one other = go (making_now now) one other
  where
    go : (o : Option Making) → IsSomeAnd o (λ m. condition m f) → IsSomeAnd o (λ m. condition m g) → f ≡ g
    go None p q = absurd p
    go (Some m) p q = each m f g p q

pub read-one : (now : Moment) (location : List ℕ) → IsOne (not_read now location)
read-one now location f g one other = let same : Some f ≡ Some g = sym one ∙ other in cc same

-- no two live bundles have one name and one version, so a duplicate names its bundle
pub duplicate-one : (now : Moment) → IsTold now → (updated : Option BundleId) (location : List ℕ) → IsOne (IsDuplicate now updated location)
duplicate-one now told updated location f g one other =
    let revision : one.revision ≡ other.revision = (let s : Some one.revision ≡ Some other.revision = sym one.is ∙ other.is in cc s) in
    let bundle : one.other.bundle ≡ other.other.bundle =
    named-apart-at now told one.other other.other one.live other.live (one.name ∙ ap (λ (r : Revision). r.name) revision ∙ sym other.name)
    (one.version ∙ ap (λ (r : Revision). r.version) revision ∙ sym other.version) in
    one.says ∙ ap no.DuplicateBundle bundle ∙ sym other.says
