-- An entry leaves one world and is seen in one way, so a history is told in one way only.
use Rattle.std.proofs.Common.{◌≡◌, ℕ, List, [], ◌∷◌, ◌++◌, ap, sym, ◌∙◌, refl, subst}
use Rattle.std.specs.Prelude.{Bool, true, false, Option, None, Some, IsSomeAnd}
use Rattle.osgi_base.specs.declared.ids.BundleId.{BundleId}
use Rattle.osgi_resolver_theory.proofs.Once.{wirings-once}
use Rattle.osgi_ops.specs.Along.{AllAlong}
use Rattle.osgi_legal.specs.Legal.{entry_of, IsAllowed, IsReplayed}
use Rattle.osgi_legal.specs.Operations.{IsReply}
use Rattle.osgi_ops.specs.Levels.{Refresh, refresh}
use Rattle.osgi_ops.specs.Listening.{AreSights}
use Rattle.osgi_ops.specs.Moments.{entries_in, Moment, moment, Told}
use Rattle.osgi_ops.specs.Resolved.{is_resolved}
use Rattle.osgi_ops.specs.Resolving.{IsResolvedTo, Resolves}
use Rattle.osgi_ops.specs.Settings.{Setting}
use Rattle.osgi_ops.specs.Worlds.{Brings, dropped, Leaves, with_revision}
use Rattle.osgi_ops.specs.declared.entry.Entry.{Entry}
use Rattle.osgi_ops.specs.declared.op.Op.{Op}
use Rattle.osgi_ops.specs.declared.op.Op.TheVariants as op
use Rattle.osgi_ops.specs.declared.reply.Reply.{Reply}
use Rattle.osgi_ops.specs.declared.reply.Reply.TheVariants as answer
use Rattle.osgi_world.specs.declared.world.World.{World}
use Rattle.osgi_legal.proofs.Sights.{sights-once}
use Rattle.osgi_stage.proofs.Loads.{load-stays}

-- ---- what one entry leaves

brings_once : (now : Moment) (bundle : BundleId) (location : List ℕ) (before w v : World) → Brings now bundle location before w → Brings now bundle location before v → w ≡ v
brings_once now bundle location before w v one other =
    let same : one.revision ≡ other.revision = (let s : Some one.revision ≡ Some other.revision = sym one.read ∙ other.read in cc s) in
    one.is ∙ ap (λ r. with_revision before _ bundle r) same ∙ sym other.is

resolved_once : (world : World) (bundle : BundleId) (w v : World) → IsResolvedTo world bundle w → IsResolvedTo world bundle v → w ≡ v
resolved_once world bundle w v one other =
    one.is
    ∙ (λ i. record world { wirings = wirings-once world bundle one.problem other.problem one.is_problem other.is_problem one.word other.word one.first other.first i })
    ∙ sym other.is

resolves_once : (resolved : Bool) (now : Moment) (bundle : BundleId) (added : List BundleId) (w v : World) → Resolves resolved now bundle added w → Resolves resolved now bundle added v → w ≡ v
resolves_once true now bundle added w v one other = one ∙ sym other
resolves_once false now bundle added w v one other = resolved_once now.world bundle w v one.0 other.0

dropped_once : (o : Option Refresh) (world w v : World) → IsSomeAnd o (λ r. w ≡ dropped r.members world) → IsSomeAnd o (λ r. v ≡ dropped r.members world) → w ≡ v
dropped_once None world w v one other = absurd one
dropped_once (Some r) world w v one other = one ∙ sym other

pub leaves-once : (now : Moment) (o : Op) (reply : Reply) (w v : World) → IsReply now o reply → Leaves now o reply w → Leaves now o reply v → w ≡ v
leaves-once now (op.Install location) (answer.Bundle bundle false) w v r one other = brings_once now bundle location now.world w v one other
leaves-once now (op.Resolve bundle) (answer.Resolved added) w v r one other = resolves_once (is_resolved now.world bundle) now bundle added w v one other
leaves-once now (op.Update bundle location) answer.Done w v r one other = brings_once now bundle location _ w v one other
leaves-once now (op.Uninstall bundle) answer.Done w v r one other = one ∙ sym other
leaves-once now op.DropWirings (answer.Ids ids) w v r one other = dropped_once (refresh now.before) now.world w v one other
leaves-once now (op.Load bundle class) reply w v r one other = load-stays now bundle class reply w r one ∙ sym (load-stays now bundle class reply v r other)
leaves-once now _ _ w v r one other = one ∙ sym other

-- ---- a whole history

allowed_once : (setting : Setting) (before : List Told) (s t : Told) → s.entry ≡ t.entry → IsAllowed setting before s → IsAllowed setting before t → s ≡ t
allowed_once setting before s t same one other =
    let here : IsAllowed setting before (record { entry = s.entry; world = t.world; sights = t.sights }) =
    subst (λ e. IsAllowed setting before (record { entry = e; world = t.world; sights = t.sights })) (sym same) other in
    let now : Moment = moment setting before s.entry.tag in
    let world : s.world ≡ t.world = leaves-once now s.entry.op s.entry.reply s.world t.world one.replied one.left here.left in
    let seen : s.sights ≡ t.sights =
    sights-once now.before now.world t.world (entry_of now s.entry.op s.entry.reply) s.sights t.sights
    (subst (λ w. AreSights now.before now.world w (entry_of now s.entry.op s.entry.reply) s.sights) world one.seen) here.seen in
    λ i. record { entry = same i; world = world i; sights = seen i }

told_from : (setting : Setting) (before one other : List Told) → entries_in one ≡ entries_in other → AllAlong (IsAllowed setting) before one → AllAlong (IsAllowed setting) before other → one ≡ other
told_from setting before [] [] same first second = refl
told_from setting before [] (t ∷ other) same first second = absurd (cc same)
told_from setting before (s ∷ one) [] same first second = absurd (cc same)
told_from setting before (s ∷ one) (t ∷ other) same first second =
    let head : s ≡ t = allowed_once setting before s t (cc same) first.0 second.0 in
    let rest : AllAlong (IsAllowed setting) (before ++ s ∷ []) other = subst (λ x. AllAlong (IsAllowed setting) (before ++ x ∷ []) other) (sym head) second.1 in
    cc (head, told_from setting (before ++ s ∷ []) one other (cc same) first.1 rest)

pub told-once : (setting : Setting) (history : List Entry) (w v : World) (one : IsReplayed setting history w) (other : IsReplayed setting history v) → one.told ≡ other.told
told-once setting history w v one other = told_from setting [] one.told other.told (one.tells ∙ sym other.tells) one.allowed other.allowed
