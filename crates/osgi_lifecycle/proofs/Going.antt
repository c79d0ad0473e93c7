-- How plans go over levels and bundles.
use Rattle.std.proofs.Common.{◌≡◌, ◌∙◌, ℕ, suc, ◌-◌, ◌<◌, true, false, [], ◌∷◌, ap, arith, refl, sym, unwrap_or}
use Rattle.osgi_base.specs.declared.ids.BundleId.{BundleId}
use Rattle.osgi_ops.specs.Replies.{ids_in, is_refusal}
use Rattle.osgi_ops.specs.declared.op.Op.TheVariants as op
use Rattle.osgi_ops.specs.declared.reply.Reply.{Reply}
use Rattle.osgi_ops.specs.declared.reply.Reply.TheVariants as answer
use Rattle.osgi_ops.specs.declared.target.Target.TheVariants.{Id}
use Rattle.osgi_session.specs.Plans.{Plan, ask, descend, halt, halt_all, stop_members, to_stop, unless_refused}
use Rattle.osgi_lifecycle.specs.Following.{after_drop, after_move_down, after_stop, ahead, stopping_level, stopping_members}
use Rattle.osgi_lifecycle.specs.declared.at.AfterStop.TheVariants as on_stop
use Rattle.osgi_lifecycle.specs.declared.kept.Kept.{Kept}

-- one level down
pub descend-more : (level to : ℕ) → to < level →
    descend (level - to) level ≡ ask (op.ListLevel level) (λ reply. unless_refused reply (halt_all (to_stop reply) (ask (op.MoveLevel (level - 1)) (after_move_down (level - 1) to))))
descend-more level to h =
    let more : level - to ≡ suc (level - 1 - to) = omega arith in
    ap (λ n. descend n level) more

pub unless-accepted : (reply : Reply) (rest : Plan) → is_refusal reply ≡ false → unless_refused reply rest ≡ rest
unless-accepted (answer.Refused refusal) rest h = absurd (cc h)
unless-accepted _ rest h = refl

pub listed : (reply : Reply) → unwrap_or (ids_in reply) [] ≡ to_stop reply
listed (answer.Ids ids) = refl
listed _ = refl

-- the bundles that a reply lists are stopped one by one
pub stopping-listed : (reply : Reply) (level to : ℕ) (kept : Kept) → is_refusal reply ≡ false → ahead kept ≡ unwrap_or (ids_in reply) [] →
    stopping_level level to kept ≡ unless_refused reply (halt_all (to_stop reply) (ask (op.MoveLevel level) (after_move_down level to)))
stopping-listed reply level to kept h e =
    ap (λ bundles. halt_all bundles (ask (op.MoveLevel level) (after_move_down level to))) (e ∙ listed reply) ∙
    sym (unless-accepted reply (halt_all (to_stop reply) (ask (op.MoveLevel level) (after_move_down level to))) h)

-- one member is stopped
pub member-stopped : (before after : Kept) (bundle : BundleId) → ahead before ≡ bundle ∷ ahead after → after.bundles.items ≡ before.bundles.items →
    halt (Id bundle) true (after_stop on_stop.Refresh after) ≡ stopping_members before
member-stopped before after bundle e same =
    ap (λ active. stop_members (bundle ∷ ahead after) (ask op.DropWirings (after_drop active))) same ∙
    ap (λ bundles. stop_members bundles (ask op.DropWirings (after_drop before.bundles.items))) (sym e)
