-- How plans begin.
use Rattle.std.proofs.Common.{◌≡◌, ◌∙◌, ℕ, Bool, true, false, List, [], ap, refl, sym, unwrap_or}
use Rattle.osgi_base.specs.declared.ids.BundleId.{BundleId}
use Rattle.osgi_ops.specs.declared.op.Op.{Op}
use Rattle.osgi_ops.specs.declared.op.Op.TheVariants as op
use Rattle.osgi_ops.specs.declared.target.Target.{Target}
use Rattle.osgi_ops.specs.declared.target.Target.TheVariants.{Id}
use Rattle.osgi_session.specs.Beginnings.{later_text, op_of}
use Rattle.osgi_session.specs.Plans.{ask, plan}
use Rattle.osgi_session.specs.Steps.{fresh}
use Rattle.osgi_session.specs.declared.command.Command.{Command}
use Rattle.osgi_session.specs.declared.command.Command.TheVariants as command
use Rattle.osgi_lifecycle.specs.Following.{after_reply}
use Rattle.osgi_lifecycle.specs.declared.at.AfterStart.TheVariants as on_start
use Rattle.osgi_lifecycle.specs.declared.at.AfterStop.TheVariants as on_stop
use Rattle.osgi_lifecycle.specs.declared.at.At.{At}
use Rattle.osgi_lifecycle.specs.declared.at.At.TheVariants as at
use Rattle.osgi_lifecycle.specs.declared.kept.Kept.{Kept}

pub start-begins : (owner : BundleId) (target : Target) (transient : Bool) (kept : Kept) →
    plan owner (command.Start target transient) ≡ ask (op.WishStart target transient) (after_reply (at.WishStart transient (on_start.End false)) kept)
start-begins owner target transient kept = refl

pub update-begins : (owner bundle : BundleId) (location : List ℕ) (kept : Kept) →
    plan owner (command.Update bundle location) ≡ ask (op.BeginStop (Id bundle) true) (after_reply (at.BeginStop (on_stop.Update bundle)) (record kept { text = location }))
update-begins owner bundle location kept = refl

-- a plan that is left as its first operation, with what the command keeps for a later one
pub opened : (owner : BundleId) (said : Command) (wait : At) (o : Op) (kept : Kept) →
    ((k : Kept) → plan owner said ≡ ask (op_of owner said) (after_reply wait (record k { text = unwrap_or (later_text owner said) [] }))) →
    o ≡ op_of owner said → kept.text ≡ unwrap_or (later_text owner said) [] → fresh (ask o (after_reply wait kept)) ≡ fresh (plan owner said)
opened owner said wait o kept h e text =
    ap fresh (ap (λ (x : Op). ask x (after_reply wait kept)) e ∙ (ap (λ (t : List ℕ). ask (op_of owner said) (after_reply wait (record kept { text = t }))) text ∙ sym (h kept)))
