-- Who may not ask is refused first; for who may, the operation's own conditions count.
use Rattle.std.proofs.Common.{◌≡◌, inl, inr, List, ◌++◌, true, false, refl, sym, ◌∙◌, subst}
use Rattle.std.specs.Prelude.{Option, None, Some}
use Rattle.osgi_base.specs.Verdict.{Gives, refuses, Verdict}
use Rattle.osgi_base.specs.declared.ids.BundleId.{BundleId}
use Rattle.osgi_legal.specs.Askers.{MayAsk}
use Rattle.osgi_ops.specs.Bundles.{is_live, is_up}
use Rattle.osgi_ops.specs.Conditions.{asker_conditions, asker_of, state_of}
use Rattle.osgi_ops.specs.Moments.{Moment}
use Rattle.osgi_legal.specs.Operations.{Answers, IsReply, own_conditions}
use Rattle.osgi_legal.specs.Stages.{is_here}
use Rattle.osgi_legal.specs.laws.Stages.{row-here}
use Rattle.osgi_ops.specs.declared.op.Op.{Op}
use Rattle.osgi_ops.specs.declared.refusal.Refusal.{Refusal}
use Rattle.osgi_ops.specs.declared.refusal.Refusal.TheVariants as no
use Rattle.osgi_ops.specs.declared.reply.Reply.{Reply}
use Rattle.osgi_ops.specs.declared.reply.Reply.TheVariants as answer

-- where who asks passes, the own row gives the verdict
pub asker-passes : (now : Moment) (asker : Option BundleId) (own : List (Refusal → Type 0)) (answer : Reply → Type 0) (v : Verdict Refusal Reply) → MayAsk now asker → Gives own answer v → Gives (asker_conditions now asker ++ own) answer v
asker-passes now None own answer v p g = g
asker-passes now (Some b) own answer v p g =
    inr ((λ f h. (let bad : true ≡ false = sym p.0 ∙ h.1 in cc bad)), inr ((λ f h. (let bad : true ≡ false = sym p.1 ∙ h.1 in cc bad)), g))

-- where it is not there, or not up, that is the verdict
pub asker-gone : (now : Moment) (o : Op) (b : BundleId) → is_here o ≡ true → asker_of o ≡ Some b → is_live b now.before ≡ false → IsReply now o (answer.Refused no.NoSuchBundle)
asker-gone now o b here e gone =
    row-here now o (answer.Refused no.NoSuchBundle) here
    (subst (λ a. Gives (asker_conditions now a ++ own_conditions now o) (Answers now o) (refuses no.NoSuchBundle)) (sym e) (inl (no.NoSuchBundle, (refl, gone), refl)))

pub asker-down : (now : Moment) (o : Op) (b : BundleId) → is_here o ≡ true → asker_of o ≡ Some b → is_live b now.before ≡ true → is_up (state_of now b) ≡ false → IsReply now o (answer.Refused no.InvalidOperation)
asker-down now o b here e there down =
    row-here now o (answer.Refused no.InvalidOperation) here
    (subst (λ a. Gives (asker_conditions now a ++ own_conditions now o) (Answers now o) (refuses no.InvalidOperation)) (sym e)
    (inr ((λ f h. (let bad : true ≡ false = sym there ∙ h.1 in cc bad)), inl (no.InvalidOperation, (refl, down), refl))))
