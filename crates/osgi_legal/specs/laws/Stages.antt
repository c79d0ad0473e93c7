-- What the reply of an operation says of its row. No other proof looks into which operations have come.
use Rattle.std.proofs.Common.{◌≡◌, ◌⊎◌, inl, inr, Bool, true, false, refl, sym, ap, ◌∙◌, subst}
use Rattle.std.specs.Prelude.{MatchBool}
use Rattle.osgi_ops.specs.OwnBrackets.{is_end}
use Rattle.osgi_ops.specs.Moments.{Moment}
use Rattle.osgi_legal.specs.Operations.{IsReply, IsRow}
use Rattle.osgi_ops.specs.Replies.{is_accepted, took_effect}
use Rattle.osgi_legal.specs.Stages.{is_here}
use Rattle.osgi_ops.specs.declared.op.Op.{Op}
use Rattle.osgi_ops.specs.declared.op.Op.TheVariants as op
use Rattle.osgi_ops.specs.declared.refusal.Refusal.TheVariants.{InvalidOperation}
use Rattle.osgi_ops.specs.declared.reply.Reply.{Reply}
use Rattle.osgi_ops.specs.declared.reply.Reply.TheVariants.{Refused}

-- the reply is that of the row, or the operation has not come
pub row-or : (now : Moment) (o : Op) (y : Reply) → IsReply now o y → IsRow now o y ⊎ ((is_here o ≡ false) × (y ≡ Refused InvalidOperation))
row-or now o y r = go (is_here o) refl r
  where
    go : (k : Bool) → is_here o ≡ k → MatchBool k (IsRow now o y) (y ≡ Refused InvalidOperation) → IsRow now o y ⊎ ((is_here o ≡ false) × (y ≡ Refused InvalidOperation))
    go true e p = inl p
    go false e p = inr (e, p)

-- of an operation that has come it is the row's
pub here-row : (now : Moment) (o : Op) (y : Reply) → is_here o ≡ true → IsReply now o y → IsRow now o y
here-row now o y e r = subst (λ k. MatchBool k (IsRow now o y) (y ≡ Refused InvalidOperation)) e r

pub row-here : (now : Moment) (o : Op) (y : Reply) → is_here o ≡ true → IsRow now o y → IsReply now o y
row-here now o y e r = subst (λ k. MatchBool k (IsRow now o y) (y ≡ Refused InvalidOperation)) (sym e) r

-- of one that has not it is this refusal
pub late-refused : (now : Moment) (o : Op) (y : Reply) → is_here o ≡ false → IsReply now o y → y ≡ Refused InvalidOperation
late-refused now o y e r = subst (λ k. MatchBool k (IsRow now o y) (y ≡ Refused InvalidOperation)) e r

-- and so it is where the operation did its work
pub row-of : (now : Moment) (o : Op) (y : Reply) → IsReply now o y → took_effect y ≡ true → IsRow now o y
row-of now o y r e = elim (row-or now o y r) [
  | inl p ↦ p
  | inr p ↦ absurd (let bad : true ≡ false = sym e ∙ ap took_effect p.1 in cc bad)
]

effective : (y : Reply) → is_accepted y ≡ true → took_effect y ≡ true
effective (Refused f) e = absurd (cc e)
effective y e = refl

pub accepted-row : (now : Moment) (o : Op) (y : Reply) → IsReply now o y → is_accepted y ≡ true → IsRow now o y
accepted-row now o y r e = row-of now o y r (effective y e)

-- ---- what has come

-- the ends came before what they end, or with it; while no bracket is open, their own row refuses them
pub ends-here : (o : Op) → is_end o ≡ true → is_here o ≡ true
ends-here (op.EndHand listener) e = refl
ends-here op.EndJob e = refl
ends-here (op.EndStart bundle failed) e = refl
ends-here (op.EndStop bundle failed) e = refl
ends-here (op.EndMake failed) e = refl
ends-here _ e = absurd (cc e)

pub hand-here : is_here op.Hand ≡ true
hand-here = refl

pub take-here : is_here op.TakeJob ≡ true
take-here = refl
