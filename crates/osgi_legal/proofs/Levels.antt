-- The active level after one more entry: it moves one step at a time, towards the target of its caller's walk.
use Rattle.std.proofs.Common.{◌≡◌, ◌⊎◌, inl, inr, ℕ, List, [], ◌∷◌, ◌++◌, Bool, true, false, refl, sym, ap, ◌∙◌, subst}
use Rattle.std.specs.Prelude.{◌==◌, ◌+◌, Option, None, Some, cond, unwrap_or}
use Rattle.std.proofs.lemmas.Bool.{eq-eqb, eqb-true}
use Rattle.osgi_ops.specs.Levels.{active_level, moved_to, Walk}
use Rattle.osgi_ops.specs.Conditions.{IsOneStep, IsOwnWalk}
use Rattle.osgi_legal.specs.Operations.{IsReply}
use Rattle.osgi_ops.specs.Replies.{is_accepted}
use Rattle.osgi_ops.specs.Moments.{Moment}
use Rattle.osgi_ops.specs.declared.entry.Entry.{Entry}
use Rattle.osgi_ops.specs.declared.op.Op.{Op}
use Rattle.osgi_ops.specs.declared.op.Op.TheVariants.{MoveLevel}
use Rattle.osgi_ops.specs.declared.refusal.Refusal.TheVariants.{InvalidOperation}
use Rattle.osgi_ops.specs.declared.reply.Reply.{Reply}
use Rattle.osgi_ops.specs.laws.Along.{latest-quiet, latest-set}
use Rattle.osgi_legal.proofs.Accepted.{accepted}

pub cases_eq : (a b : ℕ) → (a ≡ b) ⊎ (a ≡ b → ⊥)
cases_eq a b = go (a == b) refl
  where
    go : (k : Bool) → (a == b) ≡ k → (a ≡ b) ⊎ (a ≡ b → ⊥)
    go true e = inl (eqb-true a b e)
    go false e = inr (λ q. (let c : true ≡ false = sym (eq-eqb a b q) ∙ e in cc c))

abbrev moves : Entry → Option ℕ
moves e = moved_to e.op e.reply

-- an entry that is no accepted move leaves the level
pub level-quiet : (history : List Entry) (e : Entry) → moved_to e.op e.reply ≡ None → active_level (history ++ e ∷ []) ≡ active_level history
level-quiet history e n = ap (λ o. unwrap_or o 1) (latest-quiet moves history e n)

-- and an accepted move sets it
pub level-moved : (history : List Entry) (e : Entry) (to : ℕ) → moved_to e.op e.reply ≡ Some to → active_level (history ++ e ∷ []) ≡ to
level-moved history e to m = ap (λ o. unwrap_or o 1) (latest-set moves history e to m)

accepted-if : (k : Bool) (n to : ℕ) → cond k (Some n) None ≡ Some to → (k ≡ true) × (n ≡ to)
accepted-if true n to e = (refl, cc e)
accepted-if false n to e = absurd (cc e)

-- a legal move is one step towards the target of a walk of its caller
pub one-step : (m : Moment) (op : Op) (reply : Reply) (to : ℕ) → IsReply m op reply → moved_to op reply ≡ Some to →
    (((w : Walk) × IsOwnWalk m w × IsOneStep (active_level m.before) to w.target) → ⊥) → ⊥
one-step m (MoveLevel level) reply to r e n =
    let a = accepted-if (is_accepted reply) level to e in
    (accepted m (MoveLevel level) reply r a.0).0.0 InvalidOperation (refl, (λ w. n (subst (λ l. (w : Walk) × IsOwnWalk m w × IsOneStep (active_level m.before) l w.target) a.1 w)))
one-step m op reply to r e n = absurd (cc e)

-- so the level goes up or down by one
pub moves-by-one : (m : Moment) (op : Op) (reply : Reply) (to : ℕ) → IsReply m op reply → moved_to op reply ≡ Some to → (to ≡ active_level m.before + 1) ⊎ (active_level m.before ≡ to + 1)
moves-by-one m op reply to r e = go (cases_eq to (active_level m.before + 1)) (cases_eq (active_level m.before) (to + 1))
  where
    go : (to ≡ active_level m.before + 1) ⊎ (to ≡ active_level m.before + 1 → ⊥) → (active_level m.before ≡ to + 1) ⊎ (active_level m.before ≡ to + 1 → ⊥) →
        (to ≡ active_level m.before + 1) ⊎ (active_level m.before ≡ to + 1)
    go (inl a) k = inl a
    go (inr a) (inl b) = inr b
    go (inr a) (inr b) = absurd (one-step m op reply to r e (λ w. elim w.2 [ inl up ↦ a up.0 | inr down ↦ b down.0 ]))
