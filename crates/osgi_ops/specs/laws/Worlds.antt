-- Where an operation changes no world.
use Rattle.std.proofs.Common.{◌≡◌, true, false, [], ◌∷◌, ap, ◌∙◌, subst}
use Rattle.std.specs.Prelude.{⊤, None, Some}
use Rattle.osgi_ops.specs.Dynamic.{world_with_wire}
use Rattle.osgi_ops.specs.Moments.{Moment}
use Rattle.osgi_ops.specs.Resolved.{is_resolved}
use Rattle.osgi_ops.specs.Resolving.{Resolves}
use Rattle.osgi_ops.specs.Worlds.{Leaves, may_change_world}
use Rattle.osgi_ops.specs.declared.op.Op.{Op}
use Rattle.osgi_ops.specs.declared.op.Op.TheVariants as op
use Rattle.osgi_ops.specs.declared.reply.Reply.{Reply}
use Rattle.osgi_ops.specs.declared.reply.Reply.TheVariants as answer
use Rattle.osgi_world.specs.declared.world.World.{World}

-- a Resolve that resolved nothing was of a bundle that is resolved already
abbrev pub IsOfResolved : Moment → Op → Reply → Type 0
IsOfResolved now (op.Resolve bundle) (answer.Resolved []) = is_resolved now.world bundle ≡ true
IsOfResolved now _ _ = ⊤

pub world-stays : (now : Moment) (o : Op) (y : Reply) (after : World) → IsOfResolved now o y → may_change_world o y ≡ false → Leaves now o y after → after ≡ now.world
world-stays now (op.Install location) (answer.Bundle bundle false) after is same l = cc same
world-stays now (op.Resolve bundle) (answer.Resolved []) after is same l = subst (λ c. Resolves c now bundle [] after) is l
world-stays now (op.Resolve bundle) (answer.Resolved (b ∷ more)) after is same l = cc same
world-stays now (op.Update bundle location) answer.Done after is same l = cc same
world-stays now (op.Uninstall bundle) answer.Done after is same l = cc same
world-stays now op.DropWirings (answer.Ids ids) after is same l = cc same
world-stays now (op.Load bundle class) (answer.LoadedMore by None wake) after is same l = l.is ∙ ap (world_with_wire now.world bundle) l.added
world-stays now (op.Load bundle class) (answer.LoadedMore by (Some row) wake) after is same l = cc same
world-stays now o y after is same l = l
