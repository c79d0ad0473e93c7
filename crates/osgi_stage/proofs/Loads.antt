-- A load leaves the world as it is while loads add no wire, whatever it answers.
use Rattle.std.proofs.Common.{◌≡◌, ℕ, List, true, false, refl, ap, ◌∙◌, subst}
use Rattle.std.specs.Prelude.{Option, None, Some, option_and_then}
use Rattle.osgi_base.specs.declared.ids.BundleId.{BundleId}
use Rattle.osgi_base.specs.declared.ids.RevisionId.{RevisionId}
use Rattle.osgi_legal.specs.Operations.{IsReply}
use Rattle.osgi_ops.specs.Dynamic.{world_with_wire}
use Rattle.osgi_ops.specs.Moments.{Moment}
use Rattle.osgi_ops.specs.Replies.{is_accepted}
use Rattle.osgi_ops.specs.WireRows.{wire_row}
use Rattle.osgi_ops.specs.Worlds.{Leaves}
use Rattle.osgi_ops.specs.declared.op.Op.TheVariants as op
use Rattle.osgi_ops.specs.declared.reply.Reply.{Reply}
use Rattle.osgi_ops.specs.declared.reply.Reply.TheVariants as answer
use Rattle.osgi_ops.specs.laws.Dynamic.{none-added}
use Rattle.osgi_ops.specs.rows.Bundles.{loaded_with, LoadAnswers, woken}
use Rattle.osgi_world.specs.declared.world.World.{World}
use Rattle.osgi_legal.proofs.Accepted.{accepted}

-- a reply that shows no wire leaves the world
shown-none : (m : Moment) (b : BundleId) (class : List ℕ) (by : Option RevisionId) (wake : Option BundleId) (after : World) → Leaves m (op.Load b class) (loaded_with by None wake) after → after ≡ m.world
shown-none m b class by None after l = l
shown-none m b class by (Some woke) after l = l.is ∙ ap (world_with_wire m.world b) l.added

-- what an accepted load answers shows none
pub load-shown : (m : Moment) (b : BundleId) (class : List ℕ) (y : Reply) (a : LoadAnswers false m b class y) → y ≡ loaded_with a.by None (woken m class a.by)
load-shown m b class y a = a.says ∙ ap (λ w. loaded_with a.by (option_and_then (wire_row m.world.known) w) (woken m class a.by)) (none-added m.world b class a.wire a.added)

load-accepted : (m : Moment) (b : BundleId) (class : List ℕ) (y : Reply) (after : World) → IsReply m (op.Load b class) y → is_accepted y ≡ true → Leaves m (op.Load b class) y after → after ≡ m.world
load-accepted m b class y after r e l =
    let a : LoadAnswers false m b class y = (accepted m (op.Load b class) y r e).1 in
    shown-none m b class a.by (woken m class a.by) after (subst (λ z. Leaves m (op.Load b class) z after) (load-shown m b class y a) l)

pub load-stays : (m : Moment) (b : BundleId) (class : List ℕ) (y : Reply) (after : World) → IsReply m (op.Load b class) y → Leaves m (op.Load b class) y after → after ≡ m.world
load-stays m b class (answer.Refused f) after r l = l
load-stays m b class y after r l = load-accepted m b class y after r refl l
