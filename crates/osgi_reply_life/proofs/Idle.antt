-- What is answered without a change of the tables.
use Rattle.std.proofs.Common.{◌≡◌, []}
use Rattle.osgi_legal.specs.Quiet.{QuietServices}
use Rattle.osgi_legal.specs.Legal.{entry_of, IsTold}
use Rattle.osgi_ops.specs.Listening.{happenings}
use Rattle.osgi_ops.specs.Moments.{Moment}
use Rattle.osgi_legal.specs.Operations.{IsReply}
use Rattle.osgi_ops.specs.declared.asked.Asked.{Asked}
use Rattle.osgi_ops.specs.declared.entry.Entry.{Entry}
use Rattle.osgi_ops.specs.declared.op.Op.{Op}
use Rattle.osgi_ops.specs.declared.reply.Reply.{Reply}
use Rattle.osgi_tables.proofs.Replying.{IsOfServices, still_tables, unseen_then}
use Rattle.osgi_tables.specs.Replied.{EachTime, IsAnswered}
use Rattle.osgi_tables.specs.declared.tables.Tables.{Tables}
use Rattle.osgi_world.specs.declared.world.World.{World}

-- the operation with this reply says nothing of services, of bundles and their phases, and of brackets, and nothing happens at it in a legal
-- history
pub record IsIdle (o : Op) (reply : Reply) : Type 0 where
  pub others : IsOfServices o reply
  pub services : QuietServices o reply
  pub none : (now : Moment) → IsTold now → (after : World) (e : Entry) → happenings now.before now.world after e o reply ≡ []

pub replied_idle : (asked : Asked) (tables : Tables) (reply : Reply) → IsIdle asked.op reply → EachTime asked tables (λ now. IsReply now asked.op reply) → IsAnswered asked tables tables reply []
replied_idle asked tables reply idle due =
    unseen_then asked tables tables reply due (λ now at stood. idle.others.leaves now tables.wirings.world stood.world)
    (λ now at stood. idle.none now at.told tables.wirings.world (entry_of now asked.op reply)) (λ now at stood. still_tables now tables asked.op reply stood idle.others idle.services)
