-- What an operation does to the tables, and answers by them.
use Rattle.std.specs.Prelude.{ℕ, ◌≡◌, ◌<◌, ◌+◌, ◌-◌, ◌^◌, Bool, true, false, List, [], None, length}
use Rattle.osgi_base.specs.declared.ids.BundleId.{BundleId}
use Rattle.osgi_base.specs.declared.ids.Tag.{Tag}
use Rattle.osgi_brackets.specs.Open as callers
use Rattle.osgi_bundle.specs.Stands as table
use Rattle.osgi_jobs.specs.Queue as queue
use Rattle.osgi_listeners.specs.Stands as hearing
use Rattle.osgi_listeners.specs.Stands.{AreSmall}
use Rattle.osgi_ops.specs.Bundles.{revisions}
use Rattle.osgi_legal.specs.Legal.{entry_of, IsAskedAt}
use Rattle.osgi_ops.specs.Listening.{AreSights, handings, happenings}
use Rattle.osgi_ops.specs.Moments.{later, Moment, Sight}
use Rattle.osgi_legal.specs.Operations.{IsReply}
use Rattle.osgi_ops.specs.Resolved.{current_revision}
use Rattle.osgi_ops.specs.Soundness.{IsSound}
use Rattle.osgi_ops.specs.Worlds.{Leaves, with_revision}
use Rattle.osgi_ops.specs.declared.asked.Asked.{Asked}
use Rattle.osgi_ops.specs.declared.op.Op.{Op}
use Rattle.osgi_ops.specs.declared.refusal.Refusal.TheVariants.{InvalidOperation}
use Rattle.osgi_ops.specs.declared.reply.Reply.{Reply}
use Rattle.osgi_ops.specs.declared.reply.Reply.TheVariants.{Done, Refused}
use Rattle.osgi_registry.specs.Stands as registry
use Rattle.osgi_wiring.specs.States.{BecomesKnown, IsKeptWorld, WiringState}
use Rattle.osgi_world.specs.declared.revision.Revision.{Revision}
use Rattle.osgi_reply_services.specs.Served as served
use Rattle.osgi_sights.specs.Shown.{AreShown, Shown}
use Rattle.osgi_tables.specs.declared.tables.Tables.{Tables}

-- table by table the tables are those of the moment's history
pub record StandsFor (now : Moment) (tables : Tables) : Type 0 where
  pub depot : tables.depot.rows ≡ now.setting.depot
  pub budget : tables.budget ≡ now.setting.bounds.budget
  pub services : registry.StandsFor now.before tables.registry
  pub bundles : table.StandsFor now.setting.depot now.before now.world tables.bundles
  pub brackets : callers.StandsFor now.before tables.brackets
  pub world : tables.wirings.world ≡ now.world
  -- as many ids of revisions were given as revisions were brought, and the wirings in force keep all rules
  pub issued : tables.wirings.issued ≡ revisions now.before
  pub sound : IsSound now.world
  -- each live listener has still to be handed what it saw and was not handed, and so many hands may still hand something
  pub listeners : hearing.StandsFor now.sights now.before tables.listeners
  pub small : AreSmall now.sights
  pub handings : tables.handings_left ≡ now.setting.bounds.handings - handings now.before
  pub jobs : queue.StandsFor now.before tables.jobs

-- so it is at each moment at which it is asked for and that the tables stand for
abbrev pub EachTime : Asked → Tables → (Moment → Type 0) → Type 0
EachTime asked tables P = (now : Moment) → IsAskedAt asked now → StandsFor now tables → P now

-- at each such moment the reply is due, the world is left as it may be, and this is what happens; and then the tables stand for the next
-- moment, as if nobody had seen what happened
pub record IsAnswered (asked : Asked) (old new : Tables) (reply : Reply) (happened : List Shown) : Type 0 where
  pub due : EachTime asked old (λ now. IsReply now asked.op reply)
  pub left : EachTime asked old (λ now. Leaves now asked.op reply new.wirings.world)
  pub happens : EachTime asked old (λ now. AreShown happened (happenings now.before now.world new.wirings.world (entry_of now asked.op reply) asked.op reply))
  pub stands : EachTime asked old (λ now. StandsFor (later now asked.op reply new.wirings.world []) new)

-- nothing happens and the tables stay, and it is the same whatever the tag
abbrev pub IsAnsweredToAll : Op → Tables → Reply → Type 0
IsAnsweredToAll op tables reply = (tag : Tag) → IsAnswered (record { tag = tag; op = op }) tables tables reply []

-- so it is at each moment of a history of so many entries at which it is asked for and that the tables stand for
abbrev pub EachTimeAt : ℕ → Asked → Tables → (Moment → Type 0) → Type 0
EachTimeAt entries asked tables P = (now : Moment) → IsAskedAt asked now → length now.before ≡ entries → StandsFor now tables → P now

-- at each such moment the reply is due, the world is left as it may be and these are what listeners see, and then the tables stand for the
-- next
pub record IsReplied (entries : ℕ) (asked : Asked) (old new : Tables) (reply : Reply) (sights : List Sight) : Type 0 where
  pub due : EachTimeAt entries asked old (λ now. IsReply now asked.op reply)
  pub left : EachTimeAt entries asked old (λ now. Leaves now asked.op reply new.wirings.world)
  pub seen : EachTimeAt entries asked old (λ now. AreSights now.before now.world new.wirings.world (entry_of now asked.op reply) sights)
  pub stands : EachTimeAt entries asked old (λ now. StandsFor (later now asked.op reply new.wirings.world sights) new)

-- the reply to the end of a hand or of a job, by whether it ended one
abbrev pub end_reply : Bool → Reply
end_reply true = Done
end_reply false = Refused InvalidOperation

-- the registry has room, ids of bundles, of revisions and of listeners are left to be given, and the next bundle has no current
-- revision. One more than the budget can be counted
pub record HasRoom (tables : Tables) : Type 0 where
  pub services : served.HasRoom tables.registry
  pub bundles : tables.bundles.issued < 2 ^ 32 - 1
  pub revisions : tables.wirings.issued < 2 ^ 32 - 1
  pub listeners : tables.listeners.issued < 2 ^ 32 - 1
  pub fresh : (b : BundleId) → b.0 ≡ tables.bundles.issued + 1 → current_revision tables.wirings.world b ≡ None
  pub budget : tables.budget < 2 ^ 64 - 1

-- what the tables stood for they stand for
abbrev pub StandsStill : Tables → Tables → Type 0
StandsStill old new = (now : Moment) → StandsFor now old → StandsFor now new

-- ---- the wirings when a bundle is installed

-- the bundle's revision becomes known under the next id
pub record IsBrought (b : BundleId) (revision : Revision) (old new : WiringState) : Type 0 where
  pub world : new.world ≡ with_revision old.world (record { 0 = old.issued + 1 }) b revision
  pub known : BecomesKnown old.world new.world (record { id = record { 0 = old.issued + 1 }; bundle = b; current = true; revision = revision })
  pub holds : IsKeptWorld new.world new.issued
  pub issued : new.issued ≡ old.issued + 1

-- the world and the ids given are the same
pub record IsSame (old new : WiringState) : Type 0 where
  pub world : new.world ≡ old.world
  pub issued : new.issued ≡ old.issued
