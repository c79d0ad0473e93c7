-- How a pass of a hall has gone on while its caller ran a command.
use Rattle.std.specs.Prelude.{ℕ, ◌==◌, Bool, List, length, map}
use Rattle.osgi_framework.specs.Entries.{from_hall}
use Rattle.osgi_hall.specs.Histories.{BeginsWith}
use Rattle.osgi_hall.specs.Passes.{IsSamePass, PassView}
use Rattle.osgi_ops.specs.declared.entry.Entry.{Entry}
use Rattle.osgi_ops.specs.declared.op.Op.{Op}
use Rattle.osgi_ops.specs.declared.reply.Reply.{Reply}

module _ {O R Z : Type 0} where
  -- it is the same pass, and what it has seen begins with what it had seen
  pub record Grown (before after : PassView O R Z) : Type 0 where
    pub same : IsSamePass before after
    pub more : BeginsWith after.seen before.seen

  -- it has seen a history of so many entries
  abbrev pub has_seen : ℕ → PassView O R Z → Bool
  has_seen count pass = length pass.seen == count

-- the entries of its caller
abbrev pub calls_of : {Z : Type 0} → PassView Op Reply Z → List Entry
calls_of pass = map from_hall pass.own
