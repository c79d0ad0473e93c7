-- An entry of a hall whose machine is a framework, and the same entry as a history of the framework has it.
use Rattle.osgi_hall.specs.declared.entry.Entry.{Entry}
use Rattle.osgi_ops.specs.declared.entry.Entry as framework
use Rattle.osgi_ops.specs.declared.op.Op.{Op}
use Rattle.osgi_ops.specs.declared.reply.Reply.{Reply}

abbrev pub as_hall : framework.Entry → Entry Op Reply
as_hall e = record { tag = e.tag; op = e.op; reply = e.reply }

abbrev pub from_hall : Entry Op Reply → framework.Entry
from_hall e = record { tag = e.tag; op = e.op; reply = e.reply }
