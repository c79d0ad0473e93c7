-- Each change is possible, and is made.
use Rattle.osgi_reply_services.proofs.change.ServiceChange.commit.Goals as goal

pub insert-requires : goal.insert-requires
insert-requires c =
    let p = rw c.in-Insert.is at c.requires.possible in
    record { next = p.0; fits = p.1; room = p.2 }

pub add_use-requires : goal.add_use-requires
add_use-requires c = let p = rw c.in-AddUse.is at c.requires.possible in record { countable = p.1 }
