-- What is asked for in a history: the tags and the operations of its entries, one after another.
use Rattle.std.specs.Prelude.{List, map}
use Rattle.osgi_ops.specs.declared.asked.Asked.{Asked}
use Rattle.osgi_ops.specs.declared.entry.Entry.{Entry}

abbrev pub asked_in : List Entry → List Asked
asked_in history = map (λ (e : Entry). record { tag = e.tag; op = e.op }) history
