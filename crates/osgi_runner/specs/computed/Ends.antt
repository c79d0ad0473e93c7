-- What the calls of a command come to.
use Rattle.std.specs.Prelude.{◌≡◌, Bool, true, List, ◌++◌, ◌⊎◌, map}
use Rattle.osgi_base.specs.declared.ids.Tag.{Tag}
use Rattle.osgi_ops.specs.declared.entry.Entry.{Entry}
use Rattle.osgi_runner.specs.declared.lines.Ended.{Ended}
use Rattle.osgi_runner.specs.declared.lines.Ended.TheVariants as ended
use Rattle.osgi_session.specs.Runs.{Call, IsCutOf, IsSpentOf}

abbrev pub entry_by : Tag → Call → Entry
entry_by tag c = record { tag = tag; op = c.op; reply = c.reply }

-- these calls were added
abbrev pub Made : (List Call → Type 0) → Tag → List Entry → List Entry → Type 0
Made AreThey tag before after = (calls : List Call) × (after ≡ before ++ map (entry_by tag) calls) × AreThey calls

-- they are a whole run, or one that was cut: since enough was handed, or where the history was seen to be full
abbrev pub Ends : (List Call → Type 0) → Ended → Tag → Bool → List Entry → List Entry → Type 0
Ends IsRun ended.Done tag full before after = Made IsRun tag before after
Ends IsRun ended.Cut tag full before after = Made (IsSpentOf IsRun) tag before after ⊎ ((full ≡ true) × Made (IsCutOf IsRun) tag before after)
