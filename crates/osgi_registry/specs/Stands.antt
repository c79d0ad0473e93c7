-- Which histories a registry stands for.
use Rattle.std.specs.Prelude.{◌≡◌, ◌≤◌, List, [], ◌∷◌, ◌++◌, Some, length}
use Rattle.osgi_base.specs.declared.ids.BundleId.{BundleId}
use Rattle.osgi_base.specs.declared.ids.Tag.{Tag}
use Rattle.osgi_ops.specs.Cleaning.{cleaned_by}
use Rattle.osgi_ops.specs.Services.{gets, live_services, Registered, registered, service_now, ungets, uses_without_makes}
use Rattle.osgi_ops.specs.declared.entry.Entry.{Entry}
use Rattle.osgi_ops.specs.declared.op.Op.{Op}
use Rattle.osgi_ops.specs.declared.reply.Reply.{Reply}
use Rattle.osgi_registry.specs.Rows.{count_of, RegistryRows, LiveService}

-- the row of a registered service has it as it stands and its scope, and counts each user's uses; no user gave back more than it took
pub record IsRowOf (row : LiveService) (r : Registered) : Type 0 where
  pub service : row.service ≡ service_now r
  pub scope : row.scope ≡ r.scope
  pub uses : (user : BundleId) → count_of user row.uses ≡ uses_without_makes user r
  pub paid : (user : BundleId) → ungets user r ≤ gets user r

abbrev pub AreRowsOf : List LiveService → List Registered → Type 0
AreRowsOf [] [] = Unit {0}
AreRowsOf (row ∷ rows) (r ∷ rest) = IsRowOf row r × AreRowsOf rows rest
AreRowsOf _ _ = ⊥

-- row by row the live services of the history, and as many ids as it registered services
pub record StandsFor (history : List Entry) (registry : RegistryRows) : Type 0 where
  pub rows : AreRowsOf registry.rows (live_services history)
  pub issued : registry.issued ≡ length (registered history)

-- if it stood for a history, it stands for that history with one more entry, of this operation and reply
abbrev pub StandsAfter : Op → Reply → RegistryRows → RegistryRows → Type 0
StandsAfter op reply old new =
    (history : List Entry) (tag : Tag) → StandsFor history old → StandsFor (history ++ record { tag = tag; op = op; reply = reply } ∷ []) new

-- if it stood for a history, it stands for that history with an entry that cleans the bundle
abbrev pub StandsCleaned : BundleId → RegistryRows → RegistryRows → Type 0
StandsCleaned bundle old new = (history : List Entry) (e : Entry) → cleaned_by e.op e.reply ≡ Some bundle → StandsFor history old → StandsFor (history ++ e ∷ []) new
