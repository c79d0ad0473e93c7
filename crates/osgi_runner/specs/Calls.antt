-- What one call does, and what the calls of a command come to.
use Rattle.std.specs.Prelude.{◌≡◌, ◌≤◌, ℕ, length, Bool, true, false, List, [], ◌∷◌, ◌++◌, ◌⊎◌, map, MatchResult, Result}
use Rattle.osgi_base.specs.declared.ids.Tag.{Tag}
use Rattle.osgi_ops.specs.declared.entry.Entry.{Entry}
use Rattle.osgi_ops.specs.declared.op.Op.{Op}
use Rattle.osgi_ops.specs.declared.op.Op.TheVariants.{Hand}
use Rattle.osgi_ops.specs.declared.refusal.Refusal.TheVariants.{HandingsSpent, HistoryFull}
use Rattle.osgi_ops.specs.declared.reply.Reply.{Reply}
use Rattle.osgi_ops.specs.declared.reply.Reply.TheVariants.{Refused}
use Rattle.osgi_session.specs.Sessions.{AreTagged, call_of, IsCutRunOf}
use Rattle.osgi_session.specs.Runs.{Call, IsCutOf, IsDrain, IsSpentOf, Sections}
use Rattle.osgi_session.specs.declared.line.Line.{Line}

abbrev pub says_full : Reply → Bool
says_full (Refused HistoryFull) = true
says_full reply = false

abbrev pub says_spent : Reply → Bool
says_spent (Refused HandingsSpent) = true
says_spent reply = false

-- the command is cut there
abbrev pub says_cut : Reply → Bool
says_cut (Refused HistoryFull) = true
says_cut (Refused HandingsSpent) = true
says_cut reply = false

-- only a Hand is refused since enough was handed
abbrev pub SpentByHand : Op → Reply → Type 0
SpentByHand op reply = says_spent reply ≡ true → op ≡ Hand

-- a reply that is recorded is recorded with its call, and one that says that the history is full is not recorded and comes only
-- where it was seen to be full
abbrev pub IsAnswered : Bool → ℕ → Tag → Op → Reply → Bool → List Entry → List Entry → Type 0
IsAnswered true limit tag op reply full before after = (full ≡ true) × (after ≡ before)
IsAnswered false limit tag op reply full before after =
    (after ≡ before ++ record { tag = tag; op = op; reply = reply } ∷ []) × (length after ≤ limit) × SpentByHand op reply

-- a call: where memory was wanting there is nothing more
abbrev pub IsCalled : {E : Type 0} → Result Reply E → ℕ → Tag → Op → Bool → List Entry → List Entry → Type 0
IsCalled result limit tag op full before after = MatchResult result (λ reply. IsAnswered (says_full reply) limit tag op reply full before after) (λ failed. after ≡ before)

-- these entries were added
abbrev pub Adds : (List Entry → Type 0) → List Entry → List Entry → Type 0
Adds AreThey before after = (added : List Entry) × (after ≡ before ++ added) × AreThey added

-- a command that was cut: enough was handed, and its Hand was refused for that; or the history was seen to be full
abbrev pub IsCutShort : Sections → ℕ → Line → Bool → List Entry → List Entry → Type 0
IsCutShort script number line full before after =
    Adds (IsCutRunOf script number line true) before after ⊎ ((full ≡ true) × Adds (IsCutRunOf script number line false) before after)

-- ---- a drain that is called by itself

-- the entries are a whole drain by the caller, for the line
pub record IsDrainOf (script : Sections) (caller : ℕ) (line : Line) (entries : List Entry) : Type 0 where
  pub tagged : AreTagged caller line entries
  pub drain : IsDrain script (map call_of entries)

abbrev pub IsCutDrain : Sections → Bool → List Call → Type 0
IsCutDrain script true calls = IsSpentOf (IsDrain script) calls
IsCutDrain script false calls = IsCutOf (IsDrain script) calls

-- they are a drain that was cut, or never begun; `spent` says that it ends with a Hand refused since enough was handed
pub record IsCutDrainOf (script : Sections) (caller : ℕ) (line : Line) (spent : Bool) (entries : List Entry) : Type 0 where
  pub tagged : AreTagged caller line entries
  pub cut : IsCutDrain script spent (map call_of entries)

-- a drain that was cut: enough was handed, and its Hand was refused for that; or the history was seen to be full
abbrev pub IsDrainCutShort : Sections → ℕ → Line → Bool → List Entry → List Entry → Type 0
IsDrainCutShort script number line full before after =
    Adds (IsCutDrainOf script number line true) before after ⊎ ((full ≡ true) × Adds (IsCutDrainOf script number line false) before after)
