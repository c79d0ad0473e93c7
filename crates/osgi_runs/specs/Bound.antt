-- What a legal history says of the calls of one command, beside the brackets that its caller has open.
use Rattle.std.specs.Prelude.{◌≡◌, ◌⊎◌, ℕ, ◌≤◌, Bool, true, false, List, [], ◌∷◌, Option, None, Some, length, ⊤}
use Rattle.osgi_base.specs.declared.ids.Tag.{Tag}
use Rattle.osgi_ops.specs.Brackets.{Bracket, bracket, Cause, ends, opens}
use Rattle.osgi_ops.specs.OwnBrackets.{is_end, own_closes, own_turned}
use Rattle.osgi_session.specs.Plans.{Plan, ask, run, stop, stirs}
use Rattle.osgi_ops.specs.Replies.{took_effect}
use Rattle.osgi_session.specs.Rendering.{takes_no_job}
use Rattle.osgi_session.specs.Runs.{Call, drained, ends_drain, ends_jobs, taking, planned, statements, Task}
use Rattle.osgi_ops.specs.declared.op.Op.{Op}
use Rattle.osgi_ops.specs.declared.op.Op.TheVariants.{EndMake, Hand, TakeJob}
use Rattle.osgi_ops.specs.declared.reply.Reply.{Reply}
use Rattle.osgi_ops.specs.declared.reply.Reply.TheVariants.{Nothing}

abbrev pub is_take : Op → Bool
is_take TakeJob = true
is_take _ = false

abbrev pub is_hand : Op → Bool
is_hand Hand = true
is_hand _ = false

-- a Hand that finds nothing to hand
abbrev pub finds_nothing : Op → Reply → Bool
finds_nothing Hand (Nothing busy) = true
finds_nothing _ _ = false

-- an operation that is the end of its caller's innermost bracket ended it with this reply: that of a make, refused or not, and any other
-- that did its work
abbrev pub has_closed : Op → Reply → Bool
has_closed (EndMake failed) reply = true
has_closed op reply = took_effect reply

-- what its reply is bound to: the end of the innermost bracket is not refused as none; and a Hand that ends its drain finds nothing to hand,
-- and a TakeJob that takes no job finds none, unless as many brackets are open as there may be
pub record IsBound (limit : ℕ) (tag : Tag) (own : List Bracket) (c : Call) : Type 0 where
  pub ended : own_closes tag c.op own ≡ true → has_closed c.op c.reply ≡ true
  pub found : is_hand c.op ≡ true → ends_drain c.reply ≡ true → (finds_nothing c.op c.reply ≡ true) ⊎ (limit ≤ length own)
  pub taken : is_take c.op ≡ true → ends_jobs c.reply ≡ true → (takes_no_job c.op c.reply ≡ true) ⊎ (limit ≤ length own)

-- each of the calls is so, and this holds of the brackets after them
abbrev pub AreBound : ℕ → Tag → (List Bracket → Type 0) → List Bracket → List Call → Type 0
AreBound limit tag after own [] = after own
AreBound limit tag after own (c ∷ rest) = IsBound limit tag own c × AreBound limit tag after (own_turned tag (opens c.op c.reply) (own_closes tag c.op own) own) rest

-- a plan closes what it opens: with Some cause that bracket is open, and the plan's next operation is its end
abbrev pub Closes : Option Cause → Plan → Type 0
Closes None (stop end) = ⊤
Closes (Some cause) (stop end) = ⊥
Closes o (run row owner which next) = (fails : Bool) → Closes o (next fails)
Closes None (ask asks next) = (is_end asks ≡ false) × ((reply : Reply) → Closes (opens asks reply) (next reply))
Closes (Some cause) (ask asks next) = (ends asks cause ≡ true) × ((reply : Reply) → has_closed asks reply ≡ true → (stirs asks reply ≡ true) × Closes None (next reply))

abbrev pub ClosesTask : Option Cause → Task → Type 0
ClosesTask o (planned p) = Closes o p
ClosesTask o _ = o ≡ None

abbrev pub push : Tag → Option Cause → List Bracket → List Bracket
push tag None own = own
push tag (Some cause) own = bracket tag cause ∷ own

-- a plan asks for no job
abbrev pub NoTake : Plan → Type 0
NoTake (stop end) = ⊤
NoTake (ask asks next) = (is_take asks ≡ false) × ((reply : Reply) → NoTake (next reply))
NoTake (run row owner which next) = (fails : Bool) → NoTake (next fails)

abbrev pub NoTakeTask : Task → Type 0
NoTakeTask (planned p) = NoTake p
NoTakeTask (drained b) = ⊤
NoTakeTask (statements owner bindings list) = ⊤
NoTakeTask taking = ⊥
