-- What contracts see of a hall and of its passes.
use Rattle.std.specs.Prelude.{◌≡◌, ◌⊎◌, ℕ, ◌+◌, ◌-◌, List, [], ◌∷◌, ◌++◌, map}
use Rattle.std.specs.List.{All, Contains}
use Rattle.atomic_table.specs.Seated.{TableId}
use Rattle.osgi_hall.specs.declared.entry.Entry.{Entry}
use Rattle.osgi_hall.specs.declared.entry.Joined.{Joined}
use Rattle.osgi_hall.specs.Histories.{calls_by, longer}

-- a hall: which one it is, and the setting of its machine
pub record HallView (Z : Type 0) : Type 0 where
  pub id : TableId
  pub setting : Z

-- A pass: its hall, with the setting of that hall's machine as a list of one; its caller's number; the history that it has seen; the
-- calls of its caller. For caller 0 besides: the number of passes made, the number of others that have not joined, and the callers
-- that have, each with its calls.
pub record PassView (O R Z : Type 0) : Type 0 where
  pub hall : TableId
  pub setting : List Z
  pub caller : ℕ
  pub seen : List (Entry O R)
  pub own : List (Entry O R)
  pub made : ℕ
  pub out : ℕ
  pub ended : List (Joined O R)

module _ {O R Z : Type 0} where
  -- the pass is one of this hall
  abbrev pub IsPassOf : HallView Z → PassView O R Z → Type 0
  IsPassOf hall pass = (pass.hall ≡ hall.id) × (pass.setting ≡ hall.setting ∷ [])

  -- nothing of the pass has changed but what it has seen and the calls of its caller
  pub record IsSamePass (before after : PassView O R Z) : Type 0 where
    pub hall : after.hall ≡ before.hall
    pub setting : after.setting ≡ before.setting
    pub caller : after.caller ≡ before.caller
    pub made : after.made ≡ before.made
    pub out : after.out ≡ before.out
    pub ended : after.ended ≡ before.ended

  -- A machine of the setting can make the history that was seen. The entries of the caller there are exactly its own calls, each
  -- once and in order, and so are those of each caller that has joined.
  pub record IsLegalFor (can_make : Z → List (Entry O R) → Type 0) (setting : List Z) (caller : ℕ) (seen own : List (Entry O R)) (ended : List (Joined O R)) : Type 0 where
    pub can : All (λ (z : Z). can_make z seen) setting
    pub own_calls : calls_by caller seen ≡ own
    pub ended_calls : All (λ (e : Joined O R). calls_by e.caller seen ≡ e.own) ended

  abbrev pub IsLegal : (Z → List (Entry O R) → Type 0) → PassView O R Z → Type 0
  IsLegal can_make pass = IsLegalFor can_make pass.setting pass.caller pass.seen pass.own pass.ended

  -- the pass of caller 0 in a new hall
  abbrev pub first_pass : HallView Z → PassView O R Z
  first_pass hall = record { hall = hall.id; setting = hall.setting ∷ []; caller = 0; seen = []; own = []; made = 1; out = 0; ended = [] }

  -- the pass that another makes: its caller's number is the number of passes made before it, and it has seen what the other has
  abbrev pub new_pass : PassView O R Z → PassView O R Z
  new_pass pass = record { hall = pass.hall; setting = pass.setting; caller = pass.made; seen = pass.seen; own = []; made = 0; out = 0; ended = [] }

  -- the pass of caller 0 after it has made another
  abbrev pub after_split : PassView O R Z → PassView O R Z
  after_split pass = record pass { made = pass.made + 1; out = pass.out + 1 }

  -- the pass of caller 0 after another has joined it: it has seen the longer of both histories
  abbrev pub after_join : PassView O R Z → PassView O R Z → PassView O R Z
  after_join pass other = record pass { seen = longer pass.seen other.seen; out = pass.out - 1; ended = pass.ended ++ record { caller = other.caller; own = other.own } ∷ [] }

-- each entry is of caller 0 or of one that has joined
abbrev pub IsByKnownCallers : {O R : Type 0} → List (Joined O R) → List (Entry O R) → Type 0
IsByKnownCallers ended history = All (λ e. (e.tag.caller ≡ 0) ⊎ Contains (map (λ known. known.caller) ended) e.tag.caller) history
