-- Histories: lists of entries, in the order in which the machine recorded them.
use Rattle.std.specs.Prelude.{◌≡◌, ℕ, ◌==◌, Bool, List, [], ◌∷◌, ◌++◌, length, filter, nat_le, if◌then◌else◌, Result, MatchResult, MatchBool}
use Rattle.osgi_base.specs.declared.ids.Tag.{Tag}
use Rattle.osgi_hall.specs.declared.entry.Entry.{Entry}

-- the second list is a prefix of the first
abbrev pub BeginsWith : {A : Type 0} → List A → List A → Type 0
BeginsWith {A = A} list prefix = (rest : List A) × (list ≡ prefix ++ rest)

-- a hint tells of a prefix of this history
abbrev pub TellsOfPrefix : {A H : Type 0} → (List A → H → Type 0) → List A → H → Type 0
TellsOfPrefix {A = A} hints history hint = (prefix : List A) × BeginsWith history prefix × hints prefix hint

-- the longer of two lists
abbrev pub longer : {A : Type 0} → List A → List A → List A
longer a b = if nat_le (length a) (length b) then b else a

module _ {O R : Type 0} where
  abbrev pub entry : Tag → O → R → Entry O R
  entry tag op reply = record { tag = tag; op = op; reply = reply }

  -- the entries of one caller, in their order
  abbrev pub calls_by : ℕ → List (Entry O R) → List (Entry O R)
  calls_by caller history = filter (λ e. e.tag.caller == caller) history

  -- What one operation does to a history. Where its reply is recorded, its entry is added at the end. Where it is not, nothing is
  -- added, and the machine gives this reply at this history. If memory runs out, nothing is added.
  abbrev pub IsApplied : {E : Type 0} → (R → Bool) → (List (Entry O R) → O → R → Type 0) → List (Entry O R) → List (Entry O R) → Tag → O → Result R E → Type 0
  IsApplied is_recorded gives before after tag op answer = MatchResult answer
      (λ reply. MatchBool (is_recorded reply) (after ≡ before ++ entry tag op reply ∷ []) ((after ≡ before) × gives before op reply))
      (λ _. after ≡ before)
