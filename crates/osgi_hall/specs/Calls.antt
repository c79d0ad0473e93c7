-- What a call does to the pass that makes it.
use Rattle.std.specs.Prelude.{◌≡◌, ℕ, Bool, List, [], ◌∷◌, ◌++◌, Result, MatchResult, MatchBool}
use Rattle.osgi_base.specs.declared.ids.Tag.{Tag}
use Rattle.osgi_hall.specs.declared.entry.Entry.{Entry}
use Rattle.osgi_hall.specs.Histories.{BeginsWith, entry}
use Rattle.osgi_hall.specs.Passes.{PassView}

module _ {O R Z : Type 0} where
  abbrev pub tag_of : PassView O R Z → ℕ → Tag
  tag_of pass command = record { caller = pass.caller; command = command }

  -- the history that is then seen begins with the one seen before and ends with this entry, which is one more of the caller's own calls
  abbrev pub AddsEntry : PassView O R Z → PassView O R Z → Entry O R → Type 0
  AddsEntry before after e = (between : List (Entry O R)) × (after.seen ≡ (before.seen ++ between) ++ e ∷ []) × (after.own ≡ before.own ++ e ∷ [])

  -- the history that is then seen begins with the one seen before, and the caller's own calls are the same
  abbrev pub AddsNone : PassView O R Z → PassView O R Z → Type 0
  AddsNone before after = BeginsWith after.seen before.seen × (after.own ≡ before.own)

  -- Where the reply is recorded, the call's entry is added. Where it is not, none is, and the machine gives this reply at the
  -- history that is then seen. If memory runs out, none is.
  abbrev pub IsCall : {E : Type 0} → (R → Bool) → (List (Entry O R) → O → R → Type 0) → PassView O R Z → PassView O R Z → ℕ → O → Result R E → Type 0
  IsCall is_recorded gives before after command op answer = MatchResult answer
      (λ reply. MatchBool (is_recorded reply) (AddsEntry before after (entry (tag_of before command) op reply)) (AddsNone before after × gives after.seen op reply))
      (λ _. AddsNone before after)
