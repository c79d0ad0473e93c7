-- What contracts see of a pass, read off what its seat knows, and what a pass that no call has is.
use Rattle.std.specs.Prelude.{◌≡◌, ℕ, ◌+◌, List, [], length, Option}
use Rattle.atomic_table.specs.Seated.{TableId}
use Rattle.atomic_table.specs.Table.{Me}
use Rattle.osgi_hall.specs.declared.entry.Entry.{Entry}
use Rattle.osgi_hall.specs.declared.board.Known.{Known}
use Rattle.osgi_hall.specs.declared.board.View.{View}
use Rattle.osgi_hall.specs.declared.board.View.TheVariants.{Live, Spent}
use Rattle.osgi_hall.specs.declared.board.Stage.TheVariants.{Idle}
use Rattle.osgi_hall.specs.Passes.{PassView, IsLegalFor}

module _ {O R Z : Type 0} where
  abbrev pub pass_view : TableId → View O R Z → PassView O R Z
  pass_view t Spent = record { hall = t; setting = []; caller = 0; seen = []; own = []; made = 0; out = 0; ended = [] }
  pass_view t (Live k) = record { hall = t; setting = k.setting; caller = k.caller; seen = k.seen; own = k.own; made = k.made; out = k.out; ended = k.ended }

  -- The seat is idle, its view has the pass's numbers, and what it knows is legal
  abbrev pub IsAtRest : {M : Type 0} → (Z → List (Entry O R) → Type 0) → ℕ → ℕ → ℕ → Me (Option M) (View O R Z) → Type 0
  IsAtRest can_make caller made out me = (k : Known O R Z) × (me ≡ (Live k, [])) × (k.stage ≡ Idle) × (k.caller ≡ caller) × (k.made ≡ made) × (k.out ≡ out) × IsLegalFor can_make k.setting k.caller k.seen k.own k.ended × (k.notes ≡ []) × (k.caller ≡ 0 → k.made ≡ k.out + 1 + length k.ended)
