-- What the row adds is noted; where that fails, the row is taken back.
use Rattle.std.proofs.Common.{◌∙◌, sym, subst}
use Rattle.osgi_space_sources.specs.computed.Disputes.{AreNoted, NotesMore}
use Rattle.osgi_space_sources.specs.laws.Noted.{noted-still}
use Rattle.osgi_space_rows.specs.Rows.{RowLists}
use Rattle.osgi_space_rows.specs.Worlds.{WorldLists}
use Rattle.osgi_space.proofs.disputed_rows.DisputedRows.attach.Goals as goal

pub invariant_of-self : goal.invariant_of-self
invariant_of-self c = subst (λ (w : WorldLists). AreNoted w.rows c.self.inside.possible) (sym c.in_err-added.ensures.unchanged) c.self.invariant

pub invariant_of-self-in-Err : goal.invariant_of-self-in-Err
invariant_of-self-in-Err c =
    let R = c.self.inside.rows.rows in
    let added = c.in_ok-added.added in
    let old = c.self.inside.possible in
    let back = c.take_back.ensures.taken.rows R c.in_ok-added.ensures.added.rows in
    let extends = subst (λ (S : RowLists). NotesMore S old c.note.new.possible) (c.rows.ensures.rows ∙ c.in_ok-added.ensures.added.rows) c.note.ensures.extends in
    subst (λ (S : RowLists). AreNoted S c.note.new.possible) (sym back) (noted-still R added old c.note.new.possible c.self.invariant extends)

pub invariant_of-self-in_default : goal.invariant_of-self-in_default
invariant_of-self-in_default c =
    subst (λ (R : RowLists). AreNoted R c.note.new.possible) c.rows.ensures.rows (c.in_default.ensures.noted c.self.inside.rows.rows (c.rows.ensures.rows ∙ c.in_ok-added.ensures.added.rows) c.self.invariant)
