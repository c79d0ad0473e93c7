-- Fewer rows have fewer possible sources.
use Rattle.std.proofs.Common.{◌≡◌, ◌∙◌, ap, sym, subst}
use Rattle.osgi_space_sources.specs.computed.Disputes.{AreNoted}
use Rattle.osgi_space_sources.specs.laws.Noted.{noted-fewer}
use Rattle.osgi_space_rows.specs.Rows.{RowLists}
use Rattle.osgi_space_rows.specs.Worlds.{WorldLists, with_added}
use Rattle.osgi_space.proofs.disputed_rows.DisputedRows.take_back.Goals as goal

pub invariant_of-self : goal.invariant_of-self
invariant_of-self c =
    let R = c.requires.last.0 in
    let possible = c.self.inside.possible in
    let last : c.self.inside.rows.rows ≡ with_added R c.args.added = ap (λ (w : WorldLists). w.rows) c.self.view_is ∙ c.requires.last.1 in
    let back = c.take_back.ensures.taken.rows R last in
    subst (λ (S : RowLists). AreNoted S possible) (sym back) (noted-fewer R c.args.added possible (subst (λ (S : RowLists). AreNoted S possible) last c.self.invariant))
