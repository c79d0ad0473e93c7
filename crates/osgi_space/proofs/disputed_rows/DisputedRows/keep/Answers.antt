-- The rows of the whole world are kept.
use Rattle.std.proofs.Common.{◌∙◌, length, ap, refl, sym, subst}
use Rattle.osgi_space_sources.specs.computed.Disputes.{AreNoted}
use Rattle.osgi_space.proofs.Followed.{follows-whole}
use Rattle.osgi_space_rows.specs.Agree.{AreRowsOf}
use Rattle.osgi_space_rows.specs.Names.{name_numbered}
use Rattle.osgi_space_rows.specs.Rows.{RowLists}
use Rattle.osgi_space_rows.specs.Worlds.{WorldLists}
use Rattle.osgi_space_rows.specs.declared.named.Named.{Named}
use Rattle.osgi_space.proofs.disputed_rows.DisputedRows.keep.Goals as goal

pub returns : goal.returns
returns c =
    let world = c.args.self in
    let W = c.args.wirings.now in
    let n = c.into_named.result in
    let possible = c.self.inside.possible in
    let known = c.all-known.ensures.known ∙ c.known.ensures.known ∙ ap (λ (w : WorldLists). w.known) c.self.view_is in
    let names = c.into_named.ensures.names ∙ ap (λ (w : WorldLists). w.names) c.self.view_is in
    let rows = c.into_named.ensures.rows ∙ ap (λ (w : WorldLists). w.rows) c.self.view_is in
    let are = subst (λ (m : Named). AreRowsOf world.known W (name_numbered m.names) m.rows) (λ i. record { names = sym names i; rows = sym rows i }) c.requires.rows in
    let noted = subst (λ (R : RowLists). AreNoted R possible) (sym c.into_named.ensures.rows) c.self.invariant in
    record {
      follows = follows-whole (record { named = n; possible = possible; known = length c.all-known.result.now; wirings = length W }) world.known W (ap length known) refl c.requires.all_known are c.into_named.ensures.numbered noted;
    }
