-- Each possible source is noted.
use Rattle.std.proofs.Common.{sym, subst}
use Rattle.osgi_space_sources.specs.computed.Disputes.{AreDisputed}
use Rattle.osgi_space_sources.specs.declared.disputed.Disputed.{Disputed}
use Rattle.osgi_space_sources.specs.laws.Noted.{noted-disputed}
use Rattle.osgi_space_rows.specs.Worlds.{WorldLists}
use Rattle.osgi_space.proofs.disputed_rows.DisputedRows.disputed.Goals as goal

pub returns : goal.returns
returns c =
    let rows = c.self.inside.rows in
    let possible = c.self.inside.possible in
    record {
      disputed = subst (λ (d : Disputed). AreDisputed c.args.self.now.rows d) (sym c.disputed.ensures.disputed)
          (subst (λ (w : WorldLists). AreDisputed w.rows possible.disputed) c.self.view_is (noted-disputed rows.rows possible c.self.invariant));
    }
