-- The index by location.
use Rattle.std.proofs.Common.{ap, ◌∙◌}
use Rattle.std.specs.Prelude.{find}
use Rattle.std.specs.Option.{option_map}
use Rattle.osgi_bundle.specs.declared.kept.BundleKept.{BundleKept}
use Rattle.osgi_bundle.proofs.Names.{tied_location}
use Rattle.osgi_bundle.proofs.table.Table.from_location.Goals as goal

pub returns : goal.returns
returns c =
    rw (← c.self.view_is)
    (record {
      bundle =
          c.at_location.ensures.bundle
          ∙ c.self.invariant.index.locations c.args.location.now
          ∙ ap (λ test. option_map (λ (row : BundleKept). row.bundle) (find test c.self.inside.rows.items)) (λ i row. tied_location c.args.location.now row.location i);
    })
