-- A single wire shows the only source.
use Rattle.osgi_space_sources.proofs.Clashing.{one-item, only-provider}
use Rattle.osgi_space_sources.proofs.clash.only_source.Goals as goal

pub returns : goal.returns
returns c =
    let imports = c.of-imports.result.now in
    record { only = only-provider c.args.rows.now c.args.revision c.args.package imports c.of-imports.ensures.rows _ (one-item imports _ c.if-imports-ne1.false) }
