-- The sources that are found are those of the package for the exporter.
use Rattle.std.proofs.Common.{List, refl, sym, subst, Contains}
use Rattle.osgi_space_sources.specs.declared.given.Given.{Given}
use Rattle.osgi_space_sources.proofs.trace.trace_use.Goals as goal

pub returns-clause-traced : goal.returns-clause-traced
returns-clause-traced c = λ x source.
    let s : Given = record { «package» = c.args.used; source = x } in
    c.in_ok-trace_sources.ensures.traced s (subst (λ (xs : List Given). Contains xs s) (sym c.as_slice.ensures.value) ((c.in_ok-sources.ensures.sources s).1 (refl, source)))
