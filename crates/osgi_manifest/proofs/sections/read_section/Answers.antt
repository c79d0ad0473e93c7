-- What was made of the clauses is what the header makes.
use Rattle.std.proofs.Common.{subst}
use Rattle.osgi_world.specs.declared.manifest_fault.ManifestKind.TheVariants.{BadClause}
use Rattle.osgi_package.specs.Only.{IsOnly}
use Rattle.osgi_clause.specs.Walks.{Walked}
use Rattle.osgi_manifest.specs.computed.Answers.{IsMadeIn, IsStep}
use Rattle.osgi_manifest.specs.computed.Steps.{section_conditions}
use Rattle.osgi_manifest.proofs.InHeaders.{header_step}
use Rattle.osgi_manifest.proofs.sections.read_section.Goals as goal

pub returns : goal.returns
returns g c =
    let headers = c.args.headers.now in
    let faults = g.S.Section.faults in
    let Makes = g.S.Section.makes in
    record {
      step = subst (λ n. IsStep (section_conditions headers n faults) (IsOnly (IsMadeIn Makes headers n)) c.made_of.result) c.name-name.ensures.name
          (header_step faults BadClause Makes c.name-name.result.now headers c.in_ok-read.read c.in_ok-made.made c.made_of.result c.in_ok-read.ensures.read
          (subst (λ l. Walked faults Makes l c.in_ok-made.made) c.items.ensures.items c.in_ok-made.ensures.walked) c.made_of.ensures.made);
    }
