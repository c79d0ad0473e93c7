-- A clause without a fault asks for what its directives say.
use Rattle.std.proofs.Common.{subst, sym}
use Rattle.osgi_world.specs.declared.requirement.Requirement.{Requirement}
use Rattle.osgi_package.specs.Only.{IsOnly}
use Rattle.osgi_clause.specs.Members.{IsRequiredBundle}
use Rattle.osgi_clause.specs.computed.Templates.{IsBundleOf, named_of}
use Rattle.osgi_clause.proofs.ByClause.{bundle_none, not_so, required_bundle}
use Rattle.osgi_clause.proofs.bundles.RequiredBundlesClauseReader.template.Goals as goal

pub returns-in-Some : goal.returns-in-Some
returns-in-Some c =
    let clause = c.args.clause.now in
    let is = subst (IsBundleOf clause) c.in-Some.is c.in_ok-bundle.ensures.bundle in
    record {
      template = (
        bundle_none clause c.in-Some.bundle (not_so _ c.in_ok-repeats.field-0 c.if-branch.false c.in_ok-repeats.ensures.repeats) is,
        λ path.
            subst (λ (b : Requirement). IsOnly (IsRequiredBundle clause path) (named_of b path)) (sym c.directed.ensures.directed) (required_bundle clause c.in-Some.bundle is path),
      );
    }
