-- The range is that of the clause's text.
use Rattle.std.proofs.Common.{subst}
use Rattle.std.specs.Prelude.{Some}
use Rattle.osgi_package.specs.computed.ImportReader.{IsRangeOf}
use Rattle.osgi_clause.proofs.bundles.bundle.Goals as goal

pub returns : goal.returns
returns c =
    let ranged = subst (IsRangeOf c.version_text.result.now) c.in-Some.is c.in_ok-range.ensures.range in
    record {
      bundle = record {
        range = c.in-Some.range;
        any = c.in_ok-any.any;
        is_range = subst (λ t. IsRangeOf t (Some c.in-Some.range)) c.version_text.ensures.text ranged;
        is_any = c.in_ok-any.ensures.any;
        is = c.in_ok-bundle_in.ensures.bundle;
      };
    }
