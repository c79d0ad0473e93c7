-- The filter fits where it matches.
use Rattle.std.proofs.Common.{rules, ◌≡◌}
use Rattle.std.proofs.lemmas.Bool.Decides.{same_from_decides}
use Rattle.std.specs.Prelude.{bytes_eq}
use Rattle.osgi_model.specs.computed.MatchReader.{matches}
use Rattle.osgi_model.specs.laws.Decided.{matches_decides}
use Rattle.osgi_capability.proofs.satisfying.fits_filter.Goals as goal

pub returns-in-Some : goal.returns-in-Some
returns-in-Some c =
    let same : c.matches.result ≡ matches bytes_eq c.args.attributes.now c.get.result.now = same_from_decides _ _ c.matches.ensures.matches (matches_decides bytes_eq c.args.attributes.now _) in
    record { fits = search (rules, same, c.get.ensures.value) }
