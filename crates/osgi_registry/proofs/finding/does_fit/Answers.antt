-- What is computed is what the filter says.
use Rattle.std.proofs.Common.{ap, ◌∙◌, sym}
use Rattle.std.specs.Option.{option_copied}
use Rattle.std.specs.Str.{str_eq_ignore_ascii_case}
use Rattle.std.proofs.lemmas.Bool.Decides.{same_from_decides}
use Rattle.osgi_model.specs.laws.Decided.{matches_decides}
use Rattle.osgi_registry.specs.computed.Finding.{does_fit}
use Rattle.osgi_registry.proofs.finding.does_fit.Goals as goal

pub returns-in-Some : goal.returns-in-Some
returns-in-Some c = record {
  fits =
      same_from_decides _ _ c.matches.ensures.matches (matches_decides str_eq_ignore_ascii_case c.args.service.now.properties c.in-Some.filter.now)
      ∙ ap (λ issued. does_fit (option_copied issued) c.args.service.now) (sym c.in-Some.is);
}
