-- What is computed is true just where the filter matches.
use Rattle.std.proofs.Common.{List, ap, ◌∙◌}
use Rattle.std.proofs.lemmas.Bool.Decides.{Decides-at}
use Rattle.osgi_model.specs.declared.value.Attribute.{Attribute}
use Rattle.osgi_model.specs.laws.Decided.{matches_decides}
use Rattle.osgi_model.specs.computed.MatchReader.{matches}
use Rattle.osgi_filter.specs.Names.{same_name}
use Rattle.osgi_filter.proofs.matching.matches.Goals as goal

pub returns-then-count-le-FEW_ATTRIBUTES : goal.returns-then-count-le-FEW_ATTRIBUTES
returns-then-count-le-FEW_ATTRIBUTES c =
    let same = c.is_match.ensures.matches ∙ ap (λ (attributes : List Attribute). matches (same_name c.args.case) attributes c.args.filter.now) c.items-attributes.ensures.items in
    record { matches = Decides-at _ _ same (matches_decides (same_name c.args.case) c.args.attributes.now c.args.filter.now) }

pub returns-then-count-le-SMALL_TABLE : goal.returns-then-count-le-SMALL_TABLE
returns-then-count-le-SMALL_TABLE c =
    let same = c.is_match_by_small_table.ensures.matches ∙ ap (λ (attributes : List Attribute). matches (same_name c.args.case) attributes c.args.filter.now) c.items-attributes.ensures.items in
    record { matches = Decides-at _ _ same (matches_decides (same_name c.args.case) c.args.attributes.now c.args.filter.now) }

pub returns-else-count-le-SMALL_TABLE : goal.returns-else-count-le-SMALL_TABLE
returns-else-count-le-SMALL_TABLE c =
    let same = c.is_match_by_large_table.ensures.matches ∙ ap (λ (attributes : List Attribute). matches (same_name c.args.case) attributes c.args.filter.now) c.items-attributes.ensures.items in
    record { matches = Decides-at _ _ same (matches_decides (same_name c.args.case) c.args.attributes.now c.args.filter.now) }
