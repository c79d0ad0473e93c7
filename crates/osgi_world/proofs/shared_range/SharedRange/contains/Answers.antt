-- Where no range is given, each version is within.
use Rattle.std.proofs.Common.{◌≡◌, ◌∙◌, true, ap, sym, subst}
use Rattle.osgi_version.specs.RangeValues.{is_within, range_parts}
use Rattle.osgi_version.specs.VersionValues.{parts}
use Rattle.osgi_world.specs.SharedRanges.{all_versions, given_or_all}
use Rattle.osgi_world.specs.laws.Ranges.{all_within}
use Rattle.osgi_world.proofs.shared_range.SharedRange.contains.Goals as goal

pub returns-in-None : goal.returns-in-None
returns-in-None c =
    let all : all_versions ≡ c.args.self.now = ap given_or_all (sym c.in-None.is) ∙ c.self.view_is in
    record { within = subst (λ range. true ≡ is_within (range_parts range) (parts c.args.version.now)) all (sym (all_within (parts c.args.version.now))) }
