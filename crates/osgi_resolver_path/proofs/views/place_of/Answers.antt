-- By what stands under its number.
use Rattle.std.proofs.Common.{◌∙◌}
use Rattle.osgi_resolver_path.proofs.views.place_of.Goals as goal

pub returns : goal.returns
returns c = record { place = λ n there. c.copied.ensures ∙ c.get.ensures.value ∙ c.requires.placed c.args.member n there }
