-- The filter of a requirement that is of no bundle and no package asks for the text.
use Rattle.std.proofs.Common.{◌≡◌, ◌∙◌, false, ap, rules, sym}
use Rattle.std.specs.Prelude.{Some}
use Rattle.osgi_capability.proofs.Asking.{satisfied_has, some_like}
use Rattle.osgi_world.specs.Satisfaction.{is_bundle, is_package}
use Rattle.osgi_capability.proofs.asked.asked_text.Goals as goal

pub returns-in-Some : goal.returns-in-Some
returns-in-Some c =
    let q = c.args.requirement.now in
    let no_bundle : is_bundle q.namespace ≡ false = search rules in
    let no_package : is_package q.namespace ≡ false = search rules in
    let is : q.filter ≡ Some c.get.result.now = c.in-Some.is ∙ ap Some (sym c.get.ensures.value) in
    record {
      asked = some_like _ _ c.filter_text.result (λ asked asks. satisfied_has q c.get.result.now asked.attribute.now asked.text.now is no_bundle no_package asks) c.filter_text.ensures.asked;
    }
