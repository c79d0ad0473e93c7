-- What stands where halving ends is the first of the name, or there is none of it.
use Rattle.std.proofs.Common.{◌≡◌, ◌≤◌, ℕ, List, Some, length, ap, sym, ◌∙◌, subst, rules}
use Rattle.std.specs.Prelude.{slice_get}
use Rattle.std.specs.Option.{option_copied}
use Rattle.osgi_model.specs.Matching.{attribute_value}
use Rattle.osgi_filter.specs.Names.{same_name}
use Rattle.osgi_filter.proofs.NameLookups.{behind_all, found_value, none_outside, other_value, past_end, point_is, taken}
use Rattle.osgi_filter.proofs.name_order.first_value.Goals as goal

pub returns-in_err-place : goal.returns-in_err-place
returns-in_err-place c =
    let case = c.args.case in
    let attributes = c.args.attributes.now in
    let places = c.args.places.now in
    let name = c.bytes-sought.result.now in
    let at = c.partition_point-at.result in
    let point = point_is case attributes places c.requires.order name at c.partition_point-at.ensures.partitioned (λ a r f' k. search rules) in
    let le : length places ≤ at = past_end places at c.get.result c.get.ensures.lookup c.in_err-place.was in
    record { value = ap option_copied c.from_residual.ensures ∙ behind_all case attributes places c.requires.order name at point le ∙ ap (λ (n : List ℕ). attribute_value (same_name case) n attributes) c.bytes-sought.ensures.bytes }

pub returns-in_err-attribute : goal.returns-in_err-attribute
returns-in_err-attribute c =
    let case = c.args.case in
    let attributes = c.args.attributes.now in
    let places = c.args.places.now in
    let name = c.bytes-sought.result.now in
    let at = c.partition_point-at.result in
    let point = point_is case attributes places c.requires.order name at c.partition_point-at.ensures.partitioned (λ a r f' k. search rules) in
    let here : slice_get places at ≡ Some c.in_ok-place.place.now = taken places at c.get.result c.in_ok-place.place c.get.ensures.lookup c.in_ok-place.was in
    let index : c.from.result ≡ c.in_ok-place.place.now = search rules in
    let le : length attributes ≤ c.in_ok-place.place.now
    = subst (λ (i : ℕ). length attributes ≤ i) index (past_end attributes c.from.result c.get-2.result c.get-2.ensures.lookup c.in_err-attribute.was) in
    absurd (none_outside case attributes places c.requires.order name at point c.in_ok-place.place.now here le)

pub returns-then-is_same : goal.returns-then-is_same
returns-then-is_same c =
    let case = c.args.case in
    let attributes = c.args.attributes.now in
    let places = c.args.places.now in
    let name = c.bytes-sought.result.now in
    let at = c.partition_point-at.result in
    let point = point_is case attributes places c.requires.order name at c.partition_point-at.ensures.partitioned (λ a r f' k. search rules) in
    let here : slice_get places at ≡ Some c.in_ok-place.place.now = taken places at c.get.result c.in_ok-place.place c.get.ensures.lookup c.in_ok-place.was in
    let index : c.from.result ≡ c.in_ok-place.place.now = search rules in
    let there : slice_get attributes c.in_ok-place.place.now ≡ Some c.in_ok-attribute.attribute.now
    = ap (slice_get attributes) (sym index) ∙ taken attributes c.from.result c.get-2.result c.in_ok-attribute.attribute c.get-2.ensures.lookup c.in_ok-attribute.was in
    let same : c.is_same.result ≡ same_name case c.in_ok-attribute.attribute.now.name name
    = c.is_same.ensures.same ∙ ap (same_name case c.in_ok-attribute.attribute.now.name) (sym c.bytes-sought.ensures.bytes) in
    record { value = found_value case attributes places c.requires.order name at point c.in_ok-place.place.now c.in_ok-attribute.attribute.now here there (sym same ∙ c.if-is_same.true) ∙ ap (λ (n : List ℕ). attribute_value (same_name case) n attributes) c.bytes-sought.ensures.bytes }

pub returns-else-is_same : goal.returns-else-is_same
returns-else-is_same c =
    let case = c.args.case in
    let attributes = c.args.attributes.now in
    let places = c.args.places.now in
    let name = c.bytes-sought.result.now in
    let at = c.partition_point-at.result in
    let point = point_is case attributes places c.requires.order name at c.partition_point-at.ensures.partitioned (λ a r f' k. search rules) in
    let here : slice_get places at ≡ Some c.in_ok-place.place.now = taken places at c.get.result c.in_ok-place.place c.get.ensures.lookup c.in_ok-place.was in
    let index : c.from.result ≡ c.in_ok-place.place.now = search rules in
    let there : slice_get attributes c.in_ok-place.place.now ≡ Some c.in_ok-attribute.attribute.now
    = ap (slice_get attributes) (sym index) ∙ taken attributes c.from.result c.get-2.result c.in_ok-attribute.attribute c.get-2.ensures.lookup c.in_ok-attribute.was in
    let same : c.is_same.result ≡ same_name case c.in_ok-attribute.attribute.now.name name
    = c.is_same.ensures.same ∙ ap (same_name case c.in_ok-attribute.attribute.now.name) (sym c.bytes-sought.ensures.bytes) in
    record { value = other_value case attributes places c.requires.order name at point c.in_ok-place.place.now c.in_ok-attribute.attribute.now here there (sym same ∙ c.if-is_same.false) ∙ ap (λ (n : List ℕ). attribute_value (same_name case) n attributes) c.bytes-sought.ensures.bytes }
