-- Wires have one key where they are doubles.
use Rattle.std.proofs.Common.{◌≡◌, ◌⊎◌, inl, inr, List, ap, sym, ◌∙◌, refl, IsTrue}
use Rattle.std.specs.Prelude.{Bool, true, false, cond, Option, None, Some}
use Rattle.std.proofs.lemmas.Bool.{false≢true}
use Rattle.osgi_space_rules.specs.computed.Keys.{place_at, provided, wire_key}
use Rattle.osgi_space_rules.specs.declared.keys.Provided.{Provided}
use Rattle.osgi_space_rules.specs.declared.keys.WireKey.{WireKey}
use Rattle.osgi_world.specs.Consistency.{AreDouble}
use Rattle.osgi_world.specs.Lookups.{is_multiple}
use Rattle.osgi_world.specs.declared.wiring.CapRef.{CapRef}
use Rattle.osgi_world.specs.declared.wiring.Wire.{Wire}
use Rattle.osgi_world.specs.declared.world.Known.{Known}

abbrev part : Bool → CapRef → Option Provided
part several c = cond several (Some (provided c)) None

part_same : (several : Bool) (c d : CapRef) → (¬ IsTrue several) ⊎ (c ≡ d) → part several c ≡ part several d
part_same true c d (inl one) = absurd (one refl)
part_same false c d (inl one) = refl
part_same several c d (inr same) = ap (part several) same

provided_back : (c d : CapRef) → provided c ≡ provided d → c ≡ d
provided_back c d same i = record { provider = (same i).provider; owner = (same i).place.owner; index = (same i).place.index }

some_back : {X : Type 0} (x y : X) → Some x ≡ Some y → x ≡ y
some_back x y same = cc same

same_part : (several : Bool) (c d : CapRef) → part several c ≡ part several d → (¬ IsTrue several) ⊎ (c ≡ d)
same_part true c d same = inr (provided_back c d (some_back (provided c) (provided d) same))
same_part false c d same = inl (λ t. false≢true t)

pub double_keys : (K : List Known) (v w : Wire) → AreDouble K v w → wire_key K v ≡ wire_key K w
double_keys K v w double =
    let asked : v.requirement ≡ w.requirement = double.0 in
    let parts : part (is_multiple K v.requirement) v.capability ≡ part (is_multiple K w.requirement) w.capability =
    part_same (is_multiple K v.requirement) v.capability w.capability double.1 ∙ ap (λ q. part (is_multiple K q) w.capability) asked in
    λ i. record { requirement = place_at (asked i).owner (asked i).index; capability = parts i }

pub keys_double : (K : List Known) (v w : Wire) → wire_key K v ≡ wire_key K w → AreDouble K v w
keys_double K v w same =
    let asked : v.requirement ≡ w.requirement = λ i. record { owner = (same i).requirement.owner; index = (same i).requirement.index } in
    let parts : part (is_multiple K v.requirement) v.capability ≡ part (is_multiple K v.requirement) w.capability =
    ap (λ (k : WireKey). k.capability) same ∙ ap (λ q. part (is_multiple K q) w.capability) (sym asked) in
    (asked, same_part (is_multiple K v.requirement) v.capability w.capability parts)
