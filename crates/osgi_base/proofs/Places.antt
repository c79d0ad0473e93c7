-- Places with a value or none.
use Rattle.std.proofs.Common.{◌≡◌, ℕ, zero, suc, List, [], ◌∷◌, ◌++◌, refl, ◌∙◌, ap, cond, ltb, Option, None, get_or}
use Rattle.std.specs.BTreeMap.{BTreeMap, get}
use Rattle.std.specs.Ordering.{nat_cmp}
use Rattle.osgi_base.specs.NumberMaps.{HoldsSame}
use Rattle.osgi_base.specs.declared.number_map.NumberMap.{NumberMap}
use Rattle.osgi_base.specs.declared.number_map.TheConstants.{LOW}

get_or-append_none : {T : Type 0} (xs : List (Option T)) (n : ℕ) → get_or (xs ++ None ∷ []) n None ≡ get_or xs n None
get_or-append_none [] zero = refl
get_or-append_none [] (suc n) = refl
get_or-append_none (x ∷ xs) zero = refl
get_or-append_none (x ∷ xs) (suc n) = get_or-append_none xs n

-- a place more has no value, as no place has
pub holds-more_places : {T : Type 0} (old new : NumberMap T) → new.low.items ≡ old.low.items ++ None ∷ [] → new.high ≡ old.high → HoldsSame old new
holds-more_places {T} old new low high = λ n.
    ap (λ (xs : List (Option T)). cond (ltb n LOW) (get_or xs n None) (get nat_cmp new.high n)) low
    ∙ ap (λ (o : Option T). cond (ltb n LOW) o (get nat_cmp new.high n)) (get_or-append_none old.low.items n)
    ∙ ap (λ (high : BTreeMap ℕ T). cond (ltb n LOW) (get_or old.low.items n None) (get nat_cmp high n)) high
