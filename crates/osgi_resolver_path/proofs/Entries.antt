-- Items by their places, and what the values of decisions add.
use Rattle.std.proofs.Common.{◌≡◌, ℕ, zero, suc, Bool, true, false, if◌then◌else◌, List, [], ◌∷◌, ◌++◌, map, Some, None, refl}
use Rattle.std.specs.Prelude.{slice_get}
use Rattle.osgi_base.specs.declared.ids.RevisionId.{RevisionId}
use Rattle.osgi_world.specs.Decisions.{Step, wired_to}
use Rattle.osgi_world.specs.Lists.{nth_list, item_at}
use Rattle.osgi_world.specs.declared.wiring.CapRef.{CapRef}
use Rattle.osgi_world.specs.declared.wiring.ReqRef.{ReqRef}

-- ---- items by place

pub item-some : {X : Type 0} (xs : List X) (n : ℕ) (x : X) → slice_get xs n ≡ Some x → item_at xs n ≡ x ∷ []
item-some [] n x e = cc
item-some (y ∷ ys) zero x e = cc
item-some (y ∷ ys) (suc n) x e = item-some ys n x e

pub item-none : {X : Type 0} (xs : List X) (n : ℕ) → slice_get xs n ≡ None → item_at xs n ≡ []
item-none [] n e = refl
item-none (y ∷ ys) zero e = cc
item-none (y ∷ ys) (suc n) e = item-none ys n e

-- ---- values

none-entry : (b : Bool) (n : ℕ) → nth_list {X = Step} (if b then [] ∷ [] else []) n ≡ []
none-entry true zero = refl
none-entry true (suc n) = refl
none-entry false n = refl

-- a candidate by its place, or nothing
pub entry-chosen : (h : RevisionId) (q : ReqRef) (cs : List CapRef) (b : Bool) (n : ℕ) → nth_list (map (λ c. wired_to h q c ∷ []) cs ++ (if b then [] ∷ [] else [])) n ≡ map (wired_to h q) (item_at cs n)
entry-chosen h q [] b n = none-entry b n
entry-chosen h q (c ∷ cs) b zero = refl
entry-chosen h q (c ∷ cs) b (suc n) = entry-chosen h q cs b n
