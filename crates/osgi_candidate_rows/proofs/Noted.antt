-- What is noted of the items that are out.
use Rattle.std.proofs.Common.{◌≡◌, ℕ, ◌||◌, ◌==◌, Bool, true, false, List, ◌∷◌, get_or, reverse, Result, Ok, Err, OnErr, refl, sym, ap, ◌∙◌, arith}
use Rattle.std.specs.declared.alloc.Global.{Global}
use Rattle.std.specs.declared.vec.Vec.{Vec}
use Rattle.osgi_links.specs.Held.{has}
use Rattle.osgi_candidate_rows.specs.computed.Gone.{Tells}
use Rattle.osgi_candidate_rows.specs.declared.gone.Gone.{Gone}

-- ---- whether a number is in a list

head-same : (a x : ℕ) → x ≡ a → (x == a) ≡ true
head-same a x e = grind (arith, e)

or-right : (b : Bool) → (b || true) ≡ true
or-right true = refl
or-right false = refl

pub has-head : (a x : ℕ) (xs : List ℕ) → a ≡ x → has (a ∷ xs) x ≡ true
has-head a x xs e = ap (λ b. b || has xs x) (head-same a x (sym e))

pub has-tail : (a x : ℕ) (xs : List ℕ) → has xs x ≡ true → has (a ∷ xs) x ≡ true
has-tail a x xs t = ap (λ b. (x == a) || b) t ∙ or-right (x == a)

-- ---- notes

pub on-err : {A E P : Type 0} (r : Result A E) → P → OnErr r P
on-err (Ok x) p = tt
on-err (Err e) p = p

-- where nothing is noted
pub tells-same : (old new : Gone) → new.is_out ≡ old.is_out → new.order.items ≡ old.order.items → (removed : List ℕ) → Tells old removed → Tells new removed
tells-same old new flags order removed tells = record {
  noted = λ x t. ap (λ (v : Vec Bool Global). get_or v.items x true) flags ∙ tells.noted x t;
  order = ap reverse order ∙ tells.order;
  once = tells.once;
}
