-- What an answer was made from.
use Rattle.std.proofs.Common.{◌≡◌, ℕ, List, [], ◌∷◌, ap, sym, ◌∙◌, refl}
use Rattle.std.specs.Prelude.{Bool, true, false, Option, None, Some}
use Rattle.std.specs.List.{find}
use Rattle.std.specs.Option.{option_map}
use Rattle.std.specs.Str.{bytes_eq}
use Rattle.std.proofs.lemmas.Bool.{cond-false, cond-true}
use Rattle.std.proofs.lemmas.Bool.Decides.{Decides-eqb}
use Rattle.std.proofs.lemmas.Slice.Eq.{slice_eq-Decides}

pub record WasMapped {A B : Type 0} (f : A → B) (o : Option A) (y : B) : Type 0 where
  pub value : A
  pub was : o ≡ Some value
  pub is : f value ≡ y

pub mapped : {A B : Type 0} (f : A → B) (o : Option A) (y : B) → option_map f o ≡ Some y → WasMapped f o y
mapped f None y e = absurd (cc e)
mapped f (Some x) y e = record { value = x; was = refl; is = cc e }

-- the texts are the same where the test says so
pub same_text : (text name : List ℕ) → bytes_eq text name ≡ true → text ≡ name
same_text text name e = (slice_eq-Decides Decides-eqb text name true (sym e)).0 refl

found_by : {X : Type 0} (p : X → Bool) (x : X) (xs : List X) (y : X) (test : Bool) → p x ≡ test → find p (x ∷ xs) ≡ Some y → (find p xs ≡ Some y → p y ≡ true) → p y ≡ true
found_by p x xs y true e found more =
    let same : Some x ≡ Some y = sym (cond-true (p x) (Some x) (find p xs) e) ∙ found in
    let is : x ≡ y = cc same in
    ap p (sym is) ∙ e
found_by p x xs y false e found more = more (sym (cond-false (p x) (Some x) (find p xs) e) ∙ found)

-- what is found passes the test
pub passes_found : {X : Type 0} (p : X → Bool) (xs : List X) (y : X) → find p xs ≡ Some y → p y ≡ true
passes_found p [] y found = absurd (cc found)
passes_found p (x ∷ xs) y found = found_by p x xs y (p x) refl found (passes_found p xs y)
