-- A type is found by its names, and only by those.
use Rattle.std.proofs.Common.{◌≡◌, ℕ, List, sym, ◌∙◌, refl, subst}
use Rattle.std.specs.Prelude.{Bool, true, false, Option, None, Some, ◌↔◌, codes}
use Rattle.std.specs.Str.{bytes_eq}
use Rattle.std.proofs.lemmas.Bool.{cond-false, cond-true}
use Rattle.osgi_model.specs.Values.{type_name, Names, full, strings}
use Rattle.osgi_model.specs.computed.ValueReader.{kind_named, kinds}
use Rattle.osgi_model.specs.declared.value_type.ValueType.{ValueType}
use Rattle.osgi_model.specs.declared.value_type.ValueType.TheVariants as value_type
use Rattle.osgi_model.specs.declared.value_type.Scalar.TheVariants as scalar
use Rattle.osgi_model.specs.laws.Made.{passes_found, same_text}

named_by : (name : List ℕ) (k : ValueType) (test : Bool) → bytes_eq name (codes "List") ≡ test → kind_named name ≡ Some k → Names name k
named_by name k true e found =
    let same : Some (value_type.List scalar.String) ≡ Some k = sym (cond-true (bytes_eq name (codes "List")) _ _ e) ∙ found in
    let is : value_type.List scalar.String ≡ k = cc same in
    rw (same_text name (codes "List") e, ← is) strings
named_by name k false e found =
    let passes = passes_found (λ k. bytes_eq (type_name k) name) kinds k (sym (cond-false (bytes_eq name (codes "List")) _ _ e) ∙ found) in
    subst (λ n. Names n k) (same_text (type_name k) name passes) full

pub kind_sound : (name : List ℕ) (k : ValueType) → kind_named name ≡ Some k → Names name k
kind_sound name k found = named_by name k (bytes_eq name (codes "List")) refl found

pub kind_read : (name : List ℕ) (k : ValueType) → Names name k → kind_named name ≡ Some k
kind_read name k (full {kind = value_type.One scalar.String}) = refl
kind_read name k (full {kind = value_type.One scalar.Version}) = refl
kind_read name k (full {kind = value_type.One scalar.Long}) = refl
kind_read name k (full {kind = value_type.List scalar.String}) = refl
kind_read name k (full {kind = value_type.List scalar.Version}) = refl
kind_read name k (full {kind = value_type.List scalar.Long}) = refl
kind_read name k strings = refl

-- an answer that is the type just where the name is the type's is what is computed here
kind_by : (name : List ℕ) (r o : Option ValueType) → kind_named name ≡ o → ((k : ValueType) → (r ≡ Some k) ↔ Names name k) → r ≡ kind_named name
kind_by name (Some k) o e named = sym (kind_read name k ((named k).0 refl))
kind_by name None None e named = sym e
kind_by name None (Some k) e named = (named k).1 (kind_sound name k e) ∙ sym e

pub kind_is : (name : List ℕ) (r : Option ValueType) → ((k : ValueType) → (r ≡ Some k) ↔ Names name k) → r ≡ kind_named name
kind_is name r named = kind_by name r (kind_named name) refl named
