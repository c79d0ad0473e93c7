-- A user's uses taken out.
use Rattle.std.proofs.Common.{◌≡◌, ℕ, List, [], ◌∷◌, ap, sym, ◌∙◌, refl, filter, nat_eq}
use Rattle.std.specs.Prelude.{Bool, true, false, cond, not, None, Some}
use Rattle.std.specs.Map.{lookup, remove_entry}

unused_by : (user : ℕ) (use' : ℕ × ℕ) (rest : List (ℕ × ℕ)) (here : Bool) → (lookup (nat_eq user) rest ≡ None → filter (λ other. not (nat_eq user other.0)) rest ≡ rest) → cond here (Some use'.1) (lookup (nat_eq user) rest) ≡ None →
    cond (not here) (use' ∷ filter (λ other. not (nat_eq user other.0)) rest) (filter (λ other. not (nat_eq user other.0)) rest) ≡ use' ∷ rest
unused_by user use' rest true more none = absurd (cc none)
unused_by user use' rest false more none = ap (λ l. use' ∷ l) (more none)

unused : (user : ℕ) (uses : List (ℕ × ℕ)) → lookup (nat_eq user) uses ≡ None → filter (λ other. not (nat_eq user other.0)) uses ≡ uses
unused user [] none = refl
unused user (first ∷ rest) none = unused_by user first rest (nat_eq user first.0) (unused user rest) none

same_others_by : (user : ℕ) (first : ℕ × ℕ) (rest : List (ℕ × ℕ)) (here : Bool) → nat_eq user first.0 ≡ here → filter (λ other. not (nat_eq user other.0)) (remove_entry (nat_eq user) rest) ≡ filter (λ other. not (nat_eq user other.0)) rest →
    filter (λ other. not (nat_eq user other.0)) (cond here rest (first ∷ remove_entry (nat_eq user) rest)) ≡ cond (not here) (first ∷ filter (λ other. not (nat_eq user other.0)) rest) (filter (λ other. not (nat_eq user other.0)) rest)
same_others_by user first rest true same more = refl
same_others_by user first rest false same more = rw same (ap (λ l. first ∷ l) more)

same_others : (user : ℕ) (uses : List (ℕ × ℕ)) → filter (λ other. not (nat_eq user other.0)) (remove_entry (nat_eq user) uses) ≡ filter (λ other. not (nat_eq user other.0)) uses
same_others user [] = refl
same_others user (first ∷ rest) = same_others_by user first rest (nat_eq user first.0) refl (same_others user rest)

-- where a removal left none, it left the others
pub forgotten : (user : ℕ) (uses left : List (ℕ × ℕ)) → left ≡ remove_entry (nat_eq user) uses → lookup (nat_eq user) left ≡ None → left ≡ filter (λ other. not (nat_eq user other.0)) uses
forgotten user uses left is none = sym (unused user left none) ∙ ap (filter (λ other. not (nat_eq user other.0))) is ∙ same_others user uses
