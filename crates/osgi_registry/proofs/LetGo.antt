-- The rows after one of the services that concern a bundle is let go, and after all of them.
use Rattle.std.proofs.Common.{◌≡◌, ℕ, List, [], ◌∷◌, ap, sym, ◌∙◌, refl, get_or, map, ⊎_elim}
use Rattle.std.specs.Prelude.{Bool, true, false, cond, not, ◌==◌, ◌||◌, All, filter}
use Rattle.std.specs.BTreeMap.{is_at}
use Rattle.std.specs.List.{list_any}
use Rattle.std.specs.Ordering.{nat_cmp}
use Rattle.std.proofs.lemmas.Bool.{eq-eqb, eqb-true, or_cases}
use Rattle.std.proofs.lemmas.List.Elements.{All-cons, All-head, All-nil, All-tail}
use Rattle.osgi_base.specs.declared.ids.BundleId.{BundleId}
use Rattle.osgi_base.specs.declared.ids.ServiceId.{ServiceId}
use Rattle.osgi_registry.specs.computed.Concerns.{AreAmong, concerns}
use Rattle.osgi_registry.specs.Rows.{change, is_owned, is_service, LiveService, others, released, service_number, without, without_user}
use Rattle.osgi_registry_index.proofs.Belongs.{same_number}

-- the services of this id are the bundle's, or are not
abbrev pub AreOwned : BundleId → ServiceId → Bool → List LiveService → Type 0
AreOwned bundle service own rows = All (λ row. is_service service row ≡ true → is_owned bundle row ≡ own) rows

-- ---- what is released in the end stays the same

released_without_by : (bundle : BundleId) (service : ServiceId) (row : LiveService) (rest : List LiveService) (here own : Bool) → is_owned bundle row ≡ own → (here ≡ true → own ≡ true) → released bundle (without service rest) ≡ released bundle rest →
    released bundle (cond (not here) (row ∷ without service rest) (without service rest)) ≡ map (without_user bundle) (cond (not own) (row ∷ others bundle rest) (others bundle rest))
released_without_by bundle service row rest true true is all more = more
released_without_by bundle service row rest true false is all more = absurd (cc (all refl))
released_without_by bundle service row rest false true is all more = rw is more
released_without_by bundle service row rest false false is all more = rw is (ap (λ l. without_user bundle row ∷ l) more)

pub released_without : (bundle : BundleId) (service : ServiceId) (rows : List LiveService) → AreOwned bundle service true rows → released bundle (without service rows) ≡ released bundle rows
released_without bundle service [] all = refl
released_without bundle service (row ∷ rest) all =
    released_without_by bundle service row rest (is_service service row) (is_owned bundle row) refl (All-head (λ r. is_service service r ≡ true → is_owned bundle r ≡ true) row rest all)
    (released_without bundle service rest (All-tail (λ r. is_service service r ≡ true → is_owned bundle r ≡ true) row rest all))

filtered_by : (p : ℕ × ℕ → Bool) (first : ℕ × ℕ) (left : List (ℕ × ℕ)) (kept : Bool) → p first ≡ kept → filter p left ≡ left → filter p (cond kept (first ∷ left) left) ≡ cond kept (first ∷ left) left
filtered_by p first left true is more = rw is (ap (λ l. first ∷ l) more)
filtered_by p first left false is more = more

filtered_twice : (p : ℕ × ℕ → Bool) (uses : List (ℕ × ℕ)) → filter p (filter p uses) ≡ filter p uses
filtered_twice p [] = refl
filtered_twice p (first ∷ rest) = filtered_by p first (filter p rest) (p first) refl (filtered_twice p rest)

without_twice : (bundle : BundleId) (row : LiveService) → without_user bundle (without_user bundle row) ≡ without_user bundle row
without_twice bundle row = ap (λ u. record row { uses = u }) (filtered_twice (λ other. not (bundle.0 == other.0)) row.uses)

released_change_by : (bundle : BundleId) (service : ServiceId) (row : LiveService) (rest : List LiveService) (here own : Bool) → is_owned bundle row ≡ own → released bundle (change service (without_user bundle) rest) ≡ released bundle rest →
    released bundle (cond here (without_user bundle row) row ∷ change service (without_user bundle) rest) ≡ map (without_user bundle) (cond (not own) (row ∷ others bundle rest) (others bundle rest))
released_change_by bundle service row rest true true is more = rw is more
released_change_by bundle service row rest true false is more = rw is (λ i. without_twice bundle row i ∷ more i)
released_change_by bundle service row rest false true is more = rw is more
released_change_by bundle service row rest false false is more = rw is (ap (λ l. without_user bundle row ∷ l) more)

pub released_change : (bundle : BundleId) (service : ServiceId) (rows : List LiveService) → released bundle (change service (without_user bundle) rows) ≡ released bundle rows
released_change bundle service [] = refl
released_change bundle service (row ∷ rest) = released_change_by bundle service row rest (is_service service row) (is_owned bundle row) refl (released_change bundle service rest)

-- ---- those that still concern the bundle are among the others

abbrev IsAmong : BundleId → List ServiceId → LiveService → Type 0
IsAmong bundle services row = concerns bundle row ≡ true → list_any (is_at (nat_cmp (service_number row))) (map (λ (service : ServiceId). service.0) services) ≡ true

other_among : (bundle : BundleId) (service : ServiceId) (services : List ServiceId) (row : LiveService) → is_service service row ≡ false → IsAmong bundle (service ∷ services) row → IsAmong bundle services row
other_among bundle service services row other among = λ c.
    ⊎_elim (λ same. let number : service_number row ≡ service.0 = eqb-true (service_number row) service.0 (sym (same_number (service_number row) service.0) ∙ same) in absurd (cc (other, eq-eqb service.0 (service_number row) (sym number))))
    (λ later. later)
    (or_cases (is_at (nat_cmp (service_number row)) service.0) (list_any (is_at (nat_cmp (service_number row))) (map (λ (s : ServiceId). s.0) services)) (among c))

among_without_by : (bundle : BundleId) (service : ServiceId) (services : List ServiceId) (row : LiveService) (rest : List LiveService) (here : Bool) → is_service service row ≡ here → IsAmong bundle (service ∷ services) row → AreAmong bundle services (without service rest) →
    AreAmong bundle services (cond (not here) (row ∷ without service rest) (without service rest))
among_without_by bundle service services row rest true same among more = more
among_without_by bundle service services row rest false other among more = All-cons (IsAmong bundle services) row (without service rest) (other_among bundle service services row other among) more

pub among_without : (bundle : BundleId) (service : ServiceId) (services : List ServiceId) (rows : List LiveService) → AreAmong bundle (service ∷ services) rows → AreAmong bundle services (without service rows)
among_without bundle service services [] among = All-nil (IsAmong bundle services)
among_without bundle service services (row ∷ rest) among =
    among_without_by bundle service services row rest (is_service service row) refl (All-head (IsAmong bundle (service ∷ services)) row rest among)
    (among_without bundle service services rest (All-tail (IsAmong bundle (service ∷ services)) row rest among))

none_by : (b : ℕ) (first : ℕ × ℕ) (left : List (ℕ × ℕ)) (here : Bool) → (b == first.0) ≡ here → list_any (λ other. b == other.0) left ≡ false → list_any (λ other. b == other.0) (cond (not here) (first ∷ left) left) ≡ false
none_by b first left true same more = more
none_by b first left false other more = rw other more

-- who is forgotten is no user
pub forgotten_none : (b : ℕ) (uses : List (ℕ × ℕ)) → list_any (λ other. b == other.0) (filter (λ other. not (b == other.0)) uses) ≡ false
forgotten_none b [] = refl
forgotten_none b (first ∷ rest) = none_by b first (filter (λ other. not (b == other.0)) rest) (b == first.0) refl (forgotten_none b rest)

among_change_by : (bundle : BundleId) (service : ServiceId) (services : List ServiceId) (row : LiveService) (here : Bool) → is_service service row ≡ here → (here ≡ true → is_owned bundle row ≡ false) → IsAmong bundle (service ∷ services) row →
    IsAmong bundle services (cond here (without_user bundle row) row)
among_change_by bundle service services row true same apart among = λ c. absurd (cc (c, neither (is_owned bundle row) (list_any (λ other. bundle.0 == other.0) (filter (λ other. not (bundle.0 == other.0)) row.uses)) (apart refl) (forgotten_none bundle.0 row.uses)))
  where
    neither : (p q : Bool) → p ≡ false → q ≡ false → (p || q) ≡ false
    neither true q a b = absurd (cc a)
    neither false q a b = b
among_change_by bundle service services row false other apart among = other_among bundle service services row other among

pub among_change : (bundle : BundleId) (service : ServiceId) (services : List ServiceId) (rows : List LiveService) → AreOwned bundle service false rows → AreAmong bundle (service ∷ services) rows → AreAmong bundle services (change service (without_user bundle) rows)
among_change bundle service services [] apart among = All-nil (IsAmong bundle services)
among_change bundle service services (row ∷ rest) apart among =
    All-cons (IsAmong bundle services) _ (change service (without_user bundle) rest)
    (among_change_by bundle service services row (is_service service row) refl (All-head (λ r. is_service service r ≡ true → is_owned bundle r ≡ false) row rest apart) (All-head (IsAmong bundle (service ∷ services)) row rest among))
    (among_change bundle service services rest (All-tail (λ r. is_service service r ≡ true → is_owned bundle r ≡ false) row rest apart) (All-tail (IsAmong bundle (service ∷ services)) row rest among))

-- ---- where none concerns the bundle

none_if : (b : Bool) → (b ≡ true → false ≡ true) → b ≡ false
none_if true none = absurd (cc (none refl))
none_if false none = refl

pub none_concerns : (bundle : BundleId) (rows : List LiveService) → AreAmong bundle [] rows → All (λ row. concerns bundle row ≡ false) rows
none_concerns bundle rows among = λ k d within. none_if (concerns bundle (get_or rows k d)) (among k d within)

unused_by : (b : ℕ) (first : ℕ × ℕ) (rest : List (ℕ × ℕ)) (here : Bool) → (list_any (λ other. b == other.0) rest ≡ false → filter (λ other. not (b == other.0)) rest ≡ rest) → (here || list_any (λ other. b == other.0) rest) ≡ false →
    cond (not here) (first ∷ filter (λ other. not (b == other.0)) rest) (filter (λ other. not (b == other.0)) rest) ≡ first ∷ rest
unused_by b first rest true more none = absurd (cc none)
unused_by b first rest false more none = ap (λ l. first ∷ l) (more none)

unused : (b : ℕ) (uses : List (ℕ × ℕ)) → list_any (λ other. b == other.0) uses ≡ false → filter (λ other. not (b == other.0)) uses ≡ uses
unused b [] none = refl
unused b (first ∷ rest) none = unused_by b first rest (b == first.0) (unused b rest) none

released_none_by : (bundle : BundleId) (row : LiveService) (rest : List LiveService) (own : Bool) → (own || list_any (λ other. bundle.0 == other.0) row.uses) ≡ false → released bundle rest ≡ rest →
    map (without_user bundle) (cond (not own) (row ∷ others bundle rest) (others bundle rest)) ≡ row ∷ rest
released_none_by bundle row rest true none more = absurd (cc none)
released_none_by bundle row rest false none more = λ i. record row { uses = unused bundle.0 row.uses none i } ∷ more i

-- nothing is left to release
pub released_none : (bundle : BundleId) (rows : List LiveService) → All (λ row. concerns bundle row ≡ false) rows → released bundle rows ≡ rows
released_none bundle [] none = refl
released_none bundle (row ∷ rest) none =
    released_none_by bundle row rest (is_owned bundle row) (All-head (λ r. concerns bundle r ≡ false) row rest none) (released_none bundle rest (All-tail (λ r. concerns bundle r ≡ false) row rest none))
