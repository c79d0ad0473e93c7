-- The index by bundle after a change of the index or of the rows.
use Rattle.std.proofs.Common.{◌≡◌, ℕ, ◌+◌, ◌-◌, List, [], ◌∷◌, ◌++◌, ap, sym, subst, ◌∙◌, refl, get_or, map, nat_eq, ⊎_elim}
use Rattle.std.specs.Prelude.{Bool, true, false, cond, nat_lt, not, ◌==◌, ◌&&◌, ◌||◌, None, Some, Result, Ok, Err, IfOk, All, filter, find, unwrap_or}
use Rattle.std.specs.Bool.{OnTrue, OnFalse}
use Rattle.std.specs.BTreeMap.{is_at}
use Rattle.std.specs.Ordering.{nat_cmp}
use Rattle.std.specs.List.{list_any}
use Rattle.std.specs.Map.{lookup, set_value, values_of}
use Rattle.std.proofs.lemmas.Bool.{eq-eqb, eqb-true, or_cases, or_left, or_right}
use Rattle.std.proofs.lemmas.List.Elements.{All-cons, All-head, All-nil, All-push, All-tail}
use Rattle.osgi_base.specs.declared.ids.BundleId.{BundleId}
use Rattle.osgi_base.specs.declared.ids.ServiceId.{ServiceId}
use Rattle.osgi_registry.specs.computed.Concerns.{AreAmong, AreCovered, concerns, IsCovered}
use Rattle.osgi_registry_index.specs.Belonging.{belongs, BelongsSame, Bundles, Empties, services_of, Sets}
use Rattle.osgi_registry.specs.Rows.{count_of, is_owned, is_service, LiveService, service_number, used_less, used_more, with_count, without, without_user}

-- ---- a change of the index

-- with more in it
covered_more : (old new : Bundles) (rows : List LiveService) → ((b s : ℕ) → belongs old b s ≡ true → belongs new b s ≡ true) → AreCovered old rows → AreCovered new rows
covered_more old new rows more covered = λ k d within b c. more b.0 _ (covered k d within b c)

pub covered_same : (old new : Bundles) (rows : List LiveService) → BelongsSame old new → AreCovered old rows → AreCovered new rows
covered_same old new rows same covered = covered_more old new rows (λ b s is. same b s ∙ is) covered

set_true : (test was : Bool) → was ≡ true → cond test true was ≡ true
set_true true was is = refl
set_true false was is = is

pub covered_grown : (old new : Bundles) (bundle : BundleId) (service : ServiceId) (rows : List LiveService) → Sets old new bundle service true → AreCovered old rows → AreCovered new rows
covered_grown old new bundle service rows sets covered = covered_more old new rows (λ b s is. sets b s ∙ set_true ((bundle.0 == b) && (service.0 == s)) (belongs old b s) is) covered

pub belongs_now : (old new : Bundles) (bundle : BundleId) (service : ServiceId) (b s : ℕ) → Sets old new bundle service true → b ≡ bundle.0 → s ≡ service.0 → belongs new b s ≡ true
belongs_now old new bundle service b s sets is at =
    sets b s ∙ (λ i. cond (eq-eqb bundle.0 b (sym is) i && eq-eqb service.0 s (sym at) i) true (belongs old b s))

-- ---- a new row

owned_or : (bundle : BundleId) (row : LiveService) → row.uses ≡ [] → concerns bundle row ≡ true → is_owned bundle row ≡ true
owned_or bundle row none c =
    ⊎_elim (λ own. own) (λ used. absurd (cc (used, ap (list_any (λ other. bundle.0 == other.0)) none)))
    (or_cases (is_owned bundle row) (list_any (λ other. bundle.0 == other.0) row.uses) c)

pub covered_push : (old new : Bundles) (rows : List LiveService) (row : LiveService) → Sets old new row.service.owner row.service.service true → row.uses ≡ [] → AreCovered old rows → AreCovered new (rows ++ row ∷ [])
covered_push old new rows row sets none covered =
    All-push (IsCovered new) rows row (covered_grown old new row.service.owner row.service.service rows sets covered)
    (λ b c. belongs_now old new row.service.owner row.service.service b.0 (service_number row) sets (sym (eqb-true row.service.owner.0 b.0 (owned_or b row none c))) refl)

-- ---- a row taken out

kept_others : (owns here was : Bool) → here ≡ false → cond (owns && here) false was ≡ was
kept_others true here was other = ap (λ h. cond h false was) other
kept_others false here was other = refl

covered_without_by : (old new : Bundles) (owner : BundleId) (service : ServiceId) (row : LiveService) (rest : List LiveService) (here : Bool) → is_service service row ≡ here → Sets old new owner service false → IsCovered old row → AreCovered new (without service rest) →
    AreCovered new (cond (not here) (row ∷ without service rest) (without service rest))
covered_without_by old new owner service row rest true same sets covered more = more
covered_without_by old new owner service row rest false other sets covered more =
    All-cons (IsCovered new) row (without service rest)
    (λ b c. sets b.0 (service_number row) ∙ kept_others (owner.0 == b.0) (service.0 == service_number row) (belongs old b.0 (service_number row)) other ∙ covered b c) more

pub covered_without : (old new : Bundles) (owner : BundleId) (service : ServiceId) (rows : List LiveService) → Sets old new owner service false → AreCovered old rows → AreCovered new (without service rows)
covered_without old new owner service [] sets covered = All-nil (IsCovered new)
covered_without old new owner service (row ∷ rest) sets covered =
    covered_without_by old new owner service row rest (is_service service row) refl sets (All-head (IsCovered old) row rest covered)
    (covered_without old new owner service rest sets (All-tail (IsCovered old) row rest covered))

-- ---- a row changed

covered_set_by : (bundles : Bundles) (key : ℕ) (old new : LiveService) (e : ℕ × LiveService) (rest : List (ℕ × LiveService)) (here : Bool) → nat_eq key e.0 ≡ here → (IsCovered bundles old → IsCovered bundles new) → IsCovered bundles e.1 → AreCovered bundles (values_of rest) →
    (lookup (nat_eq key) rest ≡ Some old → AreCovered bundles (values_of (set_value (nat_eq key) rest new))) → cond here (Some e.1) (lookup (nat_eq key) rest) ≡ Some old →
    AreCovered bundles (values_of (cond here ((e.0, new) ∷ rest) (e ∷ set_value (nat_eq key) rest new)))
covered_set_by bundles key old new e rest true same change covered others more found =
    let is : e.1 ≡ old = cc found in
    All-cons (IsCovered bundles) new (values_of rest) (change (subst (IsCovered bundles) is covered)) others
covered_set_by bundles key old new e rest false other change covered others more found =
    All-cons (IsCovered bundles) e.1 (values_of (set_value (nat_eq key) rest new)) covered (more found)

pub covered_set : (bundles : Bundles) (key : ℕ) (old new : LiveService) (entries : List (ℕ × LiveService)) → lookup (nat_eq key) entries ≡ Some old → (IsCovered bundles old → IsCovered bundles new) → AreCovered bundles (values_of entries) →
    AreCovered bundles (values_of (set_value (nat_eq key) entries new))
covered_set bundles key old new [] found change covered = absurd (cc found)
covered_set bundles key old new (e ∷ rest) found change covered =
    let others = All-tail (IsCovered bundles) e.1 (values_of rest) covered in
    covered_set_by bundles key old new e rest (nat_eq key e.0) refl change (All-head (IsCovered bundles) e.1 (values_of rest) covered) others
    (λ later. covered_set bundles key old new rest later change others) found

-- where it is of the same owner and has the same users
pub covered_alike : (bundles : Bundles) (old new : LiveService) → service_number new ≡ service_number old → new.service.owner ≡ old.service.owner → new.uses ≡ old.uses → IsCovered bundles old → IsCovered bundles new
covered_alike bundles old new number owner uses covered = λ b c.
    ap (belongs bundles b.0) number ∙ covered b ((λ i. (sym owner i).0 == b.0 || list_any (λ other. b.0 == other.0) (sym uses i)) ∙ c)

-- ---- users

users_by : (user other first : ℕ) (more : Bool) (rest' : Bool) (uf of : Bool) → (user == first) ≡ uf → (other == first) ≡ of → more ≡ ((other == user) || rest') → cond uf (of || rest') (of || more) ≡ ((other == user) || (of || rest'))
users_by user other first more rest' true true a b is = sym (or_right (other == user) (true || rest') refl)
users_by user other first more rest' true false a b is = ap (λ t. t || rest') (sym (differ (other == user) refl))
  where
    differ : (t : Bool) → (other == user) ≡ t → (other == user) ≡ false
    differ true same = absurd (cc (b, eq-eqb other first (eqb-true other user same ∙ eqb-true user first a)))
    differ false apart = apart
users_by user other first more rest' false true a b is = sym (or_right (other == user) (true || rest') refl)
users_by user other first more rest' false false a b is = is

users_cond : (b : ℕ) (here : Bool) (p q : List (ℕ × ℕ)) → list_any (λ other. b == other.0) (cond here p q) ≡ cond here (list_any (λ other. b == other.0) p) (list_any (λ other. b == other.0) q)
users_cond b true p q = refl
users_cond b false p q = refl

-- a count put for a user makes it one
users_with : (user : BundleId) (b count : ℕ) (uses : List (ℕ × ℕ)) → list_any (λ other. b == other.0) (with_count user count uses) ≡ ((b == user.0) || list_any (λ other. b == other.0) uses)
users_with user b count [] = refl
users_with user b count (first ∷ rest) =
    users_cond b (user.0 == first.0) ((first.0, count) ∷ rest) (first ∷ with_count user count rest)
    ∙ users_by user.0 b first.0 (list_any (λ other. b == other.0) (with_count user count rest)) (list_any (λ other. b == other.0) rest) (user.0 == first.0) (b == first.0) refl refl (users_with user b count rest)

counted_by : (user : BundleId) (first : ℕ × ℕ) (rest : List (ℕ × ℕ)) (here : Bool) → (nat_lt 0 (count_of user rest) ≡ true → list_any (λ other. user.0 == other.0) rest ≡ true) →
    nat_lt 0 (unwrap_or (cond here (Some first.1) (lookup (λ other. user.0 == other) rest)) 0) ≡ true → (here || list_any (λ other. user.0 == other.0) rest) ≡ true
counted_by user first rest true more some = refl
counted_by user first rest false more some = more some

-- who has a count is one of the users
counted : (user : BundleId) (uses : List (ℕ × ℕ)) → nat_lt 0 (count_of user uses) ≡ true → list_any (λ other. user.0 == other.0) uses ≡ true
counted user [] some = absurd (cc some)
counted user (first ∷ rest) some = counted_by user first rest (user.0 == first.0) (counted user rest) some

covered_with : (bundles : Bundles) (user : BundleId) (count : ℕ) (row : LiveService) → belongs bundles user.0 (service_number row) ≡ true → IsCovered bundles row → IsCovered bundles (record row { uses = with_count user count row.uses })
covered_with bundles user count row there covered = λ b c.
    let used = list_any (λ other. b.0 == other.0) row.uses in
    ⊎_elim (λ own. covered b (or_left (is_owned b row) used own))
    (λ by. ⊎_elim (λ same. ap (λ n. belongs bundles n (service_number row)) (eqb-true b.0 user.0 same) ∙ there) (λ was. covered b (or_right (is_owned b row) used was)) (or_cases (b.0 == user.0) used (sym (users_with user b.0 count row.uses) ∙ by)))
    (or_cases (is_owned b row) (list_any (λ other. b.0 == other.0) (with_count user count row.uses)) c)

-- one use more
pub covered_used : (bundles : Bundles) (user : BundleId) (old new : LiveService) → new ≡ used_more user old → belongs bundles user.0 (service_number old) ≡ true → IsCovered bundles old → IsCovered bundles new
covered_used bundles user old new is there covered = subst (IsCovered bundles) (sym is) (covered_with bundles user (count_of user old.uses + 1) old there covered)

-- one use less, or none where there was none
pub covered_returned : (bundles : Bundles) (user : BundleId) (old new : LiveService) (answer : Bool) → answer ≡ nat_lt 0 (count_of user old.uses) → OnTrue answer (new ≡ used_less user old) → OnFalse answer (new ≡ old) → IsCovered bundles old → IsCovered bundles new
covered_returned bundles user old new true held less same covered =
    subst (IsCovered bundles) (sym less)
    (covered_with bundles user (count_of user old.uses - 1) old (covered user (or_right (is_owned user old) (list_any (λ other. user.0 == other.0) old.uses) (counted user old.uses (sym held)))) covered)
covered_returned bundles user old new false held less same covered = subst (IsCovered bundles) (sym same) covered

any_left_by : (b : ℕ) (first : ℕ × ℕ) (left rest : List (ℕ × ℕ)) (kept : Bool) → (list_any (λ other. b == other.0) left ≡ true → list_any (λ other. b == other.0) rest ≡ true) → list_any (λ other. b == other.0) (cond kept (first ∷ left) left) ≡ true →
    ((b == first.0) || list_any (λ other. b == other.0) rest) ≡ true
any_left_by b first left rest true more some =
    ⊎_elim (λ here. or_left (b == first.0) (list_any (λ other. b == other.0) rest) here) (λ later. or_right (b == first.0) (list_any (λ other. b == other.0) rest) (more later)) (or_cases (b == first.0) (list_any (λ other. b == other.0) left) some)
any_left_by b first left rest false more some = or_right (b == first.0) (list_any (λ other. b == other.0) rest) (more some)

-- who is left was there
any_left : (b : ℕ) (p : ℕ × ℕ → Bool) (uses : List (ℕ × ℕ)) → list_any (λ other. b == other.0) (filter p uses) ≡ true → list_any (λ other. b == other.0) uses ≡ true
any_left b p [] some = some
any_left b p (first ∷ rest) some = any_left_by b first (filter p rest) rest (p first) (any_left b p rest) some

-- a user forgotten
pub covered_forgotten : (bundles : Bundles) (user : BundleId) (old new : LiveService) → new ≡ without_user user old → IsCovered bundles old → IsCovered bundles new
covered_forgotten bundles user old new is covered =
    subst (IsCovered bundles) (sym is)
    (λ b c.
    let used = list_any (λ other. b.0 == other.0) old.uses in
    ⊎_elim (λ own. covered b (or_left (is_owned b old) used own)) (λ left. covered b (or_right (is_owned b old) used (any_left b.0 (λ other. not (user.0 == other.0)) old.uses left)))
    (or_cases (is_owned b old) (list_any (λ other. b.0 == other.0) (filter (λ other. not (user.0 == other.0)) old.uses)) c))

-- ---- a bundle that nothing concerns

cleared_by : (bundle b : BundleId) (row : LiveService) (test was : Bool) → (bundle.0 == b.0) ≡ test → concerns bundle row ≡ false → concerns b row ≡ true → was ≡ true → cond test false was ≡ true
cleared_by bundle b row true was same none c is =
    let one : bundle.0 ≡ b.0 = eqb-true bundle.0 b.0 same in
    absurd (cc (none, (λ i. (row.service.owner.0 == one i) || list_any (λ other. one i == other.0) row.uses) ∙ c))
cleared_by bundle b row false was other none c is = is

pub covered_cleared : (old new : Bundles) (bundle : BundleId) (rows : List LiveService) → Empties old new bundle → All (λ row. concerns bundle row ≡ false) rows → AreCovered old rows → AreCovered new rows
covered_cleared old new bundle rows empties none covered = λ k d within b c.
    let row = get_or rows k d in
    empties b.0 (service_number row) ∙ cleared_by bundle b row (bundle.0 == b.0) (belongs old b.0 (service_number row)) refl (none k d within) c (covered k d within b c)

-- ---- a look-up

found_none_by : (p : LiveService → Bool) (row : LiveService) (rest : List LiveService) (here : Bool) → p row ≡ here → (find p rest ≡ None → All (λ r. p r ≡ false) rest) → cond here (Some row) (find p rest) ≡ None → All (λ r. p r ≡ false) (row ∷ rest)
found_none_by p row rest true is more none = absurd (cc none)
found_none_by p row rest false is more none = All-cons (λ r. p r ≡ false) row rest is (more none)

-- where none is found, none passes
pub found_none : (p : LiveService → Bool) (rows : List LiveService) → find p rows ≡ None → All (λ r. p r ≡ false) rows
found_none p [] none = All-nil (λ r. p r ≡ false)
found_none p (row ∷ rest) none = found_none_by p row rest (p row) refl (found_none p rest) none

-- the services that belong to a bundle are all that concern it
pub among_all : {E : Type 0} (result : Result (List ServiceId) E) (bundles : Bundles) (bundle : BundleId) (rows : List LiveService) → IfOk result (λ services. map (λ (s : ServiceId). s.0) services ≡ services_of bundles bundle.0) → AreCovered bundles rows →
    IfOk result (λ services. AreAmong bundle services rows)
among_all (Ok services) bundles bundle rows are covered = λ k d within c. ap (list_any (is_at (nat_cmp (service_number (get_or rows k d))))) are ∙ covered k d within bundle c
among_all (Err error) bundles bundle rows are covered = tt
