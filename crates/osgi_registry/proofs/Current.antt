-- That what stands in slots is the services as they are, after the rows change.
use Rattle.std.proofs.Common.{◌≡◌, ◌≢◌, ℕ, ◌+◌, List, [], ◌∷◌, ◌++◌, ap, sym, ◌∙◌, refl, arith, inl, inr, nat_eq}
use Rattle.std.specs.Prelude.{Bool, true, false, cond, ◌⊎◌, Option, None, Some, All}
use Rattle.std.specs.BTreeMap.{is_at}
use Rattle.std.specs.Map.{lookup, remove_entry, set_value}
use Rattle.std.specs.Option.{option_map}
use Rattle.std.specs.Ordering.{nat_cmp}
use Rattle.std.proofs.lemmas.Bool.{eq-eqb, eqb-true, ne_eqb}
use Rattle.std.proofs.lemmas.List.Elements.{All-head, All-tail}
use Rattle.osgi_base.specs.declared.ids.ServiceId.{ServiceId}
use Rattle.osgi_ops.specs.declared.service.Service.{Service}
use Rattle.osgi_registry.specs.computed.Kept.{AreKept, IsUnder}
use Rattle.osgi_registry.specs.computed.LiveSlots.{AreCurrent, service_in}
use Rattle.osgi_registry_index.specs.Slots.{Forgets, PutsAtMost}
use Rattle.osgi_registry.specs.Rows.{LiveService, service_number}
use Rattle.osgi_registry.proofs.Keys.{found_by}
use Rattle.osgi_registry_index.proofs.Slotted.{kept_id}

-- what is found, as a service
abbrev pub service_of : Option LiveService → Option Service
service_of found = option_map (λ (row : LiveService). row.service) found

-- the service of the id by the equality of ids
pub service_by : (entries : List (ℕ × LiveService)) (id : ℕ) → service_in entries id ≡ service_of (lookup (nat_eq id) entries)
service_by entries id = ap service_of (sym (found_by id entries (lookup (is_at (nat_cmp id)) entries) refl))

-- ---- a row set

set_by : (key id : ℕ) (old new : LiveService) (e : ℕ × LiveService) (rest : List (ℕ × LiveService)) (here this : Bool) → nat_eq key e.0 ≡ here → nat_eq id e.0 ≡ this → (id ≡ key → new.service ≡ old.service) → cond here (Some e.1) (lookup (nat_eq key) rest) ≡ Some old →
    (lookup (nat_eq key) rest ≡ Some old → service_of (lookup (nat_eq id) (set_value (nat_eq key) rest new)) ≡ service_of (lookup (nat_eq id) rest)) →
    service_of (lookup (nat_eq id) (cond here ((e.0, new) ∷ rest) (e ∷ set_value (nat_eq key) rest new))) ≡ service_of (cond this (Some e.1) (lookup (nat_eq id) rest))
set_by key id old new e rest true true at is same found more =
    let row_is : e.1 ≡ old = cc found in
    let alike : new.service ≡ e.1.service = same (eqb-true id e.0 is ∙ sym (eqb-true key e.0 at)) ∙ ap (λ (r : LiveService). r.service) (sym row_is) in
    ap (λ b. service_of (cond b (Some new) (lookup (nat_eq id) rest))) is ∙ ap (λ s. Some s) alike
set_by key id old new e rest true false at is same found more = ap (λ b. service_of (cond b (Some new) (lookup (nat_eq id) rest))) is
set_by key id old new e rest false true at is same found more = ap (λ b. service_of (cond b (Some e.1) (lookup (nat_eq id) (set_value (nat_eq key) rest new)))) is
set_by key id old new e rest false false at is same found more =
    ap (λ b. service_of (cond b (Some e.1) (lookup (nat_eq id) (set_value (nat_eq key) rest new)))) is ∙ more found

-- the service of each id stays, but of the one whose row is set
set_services : (key id : ℕ) (old new : LiveService) (entries : List (ℕ × LiveService)) → lookup (nat_eq key) entries ≡ Some old → (id ≡ key → new.service ≡ old.service) → service_of (lookup (nat_eq id) (set_value (nat_eq key) entries new)) ≡ service_of (lookup (nat_eq id) entries)
set_services key id old new [] found same = absurd (cc found)
set_services key id old new (e ∷ rest) found same =
    set_by key id old new e rest (nat_eq key e.0) (nat_eq id e.0) refl refl same found (λ found. set_services key id old new rest found same)

set_here_by : (key : ℕ) (old new : LiveService) (e : ℕ × LiveService) (rest : List (ℕ × LiveService)) (here : Bool) → nat_eq key e.0 ≡ here → cond here (Some e.1) (lookup (nat_eq key) rest) ≡ Some old →
    (lookup (nat_eq key) rest ≡ Some old → lookup (nat_eq key) (set_value (nat_eq key) rest new) ≡ Some new) → lookup (nat_eq key) (cond here ((e.0, new) ∷ rest) (e ∷ set_value (nat_eq key) rest new)) ≡ Some new
set_here_by key old new e rest true at found more = ap (λ b. cond b (Some new) (lookup (nat_eq key) rest)) at
set_here_by key old new e rest false at found more = ap (λ b. cond b (Some e.1) (lookup (nat_eq key) (set_value (nat_eq key) rest new))) at ∙ more found

set_here : (key : ℕ) (old new : LiveService) (entries : List (ℕ × LiveService)) → lookup (nat_eq key) entries ≡ Some old → lookup (nat_eq key) (set_value (nat_eq key) entries new) ≡ Some new
set_here key old new [] found = absurd (cc found)
set_here key old new (e ∷ rest) found = set_here_by key old new e rest (nat_eq key e.0) refl found (set_here key old new rest)

-- a service whose uses change
pub current_kept : (issued : ℕ) (service : ServiceId) (old new : LiveService) (entries : List (ℕ × LiveService)) (slots : List (Option Service)) → AreKept issued entries → AreCurrent slots entries → new.service ≡ old.service → lookup (nat_eq service.0) entries ≡ Some old →
    AreCurrent slots (set_value (nat_eq service.0) entries new)
current_kept issued service old new entries slots kept current same found = λ id s is.
    service_by (set_value (nat_eq service.0) entries new) id ∙ set_services service.0 id old new entries found (λ own. same) ∙ sym (service_by entries id) ∙ current id s is

changed_by : (key : ℕ) (old new : LiveService) (entries : List (ℕ × LiveService)) (id : ℕ) (s : Service) → lookup (nat_eq key) entries ≡ Some old → s.service.0 ≡ id → service_number new ≡ key → (s ≡ new.service) ⊎ ((service_in entries id ≡ Some s) × (id ≢ key)) →
    service_in (set_value (nat_eq key) entries new) id ≡ Some s
changed_by key old new entries id s found own number (inl is) =
    let at : id ≡ key = sym own ∙ ap (λ (t : Service). t.service.0) is ∙ number in
    service_by (set_value (nat_eq key) entries new) id ∙ ap (λ k. service_of (lookup (nat_eq k) (set_value (nat_eq key) entries new))) at ∙ ap service_of (set_here key old new entries found) ∙ ap (λ t. Some t) (sym is)
changed_by key old new entries id s found own number (inr was) =
    service_by (set_value (nat_eq key) entries new) id ∙ set_services key id old new entries found (λ at. absurd (was.1 at)) ∙ sym (service_by entries id) ∙ was.0

-- a service in place of another
pub current_changed : (old mid new : List (Option Service)) (key : ℕ) (row changed : LiveService) (entries : List (ℕ × LiveService)) → AreCurrent old entries → Forgets old mid key → PutsAtMost mid new changed.service → service_number changed ≡ key → lookup (nat_eq key) entries ≡ Some row →
    AreCurrent new (set_value (nat_eq key) entries changed)
current_changed old mid new key row changed entries current forgets puts number found = λ id s is.
    changed_by key row changed entries id s found (kept_id new id s is) number
    (elim (puts id s is) [
      | inl own ↦ inl own
      | inr was ↦ (let left = forgets id s was in inr (current id s left.0, left.1))
    ])

-- ---- a row taken out

removed_by : (key id : ℕ) (e : ℕ × LiveService) (rest : List (ℕ × LiveService)) (here this : Bool) → nat_eq key e.0 ≡ here → nat_eq id e.0 ≡ this → id ≢ key → lookup (nat_eq id) (remove_entry (nat_eq key) rest) ≡ lookup (nat_eq id) rest →
    lookup (nat_eq id) (cond here rest (e ∷ remove_entry (nat_eq key) rest)) ≡ cond this (Some e.1) (lookup (nat_eq id) rest)
removed_by key id e rest true true at is apart more = absurd (apart (eqb-true id e.0 is ∙ sym (eqb-true key e.0 at)))
removed_by key id e rest true false at is apart more = refl
removed_by key id e rest false true at is apart more = ap (λ b. cond b (Some e.1) (lookup (nat_eq id) (remove_entry (nat_eq key) rest))) is
removed_by key id e rest false false at is apart more = ap (λ b. cond b (Some e.1) (lookup (nat_eq id) (remove_entry (nat_eq key) rest))) is ∙ more

removed : (key id : ℕ) (entries : List (ℕ × LiveService)) → id ≢ key → lookup (nat_eq id) (remove_entry (nat_eq key) entries) ≡ lookup (nat_eq id) entries
removed key id [] apart = refl
removed key id (e ∷ rest) apart = removed_by key id e rest (nat_eq key e.0) (nat_eq id e.0) refl refl apart (removed key id rest apart)

pub current_removed : (old new : List (Option Service)) (key : ℕ) (entries : List (ℕ × LiveService)) → AreCurrent old entries → Forgets old new key → AreCurrent new (remove_entry (nat_eq key) entries)
current_removed old new key entries current forgets = λ id s is.
    let left = forgets id s is in
    service_by (remove_entry (nat_eq key) entries) id ∙ ap service_of (removed key id entries left.1) ∙ sym (service_by entries id) ∙ current id s left.0

-- ---- one more row

still_by : (id : ℕ) (e : ℕ × LiveService) (rest last : List (ℕ × LiveService)) (s : Service) (this : Bool) → service_of (cond this (Some e.1) (lookup (nat_eq id) rest)) ≡ Some s →
    (service_of (lookup (nat_eq id) rest) ≡ Some s → service_of (lookup (nat_eq id) (rest ++ last)) ≡ Some s) → service_of (cond this (Some e.1) (lookup (nat_eq id) (rest ++ last))) ≡ Some s
still_by id e rest last s true is more = is
still_by id e rest last s false is more = more is

still_found : (id : ℕ) (entries last : List (ℕ × LiveService)) (s : Service) → service_of (lookup (nat_eq id) entries) ≡ Some s → service_of (lookup (nat_eq id) (entries ++ last)) ≡ Some s
still_found id [] last s is = absurd (cc is)
still_found id (e ∷ rest) last s is = still_by id e rest last s (nat_eq id e.0) is (still_found id rest last s)

last_found : (issued : ℕ) (entries : List (ℕ × LiveService)) (row : LiveService) → All (IsUnder issued) entries → lookup (nat_eq (issued + 1)) (entries ++ (issued + 1, row) ∷ []) ≡ Some row
last_found issued [] row under = ap (λ b. cond b (Some row) None) (eq-eqb (issued + 1) (issued + 1) refl)
last_found issued (e ∷ rest) row under =
    let here = All-head (IsUnder issued) e rest under in
    ap (λ b. cond b (Some e.1) (lookup (nat_eq (issued + 1)) (rest ++ (issued + 1, row) ∷ []))) (ne_eqb (issued + 1) e.0 (λ same. absurd (omega (arith, same, here.below))))
    ∙ last_found issued rest row (All-tail (IsUnder issued) e rest under)

pushed_by : (issued : ℕ) (entries : List (ℕ × LiveService)) (row : LiveService) (id : ℕ) (s : Service) → All (IsUnder issued) entries → s.service.0 ≡ id → service_number row ≡ issued + 1 → (s ≡ row.service) ⊎ (service_in entries id ≡ Some s) →
    service_in (entries ++ (issued + 1, row) ∷ []) id ≡ Some s
pushed_by issued entries row id s under own number (inl is) =
    let at : id ≡ issued + 1 = sym own ∙ ap (λ (t : Service). t.service.0) is ∙ number in
    service_by (entries ++ (issued + 1, row) ∷ []) id ∙ ap (λ k. service_of (lookup (nat_eq k) (entries ++ (issued + 1, row) ∷ []))) at ∙ ap service_of (last_found issued entries row under) ∙ ap (λ t. Some t) (sym is)
pushed_by issued entries row id s under own number (inr was) =
    service_by (entries ++ (issued + 1, row) ∷ []) id ∙ still_found id entries ((issued + 1, row) ∷ []) s (sym (service_by entries id) ∙ was)

pub current_push : (issued : ℕ) (old new : List (Option Service)) (entries : List (ℕ × LiveService)) (row : LiveService) → All (IsUnder issued) entries → service_number row ≡ issued + 1 → PutsAtMost old new row.service → AreCurrent old entries →
    AreCurrent new (entries ++ (issued + 1, row) ∷ [])
current_push issued old new entries row under number puts current = λ id s is.
    pushed_by issued entries row id s under (kept_id new id s is) number
    (elim (puts id s is) [
      | inl own ↦ inl own
      | inr was ↦ inr (current id s was)
    ])
