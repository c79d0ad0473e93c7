-- What belongs to each bundle after a change at one bundle.
use Rattle.std.proofs.Common.{◌≡◌, ℕ, List, [], ◌∷◌, ◌++◌, append_assoc, ap, sym, ◌∙◌, refl, length, map, arith}
use Rattle.std.specs.Prelude.{Bool, true, false, cond, ◌==◌, ◌&&◌, Option, None, Result, Ok, Err, OnOk}
use Rattle.std.specs.BTreeMap.{get, is_at}
use Rattle.std.specs.BTreeSet.{BTreeSet}
use Rattle.std.specs.List.{list_any}
use Rattle.std.specs.Option.{option_map_or}
use Rattle.std.specs.Ordering.{nat_cmp}
use Rattle.std.proofs.lemmas.Bool.{eqb-true}
use Rattle.std.proofs.lemmas.List.{map-append}
use Rattle.std.proofs.lemmas.Bool.Decides.{nat_tests}
use Rattle.osgi_base.specs.declared.ids.BundleId.{BundleId}
use Rattle.osgi_base.specs.declared.ids.ServiceId.{ServiceId}
use Rattle.std.specs.List.Sorted.{IsStrictlySortedBy}
use Rattle.osgi_registry_index.specs.Belonging.{belongs, BelongsSame, Bundles, Empties, services_of, Sets}

pub same_number : (a b : ℕ) → is_at (nat_cmp a) b ≡ (a == b)
same_number a b = grind (arith, nat_tests)

abbrev pub at : Bundles → ℕ → Option (BTreeSet ℕ)
at bundles bundle = get nat_cmp bundles bundle

-- the service is one of these, if there are any
abbrev pub among : Option (BTreeSet ℕ) → ℕ → Bool
among services service = list_any (is_at (nat_cmp service)) (option_map_or (λ (s : BTreeSet ℕ). s.keys) services [])

-- the bundle has these services afterwards, and each other bundle has those that it had
abbrev pub PutsAt : Bundles → Bundles → ℕ → Option (BTreeSet ℕ) → Type 0
PutsAt old new bundle after = (q : ℕ) → at new q ≡ cond (is_at (nat_cmp bundle) q) after (at old q)

here : (old new : Bundles) (bundle b : ℕ) (after : Option (BTreeSet ℕ)) → PutsAt old new bundle after → (bundle == b) ≡ true → at new b ≡ after
here old new bundle b after puts same = puts b ∙ ap (λ t. cond t after (at old b)) (same_number bundle b ∙ same)

elsewhere : (old new : Bundles) (bundle b : ℕ) (after : Option (BTreeSet ℕ)) → PutsAt old new bundle after → (bundle == b) ≡ false → at new b ≡ at old b
elsewhere old new bundle b after puts other = puts b ∙ ap (λ t. cond t after (at old b)) (same_number bundle b ∙ other)

old_here : (old : Bundles) (bundle b : ℕ) (before : Option (BTreeSet ℕ)) → at old bundle ≡ before → (bundle == b) ≡ true → at old b ≡ before
old_here old bundle b before was same = ap (at old) (sym (eqb-true bundle b same)) ∙ was

set_by : (old new : Bundles) (bundle : BundleId) (service : ServiceId) (is : Bool) (before after : Option (BTreeSet ℕ)) (b s : ℕ) (test : Bool) → (bundle.0 == b) ≡ test → at old bundle.0 ≡ before → PutsAt old new bundle.0 after →
    among after s ≡ cond (is_at (nat_cmp service.0) s) is (among before s) → belongs new b s ≡ cond (test && (service.0 == s)) is (belongs old b s)
set_by old new bundle service is before after b s true same was puts then =
    ap (λ o. among o s) (here old new bundle.0 b after puts same) ∙ then ∙ (λ i. cond (same_number service.0 s i) is (among (sym (old_here old bundle.0 b before was same) i) s))
set_by old new bundle service is before after b s false other was puts then = ap (λ o. among o s) (elsewhere old new bundle.0 b after puts other)

-- the service is one of the bundle's, or is not
pub set_at : (old new : Bundles) (bundle : BundleId) (service : ServiceId) (is : Bool) (before after : Option (BTreeSet ℕ)) → at old bundle.0 ≡ before → PutsAt old new bundle.0 after →
    ((s : ℕ) → among after s ≡ cond (is_at (nat_cmp service.0) s) is (among before s)) → Sets old new bundle service is
set_at old new bundle service is before after was puts then = λ b s. set_by old new bundle service is before after b s (bundle.0 == b) refl was puts (then s)

same_by : (old new : Bundles) (bundle b s : ℕ) (before after : Option (BTreeSet ℕ)) (test : Bool) → (bundle == b) ≡ test → at old bundle ≡ before → PutsAt old new bundle after → among after s ≡ among before s → belongs new b s ≡ belongs old b s
same_by old new bundle b s before after true same was puts then =
    ap (λ o. among o s) (here old new bundle b after puts same) ∙ then ∙ ap (λ o. among o s) (sym (old_here old bundle b before was same))
same_by old new bundle b s before after false other was puts then = ap (λ o. among o s) (elsewhere old new bundle b after puts other)

-- or it has those that it had
pub same_at : (old new : Bundles) (bundle : ℕ) (before after : Option (BTreeSet ℕ)) → at old bundle ≡ before → PutsAt old new bundle after → ((s : ℕ) → among after s ≡ among before s) → BelongsSame old new
same_at old new bundle before after was puts then = λ b s. same_by old new bundle b s before after (bundle == b) refl was puts (then s)

emptied_by : (old new : Bundles) (bundle b s : ℕ) (test : Bool) → (bundle == b) ≡ test → PutsAt old new bundle None → belongs new b s ≡ cond test false (belongs old b s)
emptied_by old new bundle b s true same puts = ap (λ o. among o s) (here old new bundle b None puts same)
emptied_by old new bundle b s false other puts = ap (λ o. among o s) (elsewhere old new bundle b None puts other)

-- or it has none
pub emptied_at : (old new : Bundles) (bundle : BundleId) → PutsAt old new bundle.0 None → Empties old new bundle
emptied_at old new bundle puts = λ b s. emptied_by old new bundle.0 b s (bundle.0 == b) refl puts

-- two changes at one bundle
puts_by : (first second after before between : Option (BTreeSet ℕ)) (test : Bool) → second ≡ cond test after first → first ≡ cond test between before → second ≡ cond test after before
puts_by first second after before between true then was = then
puts_by first second after before between false then was = then ∙ was

pub puts_twice : (old mid new : Bundles) (bundle : ℕ) (between after : Option (BTreeSet ℕ)) → PutsAt old mid bundle between → PutsAt mid new bundle after → PutsAt old new bundle after
puts_twice old mid new bundle between after first second = λ q. puts_by (at mid q) (at new q) after (at old q) between (is_at (nat_cmp bundle) q) (second q) (first q)

pub none_left : (keys : List ℕ) → length keys ≡ 0 → keys ≡ []
none_left [] none = refl
none_left (k ∷ rest) none = absurd (omega (arith, none))

-- ---- numbers as services

pub numbers_more : (list : List ServiceId) (left rest : List ℕ) (service : ℕ) → left ≡ service ∷ rest → map (λ (s : ServiceId). s.0) (list ++ record { 0 = service } ∷ []) ++ rest ≡ map (λ (s : ServiceId). s.0) list ++ left
numbers_more list left rest service is =
    rw is (ap (λ l. l ++ rest) (map-append (λ (s : ServiceId). s.0) list (record { 0 = service } ∷ [])) ∙ append_assoc (map (λ (s : ServiceId). s.0) list) (service ∷ []) rest)

-- no services rise
none_sorted : IsStrictlySortedBy nat_cmp []
unfolding IsStrictlySortedBy
none_sorted = tt

pub none_rise : {T E : Type 0} (result : Result T E) (bundles : Bundles) (bundle : ℕ) → at bundles bundle ≡ None → OnOk result (IsStrictlySortedBy nat_cmp (services_of bundles bundle))
none_rise (Ok made) bundles bundle none = rw none none_sorted
none_rise (Err error) bundles bundle none = tt
