-- What is found in slots.
use Rattle.std.proofs.Common.{◌≡◌, ℕ, zero, suc, List, [], ◌∷◌, ◌++◌, ap, sym, ◌∙◌, refl, get_or}
use Rattle.std.specs.Prelude.{Bool, true, false, cond, ◌==◌, ◌%◌, Option, None, Some}
use Rattle.std.proofs.lemmas.Bool.{eqb-true}
use Rattle.osgi_ops.specs.declared.service.Service.{Service}
use Rattle.osgi_registry_index.specs.Slots.{kept_at, KeepsSame, of_id}
use Rattle.osgi_registry_index.specs.declared.id_slots.TheConstants.{SLOTS}

-- ---- a slot more

get_or-more : (slots : List (Option Service)) (n : ℕ) → get_or (slots ++ None ∷ []) n None ≡ get_or slots n None
get_or-more [] zero = refl
get_or-more [] (suc n) = refl
get_or-more (slot ∷ rest) zero = refl
get_or-more (slot ∷ rest) (suc n) = get_or-more rest n

pub more_slots : (old new : List (Option Service)) → new ≡ old ++ None ∷ [] → KeepsSame old new
more_slots old new is = λ id. ap (λ slots. kept_at slots id) is ∙ ap (of_id id) (get_or-more old (id % SLOTS))

-- ---- what is found has its id

of_id_by : (id : ℕ) (service s : Service) (test : Bool) → (service.service.0 == id) ≡ test → cond test (Some service) None ≡ Some s → s.service.0 ≡ id
of_id_by id service s true same is = let own : service ≡ s = cc is in ap (λ (t : Service). t.service.0) (sym own) ∙ eqb-true service.service.0 id same
of_id_by id service s false other is = absurd (cc is)

found_id : (id : ℕ) (o : Option Service) (s : Service) → of_id id o ≡ Some s → s.service.0 ≡ id
found_id id None s is = absurd (cc is)
found_id id (Some service) s is = of_id_by id service s (service.service.0 == id) refl is

pub kept_id : (slots : List (Option Service)) (id : ℕ) (s : Service) → kept_at slots id ≡ Some s → s.service.0 ≡ id
kept_id slots id s is = found_id id (get_or slots (id % SLOTS) None) s is
