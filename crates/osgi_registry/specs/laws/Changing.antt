-- Rows in order after a change at one service: its row is the only one that changes.
use Rattle.std.proofs.Common.{◌≡◌, suc, ◌<◌, List, [], ◌∷◌, length, map, get_or, ap, sym, subst, ◌∙◌, refl, arith}
use Rattle.std.specs.Prelude.{Bool, true, false, cond, Option, None, Some, All, AllPairs, IsSomeAnd}
use Rattle.std.specs.Option.{option_map}
use Rattle.std.proofs.lemmas.Bool.{eqb-true, ne_eqb}
use Rattle.std.proofs.lemmas.List.{get_or-map, length-map}
use Rattle.std.proofs.lemmas.List.Folds.{map_fixed}
use Rattle.std.proofs.lemmas.List.Kept.{AllPairs-from_increasing}
use Rattle.osgi_base.specs.declared.ids.ServiceId.{ServiceId}
use Rattle.osgi_model.specs.declared.value.Attribute.{Attribute}
use Rattle.osgi_ops.specs.declared.service.Service.{Service}
use Rattle.osgi_registry.specs.Rows.{AreInOrder, change, DiffersAtMostInProperties, is_service, LiveService, RegistryRows, row_at, service_number, with_properties, with_service}

-- ---- a service that has no row

fixed_by : (service : ServiceId) (f : LiveService → LiveService) (row : LiveService) (here : Bool) → is_service service row ≡ here → here ≡ false → cond (is_service service row) (f row) row ≡ row
fixed_by service f row here is none = rw (is ∙ none) refl

pub change_none : (service : ServiceId) (f : LiveService → LiveService) (rows : List LiveService) → All (λ row. is_service service row ≡ false) rows → change service f rows ≡ rows
change_none service f rows none = map_fixed (λ row. cond (is_service service row) (f row) row) rows (λ k d within. fixed_by service f _ false (none k d within) refl)

-- ---- rows in order

abbrev pub Rise : List LiveService → Type 0
Rise rows = AllPairs (λ a b. service_number a < service_number b) rows

pub rows_rise : (registry : RegistryRows) → AreInOrder registry → Rise registry.rows
rows_rise registry order = λ i j d before within.
    let rows = registry.rows in
    let within' : j < length (map service_number rows) = omega (arith, length-map rows service_number, within) in
    let first : get_or (map service_number rows) i 0 ≡ service_number (get_or rows i d) = get_or-map service_number rows i d 0 (omega arith) in
    let second : get_or (map service_number rows) j 0 ≡ service_number (get_or rows j d) = get_or-map service_number rows j d 0 within in
    let below = AllPairs-from_increasing (map service_number rows) order.rising i j 0 before within' in
    omega (arith, first, second, below)

rise_head : (row : LiveService) (rest : List LiveService) → Rise (row ∷ rest) → All (λ r. service_number row < service_number r) rest
rise_head row rest up = λ k d within. up 0 (suc k) d (omega arith) (omega arith)

rise_tail : (row : LiveService) (rest : List LiveService) → Rise (row ∷ rest) → Rise rest
rise_tail row rest up = λ i j d before within. up (suc i) (suc j) d (omega arith) (omega arith)

-- no row behind that of a service is the service's
others_differ : (service : ServiceId) (row : LiveService) (rest : List LiveService) → is_service service row ≡ true → All (λ r. service_number row < service_number r) rest → All (λ r. is_service service r ≡ false) rest
others_differ service row rest here after = λ k d within.
    ne_eqb service.0 _ (λ same. let number = eqb-true service.0 (service_number row) here in let above = after k d within in absurd (omega (arith, same, number, above)))

alike_by : (service : ServiceId) (f g : LiveService → LiveService) (r row : LiveService) (rest : List LiveService) (here : Bool) → is_service service r ≡ here → All (λ x. service_number r < service_number x) rest → f row ≡ g row →
    (row_at service rest ≡ Some row → change service f rest ≡ change service g rest) → cond here (Some r) (row_at service rest) ≡ Some row → cond here (f r) r ∷ change service f rest ≡ cond here (g r) r ∷ change service g rest
alike_by service f g r row rest true is after same more found =
    let one : r ≡ row = cc found in
    let none = others_differ service r rest is after in
    λ i. (ap f one ∙ same ∙ sym (ap g one)) i ∷ (change_none service f rest none ∙ sym (change_none service g rest none)) i
alike_by service f g r row rest false is after same more found = ap (λ l. r ∷ l) (more found)

-- two changes that make the same of the service's row
change_alike : (service : ServiceId) (f g : LiveService → LiveService) (row : LiveService) (rows : List LiveService) → Rise rows → f row ≡ g row → row_at service rows ≡ Some row → change service f rows ≡ change service g rows
change_alike service f g row [] up same found = refl
change_alike service f g row (r ∷ rest) up same found =
    alike_by service f g r row rest (is_service service r) refl (rise_head r rest up) same (change_alike service f g row rest (rise_tail r rest up) same) found

-- ---- the row of a service after a change

changed_by : (service : ServiceId) (f : LiveService → LiveService) (r : LiveService) (rest later : Option LiveService) (here : Bool) → is_service service r ≡ here → is_service service (f r) ≡ is_service service r → later ≡ option_map f rest →
    cond (is_service service (cond here (f r) r)) (Some (cond here (f r) r)) later ≡ option_map f (cond here (Some r) rest)
changed_by service f r rest later true is keeps more = ap (λ b. cond b (Some (f r)) later) (keeps ∙ is)
changed_by service f r rest later false is keeps more = ap (λ b. cond b (Some r) later) is ∙ more

pub row_changed : (service : ServiceId) (f : LiveService → LiveService) (rows : List LiveService) → ((r : LiveService) → is_service service (f r) ≡ is_service service r) → row_at service (change service f rows) ≡ option_map f (row_at service rows)
row_changed service f [] keeps = refl
row_changed service f (r ∷ rest) keeps = changed_by service f r (row_at service rest) (row_at service (change service f rest)) (is_service service r) refl (keeps r) (row_changed service f rest keeps)

-- ---- a service that is made with other properties

found_by : (service : ServiceId) (r row : LiveService) (rest : Option LiveService) (here : Bool) → is_service service r ≡ here → (rest ≡ Some row → is_service service row ≡ true) → cond here (Some r) rest ≡ Some row → is_service service row ≡ true
found_by service r row rest true is more found = let one : r ≡ row = cc found in ap (is_service service) (sym one) ∙ is
found_by service r row rest false is more found = more found

found_is : (service : ServiceId) (row : LiveService) (rows : List LiveService) → row_at service rows ≡ Some row → is_service service row ≡ true
found_is service row [] found = absurd (cc found)
found_is service row (r ∷ rest) found = found_by service r row (row_at service rest) (is_service service r) refl (found_is service row rest) found

-- what is made of the service's row
pub record IsMade (service : ServiceId) (properties : List Attribute) (rows : List LiveService) (made : Service) : Type 0 where
  pub row : LiveService
  pub found : row_at service rows ≡ Some row
  pub is : made ≡ (with_properties properties row).service
  pub id : made.service ≡ service

made_by : (service : ServiceId) (properties : List Attribute) (rows : List LiveService) (made : Service) (at : Option LiveService) → row_at service rows ≡ at → Some made ≡ option_map (λ row. (with_properties properties row).service) at →
    IsMade service properties rows made
made_by service properties rows made None found is = absurd (cc is)
made_by service properties rows made (Some row) found is =
    let same : made ≡ (with_properties properties row).service = cc is in
    let number = eqb-true service.0 (service_number row) (found_is service row rows found) in
    record {
      row = row;
      found = found;
      is = same;
      id = ap (λ (s : Service). s.service) same ∙ (λ i. record { 0 = sym number i });
    }

pub made_of : (service : ServiceId) (properties : List Attribute) (rows : List LiveService) (made : Service) → Some made ≡ option_map (λ row. (with_properties properties row).service) (row_at service rows) → IsMade service properties rows made
made_of service properties rows made is = made_by service properties rows made (row_at service rows) refl is

-- it may be put in place of the service
pub made_differs : (service : ServiceId) (properties : List Attribute) (rows : List LiveService) (made : Service) → IsMade service properties rows made → DiffersAtMostInProperties made rows
made_differs service properties rows made of =
    let Differs : Option LiveService → Type 0 = λ at. IsSomeAnd at (λ row. made ≡ record row.service { properties = made.properties }) in
    let own : Differs (Some of.row) = of.is ∙ ap (λ (all : List Attribute). let s : Service = record of.row.service { properties = all } in s) (sym (ap (λ (s : Service). s.properties) of.is)) in
    subst (λ s. Differs (row_at s rows)) (sym of.id) (subst Differs (sym of.found) own)

-- and then the rows are those with the properties put
pub change_made : (registry : RegistryRows) (service : ServiceId) (properties : List Attribute) (made : Service) → AreInOrder registry → IsMade service properties registry.rows made →
    change made.service (with_service made) registry.rows ≡ change service (with_properties properties) registry.rows
change_made registry service properties made order of =
    ap (λ s. change s (with_service made) registry.rows) of.id
    ∙ change_alike service (with_service made) (with_properties properties) of.row registry.rows (rows_rise registry order) (ap (λ s. with_service s of.row) of.is) of.found
