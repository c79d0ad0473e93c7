-- What a listener sees is one event, and it is one of those that are asked.
use Rattle.std.proofs.Common.{◌≡◌, ◌⊎◌, ◌<◌, ◌+◌, ℕ, suc, List, ◌∷◌, add-one, ap, drop, drop-cons, get_or, inl, inr, length, refl, subst, sym, ◌∙◌}
use Rattle.std.specs.Prelude.{◌||◌, All, ◌↔◌, Bool, true, IfOk, IsTrue, Option, Some, Result, Ok, Err}
use Rattle.std.proofs.lemmas.List.Elements.{All-cons}
use Rattle.osgi_base.specs.declared.ids.BundleId.{BundleId}
use Rattle.osgi_base.specs.declared.ids.ListenerId.{ListenerId}
use Rattle.osgi_listeners.specs.Rows.{Listening, Row, row_at, same_kind}
use Rattle.osgi_ops.specs.Assignable.{IsAssignable}
use Rattle.osgi_ops.specs.Listening.{Added, AsksFor, LetsPass}
use Rattle.osgi_ops.specs.declared.event.Event.{Event}
use Rattle.osgi_ops.specs.declared.event.Event.TheVariants as event
use Rattle.osgi_ops.specs.declared.event_codes.TheConstants.{SERVICE_MODIFIED, SERVICE_MODIFIED_ENDMATCH}
use Rattle.osgi_ops.specs.declared.kind.Kind.{Kind}
use Rattle.osgi_ops.specs.declared.service.Service.{Service}
use Rattle.osgi_ops.specs.declared.kind.Kind.TheVariants as kind
use Rattle.osgi_sights.specs.Shown.{Shown, service, modified, bundle, framework}
use Rattle.osgi_sights.specs.Sights.{added_of, IsSeenBy, Sees}
use Rattle.osgi_sights.specs.computed.Asking.{asks}
use Rattle.osgi_world.specs.declared.world.World.{World}

pub sees_once : (world : World) (a : Added) (shown : Shown) (one other : Event) → Sees world a shown one → Sees world a shown other → one ≡ other
sees_once world a (service code s) one other here there = here.2 ∙ sym there.2
sees_once world a (modified old new) one other here there = go here.1 there.1
  where
    go : (LetsPass a.given new.properties × (one ≡ event.Service SERVICE_MODIFIED new.service)) ⊎ ((¬ LetsPass a.given new.properties) × LetsPass a.given old.properties × (one ≡ event.Service SERVICE_MODIFIED_ENDMATCH new.service)) →
        (LetsPass a.given new.properties × (other ≡ event.Service SERVICE_MODIFIED new.service)) ⊎ ((¬ LetsPass a.given new.properties) × LetsPass a.given old.properties × (other ≡ event.Service SERVICE_MODIFIED_ENDMATCH new.service)) → one ≡ other
    go (inl x) (inl y) = x.1 ∙ sym y.1
    go (inl x) (inr y) = absurd (y.0 x.0)
    go (inr x) (inl y) = absurd (x.0 y.0)
    go (inr x) (inr y) = x.2 ∙ sym y.2
sees_once world a (bundle code b name version) one other here there = here.2 ∙ sym there.2
sees_once world a (framework code) one other here there = here.2 ∙ sym there.2

some_once : {A : Type 0} (o : Option A) (x y : A) → o ≡ Some x → o ≡ Some y → x ≡ y
some_once o x y here there = let same : Some x ≡ Some y = sym here ∙ there in cc same

module _ (l : Listening) (removed : Option BundleId) (world : World) (shown : Shown) (listener : ListenerId) where
  pub is_seen_once : (one other : Event) → IsSeenBy l removed world shown listener one → IsSeenBy l removed world shown listener other → one ≡ other
  is_seen_once one other here there =
      let same : there.row ≡ here.row = some_once (row_at listener l.rows) there.row here.row there.is here.is in
      let moved : Sees world (added_of here.row.listener) shown other = subst (λ (row : Row). Sees world (added_of row.listener) shown other) same there.sees in
      sees_once world (added_of here.row.listener) shown one other here.sees moved

-- ---- who is asked

asks_services : (a : Kind) → (a ≡ kind.All) ⊎ (a ≡ kind.Service) → (same_kind a kind.Service || same_kind a kind.All) ≡ true
asks_services a (inl is) = rw is refl
asks_services a (inr is) = rw is refl

pub who_sees_asks : (world : World) (shown : Shown) (row : Row) (seen : Event) → Sees world (added_of row.listener) shown seen → asks shown row ≡ true
who_sees_asks world (service code s) row seen sees = asks_services row.listener.kind (elim sees.0 [ inl all ↦ inl all | inr some ↦ inr some.0 ])
who_sees_asks world (modified old new) row seen sees = asks_services row.listener.kind (elim sees.0 [ inl all ↦ inl all | inr some ↦ inr some.0 ])
who_sees_asks world (bundle code b name version) row seen sees = rw sees.0 refl
who_sees_asks world (framework code) row seen sees = rw sees.0 refl

-- a listener of kind service asks where the service is assignable for each class
pub asks_from : {E : Type 0} (r : Result Bool E) (world : World) (a : Added) (s : Service) → a.kind ≡ kind.Service → IfOk r (λ are. IsTrue are ↔ All (λ class. IsAssignable world s.owner a.owner class) s.classes) → IfOk r (λ asks. IsTrue asks ↔ AsksFor world a s)
asks_from (Err e) world a s is told = tt
asks_from (Ok b) world a s is told = (λ yes. inr (is, told.0 yes), λ asks. by asks)
  where
    by : AsksFor world a s → b ≡ true
    by (inl all) = absurd (let bad : kind.Service ≡ kind.All = sym is ∙ all in cc bad)
    by (inr own) = told.1 own.1

-- ---- classes

-- each of those that are left holds with one more
pub all_more : {X : Type 0} (P : X → Type 0) (xs : List X) (i : ℕ) (x : X) → i < length xs → x ≡ get_or xs i x → P x → All P (drop (i + 1) xs) → All P (drop i xs)
all_more P xs i x within is holds rest =
    subst (All P) (sym (drop-cons xs i x within ∙ ap (λ y. y ∷ drop (suc i) xs) (sym is))) (All-cons P x (drop (suc i) xs) holds (subst (λ n. All P (drop n xs)) (add-one i) rest))
