-- Rivals are found by their name.
use Rattle.std.proofs.Common.{◌≡◌, ◌↔◌, ℕ, List, [], Option, None, Some, false, IsTrue, IsSome, refl, sym, ap}
use Rattle.std.specs.Option.{option_map_or}
use Rattle.osgi_base.specs.declared.ids.RevisionId.{RevisionId}
use Rattle.osgi_resolver_hopeless.specs.computed.Rivals.{HasRival, IsOther}
use Rattle.osgi_resolver_path.specs.Standing.{Standing}
use Rattle.osgi_world.specs.Lists.{In}
use Rattle.osgi_world.specs.Lookups.{is_current, is_singleton, known_at, revision_at, symbolic_name, IsKnown}
use Rattle.osgi_world.specs.declared.revision.Revision.{Revision}
use Rattle.osgi_world.specs.declared.world.Known.{Known}

current-go : (o : Option Known) → IsTrue (option_map_or (λ (k : Known). k.current) o false) → IsSome o
current-go None t = cc
current-go (Some k) t = refl

pub current-known : (K : List Known) (r : RevisionId) → IsTrue (is_current K r) → IsKnown K r
current-known K r t = current-go (known_at K r) t

singleton-go : (o : Option Revision) → o ≡ None → ¬ IsTrue (option_map_or (λ (v : Revision). v.singleton) o false)
singleton-go None e t = cc
singleton-go (Some v) e t = cc

pub unknown-no_singleton : (K : List Known) (r : RevisionId) → revision_at K r ≡ None → ¬ IsTrue (is_singleton K r)
unknown-no_singleton K r e = singleton-go (revision_at K r) e

pub name-is : (K : List Known) (r : RevisionId) (v : Revision) → revision_at K r ≡ Some v → symbolic_name K r ≡ v.name
name-is K r v e = ap (λ (o : Option Revision). option_map_or (λ (w : Revision). w.name) o []) e

-- among those of the revision's name
module _ (s : Standing) (new : List ℕ) (r : RevisionId) (named : List RevisionId)
    (are : (t : RevisionId) → In t named ↔ (IsKnown s.world.known t × (symbolic_name s.world.known t ≡ symbolic_name s.world.known r)))
    (single : IsTrue (is_current s.world.known r) × IsTrue (is_singleton s.world.known r)) where
  pub rival-of : (t : RevisionId) → In t named → IsOther s new r t → HasRival s new r
  rival-of t i o = (
    t,
    o.present,
    record {
      different = λ e. o.apart (ap (λ (x : RevisionId). x.0) (sym e));
      name = sym ((are t).0 i).1;
      current = (single.0, o.singleton.0);
      singletons = (single.1, o.singleton.1);
    },
  )

  pub rival-from : HasRival s new r → (t : RevisionId) × In t named × IsOther s new r t
  rival-from h = (
    h.0,
    (are h.0).1 (current-known s.world.known h.0 h.2.current.1, sym h.2.name),
    record {
      apart = λ e. h.2.different (λ i. record { 0 = sym e i });
      singleton = (h.2.current.1, h.2.singletons.1);
      present = h.1;
    },
  )
