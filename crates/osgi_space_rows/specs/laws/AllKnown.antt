-- Revisions that are known, and that consistent wirings name no others.
use Rattle.std.specs.Prelude.{◌≡◌, ℕ, ◌+◌, ◌<◌, ◌==◌, ◌&&◌, ◌⊎◌, Bool, true, false, cond, not, nat_lt, IsSome, IsTrue, List, [], ◌∷◌, length, Option, None, Some}
use Rattle.std.specs.Option.{option_map, option_map_or}
use Rattle.std.proofs.Common.{inl, inr, refl, sym, ◌∙◌, ap, arith}
use Rattle.std.proofs.lemmas.Bool.{eq-eqb, eqb-true}
use Rattle.osgi_base.specs.declared.ids.RevisionId.{RevisionId}
use Rattle.osgi_world.specs.Consistency.{IsCoherent}
use Rattle.osgi_world.specs.Lists.{In}
use Rattle.osgi_world.specs.Lookups.{IsKnown, capability_count, known_at, requirement_count, revision_at}
use Rattle.osgi_world.specs.Satisfaction.{matches_host}
use Rattle.osgi_world.specs.declared.revision.Revision.{Revision}
use Rattle.osgi_world.specs.declared.wiring.Wiring.{Wiring}
use Rattle.osgi_world.specs.declared.world.Known.{Known}
use Rattle.osgi_space_rows.specs.Agree.{id}
use Rattle.osgi_space_rows.specs.AllKnown.{AreAllKnown}

-- ---- revisions that are known

found-some : (test : Bool) (k : Known) (rest : Option Known) → (test ≡ true) ⊎ IsSome rest → IsSome (cond test (Some k) rest)
found-some true k rest either = refl
found-some false k rest (inl e) = absurd (cc e)
found-some false k rest (inr some) = some

-- one of the list is known
pub is-known : (K : List Known) (k : Known) (r : RevisionId) → In k K → k.id ≡ r → IsKnown K r
is-known [] k r at same = absurd at
is-known (j ∷ K) k r (inl here) same =
    let at : j.id.0 ≡ r.0 = ap (λ (l : Known). l.id.0) (sym here) ∙ ap (λ (i : RevisionId). i.0) same in
    found-some (j.id.0 == r.0) j (known_at K r) (inl (eq-eqb j.id.0 r.0 at))
is-known (j ∷ K) k r (inr later) same = found-some (j.id.0 == r.0) j (known_at K r) (inr (is-known K k r later same))

known-found : (test : Bool) (k : Known) (K : List Known) (r : RevisionId) → (k.id.0 == r.0) ≡ test → IsSome (cond test (Some k) (known_at K r)) → (IsKnown K r → (j : Known) × In j K × (j.id ≡ r)) → (j : Known) × In j (k ∷ K) × (j.id ≡ r)
known-found true k K r same some rest = (k, inl refl, ap (λ n. id n) (eqb-true k.id.0 r.0 same))
known-found false k K r other some rest = let found = rest some in (found.0, inr found.1, found.2)

-- and what is known is one of the list
pub known-in : (K : List Known) (r : RevisionId) → IsKnown K r → (k : Known) × In k K × (k.id ≡ r)
known-in [] r known = absurd (cc known)
known-in (k ∷ K) r known = known-found (k.id.0 == r.0) k K r refl known (known-in K r)

-- ---- what consistent wirings name

abbrev revision_of : Option Known → Option Revision
revision_of o = option_map (λ (k : Known). k.revision) o

-- a revision with something that is counted is known
counted-some : (count : Revision → ℕ) (o : Option Known) (n : ℕ) → n < option_map_or count (revision_of o) 0 → IsSome o
counted-some count None n within = absurd (omega (arith, within))
counted-some count (Some k) n within = refl

pub capability-known : (K : List Known) (r : RevisionId) (n : ℕ) → n < capability_count K r → IsKnown K r
capability-known K r n within = counted-some (λ v. length v.capabilities) (known_at K r) n within

requirement-known : (K : List Known) (r : RevisionId) (n : ℕ) → n < requirement_count K r → IsKnown K r
requirement-known K r n within = counted-some (λ v. length v.requirements) (known_at K r) n within

never : (b : Bool) → not b && b ≡ true → ⊥
never true e = cc e
never false e = cc e

abbrev is_dynamic_by : Option Revision → ℕ → Bool
is_dynamic_by o n =
    let count = option_map_or (λ (v : Revision). length v.requirements) o 0 in
    not (nat_lt n count) && nat_lt n (count + option_map_or (λ (v : Revision). length v.dynamics) o 0)

dynamic-some : (o : Option Known) (n : ℕ) → is_dynamic_by (revision_of o) n ≡ true → IsSome o
dynamic-some None n dynamic = absurd (never (nat_lt n 0) dynamic)
dynamic-some (Some k) n dynamic = refl

host-some : (o : Option Known) (h : Option Revision) → IsTrue (option_map_or (λ fragment. option_map_or (λ host. matches_host fragment host) h false) (revision_of o) false) → IsSome o
host-some None h is = absurd (cc is)
host-some (Some k) h is = refl

pub coherent-all_known : (K : List Known) (W : List Wiring) → IsCoherent K W → AreAllKnown K W
coherent-all_known K W coherent = record {
  requirements = λ r w has. elim (coherent.rules.asked r w has) [
    | inl asked ↦ requirement-known K w.requirement.owner w.requirement.index asked.0.1
    | inr own ↦ dynamic-some (known_at K w.requirement.owner) w.requirement.index own.1
  ];
  capabilities = λ r w has. capability-known K w.capability.owner w.capability.index (coherent.rules.offered r w has).has.1;
  fragments = λ h f a. host-some (known_at K f) (revision_at K h) (coherent.rules.attached h f a);
}
