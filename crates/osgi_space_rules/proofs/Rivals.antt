-- The singletons in use, from what the wirings enter.
use Rattle.std.proofs.Common.{◌≡◌, ◌≢◌, ◌↔◌, ◌⊎◌, inl, inr, ℕ, List, ap, sym, ◌∙◌, refl, subst, IsTrue, ⊎_elim}
use Rattle.std.specs.Prelude.{Some}
use Rattle.std.specs.BTreeMap.{BTreeMap, get}
use Rattle.std.proofs.lemmas.Bool.{cases_eq}
use Rattle.osgi_base.specs.computed.Texts.{text_cmp}
use Rattle.osgi_base.specs.declared.ids.RevisionId.{RevisionId}
use Rattle.osgi_space_rules.specs.computed.Entries.{SingletonsDiffer, IsEntry, IsEntryOf}
use Rattle.osgi_space_rules.specs.computed.Growing.{Grows, HasEntry, IsFunction, Nothing, AnyOf}
use Rattle.osgi_world.specs.Lists.{In}
use Rattle.osgi_world.specs.Lookups.{is_current, is_singleton, symbolic_name}
use Rattle.osgi_world.specs.Wirings.{InUse}
use Rattle.osgi_world.specs.declared.wiring.Wiring.{Wiring}
use Rattle.osgi_world.specs.declared.world.Known.{Known}

-- what a current singleton enters
pub entry_of_one : (K : List Known) (r : RevisionId) (name : List ℕ) → name ≡ symbolic_name K r → IsTrue (is_current K r) × IsTrue (is_singleton K r) → (e : List ℕ × RevisionId) → ((e.0 ≡ name) × (e.1 ≡ r)) ↔ IsEntry K r e
entry_of_one K r name named both e = (λ h. (both, sym (h.0 ∙ named), sym h.1), λ entry. (sym entry.1 ∙ sym named, sym entry.2))

module _ (K : List Known) (W : List Wiring) where
  abbrev pub Entries : List ℕ × RevisionId → Type 0
  Entries e = AnyOf (λ g. IsEntryOf K g e) W

  abbrev IsHolder : List ℕ → RevisionId → Type 0
  IsHolder name r = InUse W r × (IsTrue (is_current K r) × IsTrue (is_singleton K r)) × (symbolic_name K r ≡ name)

  holder_of : (e : List ℕ × RevisionId) → Entries e → IsHolder e.0 e.1
  holder_of e some =
      let g = some.0 in
      elim some.2 [
        | inl entry ↦ (inl (record { wiring = g; stands = some.1; revision = entry.2 }), subst (λ r. IsTrue (is_current K r) × IsTrue (is_singleton K r)) entry.2 entry.0, ap (symbolic_name K) (sym entry.2) ∙ entry.1)
        | inr one ↦ let entry = one.2 in (
          inr (g.revision, record { wiring = g; stands = some.1; revision = refl; has = subst (λ r. In r g.fragments) entry.2 one.1 }),
          subst (λ r. IsTrue (is_current K r) × IsTrue (is_singleton K r)) entry.2 entry.0,
          ap (symbolic_name K) (sym entry.2) ∙ entry.1,
        )
      ]

  entries_of : (r : RevisionId) → InUse W r → IsTrue (is_current K r) × IsTrue (is_singleton K r) → Entries (symbolic_name K r, r)
  entries_of r (inl f) both = (f.wiring, f.stands, inl (subst (λ x. IsEntry K x (symbolic_name K r, r)) (sym f.revision) (both, refl, refl)))
  entries_of r (inr at) both = let a = at.1 in (a.wiring, a.stands, inr (r, a.has, (both, refl, refl)))

  pub entries_differ : (map : BTreeMap (List ℕ) RevisionId) → Grows Nothing (HasEntry text_cmp map) (IsEntryOf K) W → SingletonsDiffer K W
  entries_differ map grown r s in_r in_s rivals =
      let one : get text_cmp map (symbolic_name K r) ≡ Some r = (grown (symbolic_name K r, r)).1 (inr (entries_of r in_r (rivals.current.0, rivals.singletons.0))) in
      let other : get text_cmp map (symbolic_name K s) ≡ Some s = (grown (symbolic_name K s, s)).1 (inr (entries_of s in_s (rivals.current.1, rivals.singletons.1))) in
      let same : Some r ≡ Some s = sym one ∙ ap (get text_cmp map) rivals.name ∙ other in
      rivals.different (cc same)

  same_or_not : (r s : RevisionId) → (r ≡ s) ⊎ (r ≢ s)
  same_or_not r s = ⊎_elim (λ e. inl (λ i. record { 0 = e i })) (λ differ. inr (λ same. differ (ap (λ (x : RevisionId). x.0) same))) (cases_eq r.0 s.0)

  pub entries_clash : ¬ IsFunction (λ (e : List ℕ × RevisionId). Nothing e ⊎ Entries e) → ¬ SingletonsDiffer K W
  entries_clash fails differ =
      let up : (e : List ℕ × RevisionId) → Nothing e ⊎ Entries e → IsHolder e.0 e.1 = λ e either. elim either [ inl n ↦ absurd n | inr some ↦ holder_of e some ] in
      fails (λ name x y here there.
      let one = up (name, x) here in
      let other = up (name, y) there in
      elim (same_or_not x y) [
        | inl same ↦ same
        | inr not_same ↦ absurd (differ x y one.0 other.0 (record { different = not_same; name = one.2 ∙ sym other.2; current = (one.1.0, other.1.0); singletons = (one.1.1, other.1.1) }))
      ])
