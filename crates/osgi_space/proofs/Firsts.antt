-- The first violation by the rows is the first by the wirings.
use Rattle.std.proofs.Common.{◌≡◌, ◌↔◌, inl, inr, ℕ, ◌<◌, List, length, sym, ◌∙◌, ap, subst, Contains}
use Rattle.std.proofs.lemmas.List.Elements.{All-contains}
use Rattle.std.specs.Prelude.{Option, None, Some}
use Rattle.osgi_base.specs.declared.ids.RevisionId.{RevisionId}
use Rattle.osgi_space_rows.specs.Agree.{AreRowsOf, id}
use Rattle.osgi_space_rows.specs.Names.{name_numbered}
use Rattle.osgi_space_rows.specs.Rows.{RowLists}
use Rattle.osgi_space_rows.specs.Worlds.{AreNumbered}
use Rattle.osgi_space_rows.specs.declared.rows.Use.{Use}
use Rattle.osgi_world.specs.Lists.{In}
use Rattle.osgi_world.specs.Sources as relation
use Rattle.osgi_world.specs.declared.wiring.Wiring.{Wiring}
use Rattle.osgi_world.specs.declared.world.Known.{Known}
use Rattle.osgi_space_sources.specs.computed.Clashes.{IsClash}
use Rattle.osgi_space_sources.specs.computed.Pairs.{IsImplied}
use Rattle.osgi_space_sources.specs.computed.RowSources.{Clash, Implied, seen, follows, ExportUses}
use Rattle.osgi_space_sources.specs.declared.given.Given.{Given}
use Rattle.osgi_space_sources.specs.laws.Adding.{any-of}
use Rattle.osgi_space_sources.specs.laws.Following.{starts-among}
use Rattle.osgi_space.specs.Violations.{IsBelow, IsFirstViolation, IsViolated}
use Rattle.osgi_space.specs.computed.Firsts.{IsFirstClash, IsFirstImplied}
use Rattle.osgi_space.specs.declared.violation.Violation.{Violation}
use Rattle.osgi_space.proofs.Bridge.{clash-from, clash-to, implied-from, implied-to}

module _ (R : RowLists) (names : List (List ℕ)) (numbered : AreNumbered names R) where
  used-number : (e p u : ℕ) → ExportUses R e p u → u < length names
  used-number e p u x = (All-contains (λ (row : Use). (row.exported < length names) × (row.used < length names)) R.uses _ numbered.uses x.2).1

  pub implied-number : {A : ℕ → Type 0} {r e u : ℕ} → Implied R A r e u → u < length names
  implied-number (seen {e = e} {p = p} {u = u} a s b x) = used-number e p u x
  implied-number (follows {d = d} {u = u} {v = v} i s b x) = used-number d u v x

  -- the first of the pairs that clash, where the pairs are the implied constraints
  pub first-implied : (A : ℕ → Type 0) (r : ℕ) (pairs : List Given) → ((g : Given) → Contains pairs g ↔ IsImplied R A r g) → (first : Option Given) → IsFirstClash R names r pairs first → IsFirstImplied R names A r first
  first-implied A r pairs is None none = λ g implied clash. none (any-of (IsClash R r) pairs g ((is g).1 implied) clash)
  first-implied A r pairs is (Some f) first =
      let implied = (is f).0 first.0 in
      (implied-number implied, implied, first.1, λ g i clash. first.2 g ((is g).1 i) clash)

module _ (K : List Known) (W : List Wiring) (names : List (List ℕ)) (R : RowLists) (is : AreRowsOf K W (name_numbered names) R) (among : List RevisionId) (A : ℕ → Type 0) (same : (n : ℕ) → A n ↔ In (id n) among) where
  -- a violation by the wirings, by the rows
  violated-pair : (v : Violation) → IsViolated K W (λ r. In r among) v → (j : ℕ) × (name_numbered names j ≡ v.package) × Implied R A v.revision.0 v.seen_by.0 j × Clash R v.revision.0 v.seen_by.0 j
  violated-pair v violated =
      let f = implied-from K W (name_numbered names) R is {A = A} (λ x b. (same x.0).1 b) violated.implied in
      let C : List ℕ → Type 0 = λ p. relation.Clash K W v.revision v.seen_by p in
      (f.0, f.1, f.2, clash-from K W (name_numbered names) R is (subst C (sym f.1) violated.clash))

  pub none-violated : ((n : ℕ) → A n → IsFirstImplied R names A n None) → IsFirstViolation K W (λ r. In r among) None
  none-violated none v violated =
      let w = violated-pair v violated in
      none v.revision.0 (starts-among R A v.revision.0 w.2) (record { «package» = w.0; source = v.seen_by.0 }) w.2 w.3

  pub first-violated : (n : ℕ) (f : Given) → IsFirstImplied R names A n (Some f) → ((m : ℕ) → A m → m < n → IsFirstImplied R names A m None) →
      IsFirstViolation K W (λ r. In r among) (Some (record { revision = id n; seen_by = id f.source; «package» = name_numbered names f.package }))
  first-violated n f first none = (
    record {
      implied = implied-to K W (name_numbered names) R is {B = λ r. In r among} (λ x a. (same x).0 a) first.1;
      clash = clash-to K W (name_numbered names) R is first.2;
    },
    λ v violated earlier.
        let w = violated-pair v violated in
        let pair : Given = record { «package» = w.0; source = v.seen_by.0 } in
        elim earlier [
          | inl below ↦ none v.revision.0 (starts-among R A v.revision.0 w.2) below pair w.2 w.3
          | inr rest ↦
              let e : v.revision.0 ≡ n = ap (λ (r : RevisionId). r.0) rest.0 in
              let implied : IsImplied R A n pair = subst (λ r. Implied R A r v.seen_by.0 w.0) e w.2 in
              let clash : IsClash R n pair = subst (λ r. Clash R r v.seen_by.0 w.0) e w.3 in
              first.3 pair implied clash (elim rest.1 [
                | inl below ↦ let P : List ℕ → Type 0 = λ p. IsBelow p (name_numbered names f.package) in inl (subst P (sym w.1) below)
                | inr tie ↦ inr (w.1 ∙ tie.0, tie.1)
              ])
        ],
  )
