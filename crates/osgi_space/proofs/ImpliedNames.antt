-- Implied constraints by the names of packages.
use Rattle.std.proofs.Common.{◌≡◌, ◌↔◌, ℕ, List, ◌&&◌, sym, ◌∙◌, ap, subst, Any, Contains}
use Rattle.std.proofs.lemmas.Bool.Decides.{Decides-and, Decides-like}
use Rattle.std.proofs.lemmas.Cmp.{nat_cmp_total}
use Rattle.std.proofs.lemmas.Map.Text.{is_eq-slice_cmp}
use Rattle.std.proofs.lemmas.Slice.Eq.{bytes_eq-Decides}
use Rattle.std.specs.Bool.{Decides}
use Rattle.std.specs.Cmp.{IsTotalOrder, on_total, then_total, tied_then}
use Rattle.std.specs.Cmp.Lexicographic.{on_texts, slice_cmp}
use Rattle.std.specs.Ordering.{eq_by_cmp, is_eq, nat_cmp}
use Rattle.std.specs.declared.cmp.Ordering.TheVariants.{Equal}
use Rattle.osgi_base.specs.declared.ids.RevisionId.{RevisionId}
use Rattle.osgi_space_rows.specs.Agree.{AreRowsOf, id}
use Rattle.osgi_space_rows.specs.Names.{name_numbered}
use Rattle.osgi_space_rows.specs.Rows.{RowLists}
use Rattle.osgi_world.specs.Sources as relation
use Rattle.osgi_world.specs.declared.wiring.Wiring.{Wiring}
use Rattle.osgi_world.specs.declared.world.Known.{Known}
use Rattle.osgi_space_sources.specs.computed.Exact.{exact_number}
use Rattle.osgi_space_sources.specs.computed.Pairs.{IsImplied}
use Rattle.osgi_space_sources.specs.declared.given.Given.{Given}
use Rattle.osgi_space_sources.specs.laws.Adding.{any-in, any-of}
use Rattle.osgi_space.specs.ImpliedOrder.{implied_cmp}
use Rattle.osgi_space.specs.computed.NamedPairs.{named_pair}
use Rattle.osgi_space.specs.declared.implied_constraints.Implied.{Implied}
use Rattle.osgi_space.proofs.Bridge.{implied-from, implied-to}

pub implied_total : IsTotalOrder implied_cmp
implied_total = then_total (on_total (λ (c : Implied). c.seen_by) (on_total (λ (r : RevisionId). r.0) nat_cmp_total)) (on_texts (λ (c : Implied). c.package))

pub decides_text : (a b : List ℕ) → Decides (eq_by_cmp (slice_cmp nat_cmp) a b) (a ≡ b)
decides_text a b = (λ same. (bytes_eq-Decides a b).0 (sym (is_eq-slice_cmp a b) ∙ same), λ same. is_eq-slice_cmp a b ∙ (bytes_eq-Decides a b).1 same)

both : (a b : Implied) → Decides (eq_by_cmp nat_cmp a.seen_by.0 b.seen_by.0 && eq_by_cmp (slice_cmp nat_cmp) a.package b.package) (a ≡ b)
both a b =
    Decides-like (eq_by_cmp nat_cmp a.seen_by.0 b.seen_by.0 && eq_by_cmp (slice_cmp nat_cmp) a.package b.package)
    (λ e. λ i. record { seen_by = id (e.0 i); «package» = e.1 i })
    (λ e. (ap (λ (c : Implied). c.seen_by.0) e, ap (λ (c : Implied). c.package) e))
    (Decides-and _ _ (exact_number a.seen_by.0 b.seen_by.0) (decides_text a.package b.package))

pub exact_implied : (a b : Implied) → Decides (eq_by_cmp implied_cmp a b) (a ≡ b)
exact_implied a b =
    let same = tied_then (nat_cmp a.seen_by.0 b.seen_by.0) (slice_cmp nat_cmp a.package b.package) in
    (λ t. (both a b).0 (same ∙ t), λ e. sym same ∙ (both a b).1 e)

pub equal_implied : (a b : Implied) → implied_cmp a b ≡ Equal → a ≡ b
equal_implied a b e = (exact_implied a b).0 (ap is_eq e)

-- the pairs that are implied, by their names, are the implied constraints
module _ (K : List Known) (W : List Wiring) (names : List (List ℕ)) (R : RowLists) (is : AreRowsOf K W (name_numbered names) R) (r : RevisionId) where
  pub named-implied : (pairs : List Given) → ((g : Given) → Contains pairs g ↔ IsImplied R (λ x. Unit {0}) r.0 g) → (v : Implied) → Any (λ (g : Given). named_pair names g ≡ v) pairs ↔ relation.Implied K W (λ x. Unit {0}) r v.seen_by v.package
  named-implied pairs are v =
      let P : Implied → Type 0 = λ c. relation.Implied K W (λ x. Unit {0}) r c.seen_by c.package in (
        λ any. subst P any.4 (implied-to K W (name_numbered names) R is {B = λ x. Unit {0}} (λ x a. a) ((are any.1).0 (any-in (λ (g : Given). named_pair names g ≡ v) pairs any))),
        λ implied. let f = implied-from K W (name_numbered names) R is {A = λ x. Unit {0}} (λ x a. a) implied in
            any-of (λ (g : Given). named_pair names g ≡ v) pairs (record { «package» = f.0; source = v.seen_by.0 }) ((are _).1 f.2) (λ i. record { seen_by = v.seen_by; «package» = f.1 i }),
      )
