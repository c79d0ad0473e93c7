-- Sources by the names of packages, and the class space that they are.
use Rattle.std.proofs.Common.{◌≡◌, ◌↔◌, ◌⊎◌, inl, inr, ℕ, ◌+◌, ◌<◌, List, [], ◌∷◌, Bool, true, false, cond, length, get_or, take, refl, sym, ◌∙◌, ap, subst, map, All, Any, Contains, IsTrue}
use Rattle.std.specs.Prelude.{Option, None, Some, slice_get, unwrap_or}
use Rattle.std.specs.BTreeMap.{BTreeMap, IsOrdered, get, is_at}
use Rattle.std.specs.BTreeSet.{BTreeSet, contains, Updates as SetUpdates}
use Rattle.std.specs.List.{list_any}
use Rattle.std.specs.List.Sorted.{IsStrictlyIncreasing, IsStrictlySortedBy}
use Rattle.std.specs.Map.{keys_of}
use Rattle.std.specs.Ordering.{eq_by_cmp, nat_cmp}
use Rattle.std.proofs.lemmas.Cmp.{nat_cmp_total, nat_list_cmp_total}
use Rattle.std.proofs.lemmas.List.Elements.{All-contains}
use Rattle.std.proofs.lemmas.Map.Lookups.{exact_bytes, exact_unsigned}
use Rattle.std.proofs.lemmas.Map.Views.{btree_map_get_iff, btree_set_contains_iff}
use Rattle.osgi_base.specs.computed.Texts.{text_cmp}
use Rattle.osgi_base.specs.declared.ids.RevisionId.{RevisionId}
use Rattle.osgi_space_rows.specs.Agree.{id}
use Rattle.osgi_space_rows.specs.Names.{HasNumber, name_numbered}
use Rattle.osgi_space_rows.specs.Worlds.{AreNumbered, AreRowsIn, WorldLists}
use Rattle.osgi_world.specs.Lists.{In}
use Rattle.osgi_world.specs.Sources as relation
use Rattle.osgi_world.specs.declared.wiring.Wiring.{Wiring}
use Rattle.osgi_world.specs.declared.world.Known.{Known}
use Rattle.osgi_space_sources.specs.computed.Exact.{exact_number}
use Rattle.osgi_space_sources.specs.computed.Givens.{IsSeen}
use Rattle.osgi_space_sources.specs.declared.given.Given.{Given}
use Rattle.osgi_space_sources.specs.laws.Adding.{any-in, any-more, any-of}
use Rattle.osgi_space_sources.specs.laws.Members.{contains-map, map-contains}
use Rattle.osgi_space_sources.specs.laws.Sets.{set_put}
use Rattle.osgi_space.specs.Seen.{IsClassSpace}
use Rattle.osgi_space.specs.computed.ByName.{AddsSource, HasSource, IsFilled, as_entry}
use Rattle.osgi_space.specs.declared.seen_packages.PackageSources.{PackageSources}
use Rattle.osgi_space.proofs.Bridge.{sources-from, sources-to}
use Rattle.osgi_space.proofs.Ids.{contains-in, ids-contain, in-contains}
use Rattle.osgi_space.proofs.ImpliedNames.{decides_text}
use Rattle.osgi_space.proofs.Numbering.{named, source-number}

one_value : {X : Type 0} (o : Option X) (x y : X) → o ≡ Some x → o ≡ Some y → x ≡ y
one_value o x y a b = ap (λ (p : Option _). unwrap_or p x) (sym a ∙ b)

-- ---- one source more

module _ (old new : BTreeMap (List ℕ) (BTreeSet ℕ)) (name : List ℕ) (source : ℕ) (set : BTreeSet ℕ) where
  abbrev pub Has : Type 0
  Has = (x : ℕ) → IsTrue (contains nat_cmp set x) ↔ (HasSource old name x ⊎ (source ≡ x))

  -- the set has what stood under the name, and the source
  pub has-some : (before : BTreeSet ℕ) → get text_cmp old name ≡ Some before → SetUpdates nat_cmp before set source true → Has
  has-some before at updates x =
      let put = set_put nat_cmp exact_number before set source updates x in (
        λ c. elim (put.0 c) [ inl b ↦ inl (before, at, b) | inr e ↦ inr e ],
        λ either. put.1 (elim either [
          | inl h ↦ inl (subst (λ s. IsTrue (contains nat_cmp s x)) (one_value (get text_cmp old name) h.0 before h.1 at) h.2)
          | inr e ↦ inr e
        ]),
      )

  -- nothing stood there, and the set has the source
  pub has-none : get text_cmp old name ≡ None → (before : BTreeSet ℕ) → before.keys ≡ [] → SetUpdates nat_cmp before set source true → Has
  has-none none before empty updates x =
      let put = set_put nat_cmp exact_number before set source updates x in (
        λ c. elim (put.0 c) [
          | inl b ↦ let nothing : contains nat_cmp before x ≡ false = ap (list_any (is_at (nat_cmp x))) empty in let clash : true ≡ false = sym b ∙ nothing in cc
          | inr e ↦ inr e
        ],
        λ either. put.1 (elim either [
          | inl h ↦ let clash : None ≡ Some h.0 = sym none ∙ h.1 in cc
          | inr e ↦ inr e
        ]),
      )

  module _ (has : Has) (puts : (q : List ℕ) → get text_cmp new q ≡ cond (eq_by_cmp text_cmp name q) (Some set) (get text_cmp old q)) where
    adds-by : (p : List ℕ) (here : Bool) → eq_by_cmp text_cmp name p ≡ here → get text_cmp new p ≡ cond here (Some set) (get text_cmp old p) → (x : ℕ) → HasSource new p x ↔ (HasSource old p x ⊎ (name ≡ p) × (source ≡ x))
    adds-by p true same is x =
        let e : name ≡ p = (decides_text name p).0 same in (
          λ h. elim ((has x).0 (subst (λ s. IsTrue (contains nat_cmp s x)) (one_value (get text_cmp new p) h.0 set h.1 is) h.2)) [
            | inl before ↦ inl (subst (λ q. HasSource old q x) e before)
            | inr s ↦ inr (e, s)
          ],
          λ either. (set, is, (has x).1 (elim either [ inl before ↦ inl (subst (λ q. HasSource old q x) (sym e) before) | inr s ↦ inr s.1 ])),
        )
    adds-by p false differs is x = (
      λ h. inl (h.0, sym is ∙ h.1, h.2),
      λ either. elim either [
        | inl before ↦ (before.0, is ∙ before.1, before.2)
        | inr s ↦ let same = (decides_text name p).1 s.0 in let clash : true ≡ false = sym same ∙ differs in cc
      ],
    )

    pub adds-source : AddsSource old new name source
    adds-source p x = adds-by p (eq_by_cmp text_cmp name p) refl (puts p) x

    filled-by : (p : List ℕ) (here : Bool) → get text_cmp new p ≡ cond here (Some set) (get text_cmp old p) → IsFilled old → (s : BTreeSet ℕ) → get text_cmp new p ≡ Some s → (x : ℕ) × IsTrue (contains nat_cmp s x)
    filled-by p true is filled s g = (source, subst (λ t. IsTrue (contains nat_cmp t source)) (one_value (get text_cmp new p) set s is g) ((has source).1 (inr refl)))
    filled-by p false is filled s g = filled p s (sym is ∙ g)

    pub fills : IsFilled old → IsFilled new
    fills filled p s g = filled-by p (eq_by_cmp text_cmp name p) (puts p) filled s g

-- ---- one pair more

module _ (names : List (List ℕ)) (givens : List Given) (i : ℕ) (given : Given) (h : i < length givens) (at : given ≡ get_or givens i given) (old : BTreeMap (List ℕ) (BTreeSet ℕ)) where
  abbrev pub Named : List ℕ → ℕ → Given → Type 0
  Named p x g = HasNumber names p g.package × (g.source ≡ x)

  module _ (before : (p : List ℕ) (x : ℕ) → HasSource old p x ↔ Any (Named p x) (take i givens)) where
    pub named-more : (new : BTreeMap (List ℕ) (BTreeSet ℕ)) (name : List ℕ) → HasNumber names name given.package → AddsSource old new name given.source → (p : List ℕ) (x : ℕ) → HasSource new p x ↔ Any (Named p x) (take (i + 1) givens)
    named-more new name number adds p x =
        let more = any-more (Named p x) givens i given h at in (
          λ has. more.1 (elim ((adds p x).0 has) [
            | inl was ↦ inl ((before p x).0 was)
            | inr s ↦ inr (subst (λ q. HasNumber names q given.package) s.0 number, s.1)
          ]),
          λ any. (adds p x).1 (elim (more.0 any) [
            | inl was ↦ inl ((before p x).1 was)
            | inr n ↦ inr (one_value (slice_get names given.package) name p number n.0, n.1)
          ]),
        )

    pub unnamed-more : slice_get names given.package ≡ None → (p : List ℕ) (x : ℕ) → HasSource old p x ↔ Any (Named p x) (take (i + 1) givens)
    unnamed-more none p x =
        let more = any-more (Named p x) givens i given h at in (
          λ has. more.1 (inl ((before p x).0 has)),
          λ any. elim (more.0 any) [
            | inl was ↦ (before p x).1 was
            | inr n ↦ let clash : None ≡ Some p = sym none ∙ n.0 in cc
          ],
        )

-- ---- the sources that the rows give

module _ (world : WorldLists) (W : List Wiring) (is : AreRowsIn world W) (numbered : AreNumbered world.names world.rows) (r : RevisionId) where
  pub seen-source : (givens : List Given) → ((g : Given) → Contains givens g ↔ IsSeen world.rows r.0 g) → (p : List ℕ) (x : RevisionId) → Any (λ (g : Given). HasNumber world.names p g.package × (g.source ≡ x.0)) givens ↔ relation.Sources world.known W r p x
  seen-source givens are p x =
      let N = name_numbered world.names in
      let P : Given → Type 0 = λ g. HasNumber world.names p g.package × (g.source ≡ x.0) in
      let S : List ℕ → Type 0 = λ q. relation.Sources world.known W r q x in (
        λ any.
            let at = sources-to world.known W N world.rows is ((are any.1).0 (any-in P givens any)) in
            subst S (named world.names p any.1.package any.4.0) (subst (λ y. relation.Sources world.known W r (N any.1.package) (id y)) any.4.1 at),
        λ s.
            let w = source-number world W is numbered s in
            let at = sources-from world.known W N world.rows is (subst S (sym (named world.names p w.0 w.1)) s) in
            any-of P givens (record { «package» = w.0; source = x.0 }) ((are _).1 at) (w.1, refl),
      )

-- ---- the list of what stands in the map

packages-of : (es : List (List ℕ × BTreeSet ℕ)) → map (λ (s : PackageSources). s.package) (map as_entry es) ≡ keys_of es
packages-of [] = refl
packages-of (e ∷ es) = ap (λ ks. e.0 ∷ ks) (packages-of es)

module _ (K : List Known) (W : List Wiring) (r : RevisionId) (space : BTreeMap (List ℕ) (BTreeSet ℕ)) (list : List PackageSources)
    (listed : list ≡ map as_entry space.entries) (ordered : IsOrdered text_cmp space) (filled : IsFilled space)
    (rising : All (λ (s : PackageSources). IsStrictlyIncreasing (map (λ (x : RevisionId). x.0) s.sources)) list)
    (has : (p : List ℕ) (x : RevisionId) → HasSource space p x.0 ↔ relation.Sources K W r p x) where
  stands : (p : List ℕ) (set : BTreeSet ℕ) → (get text_cmp space p ≡ Some set) ↔ Contains space.entries (p, set)
  stands p set = btree_map_get_iff nat_list_cmp_total exact_bytes space ordered p set

  has-entry : (e : List ℕ × BTreeSet ℕ) → Contains space.entries e → (x : RevisionId) → IsTrue (contains nat_cmp e.1 x.0) ↔ relation.Sources K W r e.0 x
  has-entry e at x =
      let g = (stands e.0 e.1).1 at in (
        λ c. (has e.0 x).0 (e.1, g, c),
        λ s. let h = (has e.0 x).1 s in subst (λ set. IsTrue (contains nat_cmp set x.0)) (one_value (get text_cmp space e.0) h.0 e.1 h.1 g) h.2,
      )

  names : map (λ (s : PackageSources). s.package) list ≡ keys_of space.entries
  names = ap (map (λ (s : PackageSources). s.package)) listed ∙ packages-of space.entries

  sees : (p : List ℕ) → In p (keys_of space.entries) ↔ ((x : RevisionId) × relation.Sources K W r p x)
  sees p = (
    λ i.
        let e = map-contains (λ (e : List ℕ × BTreeSet ℕ). e.0) space.entries p (in-contains (keys_of space.entries) p i) in
        let x = filled e.0.0 e.0.1 ((stands e.0.0 e.0.1).1 e.1) in
        (id x.0, subst (λ q. relation.Sources K W r q (id x.0)) e.2 ((has-entry e.0 e.1 (id x.0)).0 x.1)),
    λ s.
        let h = (has p s.0).1 s.1 in
        contains-in (keys_of space.entries) p (contains-map (λ (e : List ℕ × BTreeSet ℕ). e.0) space.entries (p, h.0) ((stands p h.0).0 h.1)),
  )

  sources-at : (e : List ℕ × BTreeSet ℕ) → Contains space.entries e → (x : RevisionId) → In x (map id e.1.keys) ↔ relation.Sources K W r e.0 x
  sources-at e at x =
      let ids = ids-contain e.1.keys x in
      let keys = btree_set_contains_iff nat_cmp_total exact_unsigned e.1 x.0 in
      let same = has-entry e at x in
      (λ i. same.0 (keys.1 (ids.0 i)), λ s. ids.1 (keys.0 (same.1 s)))

  pub class-space : IsClassSpace K W r list
  class-space = record {
    packages = λ p. subst (λ ps. In p ps ↔ ((x : RevisionId) × relation.Sources K W r p x)) (sym names) (sees p);
    in_order = subst (IsStrictlySortedBy text_cmp) (sym names) ordered;
    sources = λ s i x.
        let e = map-contains as_entry space.entries s (subst (λ xs. Contains xs s) listed (in-contains list s i)) in
        subst (λ (t : PackageSources). In x t.sources ↔ relation.Sources K W r t.package x) e.2 (sources-at e.0 e.1 x);
    rising = λ s i. All-contains (λ (t : PackageSources). IsStrictlyIncreasing (map (λ (x : RevisionId). x.0) t.sources)) list s rising (in-contains list s i);
  }
