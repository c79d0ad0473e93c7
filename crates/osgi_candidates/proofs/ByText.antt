-- What stands under the texts of capabilities, and what one more capability adds.
use Rattle.std.proofs.Common.{◌≡◌, ◌⊎◌, inl, inr, ℕ, ◌+◌, ◌<◌, length, List, [], ◌∷◌, get_or, map, take, refl, sym, ◌∙◌, ap, subst, arith}
use Rattle.std.specs.Prelude.{Bool, true, false, cond, IsTrue, Option, Some, slice_get, bytes_eq, find}
use Rattle.std.specs.BTreeMap.{is_at}
use Rattle.std.specs.Cmp.{IsTotalOrder}
use Rattle.std.specs.Option.{option_map}
use Rattle.std.specs.declared.cmp.Ordering.{Ordering}
use Rattle.std.proofs.lemmas.Cmp.{eq_by_cmp_equiv, on_total, then_total}
use Rattle.std.proofs.lemmas.Slice.Eq.{bytes_eq-Decides}
use Rattle.osgi_base.specs.computed.Texts.{text_cmp}
use Rattle.osgi_candidates.specs.computed.Names.{place_at}
use Rattle.osgi_candidates.specs.computed.Texts.{AddsTexts, AsksText, IsSomeText, IsSomeValue, IsTextOf, IsTextOfOne, IsValueText, attribute_cmp, attribute_key, key_cmp, text_key}
use Rattle.osgi_candidates.specs.declared.names.Place.{Place}
use Rattle.osgi_candidates.specs.declared.texts.TextIndex.{TextIndex}
use Rattle.osgi_candidates.specs.declared.texts.TextKey.{TextKey}
use Rattle.osgi_capability.specs.HavingText.{HasText}
use Rattle.osgi_model.specs.Matching.{attribute_value}
use Rattle.osgi_model.specs.computed.MatchReader.{item_passes, one_of, passes}
use Rattle.osgi_model.specs.declared.filter.Test.TheVariants.{Equal}
use Rattle.osgi_model.specs.declared.value.Attribute.{Attribute}
use Rattle.osgi_model.specs.declared.value.Value.{Value}
use Rattle.osgi_model.specs.laws.Decided.{item_decides}
use Rattle.osgi_resolver_theory.proofs.Lists.{in-append_left, in-append_right, or-cases}
use Rattle.osgi_space_rules.proofs.Exact.{text_total}
use Rattle.osgi_space_rules.proofs.Grow.{in_more}
use Rattle.osgi_space_rows.specs.computed.Groups.{Adds, values_of}
use Rattle.osgi_space_rows.specs.declared.grouped.Grouped.{Grouped}
use Rattle.osgi_version.specs.declared.version.Version.{Version}
use Rattle.osgi_world.specs.Lists.{In}
use Rattle.osgi_world.specs.Satisfaction.{Satisfies}
use Rattle.osgi_world.specs.declared.capability.Capability.{Capability}
use Rattle.osgi_world.specs.declared.requirement.Requirement.{Requirement}
use Rattle.osgi_world.specs.declared.world.Known.{Known}

-- ---- keys

attribute_total : IsTotalOrder attribute_cmp
attribute_total = then_total (on_total (λ k. k.attribute) text_total) (on_total (λ k. k.name) text_total)

key_total : IsTotalOrder key_cmp
key_total = then_total (on_total (λ k. k.text) text_total) (on_total (λ k. k.attribute) attribute_total)

in_cond : {V : Type 0} (here : Bool) (v : V) → here ≡ true → In v (cond here (v ∷ []) [])
in_cond true v e = inl refl
in_cond false v e = absurd (cc e)

-- one more value of a key: what stood under a key still does, and the value stands under its own
module _ {K V : Type 0} (cmp : K → K → Ordering) (total : IsTotalOrder cmp) (old new : Grouped K V) (key : K) (v : V) (adds : Adds cmp old new key v) where
  still : (k : K) (r : V) → In r (values_of cmp old k) → In r (values_of cmp new k)
  still k r i = subst (λ xs. In r xs) (sym (adds k)) (in-append_left (values_of cmp old k) (cond (is_at (cmp key) k) (v ∷ []) []) r i)

  here : In v (values_of cmp new key)
  here = subst (λ xs. In v xs) (sym (adds key)) (in-append_right (values_of cmp old key) (cond (is_at (cmp key) key) (v ∷ []) []) v (in_cond (is_at (cmp key) key) v ((eq_by_cmp_equiv total).refl key)))

-- ---- steps

abbrev Said : Type 1
Said = List ℕ → List ℕ → List ℕ → Place → Type 0

pub adds_nothing : (index : TextIndex) (Added : Said) → ((n a t : List ℕ) (p : Place) → ¬ Added n a t p) → AddsTexts index index Added
adds_nothing index Added never = record { kept = λ n a t p i. i; added = λ n a t p x. absurd (never n a t p x) }

pub adds_like : (old new : TextIndex) (First Also : Said) → ((n a t : List ℕ) (p : Place) → Also n a t p → First n a t p) → AddsTexts old new First → AddsTexts old new Also
adds_like old new First Also from x = record { kept = x.kept; added = λ n a t p also. x.added n a t p (from n a t p also) }

pub adds_two : (a b d : TextIndex) (One Two Both : Said) → ((n k t : List ℕ) (p : Place) → Both n k t p → One n k t p ⊎ Two n k t p) → AddsTexts a b One → AddsTexts b d Two → AddsTexts a d Both
adds_two a b d One Two Both either x y = record {
  kept = λ n k t p i. y.kept n k t p (x.kept n k t p i);
  added = λ n k t p both. elim (either n k t p both) [ inl one ↦ y.kept n k t p (x.added n k t p one) | inr two ↦ y.added n k t p two ];
}

-- ---- a value

module _ (old new : TextIndex) (place : Place) (name attribute : List ℕ) where
  -- a text under itself
  pub adds_text : (text : List ℕ) (given : Value) → new.others ≡ old.others → new.many ≡ old.many → Adds key_cmp old.texts new.texts (text_key name attribute text) place → ((t : List ℕ) → IsTrue (passes (Equal t) given) → text ≡ t) → AddsTexts old new (IsValueText place name attribute given)
  adds_text text given others many adds same = record {
    kept = λ n a t p i. elim i [
      | inl here ↦ inl (still key_cmp key_total old.texts new.texts (text_key name attribute text) place adds (text_key n a t) p here)
      | inr rest ↦ inr (elim rest [
        | inl o ↦ inl (subst (λ g. In p (values_of attribute_cmp g (attribute_key n a))) (sym others) o)
        | inr m ↦ inr (subst (λ g. In p (values_of text_cmp g n)) (sym many) m)
      ])
    ];
    added = λ n a t p x.
        let key : text_key name attribute text ≡ text_key n a t = λ i. text_key (sym x.name_is i) (sym x.attribute_is i) (same t x.passes i) in
        inl (subst (λ k. In p (values_of key_cmp new.texts k)) key (subst (λ r. In r (values_of key_cmp new.texts (text_key name attribute text))) (sym x.place_is) (here key_cmp key_total old.texts new.texts (text_key name attribute text) place adds)));
  }

  -- another value under the attribute
  pub adds_other : (given : Value) → new.texts ≡ old.texts → new.many ≡ old.many → Adds attribute_cmp old.others new.others (attribute_key name attribute) place → AddsTexts old new (IsValueText place name attribute given)
  adds_other given texts many adds = record {
    kept = λ n a t p i. elim i [
      | inl here ↦ inl (subst (λ g. In p (values_of key_cmp g (text_key n a t))) (sym texts) here)
      | inr rest ↦ inr (elim rest [
        | inl o ↦ inl (still attribute_cmp attribute_total old.others new.others (attribute_key name attribute) place adds (attribute_key n a) p o)
        | inr m ↦ inr (subst (λ g. In p (values_of text_cmp g n)) (sym many) m)
      ])
    ];
    added = λ n a t p x.
        let key : attribute_key name attribute ≡ attribute_key n a = λ i. attribute_key (sym x.name_is i) (sym x.attribute_is i) in
        inr (inl (subst (λ k. In p (values_of attribute_cmp new.others k)) key (subst (λ r. In r (values_of attribute_cmp new.others (attribute_key name attribute))) (sym x.place_is) (here attribute_cmp attribute_total old.others new.others (attribute_key name attribute) place adds))));
  }

-- ---- a capability with many values

pub adds_many : (old new : TextIndex) (place : Place) (c : Capability) → new.texts ≡ old.texts → new.others ≡ old.others → Adds text_cmp old.many new.many c.name place → AddsTexts old new (IsTextOfOne place c)
adds_many old new place c texts others adds = record {
  kept = λ n a t p i. elim i [
    | inl here ↦ inl (subst (λ g. In p (values_of key_cmp g (text_key n a t))) (sym texts) here)
    | inr rest ↦ inr (elim rest [
      | inl o ↦ inl (subst (λ g. In p (values_of attribute_cmp g (attribute_key n a))) (sym others) o)
      | inr m ↦ inr (still text_cmp text_total old.many new.many c.name place adds n p m)
    ])
  ];
  added = λ n a t p x.
      inr (inr (subst (λ k. In p (values_of text_cmp new.many k)) (sym x.name_is) (subst (λ r. In r (values_of text_cmp new.many c.name)) (sym x.place_is) (here text_cmp text_total old.many new.many c.name place adds))));
}

-- ---- several values, attributes and capabilities

pub no_values : (index : TextIndex) (place : Place) (name attribute : List ℕ) → AddsTexts index index (IsSomeValue place name attribute [])
no_values index place name attribute = adds_nothing index (IsSomeValue place name attribute []) (λ n a t p x. x.1)

pub more_values : (a b d : TextIndex) (place : Place) (name attribute : List ℕ) (values : List Value) (i : ℕ) (v : Value) → i < length values → v ≡ get_or values i v → AddsTexts a b (IsSomeValue place name attribute (take i values)) → AddsTexts b d (IsValueText place name attribute v) → AddsTexts a d (IsSomeValue place name attribute (take (i + 1) values))
more_values a b d place name attribute values i v within at x y =
    adds_two a b d (IsSomeValue place name attribute (take i values)) (IsValueText place name attribute v) (IsSomeValue place name attribute (take (i + 1) values))
    (λ n k t p s. elim ((in_more values i v within at s.0).0 s.1) [ inl o ↦ inl (s.0, o, s.2) | inr e ↦ inr (subst (λ w. IsValueText place name attribute w n k t p) e s.2) ]) x y

pub no_attributes : (index : TextIndex) (place : Place) (name : List ℕ) → AddsTexts index index (IsSomeText place name [])
no_attributes index place name = adds_nothing index (IsSomeText place name []) (λ n a t p x. x.1)

pub more_attributes : (a b d : TextIndex) (place : Place) (name : List ℕ) (attributes : List Attribute) (i : ℕ) (v : Attribute) → i < length attributes → v ≡ get_or attributes i v → AddsTexts a b (IsSomeText place name (take i attributes)) → AddsTexts b d (IsValueText place name v.name v.value) → AddsTexts a d (IsSomeText place name (take (i + 1) attributes))
more_attributes a b d place name attributes i v within at x y =
    adds_two a b d (IsSomeText place name (take i attributes)) (IsValueText place name v.name v.value) (IsSomeText place name (take (i + 1) attributes))
    (λ n k t p s. elim ((in_more attributes i v within at s.0).0 s.1) [ inl o ↦ inl (s.0, o, s.2) | inr e ↦ inr (subst (λ (w : Attribute). IsValueText place name w.name w.value n k t p) e s.2) ]) x y

-- ---- which values pass

-- a text is the one that is asked for
pub text_value : (given : Value) (text : List ℕ) → ((t : List ℕ) → passes (Equal t) given ≡ bytes_eq text t) → (t : List ℕ) → IsTrue (passes (Equal t) given) → text ≡ t
text_value given text is t pass = (bytes_eq-Decides text t).0 (sym (is t) ∙ pass)

-- an element of a list that passes
one_passes : (test : Value → Bool) (values : List Value) → IsTrue (one_of (map test values)) → (v : Value) × In v values × IsTrue (test v)
one_passes test [] t = absurd (cc t)
one_passes test (v ∷ values) t = elim (or-cases (test v) (one_of (map test values)) t) [
  | inl here ↦ (v, inl refl, here)
  | inr rest ↦ (let w = one_passes test values rest in (w.0, inr w.1, w.2))
]

-- a list with the elements of which are added
pub list_texts : (old new : TextIndex) (place : Place) (name attribute : List ℕ) (given : Value) (values : List Value) → ((t : List ℕ) → passes (Equal t) given ≡ one_of (map (passes (Equal t)) values)) → AddsTexts old new (IsSomeValue place name attribute values) → AddsTexts old new (IsValueText place name attribute given)
list_texts old new place name attribute given values is x = adds_like old new (IsSomeValue place name attribute values) (IsValueText place name attribute given) (λ n a t p one.
    let w = one_passes (passes (Equal t)) values (sym (is t) ∙ one.passes) in
    (w.0, w.1, record { name_is = one.name_is; attribute_is = one.attribute_is; place_is = one.place_is; passes = w.2 })) x

-- an attribute of this name has the text
abbrev HasAttribute : List ℕ → List ℕ → List Attribute → Type 0
HasAttribute attribute text attributes = (x : Attribute) × In x attributes × (x.name ≡ attribute) × IsTrue (passes (Equal text) x.value)

has_go : (x : Attribute) (attributes : List Attribute) (attribute text : List ℕ) (b : Bool) → bytes_eq x.name attribute ≡ b → (IsTrue (item_passes (Equal text) (attribute_value bytes_eq attribute attributes)) → HasAttribute attribute text attributes) →
    IsTrue (item_passes (Equal text) (option_map (λ (a : Attribute). a.value) (cond b (Some x) (find (λ (a : Attribute). bytes_eq a.name attribute) attributes)))) → HasAttribute attribute text (x ∷ attributes)
has_go x attributes attribute text true e rest t = (x, inl refl, (bytes_eq-Decides x.name attribute).0 e, t)
has_go x attributes attribute text false e rest t = let y = rest t in (y.0, inr y.1, y.2, y.3)

has_attribute : (attributes : List Attribute) (attribute text : List ℕ) → IsTrue (item_passes (Equal text) (attribute_value bytes_eq attribute attributes)) → HasAttribute attribute text attributes
has_attribute [] attribute text t = absurd (cc t)
has_attribute (x ∷ attributes) attribute text t = has_go x attributes attribute text (bytes_eq x.name attribute) refl (has_attribute attributes attribute text) t

pub text_attributes : (old new : TextIndex) (place : Place) (c : Capability) → AddsTexts old new (IsSomeText place c.name c.attributes) → AddsTexts old new (IsTextOfOne place c)
text_attributes old new place c x = adds_like old new (IsSomeText place c.name c.attributes) (IsTextOfOne place c) (λ n a t p one.
    let y = has_attribute c.attributes a t ((item_decides (Equal t) (attribute_value bytes_eq a c.attributes)).1 one.has.has) in
    (y.0, y.1, record { name_is = one.name_is; attribute_is = sym y.2; place_is = one.place_is; passes = y.3 })) x

-- ---- the capabilities of a known revision

-- those at places below i
abbrev pub IsTextBelow : Known → ℕ → List ℕ → List ℕ → List ℕ → Place → Type 0
IsTextBelow k i n a t p = IsTextOf k n a t p × (p.index < i)

below_split : (i j : ℕ) → j < i + 1 → (j < i) ⊎ (j ≡ i)
below_split i j h = grind (arith, h)

some_same : {X : Type 0} (x y : X) (o : Option X) → o ≡ Some x → o ≡ Some y → x ≡ y
some_same x y o e f = cc

pub no_texts : (k : Known) (index : TextIndex) → AddsTexts index index (IsTextBelow k 0)
no_texts k index = adds_nothing index (IsTextBelow k 0) (λ n a t p x. let h : p.index < 0 = x.1 in omega (arith, h))

pub more_texts : (k : Known) (a b d : TextIndex) (i : ℕ) (c : Capability) → slice_get k.revision.capabilities i ≡ Some c → AddsTexts a b (IsTextBelow k i) → AddsTexts b d (IsTextOfOne (place_at k.id i) c) → AddsTexts a d (IsTextBelow k (i + 1))
more_texts k a b d i c at x y =
    adds_two a b d (IsTextBelow k i) (IsTextOfOne (place_at k.id i) c) (IsTextBelow k (i + 1))
    (λ n s t p z. elim (below_split i p.index z.1) [
      | inl less ↦ inl (z.0, less)
      | inr same ↦ (
          let one : z.0.capability ≡ c = some_same z.0.capability c (slice_get k.revision.capabilities i) (subst (λ j. slice_get k.revision.capabilities j ≡ Some z.0.capability) same z.0.stands) at in
          let place : p ≡ place_at k.id i = λ j. place_at (z.0.owner j) (same j) in
          inr (record { name_is = sym z.0.name ∙ ap (λ (v : Capability). v.name) one; place_is = place; has = subst (λ (v : Capability). HasText v s t) one z.0.has }))
    ]) x y

pub all_texts : (k : Known) (a b : TextIndex) (i : ℕ) → ((j : ℕ) (c : Capability) → slice_get k.revision.capabilities j ≡ Some c → j < i) → AddsTexts a b (IsTextBelow k i) → AddsTexts a b (IsTextOf k)
all_texts k a b i within x = adds_like a b (IsTextBelow k i) (IsTextOf k) (λ n s t p z. (z, within p.index z.capability z.stands)) x

-- ---- what a requirement asks for

pub asks_by : (q : Requirement) (k : TextKey) (attribute text : List ℕ) → k ≡ text_key q.name attribute text → ((c : Capability) (name : List ℕ) (version : Version) → Satisfies q c name version → HasText c attribute text) → AsksText q k
asks_by q k attribute text is asked = record {
  name = ap (λ (x : TextKey). x.attribute.name) is;
  asked = λ c name version s. subst (λ (x : TextKey). HasText c x.attribute.attribute x.text) (sym is) (asked c name version s);
}
