-- Values by the keys of their decisions.
use Rattle.std.proofs.Common.{◌≡◌, ℕ, ◌<◌, ◌∷◌, refl, sym, ◌∙◌, ap, arith}
use Rattle.std.specs.Prelude.{Bool, true, false, cond, Some, ◌==◌, ◌&&◌}
use Rattle.std.specs.BTreeMap.{BTreeMap, Updates, get}
use Rattle.std.specs.Map.{lookup}
use Rattle.std.specs.Ordering.{is_eq, nat_cmp, ordering_then}
use Rattle.std.specs.declared.cmp.Ordering.{Ordering}
use Rattle.std.specs.declared.cmp.Ordering.TheVariants.{Less, Equal, Greater}
use Rattle.std.proofs.lemmas.Bool.{ne_eqb}
use Rattle.std.proofs.lemmas.Cmp.{by_ranked, ranked}
use Rattle.osgi_resolver_theory.proofs.Values.{nat-same}
use Rattle.osgi_world.specs.Decisions as decisions
use Rattle.osgi_world.specs.Decisions.{Made, attaching, choose, pick, same_decision, value_made}
use Rattle.osgi_resolver_path.specs.computed.Valued.{decision_at, value_by}
use Rattle.osgi_resolver_path.specs.contracts.values.KeyOrd.TheImpl.{cmp-value}
use Rattle.osgi_resolver_path.specs.declared.values.Key.{Key}
use Rattle.osgi_resolver_path.specs.declared.values.Key.TheVariants.{Attach, Choose, Pick}

-- ---- keys that tie

pub tied : (x y : ℕ) → is_eq (nat_cmp x y) ≡ (x == y)
tied x y =
    by_ranked (x < y) (x ≡ y) (y < x) (nat_cmp x y) (ranked x y (nat_cmp x y) refl)
    (λ is h. ap is_eq is ∙ sym (ne_eqb x y (λ e. omega (arith, h, e))))
    (λ is h. ap is_eq is ∙ sym (nat-same x y h))
    (λ is h. ap is_eq is ∙ sym (ne_eqb x y (λ e. omega (arith, h, e))))

both-tied : (p q : Ordering) → is_eq (ordering_then p q) ≡ (is_eq p && is_eq q)
both-tied Less q = refl
both-tied Equal q = refl
both-tied Greater q = refl

then-tied : (x y : ℕ) (q : Ordering) (b : Bool) → is_eq q ≡ b → is_eq (ordering_then (nat_cmp x y) q) ≡ ((x == y) && b)
then-tied x y q b e = both-tied (nat_cmp x y) q ∙ ap (λ a. a && is_eq q) (tied x y) ∙ ap (λ c. (x == y) && c) e

and-along : (a b c : Bool) → (a && (b && c)) ≡ ((a && b) && c)
and-along true b c = refl
and-along false b c = refl

-- two keys tie exactly where their decisions are the same
pub tie : (a b : Key) → is_eq (cmp-value.it a b) ≡ same_decision (decision_at a) (decision_at b)
tie (Attach h f) (Attach k g) = then-tied h.0 k.0 (nat_cmp f.0 g.0) (f.0 == g.0) (tied f.0 g.0)
tie (Attach h f) (Choose k p j) = refl
tie (Attach h f) (Pick k p j r s m) = refl
tie (Choose h o i) (Attach k g) = refl
tie (Choose h o i) (Choose k p j) = then-tied h.0 k.0 (ordering_then (nat_cmp o.0 p.0) (nat_cmp i j)) ((o.0 == p.0) && (i == j)) (then-tied o.0 p.0 (nat_cmp i j) (i == j) (tied i j))
tie (Choose h o i) (Pick k p j r s m) = refl
tie (Pick h o i c b l) (Attach k g) = refl
tie (Pick h o i c b l) (Choose k p j) = refl
tie (Pick h o i c b l) (Pick k p j r s m) =
    then-tied h.0 k.0 _ _ (
    then-tied o.0 p.0 _ _ (then-tied i j _ _ (then-tied c.0 r.0 _ _ (then-tied b.0 s.0 (nat_cmp l m) (l == m) (tied l m))))
    ∙ and-along (o.0 == p.0) (i == j) ((c.0 == r.0) && ((b.0 == s.0) && (l == m)))
    )

-- ---- values

abbrev key_for : decisions.Decision → Key
key_for (attaching h f) = Attach h f
key_for (choose h q) = Choose h q.owner q.index
key_for (pick h q c) = Pick h q.owner q.index c.provider c.owner c.index

key-of : (d : decisions.Decision) → decision_at (key_for d) ≡ d
key-of (attaching h f) = refl
key-of (choose h q) = refl
key-of (pick h q c) = refl

-- the value at a key is that of its decision
pub at-key : (by_key : BTreeMap Key ℕ) (k : Key) → get cmp-value.it by_key k ≡ value_by by_key (decision_at k)
at-key by_key k = ap (λ (is : Key → Bool). lookup is by_key.entries) (λ i j. tie k j i)

by-key : (by_key : BTreeMap Key ℕ) (d : decisions.Decision) → value_by by_key d ≡ get cmp-value.it by_key (key_for d)
by-key by_key d = ap (value_by by_key) (sym (key-of d)) ∙ sym (at-key by_key (key_for d))

-- one decision more
pub value-more : (old new : BTreeMap Key ℕ) (k : Key) (v : ℕ) (D : Made) → Updates cmp-value.it old new k (Some v) → ((d : decisions.Decision) → value_by old d ≡ value_made D d) → (d : decisions.Decision) → value_by new d ≡ value_made ((decision_at k, v) ∷ D) d
value-more old new k v D updates are d =
    by-key new d
    ∙ updates.0 (key_for d)
    ∙ ap (λ b. cond b (Some v) (get cmp-value.it old (key_for d))) (tie k (key_for d) ∙ ap (same_decision (decision_at k)) (key-of d))
    ∙ ap (cond (same_decision (decision_at k) d) (Some v)) (sym (by-key old d) ∙ are d)
