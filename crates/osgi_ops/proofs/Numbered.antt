-- Bundles by their numbers, rising and falling.
use Rattle.std.proofs.Common.{◌≡◌, ◌↔◌, ◌⊎◌, inl, inr, ℕ, ◌<◌, arith, List, [], ◌∷◌, ◌++◌, ◌∙◌, get_or, map, reverse, sym, ap, subst, Contains}
use Rattle.std.specs.Prelude.{All, AllPairs}
use Rattle.std.specs.List.Sorted.{IsStrictlyIncreasing}
use Rattle.std.proofs.lemmas.List.{reverse-append}
use Rattle.std.proofs.lemmas.List.Elements.{All-contains, All-head, All-map, All-push, All-tail, Contains-get_or}
use Rattle.std.proofs.lemmas.List.Kept.{AllPairs-cons, AllPairs-from_increasing}
use Rattle.std.proofs.lemmas.List.Quantifiers.{all_pairs_push}
use Rattle.osgi_base.specs.declared.ids.BundleId.{BundleId}
use Rattle.osgi_ops.specs.Closures.{Rises}
use Rattle.osgi_ops.specs.Conditions.{AreThose, Falls}
use Rattle.osgi_ops.specs.computed.Numbered.{numbered}
use Rattle.osgi_ops.specs.laws.Items.{contains-In, In-contains, In-last, In-left, In-mapped}
use Rattle.osgi_ops.specs.laws.Members.{AllPairs-head, AllPairs-tail}
use Rattle.osgi_world.specs.Lists.{In}

-- ---- lists in order

rise : (ns : List ℕ) → AllPairs (λ x y. x < y) ns → AllPairs Rises (map numbered ns)
rise [] p = λ i j d before within. absurd (omega (arith, within))
rise (n ∷ ns) p =
    AllPairs-cons Rises (numbered n) (map numbered ns) (All-map (Rises (numbered n)) numbered ns (AllPairs-head (λ x y. x < y) n ns p)) (rise ns (AllPairs-tail (λ x y. x < y) n ns p))

reversed : (n : ℕ) (ns : List ℕ) → reverse (n ∷ ns) ≡ reverse ns ++ n ∷ []
reversed n ns = reverse-append (n ∷ []) ns

All-reverse : (P : ℕ → Type 0) (ns : List ℕ) → All P ns → All P (reverse ns)
All-reverse P [] all = all
All-reverse P (n ∷ ns) all = subst (All P) (sym (reversed n ns)) (All-push P (reverse ns) n (All-reverse P ns (All-tail P n ns all)) (All-head P n ns all))

fall-pairs : (ns : List ℕ) → AllPairs (λ x y. x < y) ns → AllPairs (λ x y. y < x) (reverse ns)
fall-pairs [] p = λ i j d before within. absurd (omega (arith, within))
fall-pairs (n ∷ ns) p =
    let above : All (λ m. n < m) (reverse ns) = All-reverse (λ m. n < m) ns (AllPairs-head (λ x y. x < y) n ns p) in
    subst (AllPairs (λ x y. y < x)) (sym (reversed n ns))
    (all_pairs_push (λ x y. y < x) (reverse ns) n (fall-pairs ns (AllPairs-tail (λ x y. x < y) n ns p)) (λ k d within. above k d within))

fall : (ns : List ℕ) → AllPairs (λ x y. y < x) ns → AllPairs Falls (map numbered ns)
fall [] p = λ i j d before within. absurd (omega (arith, within))
fall (n ∷ ns) p =
    AllPairs-cons Falls (numbered n) (map numbered ns) (All-map (Falls (numbered n)) numbered ns (AllPairs-head (λ x y. y < x) n ns p)) (fall ns (AllPairs-tail (λ x y. y < x) n ns p))

in-end : (ns : List ℕ) (n m : ℕ) → In m ns ⊎ (m ≡ n) → In m (ns ++ n ∷ [])
in-end ns n m (inl i) = In-left ns (n ∷ []) m i
in-end ns n m (inr e) = subst (λ k. In k (ns ++ n ∷ [])) (sym e) (In-last ns n)

in-reverse : (ns : List ℕ) (m : ℕ) → In m ns → In m (reverse ns)
in-reverse [] m i = elim i [ ]
in-reverse (n ∷ ns) m i = subst (In m) (sym (reversed n ns)) (in-end (reverse ns) n m (elim i [ inl e ↦ inr e | inr j ↦ inl (in-reverse ns m j) ]))

-- ---- exactly the bundles of these numbers

each : (P : BundleId → Type 0) (ns : List ℕ) → ((n : ℕ) → Contains ns n → P (numbered n)) → All P (map numbered ns)
each P ns f = All-map P numbered ns (λ k d less. f (get_or ns k d) (Contains-get_or ns k d less))

all-there : (ns : List ℕ) (b : BundleId) → Contains ns b.0 → Contains (map numbered ns) b
all-there ns b c = In-contains (map numbered ns) b (In-mapped numbered ns b.0 (contains-In ns b.0 c))

pub rising-those : (given ns : List ℕ) (list : List BundleId) → IsStrictlyIncreasing ns → list ≡ map numbered ns → ((n : ℕ) → Contains ns n ↔ Contains given n) → AreThose (λ b. Contains given b.0) Rises list
rising-those given ns list up is same = subst (AreThose (λ b. Contains given b.0) Rises) (sym is) (record {
  only = each (λ b. Contains given b.0) ns (λ n c. (same n).0 c);
  every = λ b p. all-there ns b ((same b.0).1 p);
  in_order = rise ns (AllPairs-from_increasing ns up);
})

reverse-there : (ns : List ℕ) (n : ℕ) → Contains (reverse ns) n → Contains ns n
reverse-there ns n c = All-contains (Contains ns) (reverse ns) n (All-reverse (Contains ns) ns (λ k d less. Contains-get_or ns k d less)) c

reverse-twice : (ns : List ℕ) (n : ℕ) → Contains ns n → Contains (reverse ns) n
reverse-twice ns n c = All-contains (Contains (reverse ns)) ns n (go ns) c
  where
    go : (ms : List ℕ) → All (Contains (reverse ms)) ms
    go ms = λ k d less. In-contains (reverse ms) (get_or ms k d) (in-reverse ms (get_or ms k d) (contains-In ms (get_or ms k d) (Contains-get_or ms k d less)))

pub falling-those : (given ns fs : List ℕ) (list : List BundleId) → IsStrictlyIncreasing ns → fs ≡ reverse ns → list ≡ map numbered fs → ((n : ℕ) → Contains ns n ↔ Contains given n) → AreThose (λ b. Contains given b.0) Falls list
falling-those given ns fs list up turned is same = subst (AreThose (λ b. Contains given b.0) Falls) (sym (is ∙ ap (map numbered) turned)) (record {
  only = each (λ b. Contains given b.0) (reverse ns) (λ n c. (same n).0 (reverse-there ns n c));
  every = λ b p. all-there (reverse ns) b (reverse-twice ns b.0 ((same b.0).1 p));
  in_order = fall (reverse ns) (fall-pairs ns (AllPairs-from_increasing ns up));
})
