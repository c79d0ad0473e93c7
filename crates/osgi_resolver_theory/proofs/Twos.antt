-- Lists in which no two places stand in a relation; and questions about lists that have an answer.
use Rattle.std.proofs.Common.{◌∙◌, sym, ◌≡◌, ℕ, zero, suc, ◌⊎◌, inl, inr, Bool, true, false, cond, List, [], ◌∷◌, ◌++◌, map, filter, flat_map, refl, ap, ap₂, subst, arith}
use Rattle.osgi_base.specs.declared.ids.RevisionId.{RevisionId}
use Rattle.osgi_world.specs.Lists.{In, Two, item_at, below}
use Rattle.osgi_world.specs.Wirings.{Attached, HasWire}
use Rattle.osgi_world.specs.declared.wiring.CapRef.{CapRef}
use Rattle.osgi_world.specs.declared.wiring.ReqRef.{ReqRef}
use Rattle.osgi_world.specs.declared.wiring.Wire.{Wire}
use Rattle.osgi_world.specs.declared.wiring.Wiring.{Wiring}
use Rattle.osgi_resolver_theory.proofs.Lists.{below-in, filter-in, flat_map-in, in-append_cases, map-in}
use Rattle.osgi_resolver_theory.proofs.Values.{cap-eq, nat-dec, rev-dec, ref-eq}

-- ---- two places

two-append_go : {X : Type 0} (R : X → X → Type 0) (x : X) (xs ys : List X) → In x (x ∷ []) → Two R xs ⊎ (Two R ys ⊎ ((a b : X) × In a xs × In b ys × R a b)) → Two R (x ∷ xs) ⊎ (Two R ys ⊎ ((a b : X) × In a (x ∷ xs) × In b ys × R a b))
two-append_go R x xs ys _ (inl t) = inl (inr t)
two-append_go R x xs ys _ (inr (inl t)) = inr (inl t)
two-append_go R x xs ys _ (inr (inr c)) = inr (inr (c.0, c.1, inr c.2, c.3, c.4))

two-append_here : {X : Type 0} (R : X → X → Type 0) (x : X) (xs ys : List X) (b : X) → R x b → In b xs ⊎ In b ys → Two R (x ∷ xs) ⊎ (Two R ys ⊎ ((a b : X) × In a (x ∷ xs) × In b ys × R a b))
two-append_here R x xs ys b r (inl i) = inl (inl (b, i, r))
two-append_here R x xs ys b r (inr i) = inr (inr (x, b, inl refl, i, r))

pub two-append : {X : Type 0} (R : X → X → Type 0) (xs ys : List X) → Two R (xs ++ ys) → Two R xs ⊎ (Two R ys ⊎ ((a b : X) × In a xs × In b ys × R a b))
two-append R [] ys t = inr (inl t)
two-append R (x ∷ xs) ys (inl h) = two-append_here R x xs ys h.0 h.2 (in-append_cases xs ys h.0 h.1)
two-append R (x ∷ xs) ys (inr t) = two-append_go R x xs ys (inl refl) (two-append R xs ys t)

pub two-map : {X Y : Type 0} (f : X → Y) (R : Y → Y → Type 0) (xs : List X) → Two R (map f xs) → Two (λ a b. R (f a) (f b)) xs
two-map f R [] t = elim t [ ]
two-map f R (x ∷ xs) (inl h) = let m = map-in f xs h.0 h.1 in inl (m.0, m.1, subst (λ y. R (f x) y) m.2 h.2)
two-map f R (x ∷ xs) (inr t) = inr (two-map f R xs t)

pub two-weaker : {X : Type 0} (R S : X → X → Type 0) → ((a b : X) → R a b → S a b) → (xs : List X) → Two R xs → Two S xs
two-weaker R S up [] t = elim t [ ]
two-weaker R S up (x ∷ xs) (inl h) = inl (h.0, h.1, up x h.0 h.2)
two-weaker R S up (x ∷ xs) (inr t) = inr (two-weaker R S up xs t)

pub two-and : {X : Type 0} (R S : X → X → Type 0) (xs : List X) → ((a b : X) → In a xs → In b xs → R a b → S a b) → Two R xs → Two S xs
two-and R S [] up t = elim t [ ]
two-and R S (x ∷ xs) up (inl h) = inl (h.0, h.1, up x h.0 (inl refl) (inr h.1) h.2)
two-and R S (x ∷ xs) up (inr t) = inr (two-and R S xs (λ a b i j. up a b (inr i) (inr j)) t)

unfilter-cons : {X : Type 0} (R : X → X → Type 0) (p : X → Bool) (z : X) (xs : List X) (b : Bool) → (Two R (filter p xs) → Two R xs) → Two R (cond b (z ∷ filter p xs) (filter p xs)) → Two R (z ∷ xs)
unfilter-cons R p z xs true rest (inl h) = inl (h.0, (filter-in p xs h.0 h.1).0, h.2)
unfilter-cons R p z xs true rest (inr t) = inr (rest t)
unfilter-cons R p z xs false rest t = inr (rest t)

pub two-unfilter : {X : Type 0} (R : X → X → Type 0) (p : X → Bool) (xs : List X) → Two R (filter p xs) → Two R xs
two-unfilter R p [] t = elim t [ ]
two-unfilter R p (z ∷ xs) t = unfilter-cons R p z xs (p z) (two-unfilter R p xs) t

flat-go : {X Y : Type 0} (f : X → List Y) (R : Y → Y → Type 0) (x : X) (xs : List X) → ¬ Two R (f x) → ((a b : X) (y z : Y) → In y (f a) → In z (f b) → R y z → a ≡ b) → (Two R (flat_map f xs) → Two ◌≡◌ xs) →
    Two R (f x) ⊎ (Two R (flat_map f xs) ⊎ ((y z : Y) × In y (f x) × In z (flat_map f xs) × R y z)) → Two ◌≡◌ (x ∷ xs)
flat-go f R x xs one apart rest (inl t) = absurd (one t)
flat-go f R x xs one apart rest (inr (inl t)) = inr (rest t)
flat-go f R x xs one apart rest (inr (inr c)) = let m = flat_map-in f xs c.1 c.3 in inl (m.0, m.1, apart x m.0 c.0 c.1 c.2 m.2 c.4)

-- where no two stand so in one part, and parts with such two are equal, there are two equal parts
pub two-flat_map : {X Y : Type 0} (f : X → List Y) (R : Y → Y → Type 0) → ((x : X) → ¬ Two R (f x)) → ((a b : X) (y z : Y) → In y (f a) → In z (f b) → R y z → a ≡ b) → (xs : List X) → Two R (flat_map f xs) → Two ◌≡◌ xs
two-flat_map f R one apart [] t = elim t [ ]
two-flat_map f R one apart (x ∷ xs) t = flat-go f R x xs (one x) apart (two-flat_map f R one apart xs) (two-append R (f x) (flat_map f xs) t)

below-once_go : (n : ℕ) → ¬ Two ◌≡◌ (below n) → Two ◌≡◌ (below n) ⊎ (Two ◌≡◌ (n ∷ []) ⊎ ((a b : ℕ) × In a (below n) × In b (n ∷ []) × (a ≡ b))) → ⊥
below-once_go n rest (inl t) = rest t
below-once_go n rest (inr (inl (inl h))) = elim h.1 [ ]
below-once_go n rest (inr (inl (inr t))) = elim t [ ]
below-once_go n rest (inr (inr (a, b, i, inl e, s))) = let h = below-in n a i in omega (arith, h, e, s)
below-once_go n rest (inr (inr (a, b, i, inr e, s))) = elim e [ ]

pub below-once : (n : ℕ) → ¬ Two ◌≡◌ (below n)
below-once zero t = elim t [ ]
below-once (suc n) t = below-once_go n (below-once n) (two-append ◌≡◌ (below n) (n ∷ []) t)

pub at-single : {X Y : Type 0} (f : X → Y) (R : Y → Y → Type 0) (xs : List X) (n : ℕ) → ¬ Two R (map f (item_at xs n))
at-single f R [] n t = elim t [ ]
at-single f R (x ∷ xs) zero (inl h) = elim h.1 [ ]
at-single f R (x ∷ xs) zero (inr t) = elim t [ ]
at-single f R (x ∷ xs) (suc n) t = at-single f R xs n t

-- ---- answers

pub any-dec : {X : Type 0} (P : X → Type 0) → ((x : X) → P x ⊎ ¬ P x) → (xs : List X) → ((x : X) × In x xs × P x) ⊎ ¬ ((x : X) × In x xs × P x)
any-dec P dec [] = inr (λ a. elim a.1 [ ])
any-dec {X = X} P dec (z ∷ xs) = go (dec z) (any-dec P dec xs)
  where
    here-not : ¬ P z → ¬ ((x : X) × In x xs × P x) → (x : X) → (x ≡ z) ⊎ In x xs → P x → ⊥
    here-not never none x (inl e) p = never (subst P e p)
    here-not never none x (inr i) p = none (x, i, p)

    go : P z ⊎ ¬ P z → ((x : X) × In x xs × P x) ⊎ ¬ ((x : X) × In x xs × P x) → ((x : X) × In x (z ∷ xs) × P x) ⊎ ¬ ((x : X) × In x (z ∷ xs) × P x)
    go (inl p) rest = inl (z, inl refl, p)
    go (inr never) (inl a) = inl (a.0, inr a.1, a.2)
    go (inr never) (inr none) = inr (λ a. here-not never none a.0 a.1 a.2)

in-dec_go : (x : RevisionId) (xs : List RevisionId) → ((y : RevisionId) × In y xs × (y ≡ x)) ⊎ ¬ ((y : RevisionId) × In y xs × (y ≡ x)) → In x xs ⊎ ¬ In x xs
in-dec_go x xs (inl a) = inl (subst (λ y. In y xs) a.2 a.1)
in-dec_go x xs (inr never) = inr (λ i. never (x, i, refl))

pub in-dec : (x : RevisionId) (xs : List RevisionId) → In x xs ⊎ ¬ In x xs
in-dec x xs = in-dec_go x xs (any-dec (λ y. y ≡ x) (λ y. rev-dec y x) xs)

both-dec : {A B : Type 0} → A ⊎ ¬ A → B ⊎ ¬ B → (A × B) ⊎ ¬ (A × B)
both-dec (inl a) (inl b) = inl (a, b)
both-dec (inl a) (inr n) = inr (λ c. n c.1)
both-dec (inr n) b = inr (λ c. n c.0)

attached-dec_go : (W : List Wiring) (r f : RevisionId) → ((g : Wiring) × In g W × ((g.revision ≡ r) × In f g.fragments)) ⊎ ¬ ((g : Wiring) × In g W × ((g.revision ≡ r) × In f g.fragments)) → Attached W r f ⊎ ¬ Attached W r f
attached-dec_go W r f (inl a) = inl (record { wiring = a.0; stands = a.1; revision = a.2.0; has = a.2.1 })
attached-dec_go W r f (inr never) = inr (λ h. never (h.wiring, h.stands, (h.revision, h.has)))

pub attached-dec : (W : List Wiring) (r f : RevisionId) → Attached W r f ⊎ ¬ Attached W r f
attached-dec W r f = attached-dec_go W r f (any-dec (λ (g : Wiring). (g.revision ≡ r) × In f g.fragments) (λ g. both-dec (rev-dec g.revision r) (in-dec f g.fragments)) W)

ref-dec_go : (q n : ReqRef) → ((q.owner ≡ n.owner) × (q.index ≡ n.index)) ⊎ ¬ ((q.owner ≡ n.owner) × (q.index ≡ n.index)) → (q ≡ n) ⊎ ¬ (q ≡ n)
ref-dec_go q n (inl e) = inl (ref-eq q n e.0 e.1)
ref-dec_go q n (inr never) = inr (λ e. never (ap (λ (q : ReqRef). q.owner) e, ap (λ (q : ReqRef). q.index) e))

pub ref-dec : (q n : ReqRef) → (q ≡ n) ⊎ ¬ (q ≡ n)
ref-dec q n = ref-dec_go q n (both-dec (rev-dec q.owner n.owner) (nat-dec q.index n.index))

cap-dec_go : (c d : CapRef) → ((c.provider ≡ d.provider) × ((c.owner ≡ d.owner) × (c.index ≡ d.index))) ⊎ ¬ ((c.provider ≡ d.provider) × ((c.owner ≡ d.owner) × (c.index ≡ d.index))) → (c ≡ d) ⊎ ¬ (c ≡ d)
cap-dec_go c d (inl e) = inl (cap-eq c d e.0 e.1.0 e.1.1)
cap-dec_go c d (inr never) = inr (λ e. never (ap (λ (c : CapRef). c.provider) e, (ap (λ (c : CapRef). c.owner) e, ap (λ (c : CapRef). c.index) e)))

pub cap-dec : (c d : CapRef) → (c ≡ d) ⊎ ¬ (c ≡ d)
cap-dec c d = cap-dec_go c d (both-dec (rev-dec c.provider d.provider) (both-dec (rev-dec c.owner d.owner) (nat-dec c.index d.index)))

same-wire_go : (v w : Wire) → ((v.requirement ≡ w.requirement) × (v.capability ≡ w.capability)) ⊎ ¬ ((v.requirement ≡ w.requirement) × (v.capability ≡ w.capability)) → (v ≡ w) ⊎ ¬ (v ≡ w)
same-wire_go v w (inl e) = inl (ap₂ (λ q c. record { requirement = q; capability = c }) e.0 e.1)
same-wire_go v w (inr never) = inr (λ e. never (ap (λ (w : Wire). w.requirement) e, ap (λ (w : Wire). w.capability) e))

has_wire-dec_go : (W : List Wiring) (r : RevisionId) (w : Wire) → ((g : Wiring) × In g W × ((g.revision ≡ r) × ((v : Wire) × In v g.wires × (v ≡ w)))) ⊎ ¬ ((g : Wiring) × In g W × ((g.revision ≡ r) × ((v : Wire) × In v g.wires × (v ≡ w)))) → HasWire W r w ⊎ ¬ HasWire W r w
has_wire-dec_go W r w (inl a) = inl (record { wiring = a.0; stands = a.1; revision = a.2.0; has = subst (λ v. In v a.0.wires) a.2.1.2 a.2.1.1 })
has_wire-dec_go W r w (inr never) = inr (λ h. never (h.wiring, h.stands, (h.revision, (w, h.has, refl))))

pub has_wire-dec : (W : List Wiring) (r : RevisionId) (w : Wire) → HasWire W r w ⊎ ¬ HasWire W r w
has_wire-dec W r w = has_wire-dec_go W r w (any-dec (λ (g : Wiring). (g.revision ≡ r) × ((v : Wire) × In v g.wires × (v ≡ w)))
    (λ g. both-dec (rev-dec g.revision r) (any-dec (λ v. v ≡ w) (λ v. same-wire_go v w (both-dec (ref-dec v.requirement w.requirement) (cap-dec v.capability w.capability))) g.wires)) W)

-- a wire of r for this requirement
pub record WireFor (W : List Wiring) (r : RevisionId) (q : ReqRef) : Type 0 where
  pub wire : Wire
  pub has : HasWire W r wire
  pub is_for : wire.requirement ≡ q

abbrev Holds : RevisionId → ReqRef → Wiring → Type 0
Holds r q g = (g.revision ≡ r) × ((w : Wire) × In w g.wires × (w.requirement ≡ q))

wire-dec_go : (W : List Wiring) (r : RevisionId) (q : ReqRef) → ((g : Wiring) × In g W × Holds r q g) ⊎ ¬ ((g : Wiring) × In g W × Holds r q g) → WireFor W r q ⊎ ¬ WireFor W r q
wire-dec_go W r q (inl a) = inl (record { wire = a.2.1.0; has = record { wiring = a.0; stands = a.1; revision = a.2.0; has = a.2.1.1 }; is_for = a.2.1.2 })
wire-dec_go W r q (inr never) = inr (λ h. never (h.has.wiring, h.has.stands, (h.has.revision, (h.wire, h.has.has, h.is_for))))

pub wire-dec : (W : List Wiring) (r : RevisionId) (q : ReqRef) → WireFor W r q ⊎ ¬ WireFor W r q
wire-dec W r q = wire-dec_go W r q (any-dec (Holds r q) (λ g. both-dec (rev-dec g.revision r) (any-dec (λ (w : Wire). w.requirement ≡ q) (λ w. ref-dec w.requirement q) g.wires)) W)

pub stable : {A : Type 0} → A ⊎ ¬ A → ¬ ¬ A → A
stable (inl a) never = a
stable (inr n) never = absurd (never n)

once-go : {X : Type 0} (R : X → X → Type 0) (z x y : X) (xs : List X) → ¬ Two R (z ∷ xs) → R x y → R y x → (x ≡ z) ⊎ In x xs → (y ≡ z) ⊎ In y xs → (¬ Two R xs → In x xs → In y xs → x ≡ y) → x ≡ y
once-go R z x y xs once r s (inl e) (inl f) rest = e ∙ sym f
once-go R z x y xs once r s (inl e) (inr j) rest = absurd (once (inl (y, j, subst (λ a. R a y) e r)))
once-go R z x y xs once r s (inr i) (inl f) rest = absurd (once (inl (x, i, subst (λ a. R a x) f s)))
once-go R z x y xs once r s (inr i) (inr j) rest = rest (λ t. once (inr t)) i j

-- items that stand so are one, where no two places do
pub only-one : {X : Type 0} (R : X → X → Type 0) (xs : List X) (x y : X) → ¬ Two R xs → In x xs → In y xs → R x y → R y x → x ≡ y
only-one R [] x y once i j r s = elim i [ ]
only-one R (z ∷ xs) x y once i j r s = once-go R z x y xs once r s i j (λ o a b. only-one R xs x y o a b r s)
