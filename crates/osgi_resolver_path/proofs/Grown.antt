-- The queue after one decision more.
use Rattle.std.proofs.Common.{◌≡◌, ℕ, ◌+◌, ◌<◌, ◌≤◌, ◌⊎◌, inl, inr, zero, suc, Bool, true, false, IsTrue, if◌then◌else◌, length, take, drop, List, [], ◌∷◌, ◌++◌, flat_map, Option, Some, None, refl, sym, ◌∙◌, ap, subst, arith, append-nil, append_assoc, length-append, get_or}
use Rattle.std.specs.Prelude.{slice_get}
use Rattle.std.specs.List.{list_any}
use Rattle.std.proofs.lemmas.Grind.{flat_map-append}
use Rattle.std.proofs.lemmas.List.{get_or_default, take_more}
use Rattle.std.proofs.lemmas.Option.{slice_get_within}
use Rattle.osgi_base.specs.declared.ids.RevisionId.{RevisionId}
use Rattle.osgi_world.specs.Candidates.{IsProblem, matching}
use Rattle.osgi_world.specs.Decisions.{Decision, IsMade, Made, attaching, choose, host, is_open, pick, value_made}
use Rattle.osgi_world.specs.DueDecisions.{attachments, decisions_of, due_decisions, in_turn, members, payload, queue}
use Rattle.osgi_world.specs.Lists.{In, Two}
use Rattle.osgi_world.specs.declared.problem.Problem.{Problem}
use Rattle.osgi_resolver_theory.proofs.Lists.{any-in, in-any, in-append_cases, in-append_left, in-append_right, in-map, map-in}
use Rattle.osgi_resolver_theory.proofs.Queue.{due-once, due-same, in_order-made, queued}
use Rattle.osgi_resolver_theory.proofs.States.{IsDue, attaches, chooses, due-in, picks}
use Rattle.osgi_resolver_theory.proofs.Values.{made-kept, made-not_open, some-inj, value-cases, value-head}
use Rattle.osgi_resolver_theory.specs.Queue.{in_order}
use Rattle.osgi_resolver_theory.specs.States.{State}
use Rattle.osgi_resolver_path.specs.computed.Openings.{IsOpened}
use Rattle.osgi_resolver_path.proofs.Next.{length-in_order, queue-parts}

-- ---- parts of lists

-- what is first of one list is first of a longer one that begins alike
pub cut : {X : Type 0} (xs ys us vs : List X) → (xs ++ ys) ≡ (us ++ vs) → length xs ≤ length us → (zs : List X) × (us ≡ xs ++ zs) × (ys ≡ zs ++ vs)
cut [] ys us vs e h = (us, refl, e)
cut (x ∷ xs) ys [] vs e h = absurd (omega arith)
cut (x ∷ xs) ys (u ∷ us) vs e h =
    let rest : (xs ++ ys) ≡ (us ++ vs) = cc in
    let head : x ≡ u = cc in
    let c = cut xs ys us vs rest (omega arith) in
    (c.0, ap (λ l. u ∷ l) c.1 ∙ ap (λ z. z ∷ (xs ++ c.0)) (sym head), c.2)

-- ---- the members before the last

pub same-due : (P : Problem) (D : Made) (d : Decision) (v : ℕ) → value_made D d ≡ None → (ms : List RevisionId) → ((x : Decision) → In x (flat_map (due_decisions P D) ms) → IsMade D x) → flat_map (due_decisions P ((d, v) ∷ D)) ms ≡ flat_map (due_decisions P D) ms
same-due P D d v n [] made = refl
same-due P D d v n (m ∷ ms) made =
    let own = due-same P D d v n m (λ f i. made (attaching m f) (in-append_left (due_decisions P D m) (flat_map (due_decisions P D) ms) (attaching m f) (in-append_left (attachments P m) (if list_any (is_open D) (attachments P m) then [] else flat_map (decisions_of P m) (in_turn P (payload P D m))) (attaching m f) (in-map (attaching m) (matching P m) f i)))) in
    let others = same-due P D d v n ms (λ x i. made x (in-append_right (due_decisions P D m) (flat_map (due_decisions P D) ms) x i)) in
    ap (λ l. l ++ flat_map (due_decisions P ((d, v) ∷ D)) ms) own ∙ ap (λ l. due_decisions P D m ++ l) others

-- ---- the last one

-- the requirements' part of what is due
abbrev pub asked : Problem → Made → RevisionId → List Decision
asked P D m = flat_map (decisions_of P m) (in_turn P (payload P D m))

due-open : (P : Problem) (D : Made) (m : RevisionId) (b : Bool) → list_any (is_open D) (attachments P m) ≡ b → b ≡ true → due_decisions P D m ≡ attachments P m
due-open P D m b e t = ap (λ c. attachments P m ++ (if c then [] else asked P D m)) (e ∙ t) ∙ append-nil (attachments P m)

due-closed : (P : Problem) (D : Made) (m : RevisionId) → list_any (is_open D) (attachments P m) ≡ false → due_decisions P D m ≡ attachments P m ++ asked P D m
due-closed P D m e = ap (λ c. attachments P m ++ (if c then [] else asked P D m)) e

-- an open attachment
pub open-due : (P : Problem) (D : Made) (m f : RevisionId) → In f (matching P m) → value_made D (attaching m f) ≡ None → due_decisions P D m ≡ attachments P m
open-due P D m f i n = due-open P D m (list_any (is_open D) (attachments P m)) refl (in-any (is_open D) (attachments P m) (attaching m f) (in-map (attaching m) (matching P m) f i) (opened (value_made D (attaching m f)) n))
  where
    opened : (o : Option ℕ) → o ≡ None → IsTrue (Rattle.std.specs.Prelude.is_none o)
    opened None e = refl
    opened (Some v) e = cc

none-any : (D : Made) (ds : List Decision) → ((x : Decision) → In x ds → IsMade D x) → (b : Bool) → list_any (is_open D) ds ≡ b → b ≡ false
none-any D ds made true e = let a = any-in (is_open D) ds e in absurd (made-not_open D a.0 (made a.0 a.1) a.2)
none-any D ds made false e = refl

-- all attachments made
pub made-due : (P : Problem) (D : Made) (m : RevisionId) → ((x : Decision) → In x (attachments P m) → IsMade D x) → due_decisions P D m ≡ attachments P m ++ asked P D m
made-due P D m made =
    let b = list_any (is_open D) (attachments P m) in
    due-closed P D m (none-any D (attachments P m) made b refl)

-- ---- where the next decision stands

pub record Found {X : Type 0} (xs : List X) (n : ℕ) (x : X) : Type 0 where
  pub front : List X
  pub tail : List X
  pub is : xs ≡ front ++ x ∷ tail
  pub length_is : length front ≡ n

pub get-split : {X : Type 0} (xs : List X) (n : ℕ) (x : X) → slice_get xs n ≡ Some x → Found xs n x
get-split [] n x e = cc
get-split (y ∷ ys) zero x e = record { front = []; tail = ys; is = ap (λ z. z ∷ ys) (some-inj y x e); length_is = refl }
get-split (y ∷ ys) (suc n) x e =
    let f = get-split ys n x e in
    record { front = y ∷ f.front; tail = f.tail; is = ap (λ l. y ∷ l) f.is; length_is = ap suc f.length_is }

no-rest : {X : Type 0} (zs : List X) (us xs : List X) → us ≡ (xs ++ zs) → length us ≡ length xs → zs ≡ []
no-rest [] us xs e h = refl
no-rest (z ∷ zs) us xs e h = let l = ap length e in let m = length-append xs (z ∷ zs) in absurd (omega (arith, h, l, m))

-- two ways to cut a list at one place
pub same-front : {X : Type 0} (xs ys us vs : List X) → (xs ++ ys) ≡ (us ++ vs) → length xs ≡ length us → (us ≡ xs) × (ys ≡ vs)
same-front xs ys us vs e h =
    let c = cut xs ys us vs e (omega (arith, h)) in
    let none = no-rest c.0 us xs c.1 (sym h) in
    (c.1 ∙ ap (λ z. xs ++ z) none ∙ append-nil xs, c.2 ∙ ap (λ z. z ++ vs) none)

-- the queue up to the last member that is opened: what is made, then the next decision
pub record IsCutAt (P : Problem) (D : Made) (before own : List Decision) (d : Decision) : Type 0 where
  pub inner : List Decision
  pub tail : List Decision
  pub made : in_order D ≡ before ++ inner
  pub own_is : own ≡ inner ++ d ∷ tail
  pub opens : (x : Decision) → In x tail → value_made D x ≡ None
  pub opens_too : value_made D d ≡ None

pub cut-at : (P : Problem) → IsProblem P → (D : Made) → State P D → (before own others : List Decision) (d : Decision) (n : ℕ) → queue P D ≡ (before ++ own) ++ others → n ≡ length D → length before ≤ n → slice_get (before ++ own) n ≡ Some d → IsCutAt P D before own d
cut-at P L D s before own others d n whole n-is below there =
    let q = queued P L D s in
    let f = get-split (before ++ own) n d there in
    let all : (f.front ++ (d ∷ f.tail ++ others)) ≡ (in_order D ++ q.rest) = sym (append_assoc f.front (d ∷ f.tail) others) ∙ ap (λ l. l ++ others) (sym f.is) ∙ sym whole ∙ q.is in
    let size : length f.front ≡ length (in_order D) = f.length_is ∙ n-is ∙ sym (length-in_order D) in
    let same = same-front f.front (d ∷ f.tail ++ others) (in_order D) q.rest all size in
    let own-cut = cut before own (in_order D) (d ∷ f.tail) (f.is ∙ ap (λ l. l ++ d ∷ f.tail) (sym same.0)) (let e = length-in_order D in omega (arith, below, n-is, e)) in
    record {
      inner = own-cut.0;
      tail = f.tail;
      made = own-cut.1;
      own_is = own-cut.2;
      opens = λ x i. q.open_rest x (subst (In x) same.1 (inr (in-append_left f.tail others x i)));
      opens_too = q.open_rest d (subst (In d) same.1 (inl refl));
    }

-- ---- the last member's decisions then

-- of another decision than this one nothing changes
pub value-other : (D : Made) (d e : Decision) (v : ℕ) → (d ≡ e → ⊥) → value_made D e ≡ None → (o : Option ℕ) → value_made ((d, v) ∷ D) e ≡ o → o ≡ None
value-other D d e v differs none None is = refl
value-other D d e v differs none (Some w) is = elim (value-cases D d v e w is) [
  | inl same ↦ absurd (differs (sym same.0))
  | inr old ↦ absurd (clash old)
]
  where
    clash : value_made D e ≡ Some w → ⊥
    clash old = cc

-- the fragment that is decided on, where one is
pub record Attaches (P : Problem) (m : RevisionId) (d : Decision) : Type 0 where
  pub fragment : RevisionId
  pub matches : In fragment (matching P m)
  pub is : d ≡ attaching m fragment

-- a requirement's decision: nothing more is due
pub after-ask : (P : Problem) → IsProblem P → (D : Made) (m : RevisionId) (d : Decision) (v : ℕ) → value_made D d ≡ None → IsDue P D m d → ((f : RevisionId) → d ≡ attaching m f → ⊥) → due_decisions P ((d, v) ∷ D) m ≡ due_decisions P D m
after-ask P L D m d v n (attaches f i e) none = absurd (none f e)
after-ask P L D m d v n (chooses q i eff all single e) none = due-same P D d v n m all
after-ask P L D m d v n (picks q c i eff all several j e) none = due-same P D d v n m all

-- the last attachment: the requirements' decisions are due
pub after-last : (P : Problem) → IsProblem P → (D : Made) (m : RevisionId) (d : Decision) (v : ℕ) (before : List Decision) → (x : IsCutAt P D before (due_decisions P D m) d) → x.tail ≡ [] → Attaches P m d →
    due_decisions P ((d, v) ∷ D) m ≡ due_decisions P D m ++ asked P ((d, v) ∷ D) m
after-last P L D m d v before x last a =
    let E : Made = (d, v) ∷ D in
    let here : due_decisions P D m ≡ attachments P m = open-due P D m a.fragment a.matches (subst (λ y. value_made D y ≡ None) a.is x.opens_too) in
    let made : (y : Decision) → In y (attachments P m) → IsMade E y
    = λ y i. elim (in-append_cases x.inner (d ∷ []) y (subst (In y) (sym here ∙ x.own_is ∙ ap (λ l. x.inner ++ d ∷ l) last) i)) [
      | inl j ↦ made-kept D d v y x.opens_too (in_order-made D y (subst (In y) (sym x.made) (in-append_right before x.inner y j)))
      | inr (inl e) ↦ (v, subst (λ z. value_made E z ≡ Some v) (sym e) (value-head D d v))
      | inr (inr k) ↦ elim k [ ]
    ] in
    made-due P E m made ∙ ap (λ l. l ++ asked P E m) (sym here)

-- another attachment is open: nothing more is due
pub after-some : (P : Problem) → IsProblem P → (D : Made) (m : RevisionId) (d : Decision) (v : ℕ) (before : List Decision) → (x : IsCutAt P D before (due_decisions P D m) d) → (e : Decision) (rest : List Decision) → x.tail ≡ e ∷ rest → Attaches P m d →
    due_decisions P ((d, v) ∷ D) m ≡ due_decisions P D m
after-some P L D m d v before x e rest tail a =
    let E : Made = (d, v) ∷ D in
    let here : due_decisions P D m ≡ attachments P m = open-due P D m a.fragment a.matches (subst (λ y. value_made D y ≡ None) a.is x.opens_too) in
    let there : In e (attachments P m) = subst (In e) here (subst (In e) (sym (x.own_is ∙ ap (λ l. x.inner ++ d ∷ l) tail)) (in-append_right x.inner (d ∷ e ∷ rest) e (inr (inl refl)))) in
    let f = map-in (attaching m) (matching P m) e there in
    let twice : d ≡ e → ⊥ = λ same. due-once P L D m (subst (Two ◌≡◌) (sym (x.own_is ∙ ap (λ l. x.inner ++ d ∷ l) tail)) (two-later x.inner (d ∷ e ∷ rest) (inl (e, inl refl, same)))) in
    let none = value-other D d e v twice (x.opens e (subst (In e) (sym tail) (inl refl))) (value_made E e) refl in
    open-due P E m f.0 f.1 (subst (λ y. value_made E y ≡ None) f.2 none) ∙ sym here
  where
    two-later : (xs ys : List Decision) → Two ◌≡◌ ys → Two ◌≡◌ (xs ++ ys)
    two-later [] ys t = t
    two-later (z ∷ xs) ys t = inr (two-later xs ys t)

-- ---- the queue up to the last member that is opened

pub one-more : (f : RevisionId → List Decision) (ids : List RevisionId) (k : ℕ) (m : RevisionId) → k < length ids → m ≡ get_or ids k m → flat_map f (take (k + 1) ids) ≡ flat_map f (take k ids) ++ f m
one-more f ids k m within is =
    ap (flat_map f) (take_more ids k m within ∙ ap (λ x. take k ids ++ x ∷ []) (sym is))
    ∙ flat_map-append f (take k ids) (m ∷ []) ∙ ap (λ l. flat_map f (take k ids) ++ l) (append-nil (f m))

-- what the last opened member has made, and where the next decision stands in it
last-cut : (P : Problem) → IsProblem P → (D : Made) → State P D → (ids : List RevisionId) (qs : List Decision) (k : ℕ) (m : RevisionId) (d : Decision) → ids ≡ members P D → IsOpened P D ids qs k → m ≡ get_or ids k m → slice_get qs (length D) ≡ Some d →
    IsCutAt P D (flat_map (due_decisions P D) (take k ids)) (due_decisions P D m) d
last-cut P L D s ids qs k m d members-are o is there =
    let before = flat_map (due_decisions P D) (take k ids) in
    let parts : qs ≡ before ++ due_decisions P D m = o.queue_is ∙ one-more (due_decisions P D) ids k m o.last_in is in
    let others = flat_map (due_decisions P D) (drop (k + 1) ids) in
    cut-at P L D s before (due_decisions P D m) others d (length D) (queue-parts P D ids (k + 1) members-are ∙ ap (λ l. l ++ others) (sym o.queue_is ∙ parts)) refl o.done (subst (λ l. slice_get l (length D) ≡ Some d) parts there)

before-made : (P : Problem) (D : Made) (before own : List Decision) (d : Decision) → IsCutAt P D before own d → (x : Decision) → In x before → IsMade D x
before-made P D before own d c x i = in_order-made D x (subst (In x) (sym c.made) (in-append_left before c.inner x i))

cut-due : (P : Problem) (D : Made) (m : RevisionId) (before : List Decision) (d : Decision) → IsCutAt P D before (due_decisions P D m) d → IsDue P D m d
cut-due P D m before d c = due-in P D m d (subst (In d) (sym c.own_is) (in-append_right c.inner (d ∷ c.tail) d (inl refl)))

-- the queue stays as it is, or the requirements of the host come after it
after-cut : (P : Problem) (D : Made) (ids : List RevisionId) (qs : List Decision) (k v : ℕ) (m : RevisionId) (d : Decision) (more : List Decision) → IsOpened P D ids qs k → m ≡ get_or ids k m → IsCutAt P D (flat_map (due_decisions P D) (take k ids)) (due_decisions P D m) d →
    due_decisions P ((d, v) ∷ D) m ≡ due_decisions P D m ++ more → (qs ++ more) ≡ flat_map (due_decisions P ((d, v) ∷ D)) (take (k + 1) ids)
after-cut P D ids qs k v m d more o is c then' =
    let E : Made = (d, v) ∷ D in
    let before = flat_map (due_decisions P D) (take k ids) in
    let same = same-due P D d v c.opens_too (take k ids) (before-made P D before (due_decisions P D m) d c) in
    ap (λ l. l ++ more) (o.queue_is ∙ one-more (due_decisions P D) ids k m o.last_in is) ∙ append_assoc before (due_decisions P D m) more
    ∙ ap (λ l. before ++ l) (sym then') ∙ ap (λ l. l ++ due_decisions P E m) (sym same) ∙ sym (one-more (due_decisions P E) ids k m o.last_in is)

opened-more : (P : Problem) (D : Made) (ids : List RevisionId) (qs : List Decision) (k v : ℕ) (m : RevisionId) (d : Decision) (more : List Decision) → IsOpened P D ids qs k → m ≡ get_or ids k m → slice_get qs (length D) ≡ Some d →
    (c : IsCutAt P D (flat_map (due_decisions P D) (take k ids)) (due_decisions P D m) d) → due_decisions P ((d, v) ∷ D) m ≡ due_decisions P D m ++ more → IsOpened P ((d, v) ∷ D) ids (qs ++ more) k
opened-more P D ids qs k v m d more o is there c then' = record {
  queue_is = after-cut P D ids qs k v m d more o is c then';
  done =
      let before = flat_map (due_decisions P D) (take k ids) in
      let same = ap length (same-due P D d v c.opens_too (take k ids) (before-made P D before (due_decisions P D m) d c)) in
      let h = o.done in
      omega (arith, same, h);
  within =
      let h = slice_get_within qs (length D) d there in
      let e = length-append qs more in
      omega (arith, h, e);
  last_in = o.last_in;
}

tail-cases : (tail : List Decision) → (tail ≡ []) ⊎ ((e : Decision) × (rest : List Decision) × (tail ≡ e ∷ rest))
tail-cases [] = inl refl
tail-cases (e ∷ rest) = inr (e, rest, refl)

-- how many decisions stand after the next one
tail-length : (P : Problem) (D : Made) (ids : List RevisionId) (qs : List Decision) (k : ℕ) (m : RevisionId) (d : Decision) → IsOpened P D ids qs k → m ≡ get_or ids k m → (c : IsCutAt P D (flat_map (due_decisions P D) (take k ids)) (due_decisions P D m) d) → length qs ≡ length D + 1 + length c.tail
tail-length P D ids qs k m d o is c =
    let before = flat_map (due_decisions P D) (take k ids) in
    let a = ap length (o.queue_is ∙ one-more (due_decisions P D) ids k m o.last_in is ∙ ap (λ l. before ++ l) c.own_is) in
    let b = length-append before (c.inner ++ d ∷ c.tail) in
    let e = length-append c.inner (d ∷ c.tail) in
    let f = ap length c.made in
    let g = length-append before c.inner in
    let h = length-in_order D in
    omega (arith, a, b, e, f, g, h)

module _ (P : Problem) (L : IsProblem P) (D : Made) (s : State P D) (ids : List RevisionId) (qs : List Decision) (k v : ℕ) (d : Decision) (members-are : ids ≡ members P D) (o : IsOpened P D ids qs k) (there : slice_get qs (length D) ≡ Some d) where
  the_last : RevisionId
  the_last = get_or ids k (record { 0 = 0 })

  last-is : the_last ≡ get_or ids k the_last
  unfolding the_last
  last-is = get_or_default ids k (record { 0 = 0 }) the_last o.last_in

  -- a requirement is decided: the queue is as before
  pub opened-ask : ((h f : RevisionId) → d ≡ attaching h f → ⊥) → IsOpened P ((d, v) ∷ D) ids qs k
  opened-ask none =
      let c = last-cut P L D s ids qs k the_last d members-are o last-is there in
      let same = after-ask P L D the_last d v c.opens_too (cut-due P D the_last (flat_map (due_decisions P D) (take k ids)) d c) (none the_last) in
      subst (λ q. IsOpened P ((d, v) ∷ D) ids q k) (append-nil qs) (opened-more P D ids qs k v the_last d [] o last-is there c (same ∙ sym (append-nil (due_decisions P D the_last))))

  attached-here : (h f : RevisionId) → d ≡ attaching h f → (c : IsDue P D the_last d) → Attaches P the_last d × (h ≡ the_last)
  attached-here h f e (attaches g i x) = (record { fragment = g; matches = i; is = x }, ap host (sym e ∙ x))
  attached-here h f e (chooses q i eff all m x) = absurd (clash (sym e ∙ x))
    where
      clash : attaching h f ≡ choose the_last q → ⊥
      clash y = cc
  attached-here h f e (picks q c i eff all m j x) = absurd (clash (sym e ∙ x))
    where
      clash : attaching h f ≡ pick the_last q c → ⊥
      clash y = cc

  -- another fragment is left to decide on: the queue is as before
  pub opened-some : (h f : RevisionId) → d ≡ attaching h f → length D + 1 < length qs → IsOpened P ((d, v) ∷ D) ids qs k
  opened-some h f e more =
      let c = last-cut P L D s ids qs k the_last d members-are o last-is there in
      let a = attached-here h f e (cut-due P D the_last (flat_map (due_decisions P D) (take k ids)) d c) in
      let n = tail-length P D ids qs k the_last d o last-is c in
      elim (tail-cases c.tail) [
        | inl none ↦ let z = ap length none in absurd (omega (arith, more, n, z))
        | inr some ↦
            let same = after-some P L D the_last d v (flat_map (due_decisions P D) (take k ids)) c some.0 some.1 some.2 a.0 in
            subst (λ q. IsOpened P ((d, v) ∷ D) ids q k) (append-nil qs) (opened-more P D ids qs k v the_last d [] o last-is there c (same ∙ sym (append-nil (due_decisions P D the_last))))
      ]

  -- the last fragment is decided on: the requirements come
  pub opened-last : (h f : RevisionId) → d ≡ attaching h f → length D + 1 ≡ length qs → IsOpened P ((d, v) ∷ D) ids (qs ++ asked P ((d, v) ∷ D) h) k
  opened-last h f e all =
      let c = last-cut P L D s ids qs k the_last d members-are o last-is there in
      let a = attached-here h f e (cut-due P D the_last (flat_map (due_decisions P D) (take k ids)) d c) in
      let n = tail-length P D ids qs k the_last d o last-is c in
      elim (tail-cases c.tail) [
        | inl none ↦
            let then' = after-last P L D the_last d v (flat_map (due_decisions P D) (take k ids)) c none a.0 in
            subst (λ x. IsOpened P ((d, v) ∷ D) ids (qs ++ asked P ((d, v) ∷ D) x) k) (sym a.1) (opened-more P D ids qs k v the_last d (asked P ((d, v) ∷ D) the_last) o last-is there c then')
        | inr some ↦ let z = ap length some.2 in absurd (omega (arith, all, n, z))
      ]
