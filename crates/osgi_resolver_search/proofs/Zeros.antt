-- Several decisions with value 0: what makes them and takes them back, and that the words between count as visited.
use Rattle.std.proofs.Common.{◌≡◌, ◌≢◌, ℕ, zero, suc, ◌+◌, ◌-◌, ◌<◌, ◌≤◌, Bool, false, MatchBool, List, [], ◌∷◌, ◌++◌, replicate, Option, MatchOption, sym, ◌∙◌, ap, subst, append_assoc, append-nil, arith}
use Rattle.std.specs.Bool.{Decides}
use Rattle.std.proofs.lemmas.List.{replicate-append-replicate}
use Rattle.osgi_world.specs.Candidates.{IsProblem}
use Rattle.osgi_world.specs.declared.problem.Problem.{Problem}
use Rattle.osgi_world.specs.ChoiceWords.{IsComplete, IsGood, IsWord, arity_of, made_by, width}
use Rattle.osgi_world.specs.Hopeless.{IsHopeless}
use Rattle.osgi_world.specs.Effort.{IsEffort}
use Rattle.osgi_resolver_theory.specs.Search.{HasTried, IsAt}
use Rattle.osgi_resolver_theory.proofs.Search.{at-value, tried-none}
use Rattle.osgi_resolver_theory.proofs.Words.{hopeless-more, word-more, word-next, word-prefix}
use Rattle.osgi_resolver_search.proofs.Midway.{popped}

-- ---- zeros

zeros-split : (w : List ℕ) (k n : ℕ) → w ++ replicate (k + n) 0 ≡ (w ++ replicate k 0) ++ replicate n 0
zeros-split w k n = ap (λ z. w ++ z) (sym (replicate-append-replicate k n 0)) ∙ sym (append_assoc w (replicate k 0) (replicate n 0))

zeros-more : (w : List ℕ) (k : ℕ) → w ++ replicate (k + 1) 0 ≡ (w ++ replicate k 0) ++ 0 ∷ []
zeros-more w k = zeros-split w k 1

-- ---- the words between

-- a word that has an extension is not complete
extended-open : (P : Problem) (w : List ℕ) (v : ℕ) → IsWord P (w ++ v ∷ []) → ¬ IsComplete P w
extended-open P w v f c = let h : v < 0 = subst (λ k. v < k) (ap (arity_of P) c) (word-next P w v f) in absurd (omega (arith, h))

-- from a word to the one with k zeros more, which is not hopeless, k words are visited
pub strode : (P : Problem) (L : IsProblem P) (x : List ℕ) (n k : ℕ) → IsAt P x n → IsWord P (x ++ replicate k 0) → ¬ IsHopeless P (x ++ replicate k 0) → IsAt P (x ++ replicate k 0) (n + k)
strode P L x n zero a f h = subst (λ m. IsAt P (x ++ []) m) (let e : n ≡ n + 0 = omega arith in e) (subst (λ u. IsAt P u n) (sym (append-nil x)) a)
strode P L x n (suc k) a f h =
    let more : x ++ replicate (suc k) 0 ≡ (x ++ replicate k 0) ++ 0 ∷ [] = (let e : suc k ≡ k + 1 = omega arith in ap (λ j. x ++ replicate j 0) e ∙ zeros-more x k) in
    let word : IsWord P ((x ++ replicate k 0) ++ 0 ∷ []) = subst (IsWord P) more f in
    let hopeful : ¬ IsHopeless P ((x ++ replicate k 0) ++ 0 ∷ []) = subst (λ u. ¬ IsHopeless P u) more h in
    let before = strode P L x n k a (word-prefix P (x ++ replicate k 0) (0 ∷ []) word) (λ g. hopeful (hopeless-more P L (x ++ replicate k 0) 0 word g)) in
    let next = at-value P L (x ++ replicate k 0) 0 ((n + k) + 1) (tried-none P L (x ++ replicate k 0) (n + k) before (extended-open P (x ++ replicate k 0) 0 word)) (word-next P (x ++ replicate k 0) 0 word) hopeful in
    subst (IsAt P (x ++ replicate (suc k) 0)) (let e : (n + k) + 1 ≡ n + suc k = omega arith in e) (subst (λ u. IsAt P u ((n + k) + 1)) (sym more) next)

-- ---- making them

-- the walker, whose problem is Q, stands at w, which is `start` with k zeros
pub record HasMade (P Q : Problem) (start w : List ℕ) (k : ℕ) : Type 0 where
  pub same : Q ≡ P
  pub zeros : w ≡ start ++ replicate k 0
  pub word : IsWord P w

pub made-more : (P Q R : Problem) (start w x : List ℕ) (k values : ℕ) → HasMade P Q start w k → values ≡ width Q (made_by Q w) → values ≢ 0 → R ≡ Q → x ≡ w ++ 0 ∷ [] → HasMade P R start x (k + 1)
made-more P Q R start w x k values m e some same more =
    let size : values ≡ width P (made_by P w) = subst (λ (X : Problem). values ≡ width X (made_by X w)) m.same e in
    record {
      same = same ∙ m.same;
      zeros = more ∙ ap (λ u. u ++ 0 ∷ []) m.zeros ∙ sym (zeros-more start k);
      word = subst (IsWord P) (sym more) (word-more P w 0 m.word (omega (arith, size, some)));
    }

-- ---- taking them back

pub back-one : (w x y : List ℕ) (k n : ℕ) (r : Option ℕ) → x ≡ w ++ replicate (k + (n + 1)) 0 → (x ≡ w ++ replicate ((k + 1) + n) 0 → y ≡ w ++ replicate (k + 1) 0) → (z : List ℕ) → MatchOption r ((y ≡ []) × (z ≡ [])) (λ u. y ≡ z ++ u ∷ []) → z ≡ w ++ replicate k 0
back-one w x y k n r e so z out =
    let here : x ≡ w ++ replicate ((k + 1) + n) 0 = e ∙ ap (λ j. w ++ replicate j 0) (let s : k + (n + 1) ≡ (k + 1) + n = omega arith in s) in
    popped y z (w ++ replicate k 0) 0 r (so here ∙ zeros-more w k) out

-- some of them are taken back
pub made-less : (P Q R : Problem) (start w x : List ℕ) (k kept : ℕ) → HasMade P Q start w k → kept ≤ k → R ≡ Q → ((u : List ℕ) (j : ℕ) → w ≡ u ++ replicate (j + (k - kept)) 0 → x ≡ u ++ replicate j 0) → HasMade P R start x kept
made-less P Q R start w x k kept m less same back =
    let whole : k ≡ kept + (k - kept) = omega (arith, less) in
    let w-is : w ≡ start ++ replicate (kept + (k - kept)) 0 = m.zeros ∙ ap (λ j. start ++ replicate j 0) whole in
    let x-is : x ≡ start ++ replicate kept 0 = back start kept w-is in
    record {
      same = same ∙ m.same;
      zeros = x-is;
      word = subst (IsWord P) (sym x-is) (word-prefix P (start ++ replicate kept 0) (replicate (k - kept) 0) (subst (IsWord P) (w-is ∙ zeros-split start kept (k - kept)) m.word));
    }

-- all of them are
pub made-none : (P Q R : Problem) (start w x : List ℕ) (k : ℕ) → HasMade P Q start w k → R ≡ Q → ((u : List ℕ) (j : ℕ) → w ≡ u ++ replicate (j + k) 0 → x ≡ u ++ replicate j 0) → HasMade P R start x 0
made-none P Q R start w x k m same back = made-less P Q R start w x k 0 m (omega arith) same (λ u j e. back u j (e ∙ ap (λ i. u ++ replicate (j + i) 0) (let s : k - 0 ≡ k = omega arith in s)))

pub made-hopeful : (P Q : Problem) (start w : List ℕ) (k : ℕ) (b : Bool) → HasMade P Q start w k → b ≡ false → Decides b (IsHopeless Q w) → ¬ IsHopeless P w
made-hopeful P Q start w k b m f d h = let t = d.1 (subst (λ (X : Problem). IsHopeless X w) (sym m.same) h) in cc

-- ---- going on

pub strode-to : (P : Problem) (L : IsProblem P) (x y : List ℕ) (n k : ℕ) → IsAt P x n → y ≡ x ++ replicate k 0 → IsWord P y → ¬ IsHopeless P y → IsAt P y (n + k)
strode-to P L x y n k a zeros word hopeful = subst (λ u. IsAt P u (n + k)) (sym zeros) (strode P L x n k a (subst (IsWord P) zeros word) (subst (λ u. ¬ IsHopeless P u) zeros hopeful))

stayed : (x y : List ℕ) (k : ℕ) → y ≡ x ++ replicate k 0 → k ≤ 0 → y ≡ x
stayed x y k zeros none = zeros ∙ ap (λ j. x ++ replicate j 0) (let e : k ≡ 0 = omega (arith, none) in e) ∙ append-nil x

-- where no zeros are made, the word is not hopeless, as before
pub stayed-hopeful : (P Q : Problem) (x y : List ℕ) (k : ℕ) → ¬ IsHopeless P x → Q ≡ P → y ≡ x ++ replicate k 0 → k ≤ 0 → ¬ IsHopeless Q y
stayed-hopeful P Q x y k hopeful same zeros none h = hopeful (subst (IsHopeless P) (stayed x y k zeros none) (subst (λ (X : Problem). IsHopeless X y) same h))

-- where no zeros are made, the values of the word are tried from 0
pub stepped-to : (P Q : Problem) (x y z : List ℕ) (n k : ℕ) (more : Bool) → IsProblem P → IsAt P x n → ¬ IsComplete P x → Q ≡ P → y ≡ x ++ replicate k 0 → k ≤ 0 →
    ((j : ℕ) → HasTried Q y 0 j → MatchBool more (IsAt Q z j) (((u : List ℕ) → ¬ IsGood Q u) × IsEffort Q j)) → MatchBool more (IsAt P z (n + 1)) (((u : List ℕ) → ¬ IsGood P u) × IsEffort P (n + 1))
stepped-to P Q x y z n k more L a open-end same zeros none go =
    let tried : HasTried P y 0 (n + 1) = subst (λ u. HasTried P u 0 (n + 1)) (sym (stayed x y k zeros none)) (tried-none P L x n a open-end) in
    subst (λ (X : Problem). MatchBool more (IsAt X z (n + 1)) (((u : List ℕ) → ¬ IsGood X u) × IsEffort X (n + 1))) same
    (go (n + 1) (subst (λ (X : Problem). HasTried X y 0 (n + 1)) (sym same) tried))
