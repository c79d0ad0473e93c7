-- A search between two words that are not hopeless: what its moves keep.
use Rattle.std.proofs.Common.{◌≡◌, ℕ, zero, suc, ◌+◌, ◌-◌, ◌<◌, ◌≤◌, Bool, true, false, List, [], ◌∷◌, ◌++◌, Option, None, Some, MatchOption, refl, sym, ◌∙◌, subst, arith}
use Rattle.std.specs.Bool.{Decides}
use Rattle.osgi_world.specs.Candidates.{IsProblem}
use Rattle.osgi_world.specs.declared.problem.Problem.{Problem}
use Rattle.osgi_world.specs.ChoiceWords.{width, IsWord, made_by, IsGood}
use Rattle.osgi_world.specs.Hopeless.{IsHopeless}
use Rattle.osgi_world.specs.Effort.{IsEffort}
use Rattle.osgi_resolver_theory.specs.Search.{IsAt, HasTried}
use Rattle.osgi_resolver_theory.proofs.Words.{hopeless-more, word-prefix, word-next}
use Rattle.osgi_resolver_theory.proofs.Search.{tried-hopeless, tried-all, at-value, ended-none, ended-effort}
use Rattle.osgi_resolver_theory.proofs.Left.{left, left-shorter, front-same}
use Rattle.osgi_resolver_search.specs.Passing.{AreHopelessBetween}

-- the walker, whose problem is Q, stands at w, which is not hopeless, and the values of w below v are tried, if those of `start`
-- were tried as far
pub record IsMidway (P Q : Problem) (start w : List ℕ) (v values : ℕ) : Type 0 where
  pub same : Q ≡ P
  pub word : IsWord P w
  pub hopeful : ¬ IsHopeless P w
  pub range : v ≤ values
  pub width_is : values ≡ width P (made_by P w)
  pub tried : (n : ℕ) → HasTried P start 0 n → HasTried P w v n

-- ---- values that are passed over

tried-on : (P : Problem) → IsProblem P → (w : List ℕ) (n v d : ℕ) → HasTried P w v n → AreHopelessBetween P w v (v + d) → HasTried P w (v + d) n
tried-on P L w n v zero t h = subst (λ x. HasTried P w x n) (let e : v ≡ v + 0 = omega arith in e) t
tried-on P L w n v (suc d) t h =
    subst (λ x. HasTried P w x n) (let e : (v + d) + 1 ≡ v + suc d = omega arith in e)
    (tried-hopeless P L w (v + d) n (tried-on P L w n v d t (λ x above below. h x above (omega (arith, below)))) (h (v + d) (omega arith) (omega arith)))

-- each value between is hopeless
pub midway-on : (P Q : Problem) (start w : List ℕ) (v u k : ℕ) → IsProblem P → IsMidway P Q start w v k → v ≤ u → u ≤ width Q (made_by Q w) → AreHopelessBetween Q w v u → IsMidway P Q start w u k
midway-on P Q start w v u k L m above inside none =
    let there : AreHopelessBetween P w v u = subst (λ (X : Problem). AreHopelessBetween X w v u) m.same none in
    let most : u ≤ width P (made_by P w) = subst (λ (X : Problem). u ≤ width X (made_by X w)) m.same inside in
    let whole : v + (u - v) ≡ u = omega (arith, above) in
    record {
      same = m.same;
      word = m.word;
      hopeful = m.hopeful;
      range = (let size = m.width_is in omega (arith, most, size));
      width_is = m.width_is;
      tried = λ n t. subst (λ x. HasTried P w x n) whole (tried-on P L w n v (u - v) (m.tried n t) (subst (λ x. AreHopelessBetween P w v x) (sym whole) there));
    }

-- and fewer values are left
pub left-on : (P : Problem) (w : List ℕ) (v u k : ℕ) → v ≤ u → left P w v < k → left P w u < k
left-on P w v u k above less = omega (arith, above, less)

-- ---- one value after another

pub midway-start : (P : Problem) (w : List ℕ) (k : ℕ) → IsWord P w → ¬ IsHopeless P w → k ≡ width P (made_by P w) → IsMidway P P w w 0 k
midway-start P w k word hopeful size = record { same = refl; word = word; hopeful = hopeful; range = omega arith; width_is = size; tried = λ n t. t }

hopeful-of : (P Q : Problem) (w x : List ℕ) (b : Bool) → Q ≡ P → w ≡ x → b ≡ false → Decides b (IsHopeless Q w) → IsHopeless P x → ⊥
hopeful-of P Q w x b e f no' d h =
    let t = d.1 (subst (λ (X : Problem). IsHopeless X w) (sym e) (subst (IsHopeless P) (sym f) h)) in
    cc

hopeless-of : (P Q : Problem) (w x : List ℕ) (b : Bool) → Q ≡ P → w ≡ x → b ≡ true → Decides b (IsHopeless Q w) → IsHopeless P x
hopeless-of P Q w x b e f t d = subst (IsHopeless P) f (subst (λ (X : Problem). IsHopeless X w) e (d.0 t))

-- with one value more, the word without its last value is the one before, which is not hopeless
pub midway-before : (P Q R : Problem) (start w x : List ℕ) (v k : ℕ) → IsMidway P Q start w v k → R ≡ Q → x ≡ w ++ v ∷ [] → (u : List ℕ) (j : ℕ) → x ≡ u ++ j ∷ [] → ¬ IsHopeless R u
midway-before P Q R start w x v k m same x-is u j u-is h =
    m.hopeful (subst (IsHopeless P) (front-same u w j v (sym u-is ∙ x-is)) (subst (λ (X : Problem). IsHopeless X u) (same ∙ m.same) h))

-- a value whose word is not hopeless
pub midway-at : (P Q R : Problem) (start w x : List ℕ) (v k : ℕ) (b : Bool) → IsProblem P → IsMidway P Q start w v k → v < k → R ≡ Q → x ≡ w ++ v ∷ [] → b ≡ false → Decides b (IsHopeless R x) → (n : ℕ) → HasTried P start 0 n → IsAt P x n
midway-at P Q R start w x v k b L m less same x-is f d n t =
    subst (λ y. IsAt P y n) (sym x-is)
    (at-value P L w v n (m.tried n t) (subst (λ j. v < j) m.width_is less) (hopeful-of P R x (w ++ v ∷ []) b (same ∙ m.same) x-is f d))

-- the number that was taken back
pub popped : (x y : List ℕ) (w : List ℕ) (v : ℕ) (r : Option ℕ) → x ≡ w ++ v ∷ [] → MatchOption r ((x ≡ []) × (y ≡ [])) (λ u. x ≡ y ++ u ∷ []) → y ≡ w
popped x y w v None e m = absurd (not-nil w v (sym e ∙ m.0))
  where
    not-nil : (w : List ℕ) (v : ℕ) → (w ++ v ∷ []) ≡ [] → ⊥
    not-nil [] v e = cc
    not-nil (z ∷ w) v e = cc
popped x y w v (Some u) e m = front-same y w u v (sym m ∙ e)

-- a value whose word is hopeless, and is taken back
pub midway-next : (P Q R T : Problem) (start w x y : List ℕ) (v k : ℕ) (b : Bool) (r : Option ℕ) → IsProblem P → IsMidway P Q start w v k → v < k → R ≡ Q → x ≡ w ++ v ∷ [] → b ≡ true → Decides b (IsHopeless R x) →
    T ≡ R → MatchOption r ((x ≡ []) × (y ≡ [])) (λ u. x ≡ y ++ u ∷ []) → IsMidway P T start y (v + 1) k
midway-next P Q R T start w x y v k b r L m less same x-is t d same' out =
    let back = popped x y w v r x-is out in
    record {
      same = same' ∙ same ∙ m.same;
      word = subst (IsWord P) (sym back) m.word;
      hopeful = subst (λ u. ¬ IsHopeless P u) (sym back) m.hopeful;
      range = omega (arith, less);
      width_is = subst (λ u. k ≡ width P (made_by P u)) (sym back) m.width_is;
      tried = λ n h. subst (λ u. HasTried P u (v + 1) n) (sym back) (tried-hopeless P L w v n (m.tried n h) (hopeless-of P R x (w ++ v ∷ []) b (same ∙ m.same) x-is t d));
    }

-- all values of the empty word are tried
pub midway-ended : (P Q : Problem) (start w : List ℕ) (v k : ℕ) → IsProblem P → IsMidway P Q start w v k → k ≤ v → w ≡ [] → (n : ℕ) → HasTried P start 0 n → ((u : List ℕ) → IsGood P u → ⊥) × IsEffort P n
midway-ended P Q start w v k L m all empty n t =
    let last : v ≡ k = (let h = m.range in omega (arith, h, all)) in
    let there : HasTried P [] v n = subst (λ u. HasTried P u v n) empty (m.tried n t) in
    let is : v ≡ width P (made_by P []) = last ∙ subst (λ u. k ≡ width P (made_by P u)) empty m.width_is in
    (ended-none P L v n there is, ended-effort P L v n there is)

-- all values of a word are tried, and its last number is taken back
pub midway-back : (P Q R : Problem) (start w y : List ℕ) (v k u j : ℕ) → IsProblem P → IsMidway P Q start w v k → k ≤ v → R ≡ Q → w ≡ y ++ u ∷ [] → j ≡ width R (made_by R y) → IsMidway P R start y (u + 1) j
midway-back P Q R start w y v k u j L m all same w-is j-is =
    let last : v ≡ k = (let h = m.range in omega (arith, h, all)) in
    let word : IsWord P (y ++ u ∷ []) = subst (IsWord P) w-is m.word in
    let size : j ≡ width P (made_by P y) = subst (λ (X : Problem). j ≡ width X (made_by X y)) (same ∙ m.same) j-is in
    let less = word-next P y u word in
    record {
      same = same ∙ m.same;
      word = word-prefix P y (u ∷ []) word;
      hopeful = λ h. m.hopeful (subst (IsHopeless P) (sym w-is) (hopeless-more P L y u word h));
      range = omega (arith, less, size);
      width_is = size;
      tried = λ n h. tried-all P L y u v n (subst (λ x. HasTried P x v n) w-is (m.tried n h)) (last ∙ subst (λ x. k ≡ width P (made_by P x)) w-is m.width_is);
    }

pub back-range : (P Q R : Problem) (start w y : List ℕ) (v k u j : ℕ) → IsMidway P Q start w v k → R ≡ Q → w ≡ y ++ u ∷ [] → j ≡ width R (made_by R y) → u < j
back-range P Q R start w y v k u j m same w-is j-is =
    let size : j ≡ width P (made_by P y) = subst (λ (X : Problem). j ≡ width X (made_by X y)) (same ∙ m.same) j-is in
    let less = word-next P y u (subst (IsWord P) w-is m.word) in
    omega (arith, less, size)

pub back-less : (P Q : Problem) (start w y : List ℕ) (v k u : ℕ) → IsMidway P Q start w v k → k ≤ v → w ≡ y ++ u ∷ [] → left P y (u + 1) < left P w v
back-less P Q start w y v k u m all w-is =
    let last : v ≡ k = (let h = m.range in omega (arith, h, all)) in
    subst (λ x. left P y (u + 1) < left P x v) (sym w-is)
    (left-shorter P y u v (subst (IsWord P) w-is m.word) (last ∙ subst (λ x. k ≡ width P (made_by P x)) w-is m.width_is))
