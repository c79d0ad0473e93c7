-- The moves of a search over words: how far it has come before and after each.
use Rattle.std.proofs.Common.{◌≡◌, ℕ, ◌+◌, ◌⊎◌, inl, inr, List, [], ◌∷◌, ◌++◌, sym, subst, append_assoc, append-nil}
use Rattle.osgi_world.specs.Candidates.{IsProblem}
use Rattle.osgi_world.specs.Effort.{IsBefore}
use Rattle.osgi_world.specs.Hopeless.{IsHopeless}
use Rattle.osgi_world.specs.Lists.{In}
use Rattle.osgi_world.specs.ChoiceWords.{IsComplete, IsWord, made_by, width}
use Rattle.osgi_world.specs.declared.problem.Problem.{Problem}
use Rattle.osgi_resolver_theory.proofs.Order.{Begins, before-longer, begins-append, begins-split, below-child, below-zero, child-below, itself-below, next-down, next-up, no-before}
use Rattle.osgi_resolver_theory.proofs.Words.{hopeless-more, word-next, word-prefix}
use Rattle.osgi_resolver_theory.specs.Search.{IsHopefulEnd, Upto}

-- what extends a hopeless word is hopeless
pub hopeless-all : (P : Problem) (L : IsProblem P) (s x : List ℕ) → IsHopeless P x → IsWord P (x ++ s) → IsHopeless P (x ++ s)
hopeless-all P L [] x h w = subst (IsHopeless P) (sym (append-nil x)) h
hopeless-all P L (v ∷ s) x h w =
    let same : (x ++ v ∷ []) ++ s ≡ x ++ v ∷ s = append_assoc x (v ∷ []) s in
    let w' : IsWord P ((x ++ v ∷ []) ++ s) = subst (IsWord P) (sym same) w in
    subst (IsHopeless P) same (hopeless-all P L s (x ++ v ∷ []) (hopeless-more P L x v (word-prefix P (x ++ v ∷ []) s w') h) w')

pub begins-hopeless : (P : Problem) (L : IsProblem P) (x u : List ℕ) → IsHopeless P x → IsWord P u → Begins x u → IsHopeless P u
begins-hopeless P L x u h w b =
    let split = begins-split x u b in
    subst (IsHopeless P) (sym split.1) (hopeless-all P L split.0 x h (subst (IsWord P) split.1 w))

no-longer : {A : Type 0} {X : Type 0} → A ⊎ X → ¬ X → A
no-longer (inl a) never = a
no-longer (inr x) never = absurd (never x)

-- w with v is hopeless: go on with v + 1
pub skip : (P : Problem) (L : IsProblem P) (w : List ℕ) (v : ℕ) (K : List (List ℕ)) → IsHopeless P (w ++ v ∷ []) → Upto P (w ++ v ∷ []) K → Upto P (w ++ (v + 1) ∷ []) K
skip P L w v K h I = record {
  listed = λ u i. let l = I.listed u i in (l.0, l.1, next-up w u v (inl l.2));
  whole = λ u word not b. I.whole u word not (no-longer (next-down w u v b) (λ begins. not (begins-hopeless P L (w ++ v ∷ []) u h word begins)));
  none = λ u good b. I.none u good (no-longer (next-down w u v b) (λ begins. good.2 (begins-hopeless P L (w ++ v ∷ []) u h good.0 begins)));
  falling = I.falling;
}

visit-listed : (P : Problem) (L : IsProblem P) (x : List ℕ) (K : List (List ℕ)) → IsWord P x → ¬ IsHopeless P x → Upto P x K → (u : List ℕ) → In u (x ∷ K) → IsWord P u × ¬ IsHopeless P u × IsBefore u (x ++ 0 ∷ [])
visit-listed P L x K word not I u (inl same) = (subst (IsWord P) (sym same) word, (λ h. not (subst (IsHopeless P) same h)), subst (λ y. IsBefore y (x ++ 0 ∷ [])) (sym same) (itself-below x 0))
visit-listed P L x K word not I u (inr i) = let l = I.listed u i in (l.0, l.1, before-longer u x (0 ∷ []) l.2)

visit-whole : (P : Problem) (L : IsProblem P) (x u : List ℕ) (K : List (List ℕ)) → IsBefore u x ⊎ (u ≡ x) → (IsBefore u x → In u K) → In u (x ∷ K)
visit-whole P L x u K (inl b) f = inr (f b)
visit-whole P L x u K (inr same) f = inl same

visit-none : (P : Problem) (L : IsProblem P) (x u : List ℕ) → ¬ IsComplete P x → IsHopefulEnd P u → IsBefore u x ⊎ (u ≡ x) → ¬ IsBefore u x → ⊥
visit-none P L x u partial good (inl b) never = never b
visit-none P L x u partial good (inr same) never = partial (subst (IsComplete P) same good.1)

-- x is not hopeless and not complete: list it, and go on with its first value
pub visit : (P : Problem) (L : IsProblem P) (x : List ℕ) (K : List (List ℕ)) → IsWord P x → ¬ IsHopeless P x → ¬ IsComplete P x → Upto P x K → Upto P (x ++ 0 ∷ []) (x ∷ K)
visit P L x K word not partial I = record {
  listed = visit-listed P L x K word not I;
  whole = λ u w n b. visit-whole P L x u K (below-zero x u b) (I.whole u w n);
  none = λ u good b. visit-none P L x u partial good (below-zero x u b) (I.none u good);
  falling = ((λ u i. (I.listed u i).2), I.falling);
}

up-to-width-split : (P : Problem) (L : IsProblem P) (x s : List ℕ) → IsWord P (x ++ s) → IsBefore (x ++ s) (x ++ width P (made_by P x) ∷ [])
up-to-width-split P L x [] word = subst (λ y. IsBefore y (x ++ width P (made_by P x) ∷ [])) (sym (append-nil x)) (itself-below x (width P (made_by P x)))
up-to-width-split P L x (k ∷ s) word = child-below x s k (width P (made_by P x)) (word-next P x k (word-prefix P (x ++ k ∷ []) s (subst (IsWord P) (sym (append_assoc x (k ∷ []) s)) word)))

-- a word that begins with x is below x with its number of values
up-to-width : (P : Problem) (L : IsProblem P) (x u : List ℕ) → IsWord P u → IsBefore u x ⊎ Begins x u → IsBefore u (x ++ width P (made_by P x) ∷ [])
up-to-width P L x u word (inl b) = before-longer u x ((width P (made_by P x)) ∷ []) b
up-to-width P L x u word (inr b) =
    let split = begins-split x u b in
    subst (λ y. IsBefore y (x ++ width P (made_by P x) ∷ [])) (sym split.1) (up-to-width-split P L x split.0 (subst (IsWord P) split.1 word))

-- all values of w with v are tried: go on with v + 1
pub back : (P : Problem) (L : IsProblem P) (w : List ℕ) (v : ℕ) (K : List (List ℕ)) → IsWord P (w ++ v ∷ []) → Upto P ((w ++ v ∷ []) ++ (width P (made_by P (w ++ v ∷ []))) ∷ []) K → Upto P (w ++ (v + 1) ∷ []) K
back P L w v K word I = record {
  listed = λ u i. let l = I.listed u i in (l.0, l.1, next-up w u v (below-child (w ++ v ∷ []) u ((width P (made_by P (w ++ v ∷ [])))) l.2));
  whole = λ u wd not b. I.whole u wd not (up-to-width P L (w ++ v ∷ []) u wd (next-down w u v b));
  none = λ u good b. I.none u good (up-to-width P L (w ++ v ∷ []) u good.0 (next-down w u v b));
  falling = I.falling;
}

-- at a good word it is the first, and K is what comes before it
pub found : (P : Problem) (L : IsProblem P) (x : List ℕ) (K : List (List ℕ)) → IsHopefulEnd P x → Upto P x K → ((u : List ℕ) → IsHopefulEnd P u → ¬ IsBefore u x) × ((u : List ℕ) → IsWord P u → ¬ IsHopeless P u → IsBefore u x → In u K)
found P L x K good I = (I.none, I.whole)

-- with all values of the empty word tried there is no good word
pub ended : (P : Problem) (L : IsProblem P) (K : List (List ℕ)) → Upto P ((width P (made_by P [])) ∷ []) K → (u : List ℕ) → ¬ IsHopefulEnd P u
ended P L K I u good = I.none u good (up-to-width P L [] u good.0 (inr (begins-append [] u)))

-- nothing is before the empty word
pub begun : (P : Problem) (L : IsProblem P) → Upto P [] []
begun P L = record { listed = λ u i. elim i [ ]; whole = λ u w n b. absurd (no-before u b); none = λ u g b. no-before u b; falling = tt }
