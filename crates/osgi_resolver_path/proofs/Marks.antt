-- Marks, the last first, and the values of their decisions.
use Rattle.std.proofs.Common.{◌≡◌, ℕ, ◌+◌, ◌<◌, length, get_or, take, List, [], ◌∷◌, ◌++◌, map, reverse, refl, sym, ◌∙◌, ap}
use Rattle.std.proofs.lemmas.List.{reverse-append, take_more}
use Rattle.osgi_resolver_path.specs.computed.Courses.{word_of}
use Rattle.osgi_resolver_path.specs.declared.course.Mark.{Mark}

-- the last of some marks comes first
pub last-first : (marks : List Mark) (n : ℕ) (m : Mark) → n < length marks → m ≡ get_or marks n m → reverse (take (n + 1) marks) ≡ m ∷ reverse (take n marks)
last-first marks n m within is = ap reverse (take_more marks n m within ∙ ap (λ x. take n marks ++ x ∷ []) (sym is)) ∙ reverse-append (take n marks) (m ∷ [])

-- ---- values

word-last : (ms : List Mark) (m : Mark) → word_of (ms ++ m ∷ []) ≡ m.value ∷ word_of ms
word-last [] m = refl
word-last (x ∷ ms) m = ap (λ w. w ++ x.value ∷ []) (word-last ms m)

-- the word of marks has their values
pub word-values : (ms : List Mark) → word_of (reverse ms) ≡ map (λ (m : Mark). m.value) ms
word-values [] = refl
word-values (m ∷ ms) = ap word_of (reverse-append (m ∷ []) ms) ∙ word-last (reverse ms) m ∙ ap (λ w. m.value ∷ w) (word-values ms)
