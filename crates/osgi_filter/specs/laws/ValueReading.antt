-- Values: pieces one by one are pieces at once, and a value and its pieces stand for one test.
use Rattle.std.proofs.Common.{◌≡◌, ℕ, ◌≤◌, ◌<◌, Bool, true, false, ◌==◌, List, [], ◌∷◌, ◌++◌, length, drop, get_or, Result, Ok, Err, refl, sym, ap, subst, ◌∙◌, arith, inl, inr}
use Rattle.std.proofs.lemmas.Bool.{cases_Bool, eqb-true, cond-false, cond-true, false≢true}
use Rattle.osgi_model.specs.declared.filter.Test.{Test}
use Rattle.osgi_model.specs.declared.filter.Test.TheVariants.{Equal, Present, Pieces}
use Rattle.osgi_model.specs.Filters.{is_plain, HasPieces, end, plain, escaped, star, IsTest, equal, present, pieces}
use Rattle.osgi_filter.specs.computed.Reader.{◌>>=◌, after, piece_at, ended_piece, value_at, closes, starred_at, equal_from, equal_at, plain_at}
use Rattle.osgi_filter.specs.laws.Scans.{bind_ok, bind_same, ok_is, value_again, value_sound}

abbrev done : {A : Type 0} → A → Result A ℕ
done x = Ok x

-- the test of the pieces after a `=`
abbrev pub equal_test : List (List ℕ) → Test
equal_test [] = Pieces []
equal_test (p ∷ []) = Equal p
equal_test ([] ∷ [] ∷ []) = Present
equal_test (p ∷ q ∷ ps) = Pieces (p ∷ q ∷ ps)

abbrev pub first_of : List (List ℕ) → List ℕ
first_of [] = []
first_of (p ∷ ps) = p

-- ---- pieces one by one

pub by_piece : (stars escape : Bool) (before : List (List ℕ)) (bytes start : List ℕ) → value_at stars escape before start bytes ≡ (piece_at stars escape start bytes >>= λ p. ended_piece stars before p.0 p.1)
by_piece stars true before [] start = refl
by_piece stars false before [] start = refl
by_piece stars true before (b ∷ bs) start = by_piece stars false before bs (start ++ b ∷ [])
by_piece stars false before (b ∷ bs) start =
    elim (cases_Bool (is_plain stars b)) [
      | inl h ↦ rw h (by_piece stars false before bs (start ++ b ∷ []))
      | inr h ↦ elim (cases_Bool (b == 92)) [
        | inl k ↦ rw (h, k) (by_piece stars true before bs start)
        | inr k ↦ elim (cases_Bool (b == 42)) [
          | inl s ↦ rw (h, k, s) refl
          | inr s ↦ elim (cases_Bool (b == 41)) [ inl r ↦ rw (h, k, s, r) refl | inr r ↦ rw (h, k, s, r) refl ]
        ]
      ]
    ]

-- ---- the loop of the code over pieces

pub pieces_start : (first bytes : List ℕ) → (piece_at true false [] bytes >>= λ p. ended_piece true (first ∷ []) p.0 p.1) ≡ value_at true false (first ∷ []) [] bytes
pieces_start first bytes = sym (by_piece true false (first ∷ []) bytes [])

pub pieces_go : (before : List (List ℕ)) (bytes piece remainder : List ℕ) → 0 < length remainder → get_or remainder 0 0 ≡ 42 → piece_at true false [] bytes ≡ Ok (piece, remainder) → (piece_at true false [] (drop 1 remainder) >>= λ p. ended_piece true (before ++ piece ∷ []) p.0 p.1) ≡ (piece_at true false [] bytes >>= λ p. ended_piece true before p.0 p.1)
pieces_go before bytes piece [] lt is e = absurd (omega arith)
pieces_go before bytes piece (b ∷ bs) lt is e =
    sym (by_piece true false (before ++ piece ∷ []) bs [])
    ∙ sym (ap (λ (r : Result (List ℕ × List ℕ) ℕ). r >>= λ p. ended_piece true before p.0 p.1) e
    ∙ cond-true (b == 42) (value_at true false (before ++ piece ∷ []) [] bs) (after 41 (b ∷ bs) >>= λ r. done (before ++ piece ∷ [], r)) (subst (λ (x : ℕ). (x == 42) ≡ true) (sym is) refl))

-- what is left after a piece
pub piece_less : (stars escape : Bool) (bytes start piece rest : List ℕ) → piece_at stars escape start bytes ≡ Ok (piece, rest) → length rest ≤ length bytes
piece_less stars true [] start piece rest e = absurd cc
piece_less stars false [] start piece rest e = absurd cc
piece_less stars true (b ∷ bs) start piece rest e = let less = piece_less stars false bs (start ++ b ∷ []) piece rest e in omega arith
piece_less stars false (b ∷ bs) start piece rest e =
    elim (cases_Bool (is_plain stars b)) [
      | inl h ↦ let less = piece_less stars false bs (start ++ b ∷ []) piece rest (rw h at e) in omega arith
      | inr h ↦ elim (cases_Bool (b == 92)) [
        | inl k ↦ let less = piece_less stars true bs start piece rest (rw (h, k) at e) in omega arith
        | inr k ↦ let same = ap length (ap (λ (x : List ℕ × List ℕ). x.1) (ok_is (start, b ∷ bs) (piece, rest) (rw (h, k) at e))) in omega arith
      ]
    ]

-- a byte that ends a piece in which stars do not cut is no star
piece_ends : (escape : Bool) (bytes start piece : List ℕ) (b : ℕ) (rest : List ℕ) → piece_at false escape start bytes ≡ Ok (piece, b ∷ rest) → (b == 42) ≡ false
piece_ends true [] start piece b rest e = absurd cc
piece_ends false [] start piece b rest e = absurd cc
piece_ends true (c ∷ cs) start piece b rest e = piece_ends false cs (start ++ c ∷ []) piece b rest e
piece_ends false (c ∷ cs) start piece b rest e =
    elim (cases_Bool (is_plain false c)) [
      | inl h ↦ piece_ends false cs (start ++ c ∷ []) piece b rest (rw h at e)
      | inr h ↦ elim (cases_Bool (c == 92)) [
        | inl k ↦ piece_ends true cs start piece b rest (rw (h, k) at e)
        | inr k ↦
            let same = ap (λ (x : List ℕ × List ℕ). x.1) (ok_is (start, c ∷ cs) (piece, b ∷ rest) (rw (h, k) at e)) in
            let is : c ≡ b = cc in
            elim (cases_Bool (b == 42)) [
              | inl s ↦ absurd (false≢true (sym h ∙ subst (λ (x : ℕ). is_plain false x ≡ true) (sym (is ∙ eqb-true b 42 s)) refl))
              | inr s ↦ s
            ]
      ]
    ]

-- ---- the value of =

pub none_left : (text piece : List ℕ) (more : List (List ℕ)) → HasPieces true text piece more → piece ≡ [] → more ≡ [] → text ≡ []
none_left text piece more end p m = refl
none_left text piece more (plain b t q n h k) p m = absurd cc
none_left text piece more (escaped b t q n k) p m = absurd cc
none_left text piece more (star t q n h k) p m = absurd cc

pub star_alone : (text piece : List ℕ) (more : List (List ℕ)) → HasPieces true text piece more → piece ≡ [] → more ≡ [] ∷ [] → text ≡ 42 ∷ []
star_alone text piece more end p m = absurd cc
star_alone text piece more (plain b t q n h k) p m = absurd cc
star_alone text piece more (escaped b t q n k) p m = absurd cc
star_alone text piece more (star t q n h k) p m = let a : q ≡ [] = cc in let b : n ≡ [] = cc in ap (λ (x : List ℕ). 42 ∷ x) (none_left t q n k a b)

pub equal_pieces : (first second : List ℕ) (more : List (List ℕ)) → ((first ≡ []) × (second ∷ more ≡ [] ∷ []) → ⊥) → equal_test (first ∷ second ∷ more) ≡ Pieces (first ∷ second ∷ more)
equal_pieces [] [] [] h = absurd (h (refl, refl))
equal_pieces [] [] (m ∷ ms) h = refl
equal_pieces [] (s ∷ ss) [] h = refl
equal_pieces [] (s ∷ ss) (m ∷ ms) h = refl
equal_pieces (f ∷ fs) [] [] h = refl
equal_pieces (f ∷ fs) [] (m ∷ ms) h = refl
equal_pieces (f ∷ fs) (s ∷ ss) [] h = refl
equal_pieces (f ∷ fs) (s ∷ ss) (m ∷ ms) h = refl

pub empty_pieces : (text piece : List ℕ) (more : List (List ℕ)) → HasPieces true text piece more → text ≡ [] → (piece ≡ []) × (more ≡ [])
empty_pieces text piece more end e = (refl, refl)
empty_pieces text piece more (plain b t q n h k) e = absurd cc
empty_pieces text piece more (escaped b t q n k) e = absurd cc
empty_pieces text piece more (star t q n h k) e = absurd cc

pub star_only : (text piece : List ℕ) (more : List (List ℕ)) → HasPieces true text piece more → text ≡ 42 ∷ [] → ((piece ≡ []) × (more ≡ [] ∷ []) → ⊥) → ⊥
star_only text piece more end e nope = absurd cc
star_only text piece more (plain b t q n h k) e nope = let is : b ≡ 42 = cc in absurd (let w = subst (λ (x : ℕ). is_plain true x ≡ true) is h in cc)
star_only text piece more (escaped b t q n k) e nope = absurd cc
star_only text piece more (star t q n h k) e nope = let w : t ≡ [] = cc in let r = empty_pieces t q n k w in nope (refl, rw (r.0, r.1) refl)

-- a value and its pieces stand for the test that they make
pub equal_sound : (text first : List ℕ) (more : List (List ℕ)) → HasPieces true text first more → IsTest (61 ∷ text) (equal_test (first ∷ more))
equal_sound text first [] k = equal text first k
equal_sound text [] ([] ∷ []) k = rw (star_alone text [] ([] ∷ []) k refl refl) present
equal_sound text [] ([] ∷ m ∷ ms) k = pieces text [] [] (m ∷ ms) k (λ e. star_only text [] ([] ∷ m ∷ ms) k e (λ h. absurd (let e = h.1 in cc)))
equal_sound text [] ((s ∷ ss) ∷ ms) k = rw (equal_pieces [] (s ∷ ss) ms (λ h. absurd (let e = h.1 in cc))) (pieces text [] (s ∷ ss) ms k (λ e. star_only text [] ((s ∷ ss) ∷ ms) k e (λ h. absurd (let e = h.1 in cc))))
equal_sound text (f ∷ fs) (s ∷ ms) k = rw (equal_pieces (f ∷ fs) s ms (λ h. absurd (let e = h.0 in cc))) (pieces text (f ∷ fs) s ms k (λ e. star_only text (f ∷ fs) (s ∷ ms) k e (λ h. absurd (let e = h.0 in cc))))

-- ---- the value of =, by the pieces

-- a test, or a text, of the pieces
abbrev paired : (A : Type 0) → (List (List ℕ) → A) → List (List ℕ) × List ℕ → Result (A × List ℕ) ℕ
paired A f v = Ok (f v.0, v.1)

starred_pieces : (first bytes : List ℕ) → (first ≡ [] → (bs : List ℕ) → bytes ≡ 41 ∷ bs → ⊥) → (value_at true false (first ∷ []) [] bytes >>= paired Test (λ v. Pieces v)) ≡ (value_at true false (first ∷ []) [] bytes >>= paired Test equal_test)
starred_pieces first bytes nope =
    bind_same (List (List ℕ) × List ℕ) (Test × List ℕ) (value_at true false (first ∷ []) [] bytes) (paired Test (λ v. Pieces v)) (paired Test equal_test)
    (λ v e.
    let r = value_sound true bytes false (first ∷ []) [] v.0 v.1 e in
    let more_than_star : (first ≡ []) × (r.1 ∷ r.2 ≡ [] ∷ []) → ⊥ = λ h.
    let piece : r.1 ≡ [] = let k = h.1 in cc in
    let more : r.2 ≡ [] = let k = h.1 in cc in
    nope h.0 v.1 (r.3 ∙ ap (λ (x : List ℕ). x ++ 41 ∷ v.1) (none_left r.0 r.1 r.2 r.4 piece more)) in
    let is : Pieces v.0 ≡ equal_test v.0 = subst (λ (x : List (List ℕ)). Pieces x ≡ equal_test x) (sym r.5) (sym (equal_pieces first r.1 r.2 more_than_star)) in
    ap (λ (x : Test). done (x, v.1)) is)

starred_is : (first bytes : List ℕ) → starred_at first bytes ≡ (value_at true false (first ∷ []) [] bytes >>= λ v. Ok (equal_test v.0, v.1))
starred_is [] [] = refl
starred_is [] (b ∷ bs) =
    elim (cases_Bool (b == 41)) [
      | inl k ↦ subst (λ (x : ℕ). starred_at [] (x ∷ bs) ≡ (value_at true false ([] ∷ []) [] (x ∷ bs) >>= λ v. done (equal_test v.0, v.1))) (sym (eqb-true b 41 k)) refl
      | inr k ↦
          cond-false (b == 41) (done (Present, bs)) (value_at true false ([] ∷ []) [] (b ∷ bs) >>= λ v. done (Pieces v.0, v.1)) k
          ∙ starred_pieces [] (b ∷ bs) (λ h cs e. false≢true (sym k ∙ ap closes e))
    ]
starred_is (f ∷ fs) bytes = starred_pieces (f ∷ fs) bytes (λ h bs e. absurd cc)

equal_rest : (piece rest : List ℕ) → equal_from piece rest ≡ (ended_piece true [] piece rest >>= λ v. done (equal_test v.0, v.1))
equal_rest piece [] = refl
equal_rest piece (b ∷ bs) =
    elim (cases_Bool (b == 42)) [
      | inl k ↦ rw k (starred_is piece bs)
      | inr k ↦ elim (cases_Bool (b == 41)) [ inl h ↦ rw (k, h) refl | inr h ↦ rw (k, h) refl ]
    ]

abbrev with_piece : List ℕ → List ℕ → Result (List ℕ × List ℕ) ℕ
with_piece piece rest = Ok (piece, rest)

plain_rest : (piece rest : List ℕ) → ((b : ℕ) (bs : List ℕ) → rest ≡ b ∷ bs → (b == 42) ≡ false) → (after 41 rest >>= with_piece piece) ≡ (ended_piece false [] piece rest >>= paired (List ℕ) first_of)
plain_rest piece [] no_star = refl
plain_rest piece (b ∷ bs) no_star =
    let k = no_star b bs refl in
    elim (cases_Bool (b == 41)) [ inl h ↦ rw (k, h) refl | inr h ↦ rw (k, h) refl ]

-- what is made of a value, by its pieces
by_pieces : (A : Type 0) (stars : Bool) (f : List (List ℕ) → A) (next : List ℕ × List ℕ → Result (A × List ℕ) ℕ) (bytes : List ℕ) → ((p : List ℕ × List ℕ) → piece_at stars false [] bytes ≡ Ok p → next p ≡ (ended_piece stars [] p.0 p.1 >>= λ v. Ok (f v.0, v.1))) → (piece_at stars false [] bytes >>= next) ≡ (value_at stars false [] [] bytes >>= λ v. Ok (f v.0, v.1))
by_pieces A stars f next bytes same = by_result (piece_at stars false [] bytes) same ∙ ap (λ (r : Result (List (List ℕ) × List ℕ) ℕ). r >>= λ v. done (f v.0, v.1)) (sym (by_piece stars false [] bytes []))
  where
    by_result : (r : Result (List ℕ × List ℕ) ℕ) → ((p : List ℕ × List ℕ) → r ≡ Ok p → next p ≡ (ended_piece stars [] p.0 p.1 >>= λ v. done (f v.0, v.1))) → (r >>= next) ≡ ((r >>= λ p. ended_piece stars [] p.0 p.1) >>= λ v. done (f v.0, v.1))
    by_result (Ok p) h = h p refl
    by_result (Err n) h = refl

pub equal_is : (bytes : List ℕ) → equal_at bytes ≡ (value_at true false [] [] bytes >>= λ v. Ok (equal_test v.0, v.1))
equal_is bytes = by_pieces Test true (λ v. equal_test v) (λ p. equal_from p.0 p.1) bytes (λ p e. equal_rest p.0 p.1)

pub plain_is : (bytes : List ℕ) → plain_at bytes ≡ (value_at false false [] [] bytes >>= λ v. Ok (first_of v.0, v.1))
plain_is bytes = by_pieces (List ℕ) false (λ v. first_of v) (λ p. after 41 p.1 >>= λ r. done (p.0, r)) bytes (λ p e. plain_rest p.0 p.1 (λ b bs is. piece_ends false bytes [] p.0 b bs (e ∙ ap (λ (x : List ℕ). done (p.0, x)) is)))

-- ---- a value in which stars do not cut

uncut : (text piece : List ℕ) (more : List (List ℕ)) → HasPieces false text piece more → more ≡ []
uncut text piece more end = refl
uncut text piece more (plain b t q n h k) = uncut t q n k
uncut text piece more (escaped b t q n k) = uncut t q n k
uncut text piece more (star t q n h k) = absurd cc

pub plain_again : (text value rest : List ℕ) → HasPieces false text value [] → plain_at (text ++ 41 ∷ rest) ≡ Ok (value, rest)
plain_again text value rest k = plain_is (text ++ 41 ∷ rest) ∙ ap (λ (x : Result (List (List ℕ) × List ℕ) ℕ). x >>= λ v. Ok (first_of v.0, v.1)) (value_again false text value [] k [] [] rest)

pub plain_sound : (bytes value rest : List ℕ) → plain_at bytes ≡ Ok (value, rest) → (text : List ℕ) × (bytes ≡ text ++ 41 ∷ rest) × HasPieces false text value []
plain_sound bytes value rest e =
    let v = bind_ok (value_at false false [] [] bytes) (λ v. Ok (first_of v.0, v.1)) (value, rest) (sym (plain_is bytes) ∙ e) in
    let r = value_sound false bytes false [] [] v.0.0 v.0.1 v.1 in
    let both = ok_is (first_of v.0.0, v.0.1) (value, rest) v.2 in
    let none = uncut r.0 r.1 r.2 r.4 in
    let is : r.1 ≡ value = ap first_of (sym r.5) ∙ ap (λ (x : List ℕ × List ℕ). x.0) both in
    let one : HasPieces false r.0 value [] = subst (λ (x : List ℕ). HasPieces false r.0 x []) is (subst (λ (x : List (List ℕ)). HasPieces false r.0 r.1 x) none r.4) in
    (r.0, r.3 ∙ ap (λ (x : List ℕ). r.0 ++ 41 ∷ x) (ap (λ (x : List ℕ × List ℕ). x.1) both), one)
