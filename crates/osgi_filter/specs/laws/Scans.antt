-- White space, names and values: what is read is written so, and what is written so is read.
use Rattle.std.proofs.Common.{◌≡◌, ℕ, Bool, true, false, cond, ◌||◌, ◌==◌, List, [], ◌∷◌, ◌++◌, length, Result, Ok, Err, refl, sym, ap, subst, ◌∙◌, append_assoc, inl, inr, ◌⊎◌}
use Rattle.std.proofs.lemmas.Bool.{cases_Bool, cond-false, or_cases, eqb-true}
use Rattle.std.proofs.lemmas.List.{append-nil}
use Rattle.osgi_version.specs.Bytes.{Each, IsBlank, is_blank}
use Rattle.osgi_model.specs.Filters.{is_item_name_byte, IsItemNameByte, is_plain, IsItemName, HasPieces, end, plain, escaped, star}
use Rattle.osgi_filter.specs.computed.Reader.{◌>>=◌, skip, after, name_at, value_at}

pub bind_ok : {A B : Type 0} (r : Result A ℕ) (f : A → Result B ℕ) (y : B) → (r >>= f) ≡ Ok y → (x : A) × (r ≡ Ok x) × (f x ≡ Ok y)
bind_ok (Ok x) f y e = (x, refl, e)
bind_ok (Err d) f y e = absurd cc

pub bind_same : (A B : Type 0) (r : Result A ℕ) (f g : A → Result B ℕ) → ((x : A) → r ≡ Ok x → f x ≡ g x) → (r >>= f) ≡ (r >>= g)
bind_same A B (Ok x) f g h = h x refl
bind_same A B (Err n) f g h = refl

abbrev done : {A : Type 0} → A → Result A ℕ
done x = Ok x

pub ok_is : {A : Type 0} (x y : A) → done x ≡ done y → x ≡ y
ok_is x y e = cc

-- what a test chose
pub chosen : {A : Type 0} (b : Bool) (x y z : A) → cond b x y ≡ z → ((b ≡ true) × (x ≡ z)) ⊎ ((b ≡ false) × (y ≡ z))
chosen true x y z e = inl (refl, e)
chosen false x y z e = inr (refl, e)

pub each_append : (P : ℕ → Type 0) (a b : List ℕ) → Each P a → Each P b → Each P (a ++ b)
each_append P [] b h k = k
each_append P (x ∷ xs) b h k = (h.0, each_append P xs b h.1 k)

pub each_left : (P : ℕ → Type 0) (a b : List ℕ) → Each P (a ++ b) → Each P a
each_left P [] b h = tt
each_left P (x ∷ xs) b h = (h.0, each_left P xs b h.1)

pub each_right : (P : ℕ → Type 0) (a b : List ℕ) → Each P (a ++ b) → Each P b
each_right P [] b h = h
each_right P (x ∷ xs) b h = each_right P xs b h.1

-- what a white space is not
pub space_is : (P : ℕ → Type 0) (b : ℕ) → is_blank b ≡ true → P 9 → P 10 → P 12 → P 13 → P 32 → P b
space_is P b h p9 p10 p12 p13 p32 =
    elim (or_cases (b == 9 || b == 10 || b == 12 || b == 13) (b == 32) h) [
      | inr e ↦ subst P (sym (eqb-true b 32 e)) p32
      | inl h ↦ elim (or_cases (b == 9 || b == 10 || b == 12) (b == 13) h) [
        | inr e ↦ subst P (sym (eqb-true b 13 e)) p13
        | inl h ↦ elim (or_cases (b == 9 || b == 10) (b == 12) h) [
          | inr e ↦ subst P (sym (eqb-true b 12 e)) p12
          | inl h ↦ elim (or_cases (b == 9) (b == 10) h) [
            | inr e ↦ subst P (sym (eqb-true b 10 e)) p10
            | inl e ↦ subst P (sym (eqb-true b 9 e)) p9
          ]
        ]
      ]
    ]

pub space_is_name : (b : ℕ) → is_blank b ≡ true → is_item_name_byte b ≡ true
space_is_name b h = space_is (λ c. is_item_name_byte c ≡ true) b h refl refl refl refl refl

pub spaces_are_names : (s : List ℕ) → Each IsBlank s → Each IsItemNameByte s
spaces_are_names [] h = tt
spaces_are_names (b ∷ bs) h = (space_is_name b h.0, spaces_are_names bs h.1)

-- ---- white space

pub skip_spaces : (s t : List ℕ) → Each IsBlank s → skip (s ++ t) ≡ skip t
skip_spaces [] t h = refl
skip_spaces (b ∷ bs) t h = let p = h in rw p.0 (skip_spaces bs t p.1)

pub skip_none : (b : ℕ) (t : List ℕ) → is_blank b ≡ false → skip (b ∷ t) ≡ b ∷ t
skip_none b t h = rw h refl

pub skip_over : (s : List ℕ) (b : ℕ) (t : List ℕ) → Each IsBlank s → is_blank b ≡ false → skip (s ++ b ∷ t) ≡ b ∷ t
skip_over s b t h k = skip_spaces s (b ∷ t) h ∙ skip_none b t k

pub skip_all : (s : List ℕ) → Each IsBlank s → skip s ≡ []
skip_all [] h = refl
skip_all (b ∷ bs) h = let p = h in rw p.0 (skip_all bs p.1)

pub record Skips (t : List ℕ) : Type 0 where
  pub spaces : List ℕ
  pub parts : t ≡ spaces ++ skip t
  pub are : Each IsBlank spaces

pub skip_sound : (t : List ℕ) → Skips t
skip_sound [] = record { spaces = []; parts = refl; are = tt }
skip_sound (b ∷ bs) =
    elim (cases_Bool (is_blank b)) [
      | inl h ↦ let r = skip_sound bs in record { spaces = b ∷ r.spaces; parts = rw h (ap (λ (x : List ℕ). b ∷ x) r.parts); are = (h, r.are) }
      | inr h ↦ record { spaces = []; parts = rw h refl; are = tt }
    ]

pub skip_stops : (t : List ℕ) (b : ℕ) (bs : List ℕ) → skip t ≡ b ∷ bs → is_blank b ≡ false
skip_stops [] b bs e = absurd cc
skip_stops (c ∷ cs) b bs e =
    elim (chosen (is_blank c) (skip cs) (c ∷ cs) (b ∷ bs) e) [
      | inl h ↦ skip_stops cs b bs h.1
      | inr h ↦ let e : c ≡ b = cc (h.1) in subst (λ x. is_blank x ≡ false) e h.0
    ]

pub after_sound : (wanted : ℕ) (bytes rest : List ℕ) → after wanted bytes ≡ Ok rest → bytes ≡ wanted ∷ rest
after_sound wanted [] rest e = absurd cc
after_sound wanted (b ∷ bs) rest e =
    elim (chosen (b == wanted) (Ok bs) (Err (length (b ∷ bs))) (Ok rest) e) [
      | inl h ↦ let e : b ≡ wanted = eqb-true b wanted h.0 in let k : bs ≡ rest = ok_is bs rest h.1 in cc
      | inr h ↦ absurd (let k = h.1 in cc)
    ]

-- ---- names

name_runs : (start : List ℕ) (last : ℕ) (acc pend tail : List ℕ) → Each IsItemNameByte start → is_item_name_byte last ≡ true → is_blank last ≡ false → name_at acc pend (start ++ last ∷ tail) ≡ name_at (acc ++ (pend ++ (start ++ last ∷ []))) [] tail
name_runs [] last acc pend tail h n s = rw (n, s) refl
name_runs (c ∷ cs) last acc pend tail h n s =
    let p = h in
    elim (cases_Bool (is_blank c)) [
      | inl k ↦ rw (p.0, k) (name_runs cs last acc (pend ++ c ∷ []) tail p.1 n s ∙ ap (λ (x : List ℕ). name_at (acc ++ x) [] tail) (append_assoc pend (c ∷ []) (cs ++ last ∷ [])))
      | inr k ↦ rw (p.0, k) (name_runs cs last (acc ++ (pend ++ c ∷ [])) [] tail p.1 n s ∙ ap (λ (x : List ℕ). name_at x [] tail) (append_assoc acc (pend ++ c ∷ []) (cs ++ last ∷ []) ∙ ap (λ (x : List ℕ). acc ++ x) (append_assoc pend (c ∷ []) (cs ++ last ∷ []))))
    ]

name_ends : (spaces : List ℕ) (b : ℕ) (acc pend rest : List ℕ) → Each IsBlank spaces → is_item_name_byte b ≡ false → name_at acc pend (spaces ++ b ∷ rest) ≡ Ok (acc, b ∷ rest)
name_ends [] b acc pend rest h n = rw n refl
name_ends (c ∷ cs) b acc pend rest h n =
    let p = h in
    rw (space_is_name c p.0, p.0) (name_ends cs b acc (pend ++ c ∷ []) rest p.1 n)

pub name_again : (name spaces : List ℕ) (b : ℕ) (rest : List ℕ) → IsItemName name → Each IsBlank spaces → is_item_name_byte b ≡ false → name_at [] [] (name ++ (spaces ++ b ∷ rest)) ≡ Ok (name, b ∷ rest)
name_again name spaces b rest ok h n =
    let start = ok.ends.0 in
    let last = ok.ends.1 in
    let is = ok.ends.2 in
    let all : Each IsItemNameByte (start ++ last ∷ []) = subst (λ (x : List ℕ). Each IsItemNameByte x) is ok.bytes in
    let one : is_item_name_byte last ≡ true = (each_right IsItemNameByte start (last ∷ []) all).0 in
    let step = name_runs start last [] [] (spaces ++ b ∷ rest) (each_left IsItemNameByte start (last ∷ []) all) one ok.ends.3 in
    let re : name ++ (spaces ++ b ∷ rest) ≡ start ++ last ∷ (spaces ++ b ∷ rest) = ap (λ (x : List ℕ). x ++ (spaces ++ b ∷ rest)) is ∙ append_assoc start (last ∷ []) (spaces ++ b ∷ rest) in
    ap (λ (x : List ℕ). name_at [] [] x) re ∙ step ∙ name_ends spaces b (start ++ last ∷ []) [] rest h n ∙ ap (λ (x : List ℕ). done (x, b ∷ rest)) (sym is)

abbrev pub IsTight : List ℕ → Type 0
IsTight name = (name ≡ []) ⊎ ((start : List ℕ) × (last : ℕ) × (name ≡ start ++ last ∷ []) × (is_blank last ≡ false))

pub record NameFound (whole name rest : List ℕ) : Type 0 where
  pub spaces : List ℕ
  pub parts : whole ≡ name ++ (spaces ++ rest)
  pub are : Each IsBlank spaces
  pub bytes : Each IsItemNameByte name
  pub tight : IsTight name

pub name_sound : (bytes acc pend name rest : List ℕ) → Each IsItemNameByte acc → IsTight acc → Each IsBlank pend → name_at acc pend bytes ≡ Ok (name, rest) → NameFound (acc ++ (pend ++ bytes)) name rest
name_sound [] acc pend name rest a t p e = absurd cc
name_sound (b ∷ bs) acc pend name rest a t p e =
    elim (chosen (is_item_name_byte b) (cond (is_blank b) (name_at acc (pend ++ b ∷ []) bs) (name_at (acc ++ (pend ++ b ∷ [])) [] bs)) (done (acc, b ∷ bs)) (done (name, rest)) e) [
      | inl n ↦ elim (chosen (is_blank b) (name_at acc (pend ++ b ∷ []) bs) (name_at (acc ++ (pend ++ b ∷ [])) [] bs) (done (name, rest)) n.1) [
        | inl s ↦ subst (λ (x : List ℕ). NameFound (acc ++ x) name rest) (append_assoc pend (b ∷ []) bs) (name_sound bs acc (pend ++ b ∷ []) name rest a t (each_append IsBlank pend (b ∷ []) p (s.0, tt)) s.1)
        | inr s ↦
            subst (λ (x : List ℕ). NameFound x name rest) (append_assoc acc (pend ++ b ∷ []) bs ∙ ap (λ (x : List ℕ). acc ++ x) (append_assoc pend (b ∷ []) bs))
            (name_sound bs (acc ++ (pend ++ b ∷ [])) [] name rest
            (each_append IsItemNameByte acc (pend ++ b ∷ []) a (each_append IsItemNameByte pend (b ∷ []) (spaces_are_names pend p) (n.0, tt)))
            (inr (acc ++ pend, b, sym (append_assoc acc pend (b ∷ [])), s.0)) tt s.1)
      ]
      | inr n ↦
          let is = ok_is (acc, b ∷ bs) (name, rest) n.1 in
          let P : List ℕ × List ℕ → Type 0 = λ (x : List ℕ × List ℕ). NameFound (acc ++ (pend ++ b ∷ bs)) x.0 x.1 in
          subst P is (record { spaces = pend; parts = refl; are = p; bytes = a; tight = t })
    ]

-- ---- values

star_cuts : (cut : Bool) → cut ≡ true → is_plain cut 42 ≡ false
star_cuts true h = refl
star_cuts false h = absurd cc

-- the branches of value_at
abbrev closed : ℕ → List ℕ → List (List ℕ) → List ℕ → Result (List (List ℕ) × List ℕ) ℕ
closed b bs before start = cond (b == 41) (Ok (before ++ start ∷ [], bs)) (Err (length (b ∷ bs)))

abbrev starred : Bool → ℕ → List ℕ → List (List ℕ) → List ℕ → Result (List (List ℕ) × List ℕ) ℕ
starred cut b bs before start = cond (b == 42) (value_at cut false (before ++ start ∷ []) [] bs) (closed b bs before start)

abbrev special : Bool → ℕ → List ℕ → List (List ℕ) → List ℕ → Result (List (List ℕ) × List ℕ) ℕ
special cut b bs before start = cond (b == 92) (value_at cut true before start bs) (starred cut b bs before start)

pub value_again : (cut : Bool) (text piece : List ℕ) (more : List (List ℕ)) → HasPieces cut text piece more → (before : List (List ℕ)) (start rest : List ℕ) → value_at cut false before start (text ++ 41 ∷ rest) ≡ Ok (before ++ (start ++ piece) ∷ more, rest)
value_again cut text piece more end before start rest = ap (λ (x : List ℕ). done (before ++ x ∷ [], rest)) (sym (append-nil start))
value_again cut text piece more (plain b t p m h k) before start rest = rw h (value_again cut t p m k before (start ++ b ∷ []) rest ∙ ap (λ (x : List ℕ). done (before ++ x ∷ m, rest)) (append_assoc start (b ∷ []) p))
value_again cut text piece more (escaped b t p m k) before start rest = value_again cut t p m k before (start ++ b ∷ []) rest ∙ ap (λ (x : List ℕ). done (before ++ x ∷ m, rest)) (append_assoc start (b ∷ []) p)
value_again cut text piece more (star t p m h k) before start rest =
    cond-false (is_plain cut 42) (value_at cut false before (start ++ 42 ∷ []) (t ++ 41 ∷ rest)) (value_at cut false (before ++ start ∷ []) [] (t ++ 41 ∷ rest)) (star_cuts cut h)
    ∙ value_again cut t p m k (before ++ start ∷ []) [] rest
    ∙ ap (λ (x : List (List ℕ)). done (x, rest)) (append_assoc before (start ∷ []) (p ∷ m) ∙ ap (λ (x : List ℕ). before ++ x ∷ p ∷ m) (sym (append-nil start)))

-- what a value that is read is written so
abbrev pub ValueFound : Bool → Bool → List (List ℕ) → List ℕ → List ℕ → List (List ℕ) → List ℕ → Type 0
ValueFound cut false before start bytes all rest = (text : List ℕ) × (piece : List ℕ) × (more : List (List ℕ)) × (bytes ≡ text ++ 41 ∷ rest) × HasPieces cut text piece more × (all ≡ before ++ (start ++ piece) ∷ more)
ValueFound cut true before start bytes all rest = (b : ℕ) × (text : List ℕ) × (piece : List ℕ) × (more : List (List ℕ)) × (bytes ≡ b ∷ (text ++ 41 ∷ rest)) × HasPieces cut text piece more × (all ≡ before ++ (start ++ b ∷ piece) ∷ more)

plain_star : (cut : Bool) → is_plain cut 42 ≡ false → cut ≡ true
plain_star true h = refl
plain_star false h = absurd cc

pub value_sound : (cut : Bool) (bytes : List ℕ) (escape : Bool) (before : List (List ℕ)) (start : List ℕ) (all : List (List ℕ)) (rest : List ℕ) → value_at cut escape before start bytes ≡ Ok (all, rest) → ValueFound cut escape before start bytes all rest
value_sound cut [] true before start all rest e = absurd cc
value_sound cut [] false before start all rest e = absurd cc
value_sound cut (b ∷ bs) true before start all rest e =
    let r = value_sound cut bs false before (start ++ b ∷ []) all rest e in
    (b, r.0, r.1, r.2, ap (λ (x : List ℕ). b ∷ x) r.3, r.4, r.5 ∙ ap (λ (x : List ℕ). before ++ x ∷ r.2) (append_assoc start (b ∷ []) r.1))
value_sound cut (b ∷ bs) false before start all rest e =
    elim (chosen (is_plain cut b) (value_at cut false before (start ++ b ∷ []) bs) (special cut b bs before start) (done (all, rest)) e) [
      | inl h ↦
          let r = value_sound cut bs false before (start ++ b ∷ []) all rest h.1 in
          (b ∷ r.0, b ∷ r.1, r.2, ap (λ (x : List ℕ). b ∷ x) r.3, plain b r.0 r.1 r.2 h.0 r.4, r.5 ∙ ap (λ (x : List ℕ). before ++ x ∷ r.2) (append_assoc start (b ∷ []) r.1))
      | inr p ↦ elim (chosen (b == 92) (value_at cut true before start bs) (starred cut b bs before start) (done (all, rest)) p.1) [
        | inl h ↦
            let r = value_sound cut bs true before start all rest h.1 in
            let is : b ≡ 92 = eqb-true b 92 h.0 in
            (92 ∷ r.0 ∷ r.1, r.0 ∷ r.2, r.3, rw is (ap (λ (x : List ℕ). 92 ∷ x) r.4), escaped r.0 r.1 r.2 r.3 r.5, r.6)
        | inr q ↦ elim (chosen (b == 42) (value_at cut false (before ++ start ∷ []) [] bs) (closed b bs before start) (done (all, rest)) q.1) [
          | inl h ↦
              let r = value_sound cut bs false (before ++ start ∷ []) [] all rest h.1 in
              let is : b ≡ 42 = eqb-true b 42 h.0 in
              let cuts : cut ≡ true = plain_star cut (subst (λ (x : ℕ). is_plain cut x ≡ false) is p.0) in
              (42 ∷ r.0, [], r.1 ∷ r.2, rw is (ap (λ (x : List ℕ). 42 ∷ x) r.3), star r.0 r.1 r.2 cuts r.4, r.5 ∙ append_assoc before (start ∷ []) (r.1 ∷ r.2) ∙ ap (λ (x : List ℕ). before ++ x ∷ r.1 ∷ r.2) (sym (append-nil start)))
          | inr s ↦ elim (chosen (b == 41) (done (before ++ start ∷ [], bs)) (Err (length (b ∷ bs))) (done (all, rest)) s.1) [
            | inl h ↦
                let is = ok_is (before ++ start ∷ [], bs) (all, rest) h.1 in
                let b-is : b ≡ 41 = eqb-true b 41 h.0 in
                let all-is : before ++ start ∷ [] ≡ all = ap (λ (x : List (List ℕ) × List ℕ). x.0) is in
                let rest-is : bs ≡ rest = ap (λ (x : List (List ℕ) × List ℕ). x.1) is in
                ([], [], [], rw (b-is, rest-is) refl, end, sym all-is ∙ ap (λ (x : List ℕ). before ++ x ∷ []) (sym (append-nil start)))
            | inr h ↦ absurd (let k = h.1 in cc)
          ]
        ]
      ]
    ]
