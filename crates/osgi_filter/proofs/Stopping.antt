-- Where reading stops: the bytes before can still be completed, and with the byte there they cannot.
use Rattle.std.proofs.Common.{◌≡◌, ℕ, Bool, true, false, ◌==◌, List, [], ◌∷◌, ◌++◌, length, Result, Ok, Err, refl, sym, ap, subst, ◌∙◌, append_assoc, inl, inr}
use Rattle.std.proofs.lemmas.Bool.{cases_Bool}
use Rattle.osgi_model.specs.declared.filter.Test.{Test}
use Rattle.osgi_model.specs.declared.filter.Filter.{Filter, roll-Filter}
use Rattle.osgi_model.specs.declared.filter.Filter.TheOpen.{Item}
use Rattle.osgi_version.specs.Bytes.{Each, IsBlank, is_blank}
use Rattle.osgi_model.specs.Filters.{is_item_name_byte, is_plain}
use Rattle.osgi_filter.specs.computed.Reader.{◌>>=◌, skip, after, name_at, value_at, is_order, order_test, equal_at, plain_at, order_at, signed_at, named_at, item_at}
use Rattle.osgi_filter.specs.laws.ValueReading.{equal_test, first_of, equal_is, plain_is}
use Rattle.osgi_filter.specs.laws.Scans.{bind_ok, skip_over, skip_sound, skip_stops}

abbrev done : {A : Type 0} → A → Result A ℕ
done x = Ok x

abbrev fail : {A : Type 0} → ℕ → Result A ℕ
fail n = Err n

pub err_is : (A : Type 0) (m n : ℕ) → fail {A = A} m ≡ fail n → m ≡ n
err_is A m n e = cc

pub err_ok : (A : Type 0) (r : Result A ℕ) (n : ℕ) (x : A) → r ≡ Err n → r ≡ Ok x → ⊥
err_ok A r n x e k = let w : fail n ≡ done x = sym e ∙ k in absurd cc

pub record Stops (A : Type 0) (reader : List ℕ → Result (A × List ℕ) ℕ) (bytes : List ℕ) (left : ℕ) : Type 0 where
  pub start : List ℕ
  pub back : List ℕ
  pub parts : bytes ≡ start ++ back
  pub len : length back ≡ left
  pub more : List ℕ
  pub alive : (rest : List ℕ) → (x : A) × (reader (start ++ (more ++ rest)) ≡ Ok (x, rest))
  pub dead : (b : ℕ) (bs : List ℕ) → back ≡ b ∷ bs → (other : List ℕ) (x : A × List ℕ) → reader (start ++ b ∷ other) ≡ Ok x → ⊥

-- a reader that goes on as another one after a prefix
pub steps : (A : Type 0) (reader next : List ℕ → Result (A × List ℕ) ℕ) (prefix : List ℕ) → ((xs : List ℕ) → reader (prefix ++ xs) ≡ next xs) → (bytes : List ℕ) (left : ℕ) → Stops A next bytes left → Stops A reader (prefix ++ bytes) left
steps A reader next prefix same bytes left s = record {
  start = prefix ++ s.start;
  back = s.back;
  parts = ap (λ (x : List ℕ). prefix ++ x) s.parts ∙ sym (append_assoc prefix s.start s.back);
  len = s.len;
  more = s.more;
  alive = λ rest. let a = s.alive rest in (a.0, ap reader (append_assoc prefix s.start (s.more ++ rest)) ∙ same (s.start ++ (s.more ++ rest)) ∙ a.1);
  dead = λ b bs e other x k. s.dead b bs e other x (sym (same (s.start ++ b ∷ other)) ∙ ap reader (sym (append_assoc prefix s.start (b ∷ other))) ∙ k);
}

-- a reader that makes something of what another one reads
pub made : (A B : Type 0) (f : A → B) (reader : List ℕ → Result (A × List ℕ) ℕ) (bytes : List ℕ) (left : ℕ) → Stops A reader bytes left → Stops B (λ xs. reader xs >>= λ v. Ok (f v.0, v.1)) bytes left
made A B f reader bytes left s = record {
  start = s.start;
  back = s.back;
  parts = s.parts;
  len = s.len;
  more = s.more;
  alive = λ rest. let a = s.alive rest in (f a.0, ap (λ (r : Result (A × List ℕ) ℕ). r >>= λ v. done (f v.0, v.1)) a.1);
  dead = λ b bs e other x k. let m = bind_ok (reader (s.start ++ b ∷ other)) (λ v. done (f v.0, v.1)) x k in s.dead b bs e other m.0 m.1;
}

abbrev paired : (A B : Type 0) → (A → B) → A × List ℕ → Result (B × List ℕ) ℕ
paired A B f v = Ok (f v.0, v.1)

pub made_err : (A B : Type 0) (f : A → B) (r : Result (A × List ℕ) ℕ) (left : ℕ) → (r >>= paired A B f) ≡ Err left → r ≡ Err left
made_err A B f (Ok x) left e = absurd cc
made_err A B f (Err n) left e = cc

-- at the first byte, or where there is none
pub stops_here : (A : Type 0) (reader : List ℕ → Result (A × List ℕ) ℕ) (bytes more : List ℕ) (left : ℕ) → length bytes ≡ left → ((rest : List ℕ) → (x : A) × (reader (more ++ rest) ≡ Ok (x, rest))) → ((b : ℕ) (bs : List ℕ) → bytes ≡ b ∷ bs → (other : List ℕ) (x : A × List ℕ) → reader (b ∷ other) ≡ Ok x → ⊥) → Stops A reader bytes left
stops_here A reader bytes more left len alive dead = record { start = []; back = bytes; parts = refl; len = len; more = more; alive = alive; dead = dead }

none_dead : (A : Type 0) (reader : List ℕ → Result (A × List ℕ) ℕ) (b : ℕ) (bs : List ℕ) → [] ≡ b ∷ bs → (other : List ℕ) (x : A × List ℕ) → reader (b ∷ other) ≡ Ok x → ⊥
none_dead A reader b bs e other x k = absurd cc

-- a byte after which each reading fails
byte_dead : (A : Type 0) (reader : List ℕ → Result (A × List ℕ) ℕ) (c : ℕ) (cs : List ℕ) → ((other : List ℕ) (x : A × List ℕ) → reader (c ∷ other) ≡ Ok x → ⊥) → (b : ℕ) (bs : List ℕ) → c ∷ cs ≡ b ∷ bs → (other : List ℕ) (x : A × List ℕ) → reader (b ∷ other) ≡ Ok x → ⊥
byte_dead A reader c cs h b bs e other x k = let is : c ≡ b = cc in h other x (subst (λ (d : ℕ). reader (d ∷ other) ≡ Ok x) (sym is) k)

pub stops_at_end : (A : Type 0) (reader : List ℕ → Result (A × List ℕ) ℕ) (more : List ℕ) (left : ℕ) → 0 ≡ left → ((rest : List ℕ) → (x : A) × (reader (more ++ rest) ≡ Ok (x, rest))) → Stops A reader [] left
stops_at_end A reader more left len alive = stops_here A reader [] more left len alive (none_dead A reader)

pub stops_at_byte : (A : Type 0) (reader : List ℕ → Result (A × List ℕ) ℕ) (more : List ℕ) (c : ℕ) (cs : List ℕ) (left : ℕ) → length (c ∷ cs) ≡ left → ((rest : List ℕ) → (x : A) × (reader (more ++ rest) ≡ Ok (x, rest))) → ((other : List ℕ) (x : A × List ℕ) → reader (c ∷ other) ≡ Ok x → ⊥) → Stops A reader (c ∷ cs) left
stops_at_byte A reader more c cs left len alive h = stops_here A reader (c ∷ cs) more left len alive (byte_dead A reader c cs h)

-- ---- one byte that is wanted

pub after_stops : (A : Type 0) (wanted : ℕ) → (wanted == wanted) ≡ true → (next : List ℕ → Result (A × List ℕ) ℕ) (more : List ℕ) → ((rest : List ℕ) → (x : A) × (next (more ++ rest) ≡ Ok (x, rest))) → ((bytes : List ℕ) (left : ℕ) → next bytes ≡ Err left → Stops A next bytes left) → (bytes : List ℕ) (left : ℕ) → (after wanted bytes >>= next) ≡ Err left → Stops A (λ xs. after wanted xs >>= next) bytes left
after_stops A wanted same next more alive stops [] left e =
    stops_at_end A (λ xs. after wanted xs >>= next) (wanted ∷ more) left (err_is (A × List ℕ) 0 left e) (λ rest. let a = alive rest in (a.0, rw same a.1))
after_stops A wanted same next more alive stops (b ∷ bs) left e =
    elim (cases_Bool (b == wanted)) [
      | inl h ↦ steps A (λ xs. after wanted xs >>= next) next (b ∷ []) (λ xs. rw h refl) bs left (stops bs left (rw h at e))
      | inr h ↦ stops_at_byte A (λ xs. after wanted xs >>= next) (wanted ∷ more) b bs left (err_is (A × List ℕ) (length (b ∷ bs)) left (rw h at e)) (λ rest. let a = alive rest in (a.0, rw same a.1)) (λ other x k. err_ok (A × List ℕ) (fail (length (b ∷ other))) (length (b ∷ other)) x refl (rw h at k))
    ]

-- ---- values

value_closes : (cut : Bool) (before : List (List ℕ)) (start rest : List ℕ) → (x : List (List ℕ)) × (value_at cut false before start (41 ∷ [] ++ rest) ≡ Ok (x, rest))
value_closes cut before start rest = (before ++ start ∷ [], refl)

pub value_stops : (cut : Bool) (bytes : List ℕ) (escape : Bool) (before : List (List ℕ)) (start : List ℕ) (left : ℕ) → value_at cut escape before start bytes ≡ Err left → Stops (List (List ℕ)) (value_at cut escape before start) bytes left
value_stops cut [] true before start left e = stops_at_end (List (List ℕ)) (value_at cut true before start) (41 ∷ 41 ∷ []) left (err_is (List (List ℕ) × List ℕ) 0 left e) (λ rest. (before ++ (start ++ 41 ∷ []) ∷ [], refl))
value_stops cut [] false before start left e = stops_at_end (List (List ℕ)) (value_at cut false before start) (41 ∷ []) left (err_is (List (List ℕ) × List ℕ) 0 left e) (value_closes cut before start)
value_stops cut (b ∷ bs) true before start left e = steps (List (List ℕ)) (value_at cut true before start) (value_at cut false before (start ++ b ∷ [])) (b ∷ []) (λ xs. refl) bs left (value_stops cut bs false before (start ++ b ∷ []) left e)
value_stops cut (b ∷ bs) false before start left e =
    elim (cases_Bool (is_plain cut b)) [
      | inl h ↦ steps (List (List ℕ)) (value_at cut false before start) (value_at cut false before (start ++ b ∷ [])) (b ∷ []) (λ xs. rw h refl) bs left (value_stops cut bs false before (start ++ b ∷ []) left (rw h at e))
      | inr p ↦ elim (cases_Bool (b == 92)) [
        | inl h ↦ steps (List (List ℕ)) (value_at cut false before start) (value_at cut true before start) (b ∷ []) (λ xs. rw (p, h) refl) bs left (value_stops cut bs true before start left (rw (p, h) at e))
        | inr q ↦ elim (cases_Bool (b == 42)) [
          | inl h ↦ steps (List (List ℕ)) (value_at cut false before start) (value_at cut false (before ++ start ∷ []) []) (b ∷ []) (λ xs. rw (p, q, h) refl) bs left (value_stops cut bs false (before ++ start ∷ []) [] left (rw (p, q, h) at e))
          | inr s ↦ elim (cases_Bool (b == 41)) [
            | inl h ↦ absurd (let k = rw (p, q, s, h) at e in cc)
            | inr h ↦ stops_at_byte (List (List ℕ)) (value_at cut false before start) (41 ∷ []) b bs left (err_is (List (List ℕ) × List ℕ) (length (b ∷ bs)) left (rw (p, q, s, h) at e)) (value_closes cut before start) (λ other x k. err_ok (List (List ℕ) × List ℕ) (fail (length (b ∷ other))) (length (b ∷ other)) x refl (rw (p, q, s, h) at k))
          ]
        ]
      ]
    ]

-- ---- signs

-- a reader that makes something of a value
value_made : (A : Type 0) (stars : Bool) (f : List (List ℕ) → A) (reader : List ℕ → Result (A × List ℕ) ℕ) → ((xs : List ℕ) → reader xs ≡ (value_at stars false [] [] xs >>= λ v. Ok (f v.0, v.1))) → (bytes : List ℕ) (left : ℕ) → reader bytes ≡ Err left → Stops A reader bytes left
value_made A stars f reader same bytes left e =
    steps A reader (λ xs. value_at stars false [] [] xs >>= λ v. Ok (f v.0, v.1)) [] same bytes left
    (made (List (List ℕ)) A f (value_at stars false [] []) bytes left (value_stops stars bytes false [] [] left (made_err (List (List ℕ)) A f (value_at stars false [] [] bytes) left (sym (same bytes) ∙ e))))

equal_stops : (bytes : List ℕ) (left : ℕ) → equal_at bytes ≡ Err left → Stops Test equal_at bytes left
equal_stops bytes left e = value_made Test true (λ v. equal_test v) equal_at equal_is bytes left e

plain_stops : (bytes : List ℕ) (left : ℕ) → plain_at bytes ≡ Err left → Stops (List ℕ) plain_at bytes left
plain_stops bytes left e = value_made (List ℕ) false (λ v. first_of v) plain_at plain_is bytes left e

order_value : ℕ → List ℕ → Result (Test × List ℕ) ℕ
order_value b bytes = plain_at bytes >>= λ v. Ok (order_test b v.0, v.1)

order_stops : (b : ℕ) (bytes : List ℕ) (left : ℕ) → order_at b bytes ≡ Err left → Stops Test (order_at b) bytes left
unfolding order_value
order_stops b bytes left e =
    after_stops Test 61 refl (order_value b) (41 ∷ []) (λ rest. (order_test b [], refl))
    (λ xs n k. made (List ℕ) Test (λ v. order_test b v) plain_at xs n (plain_stops xs n (made_err (List ℕ) Test (λ v. order_test b v) (plain_at xs) n k)))
    bytes left e

signed_alive : (rest : List ℕ) → (x : Test) × (signed_at (61 ∷ 41 ∷ [] ++ rest) ≡ Ok (x, rest))
signed_alive rest = (equal_test ([] ∷ []), refl)

pub signed_stops : (bytes : List ℕ) (left : ℕ) → signed_at bytes ≡ Err left → Stops Test signed_at bytes left
signed_stops [] left e = stops_at_end Test signed_at (61 ∷ 41 ∷ []) left (err_is (Test × List ℕ) 0 left e) signed_alive
signed_stops (b ∷ bs) left e =
    elim (cases_Bool (b == 61)) [
      | inl h ↦ steps Test signed_at equal_at (b ∷ []) (λ xs. rw h refl) bs left (equal_stops bs left (rw h at e))
      | inr p ↦ elim (cases_Bool (is_order b)) [
        | inl h ↦ steps Test signed_at (order_at b) (b ∷ []) (λ xs. rw (p, h) refl) bs left (order_stops b bs left (rw (p, h) at e))
        | inr h ↦ stops_at_byte Test signed_at (61 ∷ 41 ∷ []) b bs left (err_is (Test × List ℕ) (length (b ∷ bs)) left (rw (p, h) at e)) signed_alive (λ other x k. err_ok (Test × List ℕ) (fail (length (b ∷ other))) (length (b ∷ other)) x refl (rw (p, h) at k))
      ]
    ]

-- ---- items

abbrev pub name_then : List ℕ → List ℕ → List ℕ → Result (Filter × List ℕ) ℕ
name_then name spaces bytes = name_at name spaces bytes >>= λ n. named_at n.0 n.1

named_alive : (start : List ℕ) (c : ℕ) (rest : List ℕ) → (x : Filter) × (named_at (start ++ c ∷ []) (61 ∷ 41 ∷ rest) ≡ Ok (x, rest))
named_alive [] c rest = (roll-Filter (Item (c ∷ []) (equal_test ([] ∷ []))), refl)
named_alive (b ∷ bs) c rest = (roll-Filter (Item (b ∷ bs ++ c ∷ []) (equal_test ([] ∷ []))), refl)

-- a=) completes each name
pub name_alive : (name spaces rest : List ℕ) → (x : Filter) × (name_then name spaces (97 ∷ 61 ∷ 41 ∷ [] ++ rest) ≡ Ok (x, rest))
name_alive name spaces rest = let a = named_alive (name ++ spaces) 97 rest in (a.0, ap (λ (x : List ℕ). named_at x (61 ∷ 41 ∷ rest)) (sym (append_assoc name spaces (97 ∷ []))) ∙ a.1)

-- a sign after a name that stands
sign_stops : (c : ℕ) (cs spaces : List ℕ) (b : ℕ) (bs : List ℕ) (left : ℕ) → is_item_name_byte b ≡ false → (s : Stops Test signed_at (b ∷ bs) left) → (start : List ℕ) → s.start ≡ start → Stops Filter (name_then (c ∷ cs) spaces) (b ∷ bs) left
sign_stops c cs spaces b bs left n s [] e =
    stops_at_byte Filter (name_then (c ∷ cs) spaces) (97 ∷ 61 ∷ 41 ∷ []) b bs left (ap length (s.parts ∙ ap (λ (x : List ℕ). x ++ s.back) e) ∙ s.len) (name_alive (c ∷ cs) spaces)
    (λ other x k.
    let back : s.back ≡ b ∷ bs = sym (s.parts ∙ ap (λ (x : List ℕ). x ++ s.back) e) in
    let m = bind_ok (signed_at (b ∷ other)) (λ t. done (roll-Filter (Item (c ∷ cs) t.0), t.1)) x (rw n at k) in
    s.dead b bs back other m.0 (ap (λ (x : List ℕ). signed_at (x ++ b ∷ other)) e ∙ m.1))
sign_stops c cs spaces b bs left n s (d ∷ ds) e =
    let parts : b ∷ bs ≡ d ∷ (ds ++ s.back) = s.parts ∙ ap (λ (x : List ℕ). x ++ s.back) e in
    let d-is : b ≡ d = cc in
    let none : is_item_name_byte d ≡ false = subst (λ (x : ℕ). is_item_name_byte x ≡ false) d-is n in
    record {
      start = d ∷ ds;
      back = s.back;
      parts = parts;
      len = s.len;
      more = s.more;
      alive = λ rest. let a = s.alive rest in (roll-Filter (Item (c ∷ cs) a.0), rw none (ap (λ (r : Result (Test × List ℕ) ℕ). r >>= λ t. done (roll-Filter (Item (c ∷ cs) t.0), t.1)) (ap (λ (x : List ℕ). signed_at (x ++ (s.more ++ rest))) (sym e) ∙ a.1)));
      dead = λ b bs h other x k.
          let m = bind_ok (signed_at (d ∷ (ds ++ b ∷ other))) (λ t. done (roll-Filter (Item (c ∷ cs) t.0), t.1)) x (rw none at k) in
          s.dead b bs h other m.0 (ap (λ (x : List ℕ). signed_at (x ++ b ∷ other)) e ∙ m.1);
    }

named_stops : (name spaces : List ℕ) (b : ℕ) (bs : List ℕ) (left : ℕ) → is_item_name_byte b ≡ false → named_at name (b ∷ bs) ≡ Err left → Stops Filter (name_then name spaces) (b ∷ bs) left
named_stops [] spaces b bs left n e = stops_at_byte Filter (name_then [] spaces) (97 ∷ 61 ∷ 41 ∷ []) b bs left (err_is (Filter × List ℕ) (length (b ∷ bs)) left e) (name_alive [] spaces) (λ other x k. err_ok (Filter × List ℕ) (fail (length (b ∷ other))) (length (b ∷ other)) x refl (rw n at k))
named_stops (c ∷ cs) spaces b bs left n e =
    let s = signed_stops (b ∷ bs) left (made_err Test Filter (λ t. roll-Filter (Item (c ∷ cs) t)) (signed_at (b ∷ bs)) left e) in
    sign_stops c cs spaces b bs left n s s.start refl

pub name_stops : (bytes name spaces : List ℕ) (left : ℕ) → name_then name spaces bytes ≡ Err left → Stops Filter (name_then name spaces) bytes left
name_stops [] name spaces left e = stops_at_end Filter (name_then name spaces) (97 ∷ 61 ∷ 41 ∷ []) left (err_is (Filter × List ℕ) 0 left e) (name_alive name spaces)
name_stops (b ∷ bs) name spaces left e =
    elim (cases_Bool (is_item_name_byte b)) [
      | inl n ↦ elim (cases_Bool (is_blank b)) [
        | inl h ↦ steps Filter (name_then name spaces) (name_then name (spaces ++ b ∷ [])) (b ∷ []) (λ xs. rw (n, h) refl) bs left (name_stops bs name (spaces ++ b ∷ []) left (rw (n, h) at e))
        | inr h ↦ steps Filter (name_then name spaces) (name_then (name ++ (spaces ++ b ∷ [])) []) (b ∷ []) (λ xs. rw (n, h) refl) bs left (name_stops bs (name ++ (spaces ++ b ∷ [])) [] left (rw (n, h) at e))
      ]
      | inr n ↦ named_stops name spaces b bs left n (rw n at e)
    ]

-- white space before, and a=) completes an item that has not begun
pub item_alive : (spaces : List ℕ) → Each IsBlank spaces → (rest : List ℕ) → (x : Filter) × (item_at (spaces ++ (97 ∷ 61 ∷ 41 ∷ rest)) ≡ Ok (x, rest))
item_alive spaces h rest = let a = name_alive [] [] rest in (a.0, ap (λ (x : List ℕ). name_then [] [] x) (skip_over spaces 97 (61 ∷ 41 ∷ rest) h refl) ∙ a.1)

item_after : (t : List ℕ) (left : ℕ) (spaces : List ℕ) → Each IsBlank spaces → ((b : ℕ) (bs : List ℕ) → t ≡ b ∷ bs → is_blank b ≡ false) → (s : Stops Filter (name_then [] []) t left) → (start : List ℕ) → s.start ≡ start → Stops Filter item_at (spaces ++ t) left
item_after t left spaces h starts s [] e = record {
  start = spaces;
  back = t;
  parts = refl;
  len = ap length (s.parts ∙ ap (λ (x : List ℕ). x ++ s.back) e) ∙ s.len;
  more = 97 ∷ 61 ∷ 41 ∷ [];
  alive = item_alive spaces h;
  dead = λ b bs is other x k.
      let back : s.back ≡ b ∷ bs = sym (s.parts ∙ ap (λ (x : List ℕ). x ++ s.back) e) ∙ is in
      s.dead b bs back other x (ap (λ (x : List ℕ). name_then [] [] (x ++ b ∷ other)) e ∙ ap (λ (x : List ℕ). name_then [] [] x) (sym (skip_over spaces b other h (starts b bs is))) ∙ k);
}
item_after t left spaces h starts s (d ∷ ds) e =
    let parts : t ≡ d ∷ (ds ++ s.back) = s.parts ∙ ap (λ (x : List ℕ). x ++ s.back) e in
    let none : is_blank d ≡ false = starts d (ds ++ s.back) parts in
    let goes : (xs : List ℕ) → item_at (spaces ++ ((d ∷ ds) ++ xs)) ≡ name_then [] [] (s.start ++ xs) = λ xs. ap (λ (x : List ℕ). name_then [] [] x) (skip_over spaces d (ds ++ xs) h none ∙ ap (λ (x : List ℕ). x ++ xs) (sym e)) in
    record {
      start = spaces ++ (d ∷ ds);
      back = s.back;
      parts = ap (λ (x : List ℕ). spaces ++ x) parts ∙ sym (append_assoc spaces (d ∷ ds) s.back);
      len = s.len;
      more = s.more;
      alive = λ rest. let a = s.alive rest in (a.0, ap item_at (append_assoc spaces (d ∷ ds) (s.more ++ rest)) ∙ goes (s.more ++ rest) ∙ a.1);
      dead = λ b bs is other x k. s.dead b bs is other x (sym (goes (b ∷ other)) ∙ ap item_at (sym (append_assoc spaces (d ∷ ds) (b ∷ other))) ∙ k);
    }

pub item_stops : (bytes : List ℕ) (left : ℕ) → item_at bytes ≡ Err left → Stops Filter item_at bytes left
item_stops bytes left e =
    let k = skip_sound bytes in
    let s = name_stops (skip bytes) [] [] left e in
    subst (λ (x : List ℕ). Stops Filter item_at x left) (sym k.parts) (item_after (skip bytes) left k.spaces k.are (skip_stops bytes) s s.start refl)
