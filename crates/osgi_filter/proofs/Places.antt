-- Where reading a level stops.
use Rattle.std.proofs.Common.{◌≡◌, ℕ, zero, suc, ◌≤◌, ◌<◌, ◌-◌, Bool, true, false, cond, ◌||◌, ◌&&◌, ◌==◌, List, [], ◌∷◌, ◌++◌, length, take, Result, Ok, Err, refl, sym, ap, subst, ◌∙◌, append_assoc, arith, inl, inr, ◌⊎◌}
use Rattle.std.proofs.lemmas.Bool.{cases_Bool, and_parts, and_from, and_left, and_right, or_cases, eqb-true, cond-false, cond-true, false≢true}
use Rattle.std.proofs.lemmas.List.{append-nil, length-append, take_at}
use Rattle.osgi_model.specs.declared.filter.Filter.{Filter, roll-Filter}
use Rattle.osgi_model.specs.declared.filter.Filter.TheOpen.{Not}
use Rattle.osgi_version.specs.Bytes.{Each, IsBlank, is_blank}
use Rattle.osgi_model.specs.Filters.{ReadsFilter, IsReadableFilter}
use Rattle.osgi_filter.specs.laws.Bounded.{Bare}
use Rattle.osgi_filter.specs.computed.Reader.{◌>>=◌, skip, after, item_at, opens, is_composing, listed, operand, listing, not_at, composed_at, inside, level_at, filter_at, ended, whole_at}
use Rattle.osgi_filter.specs.laws.Scans.{bind_ok, space_is_name, skip_over, skip_spaces, skip_sound, skip_stops}
use Rattle.osgi_filter.specs.laws.ItemReading.{item_sound}
use Rattle.osgi_filter.specs.laws.Levels.{IsExact, inside_item, begins_item, filter_exact, whole_again, whole_sound}
use Rattle.osgi_version.specs.FaultPlaces.{IsLongestPrefix}
use Rattle.osgi_filter.specs.laws.Steps.{filter_at_none, filter_at_some, filter_at_more}
use Rattle.osgi_filter.proofs.Operands.{skip_length, takes, listing_is}
use Rattle.osgi_filter.proofs.Stopping.{err_is, err_ok, Stops, steps, made, made_err, stops_at_end, after_stops, name_then, name_alive, item_alive, item_stops}

abbrev done : {A : Type 0} → A → Result A ℕ
done x = Ok x

abbrev fail : {A : Type 0} → ℕ → Result A ℕ
fail n = Err n

-- as Stops, where a reader that stops at its first byte may read nothing at all
pub record Halts (reader : List ℕ → Result (Filter × List ℕ) ℕ) (bytes : List ℕ) (left : ℕ) : Type 0 where
  pub start : List ℕ
  pub back : List ℕ
  pub parts : bytes ≡ start ++ back
  pub len : length back ≡ left
  pub more : List ℕ
  pub alive : (start ≡ [] → ⊥) → (rest : List ℕ) → (x : Filter) × (reader (start ++ (more ++ rest)) ≡ Ok (x, rest))
  pub dead : (b : ℕ) (bs : List ℕ) → back ≡ b ∷ bs → (other : List ℕ) (x : Filter × List ℕ) → reader (start ++ b ∷ other) ≡ Ok x → ⊥

weaken : (reader : List ℕ → Result (Filter × List ℕ) ℕ) (bytes : List ℕ) (left : ℕ) → Stops Filter reader bytes left → Halts reader bytes left
weaken reader bytes left s = record { start = s.start; back = s.back; parts = s.parts; len = s.len; more = s.more; alive = λ h. s.alive; dead = s.dead }

halts_same : (reader next : List ℕ → Result (Filter × List ℕ) ℕ) → ((xs : List ℕ) → reader xs ≡ next xs) → (bytes : List ℕ) (left : ℕ) → Halts next bytes left → Halts reader bytes left
halts_same reader next same bytes left s = record {
  start = s.start;
  back = s.back;
  parts = s.parts;
  len = s.len;
  more = s.more;
  alive = λ h rest. let a = s.alive h rest in (a.0, same (s.start ++ (s.more ++ rest)) ∙ a.1);
  dead = λ b bs e other x k. s.dead b bs e other x (sym (same (s.start ++ b ∷ other)) ∙ k);
}

-- ---- a name that begins with ! & or |

name_spaces : (spaces name before xs : List ℕ) → Each IsBlank spaces → name_then name before (spaces ++ xs) ≡ name_then name (before ++ spaces) xs
name_spaces [] name before xs h = ap (λ (x : List ℕ). name_then name x xs) (sym (append-nil before))
name_spaces (c ∷ cs) name before xs h =
    let p = h in
    rw (space_is_name c p.0, p.0) (name_spaces cs name (before ++ c ∷ []) xs p.1 ∙ ap (λ (x : List ℕ). name_then name x xs) (append_assoc before (c ∷ []) cs))

composing_is : (P : ℕ → Type 0) (b : ℕ) → is_composing b ≡ true → P 33 → P 38 → P 124 → P b
composing_is P b h p33 p38 p124 =
    elim (or_cases (b == 33 || b == 38) (b == 124) h) [
      | inr e ↦ subst P (sym (eqb-true b 124 e)) p124
      | inl h ↦ elim (or_cases (b == 33) (b == 38) h) [
        | inr e ↦ subst P (sym (eqb-true b 38 e)) p38
        | inl e ↦ subst P (sym (eqb-true b 33 e)) p33
      ]
    ]

sign_goes : (b : ℕ) (xs : List ℕ) → is_composing b ≡ true → item_at (b ∷ xs) ≡ name_then (b ∷ []) [] xs
sign_goes b xs h = composing_is (λ c. item_at (c ∷ xs) ≡ name_then (c ∷ []) [] xs) b h refl refl refl

sign_alive : (b : ℕ) (spaces : List ℕ) → is_composing b ≡ true → Each IsBlank spaces → (rest : List ℕ) → (x : Filter) × (item_at (b ∷ (spaces ++ (97 ∷ 61 ∷ 41 ∷ rest))) ≡ Ok (x, rest))
sign_alive b spaces c h rest = let a = name_alive (b ∷ []) spaces rest in (a.0, sign_goes b (spaces ++ (97 ∷ 61 ∷ 41 ∷ rest)) c ∙ name_spaces spaces (b ∷ []) [] (97 ∷ 61 ∷ 41 ∷ rest) h ∙ a.1)

-- what opens shows at the first byte that is not white space
opens_same : (s : List ℕ) (b : ℕ) (t u : List ℕ) → Each IsBlank (s ++ b ∷ []) ⊎ (opens (skip (s ++ b ∷ t)) ≡ opens (skip (s ++ b ∷ u)))
opens_same [] b t u = elim (cases_Bool (is_blank b)) [ inl h ↦ inl (h, tt) | inr h ↦ inr (rw h refl) ]
opens_same (c ∷ cs) b t u =
    elim (cases_Bool (is_blank c)) [
      | inl h ↦ elim (opens_same cs b t u) [ inl k ↦ inl (h, k) | inr k ↦ inr (rw h k) ]
      | inr h ↦ inr (rw h refl)
    ]

abbrev closed : Filter → List ℕ → Result (Filter × List ℕ) ℕ
closed f r = Ok (roll-Filter (Not f), r)

abbrev first_byte : List ℕ → ℕ
first_byte [] = 0
first_byte (b ∷ bs) = b

abbrev composes : List ℕ → Bool
composes [] = false
composes (b ∷ bs) = is_composing b && opens (skip bs)

open_first : (bytes : List ℕ) → opens bytes ≡ true → (more : List ℕ) × (bytes ≡ 40 ∷ more)
open_first [] h = absurd (false≢true h)
open_first (b ∷ bs) h = (bs, ap (λ (x : ℕ). x ∷ bs) (eqb-true b 40 h))

module _ (R : List ℕ → Filter → Type 0) (below : List ℕ → Result (Filter × List ℕ) ℕ) (exact : IsExact R below) (halts : (bytes : List ℕ) (left : ℕ) → below bytes ≡ Err left → Halts below bytes left) where
  -- ---- operands

  listing_over : (fs : List Filter) (spaces : List ℕ) (b : ℕ) (t : List ℕ) → Each IsBlank spaces → is_blank b ≡ false → listing below fs (spaces ++ b ∷ t) ≡ operand below (listing below) fs (b ∷ t)
  listing_over fs spaces b t h k = listing_is R below exact fs (spaces ++ b ∷ t) ∙ ap (λ (x : List ℕ). operand below (listing below) fs x) (skip_over spaces b t h k)

  listing_one : (fs : List Filter) (spaces : List ℕ) (b : ℕ) (t : List ℕ) → Each IsBlank spaces → is_blank b ≡ false → (b == 41) ≡ false → listing below fs (spaces ++ b ∷ t) ≡ (below (b ∷ t) >>= λ x. listing below (fs ++ x.0 ∷ []) x.1)
  listing_one fs spaces b t h k n = listing_over fs spaces b t h k ∙ cond-false (b == 41) (Ok (fs, t)) (below (b ∷ t) >>= λ x. listing below (fs ++ x.0 ∷ []) x.1) n

  listing_close : (fs : List Filter) (spaces : List ℕ) → Each IsBlank spaces → (rest : List ℕ) → (x : List Filter) × (listing below fs (spaces ++ (41 ∷ [] ++ rest)) ≡ Ok (x, rest))
  listing_close fs spaces h rest = (fs, listing_over fs spaces 41 rest h refl)

  listing_halts : (fs : List Filter) (spaces : List ℕ) (b : ℕ) (bs : List ℕ) (left : ℕ) → Each IsBlank spaces → is_blank b ≡ false → (b == 41) ≡ false → (s : Halts below (b ∷ bs) left) → (start : List ℕ) → s.start ≡ start → Stops (List Filter) (listing below fs) (spaces ++ b ∷ bs) left
  listing_halts fs spaces b bs left h k n s [] e = record {
    start = spaces;
    back = b ∷ bs;
    parts = refl;
    len = ap length (s.parts ∙ ap (λ (x : List ℕ). x ++ s.back) e) ∙ s.len;
    more = 41 ∷ [];
    alive = listing_close fs spaces h;
    dead = λ c cs is other x r.
        let back : s.back ≡ b ∷ bs = sym (s.parts ∙ ap (λ (x : List ℕ). x ++ s.back) e) in
        let c-is : c ≡ b = cc in
        let r' : listing below fs (spaces ++ b ∷ other) ≡ Ok x = subst (λ (y : ℕ). listing below fs (spaces ++ y ∷ other) ≡ Ok x) c-is r in
        let m = bind_ok (below (b ∷ other)) (λ x. listing below (fs ++ x.0 ∷ []) x.1) x (sym (listing_one fs spaces b other h k n) ∙ r') in
        s.dead b bs back other m.0 (ap (λ (x : List ℕ). below (x ++ b ∷ other)) e ∙ m.1);
  }
  listing_halts fs spaces b bs left h k n s (d ∷ ds) e =
      let parts : b ∷ bs ≡ d ∷ (ds ++ s.back) = s.parts ∙ ap (λ (x : List ℕ). x ++ s.back) e in
      let d-is : b ≡ d = cc in
      let dk : is_blank d ≡ false = subst (λ (x : ℕ). is_blank x ≡ false) d-is k in
      let dn : (d == 41) ≡ false = subst (λ (x : ℕ). (x == 41) ≡ false) d-is n in
      let goes : (xs : List ℕ) → listing below fs ((spaces ++ (d ∷ ds)) ++ xs) ≡ (below (s.start ++ xs) >>= λ x. listing below (fs ++ x.0 ∷ []) x.1) = λ xs. ap (λ (x : List ℕ). listing below fs x) (append_assoc spaces (d ∷ ds) xs) ∙ listing_one fs spaces d (ds ++ xs) h dk dn ∙ ap (λ (y : List ℕ). below (y ++ xs) >>= λ x. listing below (fs ++ x.0 ∷ []) x.1) (sym e) in
      let some : s.start ≡ [] → ⊥ = λ z. absurd cc in
      record {
        start = spaces ++ (d ∷ ds);
        back = s.back;
        parts = ap (λ (x : List ℕ). spaces ++ x) parts ∙ sym (append_assoc spaces (d ∷ ds) s.back);
        len = s.len;
        more = s.more ++ 41 ∷ [];
        alive = λ rest.
            let a = s.alive some (41 ∷ rest) in
            let c = listing_close (fs ++ a.0 ∷ []) [] tt rest in
            (c.0, ap (λ (x : List ℕ). listing below fs ((spaces ++ (d ∷ ds)) ++ x)) (append_assoc s.more (41 ∷ []) rest) ∙ goes (s.more ++ 41 ∷ rest) ∙ ap (λ (r : Result (Filter × List ℕ) ℕ). r >>= λ x. listing below (fs ++ x.0 ∷ []) x.1) a.1 ∙ c.1);
        dead = λ c cs is other x r.
            let m = bind_ok (below (s.start ++ c ∷ other)) (λ x. listing below (fs ++ x.0 ∷ []) x.1) x (sym (goes (c ∷ other)) ∙ r) in
            s.dead c cs is other m.0 m.1;
      }

  listing_rest : (n : ℕ) → ((fs : List Filter) (bytes : List ℕ) (left : ℕ) → length bytes ≤ n → listing below fs bytes ≡ Err left → Stops (List Filter) (listing below fs) bytes left) → (fs : List Filter) (spaces t : List ℕ) (left : ℕ) → length t ≤ suc n → Each IsBlank spaces → ((b : ℕ) (bs : List ℕ) → t ≡ b ∷ bs → is_blank b ≡ false) → operand below (listing below) fs t ≡ Err left → Stops (List Filter) (listing below fs) (spaces ++ t) left
  listing_rest n next fs spaces [] left lt h starts e = record {
    start = spaces;
    back = [];
    parts = refl;
    len = err_is (List Filter × List ℕ) 0 left e;
    more = 41 ∷ [];
    alive = listing_close fs spaces h;
    dead = λ c cs is other x r. absurd cc;
  }
  listing_rest n next fs spaces (b ∷ bs) left lt h starts e =
      let k = starts b bs refl in
      elim (cases_Bool (b == 41)) [
        | inl m ↦ absurd (err_ok (List Filter × List ℕ) (operand below (listing below) fs (b ∷ bs)) left (fs, bs) e (rw m refl))
        | inr m ↦ listing_read n next fs spaces b bs left lt h k m (below (b ∷ bs)) refl (sym (cond-false (b == 41) (Ok (fs, bs)) (below (b ∷ bs) >>= λ x. listing below (fs ++ x.0 ∷ []) x.1) m) ∙ e)
      ]
    where
      listing_read : (n : ℕ) → ((fs : List Filter) (bytes : List ℕ) (left : ℕ) → length bytes ≤ n → listing below fs bytes ≡ Err left → Stops (List Filter) (listing below fs) bytes left) → (fs : List Filter) (spaces : List ℕ) (b : ℕ) (bs : List ℕ) (left : ℕ) → length (b ∷ bs) ≤ suc n → Each IsBlank spaces → is_blank b ≡ false → (b == 41) ≡ false → (r : Result (Filter × List ℕ) ℕ) → below (b ∷ bs) ≡ r → (r >>= λ x. listing below (fs ++ x.0 ∷ []) x.1) ≡ Err left → Stops (List Filter) (listing below fs) (spaces ++ b ∷ bs) left
      listing_read n next fs spaces b bs left lt h k m (Err l) is e = listing_halts fs spaces b bs left h k m (halts (b ∷ bs) left (is ∙ ap (λ (y : ℕ). fail y) (err_is (List Filter × List ℕ) l left e))) _ refl
      listing_read n next fs spaces b bs left lt h k m (Ok x) is e =
          let g = exact.sound (b ∷ bs) x.0 x.1 is in
          let less = takes R below exact (b ∷ bs) x is in
          let s = exact.starts g.text x.0 g.reads in
          let goes : (xs : List ℕ) → listing below fs ((spaces ++ g.text) ++ xs) ≡ listing below (fs ++ x.0 ∷ []) xs = λ xs. ap (λ (y : List ℕ). listing below fs y) (append_assoc spaces g.text xs ∙ ap (λ (y : List ℕ). spaces ++ (y ++ xs)) s.1) ∙ listing_one fs spaces 40 (s.0 ++ xs) h refl refl ∙ ap (λ (y : List ℕ). below (y ++ xs) >>= λ x. listing below (fs ++ x.0 ∷ []) x.1) (sym s.1) ∙ ap (λ (r : Result (Filter × List ℕ) ℕ). r >>= λ x. listing below (fs ++ x.0 ∷ []) x.1) (exact.again g.text x.0 xs g.reads) in
          let whole : spaces ++ b ∷ bs ≡ (spaces ++ g.text) ++ x.1 = ap (λ (y : List ℕ). spaces ++ y) g.parts ∙ sym (append_assoc spaces g.text x.1) in
          let least : length x.1 ≤ n = omega arith in
          subst (λ (y : List ℕ). Stops (List Filter) (listing below fs) y left) (sym whole) (steps (List Filter) (listing below fs) (listing below (fs ++ x.0 ∷ [])) (spaces ++ g.text) goes x.1 left (next (fs ++ x.0 ∷ []) x.1 left least e))

  listing_stops : (n : ℕ) (fs : List Filter) (bytes : List ℕ) (left : ℕ) → length bytes ≤ n → listing below fs bytes ≡ Err left → Stops (List Filter) (listing below fs) bytes left
  listing_stops zero fs bytes left lt e =
      let k = skip_sound bytes in
      let l = skip_length bytes in
      subst (λ (y : List ℕ). Stops (List Filter) (listing below fs) y left) (sym k.parts) (listing_none fs k.spaces (skip bytes) left (omega arith) k.are (sym (listing_is R below exact fs bytes) ∙ e))
    where
      listing_none : (fs : List Filter) (spaces t : List ℕ) (left : ℕ) → length t ≤ 0 → Each IsBlank spaces → operand below (listing below) fs t ≡ Err left → Stops (List Filter) (listing below fs) (spaces ++ t) left
      listing_none fs spaces [] left lt h e = record { start = spaces; back = []; parts = refl; len = err_is (List Filter × List ℕ) 0 left e; more = 41 ∷ []; alive = listing_close fs spaces h; dead = λ c cs is other x r. absurd cc }
      listing_none fs spaces (b ∷ bs) left lt h e = absurd (omega arith)
  listing_stops (suc n) fs bytes left lt e =
      let k = skip_sound bytes in
      let l = skip_length bytes in
      subst (λ (y : List ℕ). Stops (List Filter) (listing below fs) y left) (sym k.parts) (listing_rest n (listing_stops n) fs k.spaces (skip bytes) left (omega arith) k.are (skip_stops bytes) (sym (listing_is R below exact fs bytes) ∙ e))

  -- ---- not

  abbrev closing : Filter → List ℕ → Result (Filter × List ℕ) ℕ
  closing f bytes = after 41 (skip bytes) >>= closed f

  closing_over : (f : Filter) (spaces : List ℕ) (b : ℕ) (t : List ℕ) → Each IsBlank spaces → is_blank b ≡ false → closing f (spaces ++ b ∷ t) ≡ (after 41 (b ∷ t) >>= closed f)
  closing_over f spaces b t h k = ap (λ (x : List ℕ). after 41 x >>= closed f) (skip_over spaces b t h k)

  closing_close : (f : Filter) (spaces : List ℕ) → Each IsBlank spaces → (rest : List ℕ) → (x : Filter) × (closing f (spaces ++ (41 ∷ [] ++ rest)) ≡ Ok (x, rest))
  closing_close f spaces h rest = (roll-Filter (Not f), closing_over f spaces 41 rest h refl)

  closing_rest : (f : Filter) (spaces t : List ℕ) (left : ℕ) → Each IsBlank spaces → ((b : ℕ) (bs : List ℕ) → t ≡ b ∷ bs → is_blank b ≡ false) → (after 41 t >>= closed f) ≡ Err left → Stops Filter (closing f) (spaces ++ t) left
  closing_rest f spaces [] left h starts e = record { start = spaces; back = []; parts = refl; len = err_is (Filter × List ℕ) 0 left e; more = 41 ∷ []; alive = closing_close f spaces h; dead = λ c cs is other x r. absurd cc }
  closing_rest f spaces (b ∷ bs) left h starts e =
      elim (cases_Bool (b == 41)) [
        | inl m ↦ absurd (err_ok (Filter × List ℕ) (after 41 (b ∷ bs) >>= closed f) left (roll-Filter (Not f), bs) e (rw m refl))
        | inr m ↦ record {
          start = spaces;
          back = b ∷ bs;
          parts = refl;
          len = err_is (Filter × List ℕ) (length (b ∷ bs)) left (rw m at e);
          more = 41 ∷ [];
          alive = closing_close f spaces h;
          dead = λ c cs is other x r.
              let c-is : c ≡ b = cc in
              let r' : closing f (spaces ++ b ∷ other) ≡ Ok x = subst (λ (y : ℕ). closing f (spaces ++ y ∷ other) ≡ Ok x) c-is r in
              let k : (after 41 (b ∷ other) >>= closed f) ≡ Ok x = sym (closing_over f spaces b other h (starts b bs refl)) ∙ r' in
              err_ok (Filter × List ℕ) (fail (length (b ∷ other))) (length (b ∷ other)) x refl (rw m at k);
        }
      ]

  closing_stops : (f : Filter) (bytes : List ℕ) (left : ℕ) → closing f bytes ≡ Err left → Stops Filter (closing f) bytes left
  closing_stops f bytes left e =
      let k = skip_sound bytes in
      subst (λ (y : List ℕ). Stops Filter (closing f) y left) (sym k.parts) (closing_rest f k.spaces (skip bytes) left k.are (skip_stops bytes) e)

  not_read : (bytes : List ℕ) (left : ℕ) (r : Result (Filter × List ℕ) ℕ) → below bytes ≡ r → (r >>= λ x. closing x.0 x.1) ≡ Err left → Halts (not_at below) bytes left
  not_read bytes left (Err l) is e =
      let s = halts bytes left (is ∙ ap (λ (y : ℕ). fail y) (err_is (Filter × List ℕ) l left e)) in
      record {
        start = s.start;
        back = s.back;
        parts = s.parts;
        len = s.len;
        more = s.more ++ 41 ∷ [];
        alive = λ some rest.
            let a = s.alive some (41 ∷ rest) in
            (roll-Filter (Not a.0), ap (λ (x : List ℕ). not_at below (s.start ++ x)) (append_assoc s.more (41 ∷ []) rest) ∙ ap (λ (r : Result (Filter × List ℕ) ℕ). r >>= λ x. closing x.0 x.1) a.1);
        dead = λ c cs h other x k. let m = bind_ok (below (s.start ++ c ∷ other)) (λ x. closing x.0 x.1) x k in s.dead c cs h other m.0 m.1;
      }
  not_read bytes left (Ok x) is e =
      let g = exact.sound bytes x.0 x.1 is in
      let goes : (xs : List ℕ) → not_at below (g.text ++ xs) ≡ closing x.0 xs = λ xs. ap (λ (r : Result (Filter × List ℕ) ℕ). r >>= λ x. closing x.0 x.1) (exact.again g.text x.0 xs g.reads) in
      subst (λ (y : List ℕ). Halts (not_at below) y left) (sym g.parts) (weaken (not_at below) (g.text ++ x.1) left (steps Filter (not_at below) (closing x.0) g.text goes x.1 left (closing_stops x.0 x.1 left e)))

  composed_halts : (sign : ℕ) (bytes : List ℕ) (left : ℕ) → composed_at below sign bytes ≡ Err left → Halts (composed_at below sign) bytes left
  composed_halts sign bytes left e =
      elim (cases_Bool (sign == 33)) [
        | inl h ↦ halts_same (composed_at below sign) (not_at below) (λ xs. cond-true (sign == 33) (not_at below xs) (listing below [] xs >>= λ x. Ok (listed sign x.0, x.1)) h) bytes left (not_read bytes left (below bytes) refl (sym (cond-true (sign == 33) (not_at below bytes) (listing below [] bytes >>= λ x. Ok (listed sign x.0, x.1)) h) ∙ e))
        | inr h ↦
            let k : (listing below [] bytes >>= λ x. done (listed sign x.0, x.1)) ≡ Err left = sym (cond-false (sign == 33) (not_at below bytes) (listing below [] bytes >>= λ x. Ok (listed sign x.0, x.1)) h) ∙ e in
            halts_same (composed_at below sign) (λ xs. listing below [] xs >>= λ x. Ok (listed sign x.0, x.1)) (λ xs. cond-false (sign == 33) (not_at below xs) (listing below [] xs >>= λ x. Ok (listed sign x.0, x.1)) h) bytes left
            (weaken (λ xs. listing below [] xs >>= λ x. Ok (listed sign x.0, x.1)) bytes left (made (List Filter) Filter (λ fs. listed sign fs) (listing below []) bytes left (listing_stops (length bytes) [] bytes left (omega arith) (made_err (List Filter) Filter (λ fs. listed sign fs) (listing below [] bytes) left k))))
      ]

  -- ---- after the (

  inside_composed : (b : ℕ) (spaces t : List ℕ) → is_composing b ≡ true → Each IsBlank spaces → inside below (b ∷ (spaces ++ 40 ∷ t)) ≡ composed_at below b (40 ∷ t)
  inside_composed b spaces t c h =
      ap (λ (x : List ℕ). cond (is_composing b && opens x) (composed_at below b x) (item_at (b ∷ (spaces ++ 40 ∷ t)))) (skip_over spaces 40 t h refl)
      ∙ cond-true (is_composing b && true) (composed_at below b (40 ∷ t)) (item_at (b ∷ (spaces ++ 40 ∷ t))) (and_from (is_composing b) true c refl)

  inside_sign : (b : ℕ) (spaces : List ℕ) → is_composing b ≡ true → Each IsBlank spaces → (rest : List ℕ) → (x : Filter) × (inside below (b ∷ (spaces ++ (97 ∷ 61 ∷ 41 ∷ rest))) ≡ Ok (x, rest))
  inside_sign b spaces c h rest =
      let a = sign_alive b spaces c h rest in (
        a.0,
        ap (λ (x : List ℕ). cond (is_composing b && opens x) (composed_at below b x) (item_at (b ∷ (spaces ++ (97 ∷ 61 ∷ 41 ∷ rest))))) (skip_over spaces 97 (61 ∷ 41 ∷ rest) h refl)
            ∙ cond-false (is_composing b && false) (composed_at below b (97 ∷ 61 ∷ 41 ∷ rest)) (item_at (b ∷ (spaces ++ (97 ∷ 61 ∷ 41 ∷ rest)))) (and_right (is_composing b) false refl) ∙ a.1,
      )

  composed_stops : (b : ℕ) (spaces t : List ℕ) (left : ℕ) → is_composing b ≡ true → Each IsBlank spaces → (s : Halts (composed_at below b) (40 ∷ t) left) → (start : List ℕ) → s.start ≡ start → Stops Filter (inside below) (b ∷ (spaces ++ 40 ∷ t)) left
  composed_stops b spaces t left c h s [] e = record {
    start = b ∷ spaces;
    back = 40 ∷ t;
    parts = refl;
    len = ap length (s.parts ∙ ap (λ (x : List ℕ). x ++ s.back) e) ∙ s.len;
    more = 97 ∷ 61 ∷ 41 ∷ [];
    alive = inside_sign b spaces c h;
    dead = λ d ds is other x r.
        let back : s.back ≡ 40 ∷ t = sym (s.parts ∙ ap (λ (x : List ℕ). x ++ s.back) e) in
        let d-is : d ≡ 40 = ap (λ (y : List ℕ). first_byte y) (sym is) in
        let r' : inside below (b ∷ (spaces ++ 40 ∷ other)) ≡ Ok x = subst (λ (y : ℕ). inside below (b ∷ (spaces ++ y ∷ other)) ≡ Ok x) d-is r in
        s.dead 40 t back other x (ap (λ (y : List ℕ). composed_at below b (y ++ 40 ∷ other)) e ∙ sym (inside_composed b spaces other c h) ∙ r');
  }
  composed_stops b spaces t left c h s (d ∷ ds) e =
      let parts : 40 ∷ t ≡ d ∷ (ds ++ s.back) = s.parts ∙ ap (λ (x : List ℕ). x ++ s.back) e in
      let d-is : d ≡ 40 = ap (λ (y : List ℕ). first_byte y) (sym parts) in
      let some : s.start ≡ [] → ⊥ = λ z. absurd cc in
      let goes : (xs : List ℕ) → inside below ((b ∷ (spaces ++ (d ∷ ds))) ++ xs) ≡ composed_at below b (s.start ++ xs) = λ xs.
      ap (λ (x : List ℕ). inside below (b ∷ x)) (append_assoc spaces (d ∷ ds) xs ∙ ap (λ (y : ℕ). spaces ++ y ∷ (ds ++ xs)) d-is) ∙ inside_composed b spaces (ds ++ xs) c h ∙ ap (λ (y : ℕ). composed_at below b (y ∷ (ds ++ xs))) (sym d-is) ∙ ap (λ (y : List ℕ). composed_at below b (y ++ xs)) (sym e) in
      record {
        start = b ∷ (spaces ++ (d ∷ ds));
        back = s.back;
        parts = ap (λ (x : List ℕ). b ∷ (spaces ++ x)) parts ∙ ap (λ (x : List ℕ). b ∷ x) (sym (append_assoc spaces (d ∷ ds) s.back));
        len = s.len;
        more = s.more;
        alive = λ rest. let a = s.alive some rest in (a.0, goes (s.more ++ rest) ∙ a.1);
        dead = λ c cs is other x r. s.dead c cs is other x (sym (goes (c ∷ other)) ∙ r);
      }

  -- an item that is read is read after the ( too
  item_inside : (bytes : List ℕ) (x : Filter × List ℕ) → item_at bytes ≡ Ok x → inside below bytes ≡ Ok x
  item_inside bytes x e =
      let g = item_sound bytes x.0 x.1 e in
      let i = g.item in
      let whole : bytes ≡ i.before ++ (g.name ++ (i.after ++ (i.signed ++ 41 ∷ x.1))) = g.parts ∙ ap (λ (y : List ℕ). y ++ x.1) i.parts ∙ simp append_assoc in
      inside_item R below exact bytes (λ b bs is. begins_item R below exact i.before g.name i.after i.signed x.1 g.test i.are_before i.named i.are_after i.reads b bs (sym whole ∙ is)) ∙ e

  item_dead : (b : ℕ) (bs : List ℕ) (left : ℕ) → (is_composing b && opens (skip bs)) ≡ false → (s : Stops Filter item_at (b ∷ bs) left) → (start : List ℕ) → s.start ≡ start → (c : ℕ) (cs : List ℕ) → s.back ≡ c ∷ cs → (other : List ℕ) (x : Filter × List ℕ) → inside below (start ++ c ∷ other) ≡ Ok x → ⊥
  item_dead b bs left n s [] e c cs is other x r =
      elim (cases_Bool (is_composing c)) [
        | inl k ↦ let a = sign_alive c [] k tt [] in s.dead c cs is (97 ∷ 61 ∷ 41 ∷ []) (a.0, []) (ap (λ (y : List ℕ). item_at (y ++ c ∷ 97 ∷ 61 ∷ 41 ∷ [])) e ∙ a.1)
        | inr k ↦ s.dead c cs is other x (ap (λ (y : List ℕ). item_at (y ++ c ∷ other)) e ∙ sym (cond-false (is_composing c && opens (skip other)) (composed_at below c (skip other)) (item_at (c ∷ other)) (and_left (is_composing c) (opens (skip other)) k)) ∙ r)
      ]
  item_dead b bs left n s (d ∷ ds) e c cs is other x r =
      elim (cases_Bool (is_composing d && opens (skip (ds ++ c ∷ other)))) [
        | inr k ↦ s.dead c cs is other x (ap (λ (y : List ℕ). item_at (y ++ c ∷ other)) e ∙ sym (cond-false (is_composing d && opens (skip (ds ++ c ∷ other))) (composed_at below d (skip (ds ++ c ∷ other))) (item_at (d ∷ (ds ++ c ∷ other))) k) ∙ r)
        | inl k ↦
            let p = and_parts (is_composing d) (opens (skip (ds ++ c ∷ other))) k in
            let whole : b ∷ bs ≡ d ∷ (ds ++ c ∷ cs) = s.parts ∙ ap (λ (y : List ℕ). y ++ s.back) e ∙ ap (λ (y : List ℕ). d ∷ (ds ++ y)) is in
            let no : (is_composing d && opens (skip (ds ++ c ∷ cs))) ≡ false = subst (λ (y : List ℕ). composes y ≡ false) whole n in
            elim (opens_same ds c other cs) [
              | inl h ↦
                  let a = sign_alive d (ds ++ c ∷ []) p.0 h [] in
                  s.dead c cs is (97 ∷ 61 ∷ 41 ∷ []) (a.0, []) (ap (λ (y : List ℕ). item_at (y ++ c ∷ 97 ∷ 61 ∷ 41 ∷ [])) e ∙ ap (λ (y : List ℕ). item_at (d ∷ y)) (sym (append_assoc ds (c ∷ []) (97 ∷ 61 ∷ 41 ∷ []))) ∙ a.1)
              | inr h ↦ false≢true (sym no ∙ and_from (is_composing d) (opens (skip (ds ++ c ∷ cs))) p.0 (sym h ∙ p.1))
            ]
      ]

  inside_stops : (bytes : List ℕ) (left : ℕ) → inside below bytes ≡ Err left → Stops Filter (inside below) bytes left
  inside_stops [] left e = stops_at_end Filter (inside below) (97 ∷ 61 ∷ 41 ∷ []) left (err_is (Filter × List ℕ) 0 left e) (item_alive [] tt)
  inside_stops (b ∷ bs) left e =
      elim (cases_Bool (is_composing b && opens (skip bs))) [
        | inl h ↦
            let p = and_parts (is_composing b) (opens (skip bs)) h in
            let k = skip_sound bs in
            let o = open_first (skip bs) p.1 in
            let f : composed_at below b (40 ∷ o.0) ≡ Err left = ap (λ (y : List ℕ). composed_at below b y) (sym o.1) ∙ sym (cond-true (is_composing b && opens (skip bs)) (composed_at below b (skip bs)) (item_at (b ∷ bs)) h) ∙ e in
            let s = composed_halts b (40 ∷ o.0) left f in
            subst (λ (y : List ℕ). Stops Filter (inside below) (b ∷ y) left) (sym (k.parts ∙ ap (λ (y : List ℕ). k.spaces ++ y) o.1)) (composed_stops b k.spaces o.0 left p.0 k.are s s.start refl)
        | inr h ↦
            let s = item_stops (b ∷ bs) left (sym (cond-false (is_composing b && opens (skip bs)) (composed_at below b (skip bs)) (item_at (b ∷ bs)) h) ∙ e) in
            record {
              start = s.start;
              back = s.back;
              parts = s.parts;
              len = s.len;
              more = s.more;
              alive = λ rest. let a = s.alive rest in (a.0, item_inside (s.start ++ (s.more ++ rest)) (a.0, rest) a.1);
              dead = λ c cs is other x r. item_dead b bs left h s s.start refl c cs is other x r;
            }
      ]

  pub level_stops : (bytes : List ℕ) (left : ℕ) → level_at below bytes ≡ Err left → Stops Filter (level_at below) bytes left
  level_stops bytes left e = after_stops Filter 40 refl (inside below) (97 ∷ 61 ∷ 41 ∷ []) (item_alive [] tt) inside_stops bytes left e

-- ---- each number of levels

filter_halts : (n : ℕ) (bytes : List ℕ) (left : ℕ) → filter_at n bytes ≡ Err left → Halts (filter_at n) bytes left
filter_halts zero bytes left e = record {
  start = [];
  back = bytes;
  parts = refl;
  len = err_is (Filter × List ℕ) (length bytes) left (sym (filter_at_none bytes) ∙ e);
  more = [];
  alive = λ some rest. absurd (some refl);
  dead = λ b bs is other x k. err_ok (Filter × List ℕ) (filter_at 0 (b ∷ other)) (length (b ∷ other)) x (filter_at_none (b ∷ other)) k;
}
filter_halts (suc n) bytes left e =
    halts_same (filter_at (suc n)) (level_at (filter_at n)) (λ xs. filter_at_more n xs) bytes left
    (weaken (level_at (filter_at n)) bytes left (level_stops (Bare n) (filter_at n) (filter_exact n) (filter_halts n) bytes left (sym (filter_at_more n bytes) ∙ e)))

-- ---- whole texts

record Ends (text : List ℕ) (left : ℕ) : Type 0 where
  pub start : List ℕ
  pub back : List ℕ
  pub parts : text ≡ start ++ back
  pub len : length back ≡ left
  pub more : List ℕ
  pub alive : (f : Filter) × (whole_at (start ++ more) ≡ Ok f)
  pub dead : (b : ℕ) (bs : List ℕ) → back ≡ b ∷ bs → (other : List ℕ) (f : Filter) → whole_at (start ++ b ∷ other) ≡ Ok f → ⊥

abbrev finish : Filter × List ℕ → Result Filter ℕ
finish x = ended x.0 (skip x.1)

filter_at_64 : (bytes : List ℕ) → filter_at 64 bytes ≡ level_at (filter_at 63) bytes
filter_at_64 bytes = filter_at_some 64 bytes (λ e. absurd (omega arith))

top_stops : (bytes : List ℕ) (left : ℕ) → filter_at 64 bytes ≡ Err left → Stops Filter (filter_at 64) bytes left
top_stops bytes left e = steps Filter (filter_at 64) (level_at (filter_at 63)) [] filter_at_64 bytes left (level_stops (Bare 63) (filter_at 63) (filter_exact 63) (filter_halts 63) bytes left (sym (filter_at_64 bytes) ∙ e))

whole_over : (spaces : List ℕ) (b : ℕ) (t : List ℕ) → Each IsBlank spaces → is_blank b ≡ false → whole_at (spaces ++ b ∷ t) ≡ (filter_at 64 (b ∷ t) >>= finish)
whole_over spaces b t h k = ap (λ (x : List ℕ). filter_at 64 x >>= finish) (skip_over spaces b t h k)

top_alive : (f : Filter) × (filter_at 64 (40 ∷ 97 ∷ 61 ∷ 41 ∷ []) ≡ Ok (f, []))
top_alive = let a = item_alive [] tt [] in (a.0, filter_at_64 (40 ∷ 97 ∷ 61 ∷ 41 ∷ []) ∙ a.1)

whole_err : (spaces t : List ℕ) (left : ℕ) → Each IsBlank spaces → ((b : ℕ) (bs : List ℕ) → t ≡ b ∷ bs → is_blank b ≡ false) → (s : Stops Filter (filter_at 64) t left) → (start : List ℕ) → s.start ≡ start → Ends (spaces ++ t) left
whole_err spaces t left h starts s [] e =
    let a = top_alive in
    record {
      start = spaces;
      back = t;
      parts = refl;
      len = ap length (s.parts ∙ ap (λ (x : List ℕ). x ++ s.back) e) ∙ s.len;
      more = 40 ∷ 97 ∷ 61 ∷ 41 ∷ [];
      alive = (a.0, whole_over spaces 40 (97 ∷ 61 ∷ 41 ∷ []) h refl ∙ ap (λ (r : Result (Filter × List ℕ) ℕ). r >>= finish) a.1);
      dead = λ b bs is other f k.
          let back : s.back ≡ b ∷ bs = sym (s.parts ∙ ap (λ (x : List ℕ). x ++ s.back) e) ∙ is in
          let m = bind_ok (filter_at 64 (b ∷ other)) finish f (sym (whole_over spaces b other h (starts b bs is)) ∙ k) in
          s.dead b bs back other m.0 (ap (λ (x : List ℕ). filter_at 64 (x ++ b ∷ other)) e ∙ m.1);
    }
whole_err spaces t left h starts s (d ∷ ds) e =
    let parts : t ≡ d ∷ (ds ++ s.back) = s.parts ∙ ap (λ (x : List ℕ). x ++ s.back) e in
    let none : is_blank d ≡ false = starts d (ds ++ s.back) parts in
    let goes : (xs : List ℕ) → whole_at ((spaces ++ (d ∷ ds)) ++ xs) ≡ (filter_at 64 (s.start ++ xs) >>= finish) = λ xs. ap whole_at (append_assoc spaces (d ∷ ds) xs) ∙ whole_over spaces d (ds ++ xs) h none ∙ ap (λ (x : List ℕ). filter_at 64 (x ++ xs) >>= finish) (sym e) in
    let a = s.alive [] in
    record {
      start = spaces ++ (d ∷ ds);
      back = s.back;
      parts = ap (λ (x : List ℕ). spaces ++ x) parts ∙ sym (append_assoc spaces (d ∷ ds) s.back);
      len = s.len;
      more = s.more ++ [];
      alive = (a.0, goes (s.more ++ []) ∙ ap (λ (r : Result (Filter × List ℕ) ℕ). r >>= finish) a.1);
      dead = λ b bs is other f k. let m = bind_ok (filter_at 64 (s.start ++ b ∷ other)) finish f (sym (goes (b ∷ other)) ∙ k) in s.dead b bs is other m.0 m.1;
    }

-- a filter, and then something else
whole_rest : (spaces t : List ℕ) (left : ℕ) → Each IsBlank spaces → (f : Filter) (rest : List ℕ) → filter_at 64 t ≡ Ok (f, rest) → ended f (skip rest) ≡ Err left → Ends (spaces ++ t) left
whole_rest spaces t left h f rest e k =
    let exact = filter_exact 64 in
    let g = exact.sound t f rest e in
    let s = exact.starts g.text f g.reads in
    let r = skip_sound rest in
    let goes : (xs : List ℕ) → whole_at ((spaces ++ (g.text ++ r.spaces)) ++ xs) ≡ ended f (skip (r.spaces ++ xs)) = λ xs.
    ap whole_at (append_assoc spaces (g.text ++ r.spaces) xs ∙ ap (λ (x : List ℕ). spaces ++ x) (append_assoc g.text r.spaces xs ∙ ap (λ (x : List ℕ). x ++ (r.spaces ++ xs)) s.1))
    ∙ whole_over spaces 40 (s.0 ++ (r.spaces ++ xs)) h refl
    ∙ ap (λ (x : List ℕ). filter_at 64 (x ++ (r.spaces ++ xs)) >>= finish) (sym s.1)
    ∙ ap (λ (x : Result (Filter × List ℕ) ℕ). x >>= finish) (exact.again g.text f (r.spaces ++ xs) g.reads) in
    record {
      start = spaces ++ (g.text ++ r.spaces);
      back = skip rest;
      parts = ap (λ (x : List ℕ). spaces ++ x) (g.parts ∙ ap (λ (x : List ℕ). g.text ++ x) r.parts ∙ sym (append_assoc g.text r.spaces (skip rest))) ∙ sym (append_assoc spaces (g.text ++ r.spaces) (skip rest));
      len = ended_len f (skip rest) left k;
      more = [];
      alive = (f, goes [] ∙ ap (λ (x : List ℕ). ended f x) (skip_spaces r.spaces [] r.are));
      dead = λ b bs is other x q.
          let over : skip (r.spaces ++ b ∷ other) ≡ b ∷ other = skip_over r.spaces b other r.are (skip_stops rest b bs is) in
          err_ok Filter (ended f (b ∷ other)) (length (b ∷ other)) x refl (ap (λ (y : List ℕ). ended f y) (sym over) ∙ sym (goes (b ∷ other)) ∙ q);
    }
  where
    ended_len : (f : Filter) (rest : List ℕ) (left : ℕ) → ended f rest ≡ Err left → length rest ≡ left
    ended_len f [] left e = absurd cc
    ended_len f (b ∷ bs) left e = err_is Filter (length (b ∷ bs)) left e

whole_ends : (text : List ℕ) (left : ℕ) → whole_at text ≡ Err left → Ends text left
whole_ends text left e =
    let k = skip_sound text in
    subst (λ (x : List ℕ). Ends x left) (sym k.parts) (ends_by k.spaces (skip text) left k.are (skip_stops text) (filter_at 64 (skip text)) refl e)
  where
    ends_by : (spaces t : List ℕ) (left : ℕ) → Each IsBlank spaces → ((b : ℕ) (bs : List ℕ) → t ≡ b ∷ bs → is_blank b ≡ false) → (r : Result (Filter × List ℕ) ℕ) → filter_at 64 t ≡ r → (r >>= finish) ≡ Err left → Ends (spaces ++ t) left
    ends_by spaces t left h starts (Err l) is e = let s = top_stops t left (is ∙ ap (λ (y : ℕ). fail y) (err_is Filter l left e)) in whole_err spaces t left h starts s s.start refl
    ends_by spaces t left h starts (Ok x) is e = whole_rest spaces t left h x.0 x.1 is e

-- ---- the place of a fault

take_past : (start : List ℕ) (b : ℕ) (bs : List ℕ) (n : ℕ) → length start < n → (other : List ℕ) × (take n (start ++ b ∷ bs) ≡ start ++ b ∷ other)
take_past [] b bs zero lt = absurd (omega arith)
take_past [] b bs (suc n) lt = (take n bs, refl)
take_past (c ∷ cs) b bs zero lt = absurd (omega arith)
take_past (c ∷ cs) b bs (suc n) lt = let less : length cs < n = omega arith in let r = take_past cs b bs n less in (r.0, ap (λ (x : List ℕ). c ∷ x) r.1)

longest_by : (text : List ℕ) (left : ℕ) (s : Ends text left) (back : List ℕ) → s.back ≡ back → (n : ℕ) → length s.start < n → n ≤ length text → (rest : List ℕ) (f : Filter) → ReadsFilter (take n text ++ rest) f → ⊥
longest_by text left s [] e n lt le rest f k = absurd (omega (arith, ap length s.parts, length-append s.start s.back, ap length e))
longest_by text left s (c ∷ cs) e n lt le rest f k =
    let r = take_past s.start c cs n lt in
    let whole : take n text ≡ s.start ++ c ∷ r.0 = ap (λ (x : List ℕ). take n x) (s.parts ∙ ap (λ (x : List ℕ). s.start ++ x) e) ∙ r.1 in
    let read : whole_at (s.start ++ c ∷ (r.0 ++ rest)) ≡ Ok f = ap whole_at (sym (append_assoc s.start (c ∷ r.0) rest) ∙ ap (λ (x : List ℕ). x ++ rest) (sym whole)) ∙ whole_again (take n text ++ rest) f k in
    s.dead c cs e (r.0 ++ rest) f read

pub unread : (text : List ℕ) (left : ℕ) → whole_at text ≡ Err left → (f : Filter) → ReadsFilter text f → ⊥
unread text left e f r = err_ok Filter (whole_at text) left f e (whole_again text f r)

pub fault_is : (text : List ℕ) (left : ℕ) → whole_at text ≡ Err left → IsLongestPrefix IsReadableFilter text (length text - left)
fault_is text left e =
    let s = whole_ends text left e in
    let at : length text - left ≡ length s.start = omega (arith, ap length s.parts, length-append s.start s.back, s.len) in
    let a = s.alive in
    record {
      within = omega arith;
      begins = (s.more, (a.0, subst (λ (x : List ℕ). ReadsFilter (x ++ s.more) a.0) (sym (ap (λ (x : ℕ). take x text) at ∙ ap (λ (x : List ℕ). take (length s.start) x) s.parts ∙ take_at s.start s.back (length s.start) refl)) (whole_sound (s.start ++ s.more) a.0 a.1)));
      longest = λ n rest lt le k. longest_by text left s s.back refl n (omega arith) le rest k.0 k.1;
    }

pub fault_within : (text : List ℕ) (left : ℕ) → whole_at text ≡ Err left → left ≤ length text
fault_within text left e = let s = whole_ends text left e in omega (arith, ap length s.parts, length-append s.start s.back, s.len)
