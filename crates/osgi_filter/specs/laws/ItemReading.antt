-- Signs with their values, and items.
use Rattle.std.proofs.Common.{◌≡◌, ℕ, true, false, cond, ◌||◌, ◌==◌, List, [], ◌∷◌, ◌++◌, length, Result, Ok, Err, refl, sym, ap, subst, ◌∙◌, append_assoc, inl, inr}
use Rattle.std.proofs.lemmas.Bool.{cases_Bool, or_cases, eqb-true}
use Rattle.osgi_model.specs.declared.filter.Test.{Test}
use Rattle.osgi_model.specs.declared.filter.Filter.{Filter, roll-Filter}
use Rattle.osgi_model.specs.declared.filter.Filter.TheOpen.{Item}
use Rattle.osgi_version.specs.Bytes.{Each, IsBlank, is_blank}
use Rattle.osgi_model.specs.Filters.{is_item_name_byte, IsItemNameByte, IsItemName, HasPieces, IsTest, equal, present, pieces, approx, at_least, at_most}
use Rattle.osgi_filter.specs.computed.Reader.{◌>>=◌, skip, after, name_at, value_at, is_order, order_test, equal_at, plain_at, order_at, signed_at, named_at, item_at, opens}
use Rattle.osgi_filter.specs.laws.ValueReading.{equal_test, equal_pieces, star_alone, equal_sound, equal_is, plain_again, plain_sound}
use Rattle.osgi_filter.specs.laws.Scans.{bind_ok, ok_is, chosen, skip_over, skip_sound, skip_stops, after_sound, name_again, NameFound, name_sound, value_again, value_sound}

abbrev done : {A : Type 0} → A → Result A ℕ
done x = Ok x

-- ---- signs

pub signed_again : (text : List ℕ) (test : Test) (rest : List ℕ) → IsTest text test → signed_at (text ++ 41 ∷ rest) ≡ Ok (test, rest)
signed_again text test rest (equal t v k) = equal_is (t ++ 41 ∷ rest) ∙ ap (λ (x : Result (List (List ℕ) × List ℕ) ℕ). x >>= λ v. Ok (equal_test v.0, v.1)) (value_again true t v [] k [] [] rest)
signed_again text test rest present = refl
signed_again text test rest (pieces t f s m k nope) = equal_is (t ++ 41 ∷ rest) ∙ ap (λ (x : Result (List (List ℕ) × List ℕ) ℕ). x >>= λ v. Ok (equal_test v.0, v.1)) (value_again true t f (s ∷ m) k [] [] rest) ∙ ap (λ (x : Test). done (x, rest)) (equal_pieces f s m (λ h. nope (star_alone t f (s ∷ m) k h.0 h.1)))
signed_again text test rest (approx t v k) = ap (λ (x : Result (List ℕ × List ℕ) ℕ). x >>= λ v. Ok (order_test 126 v.0, v.1)) (plain_again t v rest k)
signed_again text test rest (at_least t v k) = ap (λ (x : Result (List ℕ × List ℕ) ℕ). x >>= λ v. Ok (order_test 62 v.0, v.1)) (plain_again t v rest k)
signed_again text test rest (at_most t v k) = ap (λ (x : Result (List ℕ × List ℕ) ℕ). x >>= λ v. Ok (order_test 60 v.0, v.1)) (plain_again t v rest k)

order_sound : (b : ℕ) (text value : List ℕ) → is_order b ≡ true → HasPieces false text value [] → IsTest (b ∷ 61 ∷ text) (order_test b value)
order_sound b text value h k =
    elim (or_cases (b == 126 || b == 62) (b == 60) h) [
      | inr e ↦ subst (λ (x : ℕ). IsTest (x ∷ 61 ∷ text) (order_test x value)) (sym (eqb-true b 60 e)) (at_most text value k)
      | inl h ↦ elim (or_cases (b == 126) (b == 62) h) [
        | inr e ↦ subst (λ (x : ℕ). IsTest (x ∷ 61 ∷ text) (order_test x value)) (sym (eqb-true b 62 e)) (at_least text value k)
        | inl e ↦ subst (λ (x : ℕ). IsTest (x ∷ 61 ∷ text) (order_test x value)) (sym (eqb-true b 126 e)) (approx text value k)
      ]
    ]

pub record SignFound (bytes : List ℕ) (test : Test) (rest : List ℕ) : Type 0 where
  pub text : List ℕ
  pub parts : bytes ≡ text ++ 41 ∷ rest
  pub reads : IsTest text test

pub signed_sound : (bytes : List ℕ) (test : Test) (rest : List ℕ) → signed_at bytes ≡ Ok (test, rest) → SignFound bytes test rest
signed_sound [] test rest e = absurd cc
signed_sound (b ∷ bs) test rest e =
    elim (chosen (b == 61) (equal_at bs) (cond (is_order b) (order_at b bs) (Err (length (b ∷ bs)))) (done (test, rest)) e) [
      | inl h ↦
          let v = bind_ok (value_at true false [] [] bs) (λ v. Ok (equal_test v.0, v.1)) (test, rest) (sym (equal_is bs) ∙ h.1) in
          let r = value_sound true bs false [] [] v.0.0 v.0.1 v.1 in
          let is : b ≡ 61 = eqb-true b 61 h.0 in
          let both = ok_is (equal_test v.0.0, v.0.1) (test, rest) v.2 in
          let P : Test × List ℕ → Type 0 = λ (x : Test × List ℕ). SignFound (b ∷ bs) x.0 x.1 in
          subst P both (record { text = 61 ∷ r.0; parts = rw is (ap (λ (x : List ℕ). 61 ∷ x) r.3); reads = subst (λ (x : List (List ℕ)). IsTest (61 ∷ r.0) (equal_test x)) (sym r.5) (equal_sound r.0 r.1 r.2 r.4) })
      | inr n ↦ elim (chosen (is_order b) (order_at b bs) (Err (length (b ∷ bs))) (done (test, rest)) n.1) [
        | inl h ↦
            let a = bind_ok (after 61 bs) (λ r. plain_at r >>= λ v. Ok (order_test b v.0, v.1)) (test, rest) h.1 in
            let v = bind_ok (plain_at a.0) (λ v. Ok (order_test b v.0, v.1)) (test, rest) a.2 in
            let r = plain_sound a.0 v.0.0 v.0.1 v.1 in
            let both = ok_is (order_test b v.0.0, v.0.1) (test, rest) v.2 in
            let P : Test × List ℕ → Type 0 = λ (x : Test × List ℕ). SignFound (b ∷ bs) x.0 x.1 in
            subst P both (record { text = b ∷ 61 ∷ r.0; parts = ap (λ (x : List ℕ). b ∷ x) (after_sound 61 bs a.0 a.1 ∙ ap (λ (x : List ℕ). 61 ∷ x) r.1); reads = order_sound b r.0 v.0.0 h.0 r.2 })
        | inr h ↦ absurd (let k = h.1 in cc)
      ]
    ]

-- the byte that a sign begins with
pub record SignByte (text : List ℕ) : Type 0 where
  pub first : ℕ
  pub more : List ℕ
  pub is : text ≡ first ∷ more
  pub space : is_blank first ≡ false
  pub name : is_item_name_byte first ≡ false
  pub bracket : (first == 40) ≡ false

pub sign_byte : (text : List ℕ) (test : Test) → IsTest text test → SignByte text
sign_byte text test (equal t v k) = record { first = 61; more = t; is = refl; space = refl; name = refl; bracket = refl }
sign_byte text test present = record { first = 61; more = 42 ∷ []; is = refl; space = refl; name = refl; bracket = refl }
sign_byte text test (pieces t f s m k nope) = record { first = 61; more = t; is = refl; space = refl; name = refl; bracket = refl }
sign_byte text test (approx t v k) = record { first = 126; more = 61 ∷ t; is = refl; space = refl; name = refl; bracket = refl }
sign_byte text test (at_least t v k) = record { first = 62; more = 61 ∷ t; is = refl; space = refl; name = refl; bracket = refl }
sign_byte text test (at_most t v k) = record { first = 60; more = 61 ∷ t; is = refl; space = refl; name = refl; bracket = refl }

-- ---- items

-- a name, white space and a byte after them that is no (: no ( comes
pub no_bracket : (b : ℕ) → is_item_name_byte b ≡ true → (b == 40) ≡ false
no_bracket b h = elim (cases_Bool (b == 40)) [ inl e ↦ absurd (let is : b ≡ 40 = eqb-true b 40 e in let w = subst (λ (x : ℕ). is_item_name_byte x ≡ true) is h in cc) | inr e ↦ e ]

pub opens_not : (names : List ℕ) (b : ℕ) (rest : List ℕ) → Each IsItemNameByte names → is_blank b ≡ false → (b == 40) ≡ false → opens (skip (names ++ b ∷ rest)) ≡ false
opens_not [] b rest h s k = rw s k
opens_not (c ∷ cs) b rest h s k =
    let p = h in
    elim (cases_Bool (is_blank c)) [
      | inl e ↦ rw e (opens_not cs b rest p.1 s k)
      | inr e ↦ rw e (no_bracket c p.0)
    ]

pub record IsItem (text name : List ℕ) (test : Test) : Type 0 where
  pub before : List ℕ
  pub after : List ℕ
  pub signed : List ℕ
  pub parts : text ≡ before ++ (name ++ (after ++ (signed ++ 41 ∷ [])))
  pub are_before : Each IsBlank before
  pub named : IsItemName name
  pub are_after : Each IsBlank after
  pub reads : IsTest signed test

pub item_again : (before name spaces signed rest : List ℕ) (test : Test) → Each IsBlank before → IsItemName name → Each IsBlank spaces → IsTest signed test → item_at (before ++ (name ++ (spaces ++ (signed ++ 41 ∷ rest)))) ≡ Ok (roll-Filter (Item name test), rest)
item_again before name spaces signed rest test hb hn ha ht =
    let s = sign_byte signed test ht in
    let first = hn.begins.0 in
    let others = hn.begins.1 in
    let skips : skip (before ++ (name ++ (spaces ++ (signed ++ 41 ∷ rest)))) ≡ name ++ (spaces ++ (signed ++ 41 ∷ rest)) = subst (λ (x : List ℕ). skip (before ++ (x ++ (spaces ++ (signed ++ 41 ∷ rest)))) ≡ x ++ (spaces ++ (signed ++ 41 ∷ rest))) (sym hn.begins.2) (skip_over before first (others ++ (spaces ++ (signed ++ 41 ∷ rest))) hb hn.begins.3) in
    let runs : name_at [] [] (name ++ (spaces ++ (signed ++ 41 ∷ rest))) ≡ done (name, signed ++ 41 ∷ rest) = subst (λ (x : List ℕ). name_at [] [] (name ++ (spaces ++ (x ++ 41 ∷ rest))) ≡ done (name, x ++ 41 ∷ rest)) (sym s.is) (name_again name spaces s.first (s.more ++ 41 ∷ rest) hn ha s.name) in
    let named : named_at name (signed ++ 41 ∷ rest) ≡ Ok (roll-Filter (Item name test), rest) = subst (λ (x : List ℕ). named_at x (signed ++ 41 ∷ rest) ≡ Ok (roll-Filter (Item x test), rest)) (sym hn.begins.2) (ap (λ (x : Result (Test × List ℕ) ℕ). x >>= λ t. done (roll-Filter (Item (first ∷ others) t.0), t.1)) (signed_again signed test rest ht)) in
    ap (λ (x : List ℕ). name_at [] [] x >>= λ n. named_at n.0 n.1) skips ∙ ap (λ (x : Result (List ℕ × List ℕ) ℕ). x >>= λ n. named_at n.0 n.1) runs ∙ named

pub record ItemFound (bytes : List ℕ) (f : Filter) (rest : List ℕ) : Type 0 where
  pub text : List ℕ
  pub name : List ℕ
  pub test : Test
  pub parts : bytes ≡ text ++ rest
  pub is : f ≡ roll-Filter (Item name test)
  pub item : IsItem text name test

-- a name that is read is not empty, so its first byte is the first byte
named_sound : (bytes : List ℕ) (spaces name rest : List ℕ) (f : Filter) (left : List ℕ) → Each IsBlank spaces → ((b : ℕ) (bs : List ℕ) → bytes ≡ b ∷ bs → is_blank b ≡ false) → NameFound bytes name rest → named_at name rest ≡ Ok (f, left) → ItemFound (spaces ++ bytes) f left
named_sound bytes spaces [] rest f left h starts found e = absurd cc
named_sound bytes spaces (c ∷ cs) rest f left h starts found e =
    let t = bind_ok (signed_at rest) (λ t. Ok (roll-Filter (Item (c ∷ cs) t.0), t.1)) (f, left) e in
    let s = signed_sound rest t.0.0 t.0.1 t.1 in
    let both = ok_is (roll-Filter (Item (c ∷ cs) t.0.0), t.0.1) (f, left) t.2 in
    let left-is : t.0.1 ≡ left = ap (λ (x : Filter × List ℕ). x.1) both in
    let f-is : roll-Filter (Item (c ∷ cs) t.0.0) ≡ f = ap (λ (x : Filter × List ℕ). x.0) both in
    let rest-is : rest ≡ s.text ++ 41 ∷ left = s.parts ∙ ap (λ (x : List ℕ). s.text ++ 41 ∷ x) left-is in
    let named : IsItemName (c ∷ cs) = record {
      bytes = found.bytes;
      begins = (c, cs, refl, starts c (cs ++ (found.spaces ++ rest)) found.parts);
      ends = elim found.tight [ inl h ↦ absurd cc | inr h ↦ h ];
    } in
    record {
      text = spaces ++ ((c ∷ cs) ++ (found.spaces ++ (s.text ++ 41 ∷ [])));
      name = c ∷ cs;
      test = t.0.0;
      parts = ap (λ (x : List ℕ). spaces ++ x) (found.parts ∙ ap (λ (x : List ℕ). (c ∷ cs) ++ (found.spaces ++ x)) rest-is) ∙ simp append_assoc;
      is = sym f-is;
      item = record { before = spaces; after = found.spaces; signed = s.text; parts = refl; are_before = h; named = named; are_after = found.are; reads = s.reads };
    }

pub item_sound : (bytes : List ℕ) (f : Filter) (rest : List ℕ) → item_at bytes ≡ Ok (f, rest) → ItemFound bytes f rest
item_sound bytes f rest e =
    let n = bind_ok (name_at [] [] (skip bytes)) (λ n. named_at n.0 n.1) (f, rest) e in
    let s = skip_sound bytes in
    let found = name_sound (skip bytes) [] [] n.0.0 n.0.1 tt (inl refl) tt n.1 in
    subst (λ (x : List ℕ). ItemFound x f rest) (sym s.parts) (named_sound (skip bytes) s.spaces n.0.0 n.0.1 f rest s.are (skip_stops bytes) found n.2)
