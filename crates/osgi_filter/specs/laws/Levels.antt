-- A level of a filter, and so each filter: what is read is written so, and what is written so is read.
use Rattle.std.proofs.Common.{◌≡◌, ℕ, zero, suc, ◌+◌, ◌≤◌, ◌<◌, true, false, cond, ◌||◌, ◌&&◌, ◌==◌, List, [], ◌∷◌, ◌++◌, length, Result, Ok, refl, sym, ap, subst, ◌∙◌, append_assoc, arith, inl, inr}
use Rattle.std.proofs.lemmas.Bool.{and_parts, and_from, or_cases, eqb-true, and_left, and_right, cond-false, cond-true, false≢true}
use Rattle.std.proofs.lemmas.List.{append-nil, length-append}
use Rattle.osgi_model.specs.declared.filter.Test.{Test}
use Rattle.osgi_model.specs.declared.filter.Filter.{Filter, roll-Filter}
use Rattle.osgi_model.specs.declared.filter.Filter.TheOpen.{Not, Item}
use Rattle.osgi_version.specs.Bytes.{Each, IsBlank}
use Rattle.osgi_model.specs.Filters.{IsItemNameByte, IsItemName, IsTest, ReadsFilter}
use Rattle.osgi_filter.specs.laws.Bounded.{AreOperands, Level, leaf, turned, every, some, Bare, filter_bare, bare_few}
use Rattle.osgi_filter.specs.computed.Reader.{◌>>=◌, skip, after, item_at, opens, is_composing, listed, operand, operands_at, not_at, composed_at, inside, level_at, filter_at, ended, whole_at}
use Rattle.osgi_filter.specs.laws.Scans.{bind_ok, ok_is, chosen, each_append, space_is, spaces_are_names, skip_over, skip_all, skip_sound, after_sound}
use Rattle.osgi_filter.specs.laws.ItemReading.{sign_byte, opens_not, item_again, ItemFound, item_sound}

abbrev done : {A : Type 0} → A → Result A ℕ
done x = Ok x

-- a text at the start that reads as the filter
pub record Found (R : List ℕ → Filter → Type 0) (bytes : List ℕ) (f : Filter) (rest : List ℕ) : Type 0 where
  pub text : List ℕ
  pub parts : bytes ≡ text ++ rest
  pub reads : R text f

-- a reader reads just what reads
pub record IsExact (R : List ℕ → Filter → Type 0) (below : List ℕ → Result (Filter × List ℕ) ℕ) : Type 0 where
  pub again : (text : List ℕ) (f : Filter) (rest : List ℕ) → R text f → below (text ++ rest) ≡ Ok (f, rest)
  pub sound : (bytes : List ℕ) (f : Filter) (rest : List ℕ) → below bytes ≡ Ok (f, rest) → Found R bytes f rest
  pub starts : (text : List ℕ) (f : Filter) → R text f → (more : List ℕ) × (text ≡ 40 ∷ more)

module _ (R : List ℕ → Filter → Type 0) (below : List ℕ → Result (Filter × List ℕ) ℕ) (exact : IsExact R below) where
  -- ---- what is written so is read

  operand_one : (next : List Filter → List ℕ → Result (List Filter × List ℕ) ℕ) (fs : List Filter) (bytes more : List ℕ) → bytes ≡ 40 ∷ more → operand below next fs bytes ≡ (below bytes >>= λ x. next (fs ++ x.0 ∷ []) x.1)
  operand_one next fs bytes more e = rw e refl

  skip_to : (spaces one tail : List ℕ) (f : Filter) → Each IsBlank spaces → R one f → skip (spaces ++ (one ++ tail)) ≡ one ++ tail
  skip_to spaces one tail f h r =
      let s = exact.starts one f r in
      subst (λ (x : List ℕ). skip (spaces ++ (x ++ tail)) ≡ x ++ tail) (sym s.1) (skip_over spaces 40 (s.0 ++ tail) h refl)

  operands_again : (fs : List Filter) (text : List ℕ) → AreOperands R text fs → (n : ℕ) → length fs < n → (before : List Filter) (rest : List ℕ) → operands_at below n before (text ++ 41 ∷ rest) ≡ Ok (before ++ fs, rest)
  operands_again [] text o zero lt before rest = absurd (omega arith)
  operands_again [] text o (suc n) lt before rest = ap (λ (x : List ℕ). operand below (operands_at below n) before x) (skip_over text 41 rest o refl) ∙ ap (λ (x : List Filter). done (x, rest)) (sym (append-nil before))
  operands_again (f ∷ fs) text o zero lt before rest = absurd (omega arith)
  operands_again (f ∷ fs) text o (suc n) lt before rest =
      let s = exact.starts o.1 f o.5 in
      let tail : List ℕ = o.2 ++ 41 ∷ rest in
      let whole : text ++ 41 ∷ rest ≡ o.0 ++ (o.1 ++ (o.2 ++ 41 ∷ rest)) = ap (λ (x : List ℕ). x ++ 41 ∷ rest) o.3 ∙ append_assoc o.0 (o.1 ++ o.2) (41 ∷ rest) ∙ ap (λ (x : List ℕ). o.0 ++ x) (append_assoc o.1 o.2 (41 ∷ rest)) in
      let skips : skip (text ++ 41 ∷ rest) ≡ o.1 ++ (o.2 ++ 41 ∷ rest) = ap skip whole ∙ skip_to o.0 o.1 (o.2 ++ 41 ∷ rest) f o.4 o.5 in
      let less : length fs < n = omega arith in
      ap (λ (x : List ℕ). operand below (operands_at below n) before x) skips
      ∙ operand_one (operands_at below n) before (o.1 ++ (o.2 ++ 41 ∷ rest)) (s.0 ++ (o.2 ++ 41 ∷ rest)) (ap (λ (x : List ℕ). x ++ (o.2 ++ 41 ∷ rest)) s.1)
      ∙ ap (λ (x : Result (Filter × List ℕ) ℕ). x >>= λ x. operands_at below n (before ++ x.0 ∷ []) x.1) (exact.again o.1 f (o.2 ++ 41 ∷ rest) o.5)
      ∙ operands_again fs o.2 o.6 n less (before ++ f ∷ []) rest
      ∙ ap (λ (x : List Filter). done (x, rest)) (append_assoc before (f ∷ []) fs)

  operands_length : (fs : List Filter) (text : List ℕ) → AreOperands R text fs → length fs ≤ length text
  operands_length [] text o = omega arith
  operands_length (f ∷ fs) text o =
      let s = exact.starts o.1 f o.5 in
      let a = operands_length fs o.2 o.6 in
      let b : length text ≡ length o.0 + (length o.1 + length o.2) = ap length o.3 ∙ length-append o.0 (o.1 ++ o.2) ∙ ap (λ (x : ℕ). length o.0 + x) (length-append o.1 o.2) in
      let c : length o.1 ≡ suc (length s.0) = ap length s.1 in
      omega (arith, a, b, c)

  -- the operands after a sign, after the white space
  listed_again : (sign : ℕ) (text : List ℕ) (f : Filter) (fs : List Filter) (rest : List ℕ) → AreOperands R text (f ∷ fs) → (sign == 33) ≡ false → is_composing sign ≡ true → inside below (sign ∷ (text ++ 41 ∷ rest)) ≡ Ok (listed sign (f ∷ fs), rest)
  listed_again sign text f fs rest o n c =
      let s = exact.starts o.1 f o.5 in
      let bytes : List ℕ = o.1 ++ (o.2 ++ 41 ∷ rest) in
      let whole : text ++ 41 ∷ rest ≡ o.0 ++ (o.1 ++ (o.2 ++ 41 ∷ rest)) = ap (λ (x : List ℕ). x ++ 41 ∷ rest) o.3 ∙ append_assoc o.0 (o.1 ++ o.2) (41 ∷ rest) ∙ ap (λ (x : List ℕ). o.0 ++ x) (append_assoc o.1 o.2 (41 ∷ rest)) in
      let skips : skip (text ++ 41 ∷ rest) ≡ (o.1 ++ o.2) ++ 41 ∷ rest = ap skip whole ∙ skip_to o.0 o.1 (o.2 ++ 41 ∷ rest) f o.4 o.5 ∙ sym (append_assoc o.1 o.2 (41 ∷ rest)) in
      let open_is : opens ((o.1 ++ o.2) ++ 41 ∷ rest) ≡ true = subst (λ (x : List ℕ). opens ((x ++ o.2) ++ 41 ∷ rest) ≡ true) (sym s.1) refl in
      let here : AreOperands R (o.1 ++ o.2) (f ∷ fs) = ([], o.1, o.2, refl, tt, o.5, o.6) in
      let len : length (f ∷ fs) ≤ length (o.1 ++ o.2) = operands_length (f ∷ fs) (o.1 ++ o.2) here in
      let lt : length (f ∷ fs) < length ((o.1 ++ o.2) ++ 41 ∷ rest) = omega (arith, len, length-append (o.1 ++ o.2) (41 ∷ rest)) in
      let both : (is_composing sign && opens ((o.1 ++ o.2) ++ 41 ∷ rest)) ≡ true = and_from (is_composing sign) (opens ((o.1 ++ o.2) ++ 41 ∷ rest)) c open_is in
      ap (λ (x : List ℕ). cond (is_composing sign && opens x) (composed_at below sign x) (item_at (sign ∷ (text ++ 41 ∷ rest)))) skips
      ∙ cond-true (is_composing sign && opens ((o.1 ++ o.2) ++ 41 ∷ rest)) (composed_at below sign ((o.1 ++ o.2) ++ 41 ∷ rest)) (item_at (sign ∷ (text ++ 41 ∷ rest))) both
      ∙ cond-false (sign == 33) (not_at below ((o.1 ++ o.2) ++ 41 ∷ rest)) (operands_at below (length ((o.1 ++ o.2) ++ 41 ∷ rest)) [] ((o.1 ++ o.2) ++ 41 ∷ rest) >>= λ x. Ok (listed sign x.0, x.1)) n
      ∙ ap (λ (x : Result (List Filter × List ℕ) ℕ). x >>= λ x. done (listed sign x.0, x.1)) (operands_again (f ∷ fs) (o.1 ++ o.2) here (length ((o.1 ++ o.2) ++ 41 ∷ rest)) lt [] rest)

  not_again : (before one spaces : List ℕ) (f : Filter) (rest : List ℕ) → Each IsBlank before → R one f → Each IsBlank spaces → inside below (33 ∷ (before ++ (one ++ (spaces ++ 41 ∷ rest)))) ≡ Ok (roll-Filter (Not f), rest)
  not_again before one spaces f rest h r k =
      let s = exact.starts one f r in
      let tail : List ℕ = spaces ++ 41 ∷ rest in
      let open_is : opens (one ++ (spaces ++ 41 ∷ rest)) ≡ true = subst (λ (x : List ℕ). opens (x ++ (spaces ++ 41 ∷ rest)) ≡ true) (sym s.1) refl in
      ap (λ (x : List ℕ). cond (opens x) (composed_at below 33 x) (item_at (33 ∷ (before ++ (one ++ (spaces ++ 41 ∷ rest)))))) (skip_to before one (spaces ++ 41 ∷ rest) f h r)
      ∙ cond-true (opens (one ++ (spaces ++ 41 ∷ rest))) (not_at below (one ++ (spaces ++ 41 ∷ rest))) (item_at (33 ∷ (before ++ (one ++ (spaces ++ 41 ∷ rest))))) open_is
      ∙ ap (λ (x : Result (Filter × List ℕ) ℕ). x >>= λ x. after 41 (skip x.1) >>= λ r. done (roll-Filter (Not x.0), r)) (exact.again one f (spaces ++ 41 ∷ rest) r)
      ∙ ap (λ (x : List ℕ). after 41 x >>= λ r. done (roll-Filter (Not f), r)) (skip_over spaces 41 rest k refl)

  pub inside_item : (bytes : List ℕ) → ((b : ℕ) (bs : List ℕ) → bytes ≡ b ∷ bs → (is_composing b && opens (skip bs)) ≡ false) → inside below bytes ≡ item_at bytes
  inside_item [] h = refl
  inside_item (b ∷ bs) h = cond-false (is_composing b && opens (skip bs)) (composed_at below b (skip bs)) (item_at (b ∷ bs)) (h b bs refl)

  pub begins_item : (before name spaces signed rest : List ℕ) (test : Test) → Each IsBlank before → IsItemName name → Each IsBlank spaces → IsTest signed test → (b : ℕ) (bs : List ℕ) → before ++ (name ++ (spaces ++ (signed ++ 41 ∷ rest))) ≡ b ∷ bs → (is_composing b && opens (skip bs)) ≡ false
  begins_item (c ∷ cs) name spaces signed rest test hb hn ha ht b bs e =
      let p = hb in
      let is : c ≡ b = cc in
      and_left (is_composing b) (opens (skip bs)) (subst (λ (x : ℕ). is_composing x ≡ false) is (space_is (λ x. is_composing x ≡ false) c p.0 refl refl refl refl refl))
  begins_item [] name spaces signed rest test hb hn ha ht b bs e =
      let s = sign_byte signed test ht in
      let others = hn.begins.1 in
      let names : Each IsItemNameByte others = (subst (λ (x : List ℕ). Each IsItemNameByte x) hn.begins.2 hn.bytes).1 in
      let both : Each IsItemNameByte (others ++ spaces) = each_append IsItemNameByte others spaces names (spaces_are_names spaces ha) in
      let none = opens_not (others ++ spaces) s.first (s.more ++ 41 ∷ rest) both s.space s.bracket in
      let start : hn.begins.0 ∷ (others ++ (spaces ++ (signed ++ 41 ∷ rest))) ≡ b ∷ bs = subst (λ (x : List ℕ). x ++ (spaces ++ (signed ++ 41 ∷ rest)) ≡ b ∷ bs) hn.begins.2 e in
      let bs-is : others ++ (spaces ++ (signed ++ 41 ∷ rest)) ≡ bs = cc in
      let grouped : (others ++ spaces) ++ (s.first ∷ (s.more ++ 41 ∷ rest)) ≡ others ++ (spaces ++ (signed ++ 41 ∷ rest)) = append_assoc others spaces (s.first ∷ (s.more ++ 41 ∷ rest)) ∙ ap (λ (x : List ℕ). others ++ (spaces ++ (x ++ 41 ∷ rest))) (sym s.is) in
      and_right (is_composing b) (opens (skip bs)) (subst (λ (x : List ℕ). opens (skip x) ≡ false) (grouped ∙ bs-is) none)

  pub level_again : (text : List ℕ) (f : Filter) (rest : List ℕ) → Level R text f → level_at below (text ++ rest) ≡ Ok (f, rest)
  level_again text f rest (leaf before name spaces signed test hb hn ha ht) =
      let whole : (before ++ (name ++ (spaces ++ (signed ++ 41 ∷ [])))) ++ rest ≡ before ++ (name ++ (spaces ++ (signed ++ 41 ∷ rest))) = simp append_assoc in
      ap (λ (x : List ℕ). inside below x) whole
      ∙ inside_item (before ++ (name ++ (spaces ++ (signed ++ 41 ∷ rest)))) (begins_item before name spaces signed rest test hb hn ha ht)
      ∙ item_again before name spaces signed rest test hb hn ha ht
  level_again text f rest (turned before one spaces g h r k) =
      let whole : (before ++ (one ++ (spaces ++ 41 ∷ []))) ++ rest ≡ before ++ (one ++ (spaces ++ 41 ∷ rest)) = simp append_assoc in
      ap (λ (x : List ℕ). inside below (33 ∷ x)) whole ∙ not_again before one spaces g rest h r k
  level_again text f rest (every t g gs o) = ap (λ (x : List ℕ). inside below (38 ∷ x)) (append_assoc t (41 ∷ []) rest) ∙ listed_again 38 t g gs rest o refl refl
  level_again text f rest (some t g gs o) = ap (λ (x : List ℕ). inside below (124 ∷ x)) (append_assoc t (41 ∷ []) rest) ∙ listed_again 124 t g gs rest o refl refl

  pub level_starts : (text : List ℕ) (f : Filter) → Level R text f → (more : List ℕ) × (text ≡ 40 ∷ more)
  level_starts text f (leaf before name spaces signed test hb hn ha ht) = (before ++ (name ++ (spaces ++ (signed ++ 41 ∷ []))), refl)
  level_starts text f (turned before one spaces g h r k) = (33 ∷ before ++ (one ++ (spaces ++ 41 ∷ [])), refl)
  level_starts text f (every t g gs o) = (38 ∷ t ++ 41 ∷ [], refl)
  level_starts text f (some t g gs o) = (124 ∷ t ++ 41 ∷ [], refl)

  -- ---- what is read is written so

  record OperandsFound (bytes : List ℕ) (before whole : List Filter) (rest : List ℕ) : Type 0 where
    pub text : List ℕ
    pub fs : List Filter
    pub parts : bytes ≡ text ++ 41 ∷ rest
    pub are : AreOperands R text fs
    pub is : whole ≡ before ++ fs

  operands_spaces : (spaces text : List ℕ) (fs : List Filter) → Each IsBlank spaces → AreOperands R text fs → AreOperands R (spaces ++ text) fs
  operands_spaces spaces text [] h o = each_append IsBlank spaces text h o
  operands_spaces spaces text (f ∷ fs) h o = (spaces ++ o.0, o.1, o.2, ap (λ (x : List ℕ). spaces ++ x) o.3 ∙ sym (append_assoc spaces o.0 (o.1 ++ o.2)), each_append IsBlank spaces o.0 h o.4, o.5, o.6)

  operand_sound : (n : ℕ) → ((before : List Filter) (bytes : List ℕ) (whole : List Filter) (rest : List ℕ) → operands_at below n before bytes ≡ Ok (whole, rest) → OperandsFound bytes before whole rest) → (before : List Filter) (bytes : List ℕ) (whole : List Filter) (rest : List ℕ) → operand below (operands_at below n) before bytes ≡ Ok (whole, rest) → OperandsFound bytes before whole rest
  operand_sound n next before [] whole rest e = absurd cc
  operand_sound n next before (b ∷ bs) whole rest e =
      elim (chosen (b == 41) (done (before, bs)) (below (b ∷ bs) >>= λ x. operands_at below n (before ++ x.0 ∷ []) x.1) (done (whole, rest)) e) [
        | inl h ↦
            let is = ok_is (before, bs) (whole, rest) h.1 in
            let b-is : b ≡ 41 = eqb-true b 41 h.0 in
            let before-is : before ≡ whole = ap (λ (x : List Filter × List ℕ). x.0) is in
            let rest-is : bs ≡ rest = ap (λ (x : List Filter × List ℕ). x.1) is in
            record { text = []; fs = []; parts = cc; are = tt; is = sym before-is ∙ sym (append-nil before) }
        | inr h ↦
            let x = bind_ok (below (b ∷ bs)) (λ x. operands_at below n (before ++ x.0 ∷ []) x.1) (whole, rest) h.1 in
            let one = exact.sound (b ∷ bs) x.0.0 x.0.1 x.1 in
            let others = next (before ++ x.0.0 ∷ []) x.0.1 whole rest x.2 in
            record {
              text = one.text ++ others.text;
              fs = x.0.0 ∷ others.fs;
              parts = one.parts ∙ ap (λ (t : List ℕ). one.text ++ t) others.parts ∙ sym (append_assoc one.text others.text (41 ∷ rest));
              are = ([], one.text, others.text, refl, tt, one.reads, others.are);
              is = others.is ∙ append_assoc before (x.0.0 ∷ []) others.fs;
            }
      ]

  operands_sound : (n : ℕ) (before : List Filter) (bytes : List ℕ) (whole : List Filter) (rest : List ℕ) → operands_at below n before bytes ≡ Ok (whole, rest) → OperandsFound bytes before whole rest
  operands_sound zero before bytes whole rest e = absurd cc
  operands_sound (suc n) before bytes whole rest e =
      let s = skip_sound bytes in
      let r = operand_sound n (operands_sound n) before (skip bytes) whole rest e in
      record {
        text = s.spaces ++ r.text;
        fs = r.fs;
        parts = s.parts ∙ ap (λ (t : List ℕ). s.spaces ++ t) r.parts ∙ sym (append_assoc s.spaces r.text (41 ∷ rest));
        are = operands_spaces s.spaces r.text r.fs s.are r.are;
        is = r.is;
      }

  opens_is : (bytes : List ℕ) → opens bytes ≡ true → (more : List ℕ) × (bytes ≡ 40 ∷ more)
  opens_is [] h = absurd cc
  opens_is (b ∷ bs) h = (bs, ap (λ (x : ℕ). x ∷ bs) (eqb-true b 40 h))

  -- a list that begins with ( has an operand
  some_operand : (text more rest : List ℕ) → Each IsBlank text → text ++ 41 ∷ rest ≡ 40 ∷ more → ⊥
  some_operand [] more rest h e = false≢true (ap (λ (x : List ℕ). opens x) e)
  some_operand (c ∷ cs) more rest h e =
      let no : (c == 40) ≡ false = space_is (λ x. (x == 40) ≡ false) c h.0 refl refl refl refl refl in
      false≢true (sym no ∙ ap (λ (x : List ℕ). opens x) e)

  listed_level : (sign : ℕ) (text : List ℕ) (f : Filter) (fs : List Filter) → is_composing sign ≡ true → (sign == 33) ≡ false → AreOperands R text (f ∷ fs) → Level R (40 ∷ sign ∷ text ++ 41 ∷ []) (listed sign (f ∷ fs))
  listed_level sign text f fs c n o =
      elim (or_cases (sign == 33 || sign == 38) (sign == 124) c) [
        | inr e ↦ subst (λ (x : ℕ). Level R (40 ∷ x ∷ text ++ 41 ∷ []) (listed x (f ∷ fs))) (sym (eqb-true sign 124 e)) (some text f fs o)
        | inl h ↦ elim (or_cases (sign == 33) (sign == 38) h) [
          | inr e ↦ subst (λ (x : ℕ). Level R (40 ∷ x ∷ text ++ 41 ∷ []) (listed x (f ∷ fs))) (sym (eqb-true sign 38 e)) (every text f fs o)
          | inl e ↦ absurd (let w : true ≡ false = sym e ∙ n in cc)
        ]
      ]

  listed_sound : (sign : ℕ) (spaces bytes : List ℕ) (fs : List Filter) (rest : List ℕ) → is_composing sign ≡ true → (sign == 33) ≡ false → Each IsBlank spaces → opens bytes ≡ true → OperandsFound bytes [] fs rest → Found (Level R) (40 ∷ sign ∷ spaces ++ bytes) (listed sign fs) rest
  listed_sound sign spaces bytes [] rest c n h k r =
      let b = opens_is bytes k in
      let none : r.fs ≡ [] = sym r.is in
      let are : Each IsBlank r.text = subst (λ (x : List Filter). AreOperands R r.text x) none r.are in
      absurd (some_operand r.text b.0 rest are (sym r.parts ∙ b.1))
  listed_sound sign spaces bytes (f ∷ fs) rest c n h k r =
      let are : AreOperands R r.text (f ∷ fs) = subst (λ (x : List Filter). AreOperands R r.text x) (sym r.is) r.are in
      record {
        text = 40 ∷ sign ∷ (spaces ++ r.text) ++ 41 ∷ [];
        parts = ap (λ (x : List ℕ). 40 ∷ sign ∷ spaces ++ x) r.parts ∙ ap (λ (x : List ℕ). 40 ∷ sign ∷ x) (sym (append_assoc spaces r.text (41 ∷ rest)) ∙ sym (append_assoc (spaces ++ r.text) (41 ∷ []) rest));
        reads = listed_level sign (spaces ++ r.text) f fs c n (operands_spaces spaces r.text (f ∷ fs) h are);
      }

  composed_sound : (sign : ℕ) (spaces bytes : List ℕ) (f : Filter) (rest : List ℕ) → is_composing sign ≡ true → Each IsBlank spaces → opens bytes ≡ true → composed_at below sign bytes ≡ Ok (f, rest) → Found (Level R) (40 ∷ sign ∷ spaces ++ bytes) f rest
  composed_sound sign spaces bytes f rest c h k e =
      elim (chosen (sign == 33) (not_at below bytes) (operands_at below (length bytes) [] bytes >>= λ x. done (listed sign x.0, x.1)) (done (f, rest)) e) [
        | inl n ↦
            let x = bind_ok (below bytes) (λ x. after 41 (skip x.1) >>= λ r. done (roll-Filter (Not x.0), r)) (f, rest) n.1 in
            let r = bind_ok (after 41 (skip x.0.1)) (λ r. done (roll-Filter (Not x.0.0), r)) (f, rest) x.2 in
            let one = exact.sound bytes x.0.0 x.0.1 x.1 in
            let s = skip_sound x.0.1 in
            let both = ok_is (roll-Filter (Not x.0.0), r.0) (f, rest) r.2 in
            let P : Filter × List ℕ → Type 0 = λ (p : Filter × List ℕ). Found (Level R) (40 ∷ sign ∷ spaces ++ bytes) p.0 p.1 in
            let is : sign ≡ 33 = eqb-true sign 33 n.0 in
            let whole : bytes ≡ one.text ++ (s.spaces ++ 41 ∷ r.0) = one.parts ∙ ap (λ (t : List ℕ). one.text ++ t) (s.parts ∙ ap (λ (t : List ℕ). s.spaces ++ t) (after_sound 41 (skip x.0.1) r.0 r.1)) in
            let regroup : spaces ++ (one.text ++ (s.spaces ++ 41 ∷ r.0)) ≡ (spaces ++ (one.text ++ (s.spaces ++ 41 ∷ []))) ++ r.0 = simp append_assoc in
            subst P both (record {
              text = 40 ∷ 33 ∷ spaces ++ (one.text ++ (s.spaces ++ 41 ∷ []));
              parts = ap (λ (t : ℕ). 40 ∷ t ∷ spaces ++ bytes) is ∙ ap (λ (t : List ℕ). 40 ∷ 33 ∷ t) (ap (λ (t : List ℕ). spaces ++ t) whole ∙ regroup);
              reads = turned spaces one.text s.spaces x.0.0 h one.reads s.are;
            })
        | inr n ↦
            let x = bind_ok (operands_at below (length bytes) [] bytes) (λ x. done (listed sign x.0, x.1)) (f, rest) n.1 in
            let r = operands_sound (length bytes) [] bytes x.0.0 x.0.1 x.1 in
            let both = ok_is (listed sign x.0.0, x.0.1) (f, rest) x.2 in
            let P : Filter × List ℕ → Type 0 = λ (p : Filter × List ℕ). Found (Level R) (40 ∷ sign ∷ spaces ++ bytes) p.0 p.1 in
            subst P both (listed_sound sign spaces bytes x.0.0 x.0.1 c n.0 h k r)
      ]

  found_item : (bytes : List ℕ) (f : Filter) (rest : List ℕ) → ItemFound bytes f rest → Found (Level R) (40 ∷ bytes) f rest
  found_item bytes f rest g =
      let P : List ℕ → Filter → Type 0 = λ (t : List ℕ) (h : Filter). Level R (40 ∷ t) h in
      let i = g.item in
      record {
        text = 40 ∷ g.text;
        parts = ap (λ (t : List ℕ). 40 ∷ t) g.parts;
        reads = subst (λ (h : Filter). P g.text h) (sym g.is) (subst (λ (t : List ℕ). P t (roll-Filter (Item g.name g.test))) (sym i.parts) (leaf i.before g.name i.after i.signed g.test i.are_before i.named i.are_after i.reads));
      }

  inside_sound : (bytes : List ℕ) (f : Filter) (rest : List ℕ) → inside below bytes ≡ Ok (f, rest) → Found (Level R) (40 ∷ bytes) f rest
  inside_sound [] f rest e = absurd cc
  inside_sound (b ∷ bs) f rest e =
      elim (chosen (is_composing b && opens (skip bs)) (composed_at below b (skip bs)) (item_at (b ∷ bs)) (done (f, rest)) e) [
        | inl h ↦
            let p = and_parts (is_composing b) (opens (skip bs)) h.0 in
            let s = skip_sound bs in
            subst (λ (x : List ℕ). Found (Level R) (40 ∷ b ∷ x) f rest) (sym s.parts) (composed_sound b s.spaces (skip bs) f rest p.0 s.are p.1 h.1)
        | inr h ↦ found_item (b ∷ bs) f rest (item_sound (b ∷ bs) f rest h.1)
      ]

  pub level_sound : (bytes : List ℕ) (f : Filter) (rest : List ℕ) → level_at below bytes ≡ Ok (f, rest) → Found (Level R) bytes f rest
  level_sound bytes f rest e =
      let i = bind_ok (after 40 bytes) (λ x. inside below x) (f, rest) e in
      subst (λ (x : List ℕ). Found (Level R) x f rest) (sym (after_sound 40 bytes i.0 i.1)) (inside_sound i.0 f rest i.2)

-- ---- each number of levels

pub filter_exact : (n : ℕ) → IsExact (Bare n) (filter_at n)
unfolding Bare filter_at
filter_exact zero = record { again = λ text f rest r. absurd r; sound = λ bytes f rest e. absurd cc; starts = λ text f r. absurd r }
filter_exact (suc n) = record { again = level_again (Bare n) (filter_at n) (filter_exact n); sound = level_sound (Bare n) (filter_at n) (filter_exact n); starts = level_starts (Bare n) (filter_at n) (filter_exact n) }

-- ---- whole texts

ended_sound : (f g : Filter) (rest : List ℕ) → ended f rest ≡ Ok g → (f ≡ g) × (rest ≡ [])
ended_sound f g [] e = (ok_is f g e, refl)
ended_sound f g (b ∷ bs) e = absurd cc

pub whole_again : (text : List ℕ) (f : Filter) → ReadsFilter text f → whole_at text ≡ Ok f
whole_again text f r =
    let bare = filter_bare r.bare f r.written 64 r.few in
    let s = (filter_exact 64).starts r.bare f bare in
    let skips : skip text ≡ r.bare ++ r.after = ap skip r.parts ∙ subst (λ (x : List ℕ). skip (r.before ++ (x ++ r.after)) ≡ x ++ r.after) (sym s.1) (skip_over r.before 40 (s.0 ++ r.after) r.blanks_before refl) in
    ap (λ (x : List ℕ). filter_at 64 x >>= λ x. ended x.0 (skip x.1)) skips
    ∙ ap (λ (x : Result (Filter × List ℕ) ℕ). x >>= λ x. ended x.0 (skip x.1)) ((filter_exact 64).again r.bare f r.after bare)
    ∙ ap (λ (x : List ℕ). ended f x) (skip_all r.after r.blanks_after)

pub whole_sound : (text : List ℕ) (f : Filter) → whole_at text ≡ Ok f → ReadsFilter text f
whole_sound text f e =
    let x = bind_ok (filter_at 64 (skip text)) (λ x. ended x.0 (skip x.1)) f e in
    let g = (filter_exact 64).sound (skip text) x.0.0 x.0.1 x.1 in
    let d = ended_sound x.0.0 f (skip x.0.1) x.2 in
    let s = skip_sound text in
    let a = skip_sound x.0.1 in
    let few = bare_few 64 g.text f (subst (λ (h : Filter). Bare 64 g.text h) d.0 g.reads) in
    let rest : x.0.1 ≡ a.spaces = a.parts ∙ ap (λ (t : List ℕ). a.spaces ++ t) d.1 ∙ append-nil a.spaces in
    record {
      before = s.spaces;
      bare = g.text;
      after = a.spaces;
      parts = s.parts ∙ ap (λ (t : List ℕ). s.spaces ++ t) (g.parts ∙ ap (λ (t : List ℕ). g.text ++ t) rest);
      blanks_before = s.are;
      blanks_after = a.are;
      written = few.0;
      few = few.1;
    }

-- no text reads as two trees
pub one_tree : (text : List ℕ) (f g : Filter) → ReadsFilter text f → ReadsFilter text g → f ≡ g
one_tree text f g a b = ok_is f g (sym (whole_again text f a) ∙ whole_again text g b)
