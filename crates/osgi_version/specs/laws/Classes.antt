-- Which bytes are of which class.
use Rattle.std.proofs.Common.{◌≡◌, ◌⊎◌, inl, inr, subst, sym, ℕ, Bool, true, false, ◌==◌, ◌||◌, refl, arith}
use Rattle.std.proofs.lemmas.Bool.{eqb-true}
use Rattle.std.proofs.lemmas.Grind.{common_steps}
use Rattle.osgi_version.specs.Bytes.{IsBlank, IsDigit, IsWordByte}
use Rattle.osgi_version.specs.computed.Classes.{class_of, is_open, is_close, IsWordClass}
use Rattle.osgi_version.specs.Ranges.{Opens, Closes}
use Rattle.osgi_version.specs.declared.bytes.Class.{Class}
use Rattle.osgi_version.specs.declared.bytes.Class.TheVariants.{Digit, Dot, Blank, Letter, Comma, Open, Close}

-- ---- from the class to the byte

pub digit_of : (b : ℕ) → class_of b ≡ Digit → IsDigit b
unfolding class_of
digit_of b e = grind (arith, common_steps)

pub blank_of : (b : ℕ) → class_of b ≡ Blank → IsBlank b
unfolding class_of
blank_of b e = grind (arith, common_steps)

letter_of : (b : ℕ) → class_of b ≡ Letter → IsWordByte b
unfolding class_of
letter_of b e = grind (arith, common_steps)

digit_word : (b : ℕ) → IsDigit b → IsWordByte b
digit_word b h = rw h refl

pub word_of : (b : ℕ) (c : Class) → class_of b ≡ c → IsWordClass c → IsWordByte b
word_of b Digit e w = digit_word b (digit_of b e)
word_of b Letter e w = letter_of b e
word_of b c e w = absurd w

pub dot_is : (b : ℕ) → class_of b ≡ Dot → b ≡ 46
unfolding class_of
dot_is b e = grind (arith, common_steps)

pub comma_is : (b : ℕ) → class_of b ≡ Comma → b ≡ 44
unfolding class_of
comma_is b e = grind (arith, common_steps)

pub open_is : (b : ℕ) → class_of b ≡ Open → is_open b ≡ true
unfolding class_of
open_is b e = grind (arith, common_steps)

pub close_is : (b : ℕ) → class_of b ≡ Close → is_close b ≡ true
unfolding class_of
close_is b e = grind (arith, common_steps)

cases_or : (x y : Bool) → x || y ≡ true → (x ≡ true) ⊎ (y ≡ true)
cases_or true y h = inl refl
cases_or false y h = inr h

pub opens_of : (b : ℕ) → is_open b ≡ true → (x : Bool) × Opens b x
opens_of b h = elim (cases_or (b == 91) (b == 40) h) [ inl e ↦ (true, subst (λ x. Opens x true) (sym (eqb-true b 91 e)) Opens.square) | inr e ↦ (false, subst (λ x. Opens x false) (sym (eqb-true b 40 e)) Opens.round) ]

pub closes_of : (b : ℕ) → is_close b ≡ true → (x : Bool) × Closes b x
closes_of b h = elim (cases_or (b == 93) (b == 41) h) [ inl e ↦ (true, subst (λ x. Closes x true) (sym (eqb-true b 93 e)) Closes.square) | inr e ↦ (false, subst (λ x. Closes x false) (sym (eqb-true b 41 e)) Closes.round) ]

-- ---- from the byte to the class

pub digit_class : (b : ℕ) → IsDigit b → class_of b ≡ Digit
unfolding class_of
digit_class b h = rw h refl

pub blank_class : (b : ℕ) → IsBlank b → class_of b ≡ Blank
unfolding class_of
blank_class b h = grind (arith, common_steps)

pub word_class : (b : ℕ) → IsWordByte b → IsWordClass (class_of b)
unfolding class_of
word_class b h = grind (arith, common_steps)

pub dot : class_of 46 ≡ Dot
unfolding class_of
dot = refl

pub zero_digit : class_of 48 ≡ Digit
unfolding class_of
zero_digit = refl

pub comma : class_of 44 ≡ Comma
unfolding class_of
comma = refl

pub open_class : (b : ℕ) (x : Bool) → Opens b x → class_of b ≡ Open
unfolding class_of
open_class b x Opens.square = refl
open_class b x Opens.round = refl

pub close_class : (b : ℕ) (x : Bool) → Closes b x → class_of b ≡ Close
unfolding class_of
close_class b x Closes.square = refl
close_class b x Closes.round = refl
