-- The classes by which the machines distinguish bytes. No public promise speaks of this.
use Rattle.std.specs.Prelude.{ℕ, Bool, ◌||◌, ◌==◌, if◌then◌else◌}
use Rattle.std.specs.Char.{is_ascii_digit}
use Rattle.osgi_version.specs.Bytes.{is_blank, is_word_byte}
use Rattle.osgi_version.specs.declared.bytes.Class.{Class}
use Rattle.osgi_version.specs.declared.bytes.Class.TheVariants.{Digit, Dot, Blank, Letter, Comma, Open, Close, Other}

-- `[` (91) or `(` (40)
abbrev pub is_open : ℕ → Bool
is_open b = b == 91 || b == 40

-- `]` (93) or `)` (41)
abbrev pub is_close : ℕ → Bool
is_close b = b == 93 || b == 41

-- the class of a byte; a dot is 46 and a comma 44
unfoldable pub class_of : ℕ → Class
class_of b =
    if is_ascii_digit b then Digit else if is_word_byte b then Letter else if b == 46 then Dot else if is_blank b then Blank
    else if b == 44 then Comma else if is_open b then Open else if is_close b then Close else Other

-- the classes of letters, digits, `_` and `-`
abbrev pub IsWordClass : Class → Type 0
IsWordClass Digit = Unit {0}
IsWordClass Letter = Unit {0}
IsWordClass c = ⊥
