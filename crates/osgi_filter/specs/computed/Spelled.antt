-- What stands between the dots of a text that spells a version. No public promise speaks of this.
use Rattle.std.specs.Prelude.{ℕ, ◌≡◌, Bool, List, [], ◌∷◌}
use Rattle.std.specs.List.{after_first, before_first}
use Rattle.memchr.specs.Find.{is_byte}
use Rattle.osgi_version.specs.Versions.{IsNumber, Parts}
use Rattle.osgi_filter.specs.declared.spelled.SpelledVersion.{SpelledVersion}

-- what a version says whose qualifier stands in its text
abbrev pub spelled : SpelledVersion → Parts
spelled v = record { major = v.major; minor = v.minor; micro = v.micro; qualifier = v.qualifier.now }

abbrev pub is_dot : ℕ → Bool
is_dot = is_byte 46

-- the digits of a number, or none for 0
abbrev pub IsPart : List ℕ → ℕ → Type 0
IsPart [] n = n ≡ 0
IsPart (b ∷ bs) n = IsNumber (b ∷ bs) n

-- the parts between the dots are those of the version, and missing ones are 0 and the empty qualifier
pub record CutsInto (text : List ℕ) (v : Parts) : Type 0 where
  pub major : IsPart (before_first is_dot text) v.major
  pub minor : IsPart (before_first is_dot (after_first is_dot text)) v.minor
  pub micro : IsPart (before_first is_dot (after_first is_dot (after_first is_dot text))) v.micro
  pub qualifier : after_first is_dot (after_first is_dot (after_first is_dot text)) ≡ v.qualifier
