-- What a test's text was read as. No public promise speaks of this.
use Rattle.std.specs.Prelude.{⊤, Option}
use Rattle.osgi_filter.specs.declared.wanted.Reading.{Reading}
use Rattle.osgi_filter.specs.declared.wanted.Reading.TheVariants.{Unread, Read}

-- what was read, if anything was, is so
abbrev pub IsReadAs : {V : Type 0} → (Option V → Type 0) → Reading V → Type 0
IsReadAs P Unread = ⊤
IsReadAs P (Read read) = P read
