-- What a clause says by single directives, and whether it gives one of them twice.
use Rattle.std.specs.Prelude.{◌≢◌, ◌⊎◌, true, Bool, codes, AllPairs}
use Rattle.std.specs.Option.{option_map_or}
use Rattle.std.specs.Str.{bytes_eq}
use Rattle.osgi_header.specs.declared.clause.Clause.{Clause}
use Rattle.osgi_header.specs.declared.clause.Pair.{Pair}
use Rattle.osgi_header.specs.declared.clause.Typed.{Typed}
use Rattle.osgi_package.specs.Parameters.{directive_value}

-- a clause gives an attribute or a directive twice
abbrev pub Repeats : Clause → Type 0
Repeats clause = (¬ AllPairs (λ (a b : Typed). a.name ≢ b.name) clause.attributes) ⊎ (¬ AllPairs (λ (a b : Pair). a.name ≢ b.name) clause.directives)

-- it takes part in resolving: `effective` is `resolve`, which it is also where it is missing
abbrev pub takes_part : Clause → Bool
takes_part clause = option_map_or (λ given. bytes_eq given (codes "resolve")) (directive_value (codes "effective") clause) true
