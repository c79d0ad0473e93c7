-- What a function of the code gives, beside what the reader on lists gives. No public promise speaks of this.
use Rattle.std.specs.Prelude.{ℕ, ◌≡◌, Result, Ok, Err}
use Rattle.osgi_base.specs.declared.stop.Stop.{Stop}
use Rattle.osgi_base.specs.declared.stop.Stop.TheVariants.{Fault, Memory}

abbrev pub Fails : {Y : Type 0} → Stop ℕ → Result Y ℕ → Type 0
Fails Memory read = Unit {0}
Fails (Fault n) read = read ≡ Err n

-- what was returned, seen by `view`, is what was read, unless memory ran out
abbrev pub ReadsAs : {X Y : Type 0} → (X → Y) → Result X (Stop ℕ) → Result Y ℕ → Type 0
ReadsAs view (Ok x) read = read ≡ Ok (view x)
ReadsAs view (Err e) read = Fails e read
