-- The values so far, before those of the texts that are left, are those of the texts.
use Rattle.std.proofs.Common.{◌≡◌, ◌++◌, drop}
use Rattle.std.specs.Option.{option_map}
use Rattle.osgi_model.specs.computed.ValueReader.{scalars_of}
use Rattle.osgi_model.proofs.value_text.scalar_values.Given as goal

abbrev pub invariant-loop-text : goal.invariant-loop-text
invariant-loop-text l = option_map (λ rest. l.values ++ rest) (scalars_of l.scalar (drop l.text-index l.texts)) ≡ scalars_of l.scalar l.texts
