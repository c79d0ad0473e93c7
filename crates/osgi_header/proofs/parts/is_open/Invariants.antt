-- From here on the scan ends where the whole scan does.
use Rattle.std.proofs.Common.{◌≡◌, drop}
use Rattle.osgi_base.specs.declared.parts.QuoteState.TheVariants.{Bare}
use Rattle.osgi_header.specs.computed.Cutting.{place_at_end}
use Rattle.osgi_header.proofs.parts.is_open.Given as goal

abbrev pub invariant-loop-b : goal.invariant-loop-b
invariant-loop-b l = place_at_end l.place (drop l.b-index l.text) ≡ place_at_end Bare l.text
