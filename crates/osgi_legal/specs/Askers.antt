-- Who may ask for an operation.
use Rattle.std.specs.Prelude.{◌≡◌, true, Option, None, Some}
use Rattle.osgi_base.specs.declared.ids.BundleId.{BundleId}
use Rattle.osgi_ops.specs.Bundles.{is_live, is_up}
use Rattle.osgi_ops.specs.Conditions.{state_of}
use Rattle.osgi_ops.specs.Moments.{Moment}

-- who asks, where someone does, is there and up
abbrev pub MayAsk : Moment → Option BundleId → Type 0
MayAsk now None = Unit {0}
MayAsk now (Some asker) = (is_live asker now.before ≡ true) × (is_up (state_of now asker) ≡ true)
