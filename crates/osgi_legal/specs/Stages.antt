-- Which operations the framework has come to have. While one has not come it is refused as an invalid operation, whoever asks.
use Rattle.std.specs.Prelude.{Bool, true, false}
use Rattle.osgi_ops.specs.declared.op.Op.{Op}
use Rattle.osgi_ops.specs.declared.op.Op.TheVariants as op

-- The end of a make is here before what opens one: while none is open, its own condition refuses it
abbrev pub is_here : Op → Bool
is_here (op.Update bundle location) = false
is_here (op.Uninstall bundle) = false
is_here (op.BeginRefresh bundles) = false
is_here op.DropWirings = false
is_here op.EndRefresh = false
is_here (op.BeginLevel target) = false
is_here (op.ListLevel level) = false
is_here (op.MoveLevel to) = false
is_here op.EndLevel = false
is_here (op.SetBundleLevel bundle level) = false
is_here (op.GetOwn user service) = false
is_here (op.Give owner text) = false
is_here (op.UngetOwn user service object) = false
is_here (op.Await bundle) = false
is_here _ = true

-- services of other scopes may be registered than those with one object for all
abbrev pub factories_here : Bool
factories_here = false

-- a load may add a wire
abbrev pub dynamics_here : Bool
dynamics_here = false
