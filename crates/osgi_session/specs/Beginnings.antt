-- The operation with which the plan of a command begins, and what of the command is kept for a later one.
use Rattle.std.specs.Prelude.{ℕ, ◌==◌, Bool, true, false, if◌then◌else◌, List, Option, None, Some}
use Rattle.osgi_base.specs.declared.ids.BundleId.{BundleId}
use Rattle.osgi_ops.specs.declared.op.Op.{Op}
use Rattle.osgi_ops.specs.declared.op.Op.TheVariants as op
use Rattle.osgi_ops.specs.declared.scope.Scope.TheVariants.{Singleton}
use Rattle.osgi_ops.specs.declared.target.Target.TheVariants as target
use Rattle.osgi_session.specs.declared.command.Command.{Command}
use Rattle.osgi_session.specs.declared.command.Command.TheVariants as command

-- the command asks for no operation
abbrev pub is_peek : Command → Bool
is_peek (command.Peek class filter) = true
is_peek _ = false

-- the operation that the plan of a command begins with, where the owner runs it. A bundle is stopped before it is updated or
-- uninstalled, and resolved before the console loads a class from it. The plan of a peek begins with no operation, and what stands for it
-- here is asked for by nobody
abbrev pub op_of : BundleId → Command → Op
op_of owner (command.Register classes object properties) = op.Register owner classes object Singleton properties
op_of owner (command.Modify service properties) = op.Modify owner service properties
op_of owner (command.Unregister service) = op.Unregister owner service
op_of owner (command.Find class filter) = op.Find owner class filter
op_of owner (command.FindAll class filter) = op.FindAll owner class filter
op_of owner (command.Get service) = op.Get owner service
op_of owner (command.Unget service) = op.Unget owner service
op_of owner (command.GetOwn service) = op.GetOwn owner service
op_of owner (command.UngetOwn service object) = op.UngetOwn owner service object
op_of owner (command.Factory classes scope name properties) = op.Register owner classes name scope properties
op_of owner (command.Give text) = op.Give owner text
op_of owner (command.Peek class filter) = op.ListServices
op_of owner (command.StartLazy bundle) = op.WishStart (target.Id bundle) false
op_of owner (command.Start target transient) = op.WishStart target transient
op_of owner (command.Stop target transient) = op.BeginStop target transient
op_of owner (command.Load bundle class) = if owner.0 == 0 then op.Resolve bundle else op.Load bundle class
op_of owner (command.Install location) = op.Install location
op_of owner (command.Update bundle location) = op.BeginStop (target.Id bundle) true
op_of owner (command.Uninstall bundle) = op.BeginStop (target.Id bundle) true
op_of owner (command.Resolve bundle) = op.Resolve bundle
op_of owner (command.Refresh bundles) = op.BeginRefresh bundles
op_of owner (command.Wires bundle) = op.ListWires bundle
op_of owner (command.Level level) = op.BeginLevel level
op_of owner (command.BundleLevel bundle level) = op.SetBundleLevel bundle level
op_of owner command.Bundles = op.ListBundles
op_of owner command.Services = op.ListServices
op_of owner (command.Listen name kind filter) = op.AddListener owner name kind filter
op_of owner (command.Unlisten name) = op.RemoveListener owner name
op_of owner (command.Job name) = op.QueueJob owner name
op_of owner (command.Print text) = op.Print owner text
op_of owner (command.Fail text) = op.Fail owner text

-- the text that a later operation of the plan needs: the class that is loaded, the location of the update
abbrev pub later_text : BundleId → Command → Option (List ℕ)
later_text owner (command.Load bundle class) = if owner.0 == 0 then Some class else None
later_text owner (command.Update bundle location) = Some location
later_text owner _ = None
