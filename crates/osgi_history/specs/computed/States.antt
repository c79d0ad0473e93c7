-- What the scans for the state of a bundle read of an entry.
use Rattle.std.specs.Prelude.{ℕ, ◌+◌, ◌==◌, ◌||◌, ◌&&◌, Bool, true, false, cond, not}
use Rattle.osgi_base.specs.declared.ids.BundleId.{BundleId}
use Rattle.osgi_ops.specs.Bundles.{is_uninstall, number_of, Phase, running}
use Rattle.osgi_ops.specs.declared.op.Op.{Op}
use Rattle.osgi_ops.specs.declared.op.Op.TheVariants.{Install}
use Rattle.osgi_ops.specs.declared.reply.Reply.{Reply}
use Rattle.osgi_ops.specs.declared.reply.Reply.TheVariants.{Bundle}

-- an Install of a location that was not known
abbrev pub installs : Op → Reply → Bool
installs (Install location) (Bundle bundle false) = true
installs _ reply = false

-- whether the bundle is live after an entry, after as many installed bundles, where it was live before it or not: what is installed is from
-- then on, what is uninstalled is not, and the rest stays
abbrev pub is_live_after : BundleId → ℕ → Bool → Op → Reply → Bool
is_live_after b earlier before op reply = cond (installs op reply) (before || (earlier + 1 == b.0)) (before && not (is_uninstall b op reply))

-- the state of a bundle in this phase that is resolved, by OSGi's number
abbrev pub number_in : Phase → ℕ
number_in phase = number_of (running phase true)
