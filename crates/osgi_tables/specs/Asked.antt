-- Which operations are decided one by one, and why the bundle that asks for one may not.
use Rattle.std.specs.Prelude.{ℕ, ◌==◌, if◌then◌else◌, Bool, true, false, Option, None, Some}
use Rattle.osgi_base.specs.declared.ids.BundleId.{BundleId}
use Rattle.osgi_bundle.specs.Rows.{state_at, TableRows}
use Rattle.osgi_ops.specs.Conditions.{asker_of}
use Rattle.osgi_legal.specs.Stages.{is_here}
use Rattle.osgi_ops.specs.States.{is_up}
use Rattle.osgi_ops.specs.declared.op.Op.{Op}
use Rattle.osgi_ops.specs.declared.op.Op.TheVariants.{EndHand, EndJob, EndMake}
use Rattle.osgi_ops.specs.declared.refusal.Refusal.{Refusal}
use Rattle.osgi_ops.specs.declared.refusal.Refusal.TheVariants.{InvalidOperation, NoSuchBundle}
use Rattle.osgi_ops.specs.declared.state.TheConstants.{UNINSTALLED}

-- the operation is the end of a hand or of a job
abbrev pub is_hand_or_job_end : Op → Bool
is_hand_or_job_end (EndHand listener) = true
is_hand_or_job_end EndJob = true
is_hand_or_job_end op = false

-- the operation has come, and is not the end of a make, which nothing begins yet
abbrev pub is_decided : Op → Bool
is_decided (EndMake failed) = false
is_decided op = is_here op

-- the bundle that asks for an operation that has come, where one does. Others are refused whoever asks
abbrev pub asker_here : Op → Option BundleId
asker_here op = if is_here op then asker_of op else None

-- by its state: it is not there, or not up
abbrev pub refusal_by : Option ℕ → Option Refusal
refusal_by None = Some NoSuchBundle
refusal_by (Some state) = if state == UNINSTALLED then Some NoSuchBundle else (if is_up state then None else Some InvalidOperation)

abbrev pub asker_refusal : TableRows → Option BundleId → Option Refusal
asker_refusal bundles (Some asker) = refusal_by (state_at asker bundles)
asker_refusal bundles None = None
