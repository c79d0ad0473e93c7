-- The room that the tables of a history within its limit have.
use Rattle.std.proofs.Common.{◌<◌, ◌≤◌, ◌+◌, ℕ, List, [], ◌∷◌, length, length-append, ap, arith, ◌∙◌}
use Rattle.std.specs.Prelude.{All, false, None, Option, Some}
use Rattle.std.proofs.lemmas.List.Sums.{count_by-le-length, length-filter}
use Rattle.osgi_stage.proofs.Current.{fresh-at}
use Rattle.osgi_listeners.specs.Sights.{IsOfEarlier}
use Rattle.osgi_listeners.specs.laws.Handing.{waits-of-earlier}
use Rattle.osgi_ops.specs.Bundles.{brings_revision, installed, installed_after, installed_by, revisions}
use Rattle.osgi_ops.specs.Along.{carry}
use Rattle.osgi_legal.specs.Legal.{IsTold}
use Rattle.osgi_ops.specs.Listening.{adds, clears, heard_by, Hearing, hearing, HearingChange, lets_go, with_heard}
use Rattle.osgi_ops.specs.Moments.{Moment}
use Rattle.osgi_ops.specs.Resolved.{current_revision}
use Rattle.osgi_ops.specs.declared.entry.Entry.{Entry}
use Rattle.osgi_ops.specs.declared.limits.TheConstants.{MAX_BUDGET, MAX_ENTRIES}
use Rattle.osgi_ops.specs.declared.op.Op.{Op}
use Rattle.osgi_ops.specs.declared.op.Op.TheVariants as op
use Rattle.osgi_ops.specs.declared.reply.Reply.{Reply}
use Rattle.osgi_ops.specs.declared.reply.Reply.TheVariants as answer
use Rattle.osgi_ops.specs.laws.Services.{length-registered, uses-le-length}
use Rattle.osgi_world.specs.declared.world.World.{World}
use Rattle.osgi_stage.proofs.Stage.{no-made-uses}
use Rattle.osgi_reply_services.proofs.Serving.{uses_now}
use Rattle.osgi_tables.proofs.Premises.{past-at}
use Rattle.osgi_tables.specs.Replied.{HasRoom, StandsFor}
use Rattle.osgi_tables.specs.declared.tables.Tables.{Tables}

-- ---- no more bundles were installed, nor revisions brought, than there are entries

installed_by-few : (earlier : ℕ) (o : Op) (reply : Reply) (since : List Entry) → length (installed_by earlier o reply since) ≤ 1
installed_by-few earlier (op.Install location) (answer.Bundle bundle false) since = omega arith
installed_by-few earlier o reply since = omega arith

length-installed_after : (earlier : ℕ) (history : List Entry) → length (installed_after earlier history) ≤ length history
length-installed_after earlier [] = omega arith
length-installed_after earlier (x ∷ since) =
    let here = installed_by earlier x.op x.reply since in
    omega (arith, length-append here (installed_after (earlier + length here) since), installed_by-few earlier x.op x.reply since, length-installed_after (earlier + length here) since)

length-installed : (history : List Entry) → length (installed history) ≤ length history
length-installed history = length-installed_after 0 history

revisions-le-length : (history : List Entry) → revisions history ≤ length history
revisions-le-length history =
    omega (arith, length-filter (λ (e : Entry). brings_revision e.op e.reply) history, count_by-le-length (λ (e : Entry). brings_revision e.op e.reply) history)

-- ---- nor listeners added

heard_few : (before : Hearing) (change : Option HearingChange) → (with_heard change before).count ≤ before.count + 1
heard_few before None = omega arith
heard_few before (Some (adds owner name kind given)) = omega arith
heard_few before (Some (lets_go owner name)) = omega arith
heard_few before (Some (clears owner)) = omega arith

heard_after : (before : Hearing) (history : List Entry) → (carry (λ h (e : Entry). with_heard (heard_by e.op e.reply) h) before history).count ≤ before.count + length history
heard_after before [] = omega arith
heard_after before (e ∷ rest) = omega (arith, heard_few before (heard_by e.op e.reply), heard_after (with_heard (heard_by e.op e.reply) before) rest)

heard-le-length : (history : List Entry) → (hearing history).count ≤ length history
heard-le-length history = omega (arith, heard_after (record { count = 0; live = [] }) history)

-- ---- the room

pub has_room : (now : Moment) (tables : Tables) → IsTold now → StandsFor now tables → length now.before < MAX_ENTRIES → now.setting.bounds.budget ≤ MAX_BUDGET → HasRoom tables
has_room now tables told stands short least = record {
  services = record {
    ids = omega (arith, short, stands.services.issued, length-registered now.before);
    uses = λ user service. omega (arith, short, uses_now now.before tables.registry user service (no-made-uses now told) stands.services, uses-le-length user service now.before);
  };
  bundles = omega (arith, short, stands.bundles.issued, length-installed now.before);
  revisions = omega (arith, short, stands.issued, revisions-le-length now.before);
  listeners = omega (arith, short, stands.listeners.issued, heard-le-length now.before);
  fresh = λ b next. ap (λ (w : World). current_revision w b) stands.world ∙ fresh-at now told b (omega (arith, next, stands.bundles.issued));
  budget = omega (arith, least, stands.budget);
}

-- what waits at listeners is of entries of the history
pub all_earlier : (now : Moment) (tables : Tables) → IsTold now → StandsFor now tables → All (IsOfEarlier (length now.before)) tables.listeners.rows
all_earlier now tables told stands = waits-of-earlier now.sights now.before tables.listeners (length now.before) (past-at now told) stands.small stands.listeners
