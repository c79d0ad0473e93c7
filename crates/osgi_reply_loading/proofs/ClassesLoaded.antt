-- What is loaded for a bundle.
use Rattle.std.proofs.Common.{◌≡◌, ◌⊎◌, ℕ, inl, inr, List, ap, sym, ◌∙◌, refl}
use Rattle.std.specs.Prelude.{◌||◌, Bool, true, false, is_none, is_some, Option, None, Some}
use Rattle.std.specs.Option.{option_map_or}
use Rattle.osgi_base.specs.declared.ids.BundleId.{BundleId}
use Rattle.osgi_base.specs.declared.ids.RevisionId.{RevisionId}
use Rattle.osgi_legal.specs.Quiet.{QuietServices}
use Rattle.osgi_stage.proofs.Current.{dead-at, live-at}
use Rattle.osgi_ops.specs.Loading.{IsLoadedBy}
use Rattle.osgi_legal.specs.Operations.{IsReply}
use Rattle.osgi_ops.specs.Resolved.{current_revision, is_fragment_bundle, is_resolved}
use Rattle.osgi_ops.specs.Soundness.{IsSound}
use Rattle.osgi_ops.specs.declared.op.Op.TheVariants as op
use Rattle.osgi_ops.specs.declared.refusal.Refusal.TheVariants.{InvalidOperation, NoSuchBundle}
use Rattle.osgi_ops.specs.declared.reply.Reply.TheVariants as answer
use Rattle.osgi_ops.specs.rows.Bundles.{is_java_class, loaded_with}
use Rattle.osgi_stage.proofs.Stage.{none-woken}
use Rattle.osgi_tables.proofs.Replying.{at, from_own, of_services, replied_refused, still_tables, unseen}
use Rattle.osgi_tables.proofs.Wired.{target_open, target_resolved}
use Rattle.osgi_tables.specs.Replied.{IsAnsweredToAll}
use Rattle.osgi_tables.specs.declared.tables.Tables.{Tables}
use Rattle.osgi_wiring.specs.States.{wiring_at}
use Rattle.osgi_world.specs.declared.wiring.Wiring.{Wiring}
use Rattle.osgi_world.specs.declared.world.Known.{Known}
use Rattle.osgi_world.specs.declared.world.World.{World}

-- nothing is loaded for the revision: it is a fragment, or not in force, or the class is one that no bundle has a file for
abbrev is_barred : World → Known → List ℕ → Bool
is_barred W k class = is_some k.revision.host || is_none (wiring_at W.wirings k.id) || is_java_class class

-- as the refusal says it
abbrev IsBarred : World → BundleId → List ℕ → Type 0
IsBarred W b class = (is_resolved W b ≡ false) ⊎ (is_fragment_bundle W b ≡ true) ⊎ (is_java_class class ≡ true)

barred_is : (W : World) (b : BundleId) (k : Known) (class : List ℕ) → IsSound W → current_revision W b ≡ Some k → is_barred W k class ≡ true → IsBarred W b class
barred_is W b k class sound is barred = by (is_some k.revision.host) (wiring_at W.wirings k.id) refl refl barred
  where
    by : (host : Bool) (o : Option Wiring) → is_some k.revision.host ≡ host → wiring_at W.wirings k.id ≡ o → (host || is_none o || is_java_class class) ≡ true → IsBarred W b class
    by true o h w e = inr (inl (ap (λ c. option_map_or (λ (x : Known). is_some x.revision.host) c false) is ∙ h))
    by false None h w e = inl (target_open W b k sound is h w)
    by false (Some g) h w e = inr (inr e)

barred_not : (W : World) (b : BundleId) (k : Known) (class : List ℕ) → current_revision W b ≡ Some k → is_barred W k class ≡ false → ¬ IsBarred W b class
barred_not W b k class is barred = by (is_some k.revision.host) (wiring_at W.wirings k.id) refl refl barred
  where
    none : (is_fragment_bundle W b ≡ false) × (is_resolved W b ≡ true) → is_java_class class ≡ false → ¬ IsBarred W b class
    none in_force e (inl open_there) = cc (in_force.1, open_there)
    none in_force e (inr (inl fragment)) = cc (in_force.0, fragment)
    none in_force e (inr (inr java)) = cc (e, java)

    by : (host : Bool) (o : Option Wiring) → is_some k.revision.host ≡ host → wiring_at W.wirings k.id ≡ o → (host || is_none o || is_java_class class) ≡ false → ¬ IsBarred W b class
    by true o h w e = absurd (cc e)
    by false None h w e = absurd (cc e)
    by false (Some g) h w e = none (target_resolved W b k g (sym is) h (sym w)) e

-- ---- the reply

pub load_missing : (tables : Tables) (b : BundleId) (class : List ℕ) → current_revision tables.wirings.world b ≡ None → IsAnsweredToAll (op.Load b class) tables (answer.Refused NoSuchBundle)
load_missing tables b class none who =
    replied_refused (record { tag = who; op = op.Load b class }) tables NoSuchBundle refl
    (from_own tables (λ now. IsReply now (op.Load b class) (answer.Refused NoSuchBundle)) (λ now told stood. inl (NoSuchBundle, (refl, dead-at (at now tables) told b none), refl)))

pub load_barred : (tables : Tables) (b : BundleId) (k : Known) (class : List ℕ) → current_revision tables.wirings.world b ≡ Some k → is_barred tables.wirings.world k class ≡ true →
    IsAnsweredToAll (op.Load b class) tables (answer.Refused InvalidOperation)
load_barred tables b k class is barred who =
    replied_refused (record { tag = who; op = op.Load b class }) tables InvalidOperation refl
    (from_own tables (λ now. IsReply now (op.Load b class) (answer.Refused InvalidOperation)) (λ now told stood.
    inr (
      (λ other called. let bad : true ≡ false = sym (live-at (at now tables) told b k is) ∙ called.1 in cc bad),
      inl (InvalidOperation, (refl, barred_is tables.wirings.world b k class stood.sound is barred), refl),
    )))

quiet_load : (b : BundleId) (class : List ℕ) (by : Option RevisionId) → QuietServices (op.Load b class) (answer.Loaded by)
quiet_load b class by = record { registered = λ n since. refl; taken = λ s owner. refl; given = λ s. refl; got = λ u s. refl; let_go = λ u s. refl; cleaned = refl; made = λ tag opened. refl }

pub load_answered : (tables : Tables) (b : BundleId) (k : Known) (class : List ℕ) (by : Option RevisionId) → current_revision tables.wirings.world b ≡ Some k → is_barred tables.wirings.world k class ≡ false →
    IsLoadedBy tables.wirings.world k.id class by → IsAnsweredToAll (op.Load b class) tables (answer.Loaded by)
load_answered tables b k class by is barred loaded who =
    let reply = answer.Loaded by in
    unseen (record { tag = who; op = op.Load b class }) tables tables reply
    (from_own tables (λ now. IsReply now (op.Load b class) reply) (λ now told stood.
    inr (
      (λ other called. let bad : true ≡ false = sym (live-at (at now tables) told b k is) ∙ called.1 in cc bad),
      inr (
        (λ other called. barred_not tables.wirings.world b k class is barred called.1),
        inr (
          (λ other called. let bad : Some called.0.0 ≡ None = called.0.1 in cc bad),
          record {
            wire = None;
            by = by;
            added = refl;
            loaded = (k, is, loaded);
            says = ap (λ woke. loaded_with by None woke) (sym (none-woken (at now tables) told class by));
          },
        ),
      ),
    )))
    (λ now told stood. stood.world) (λ past before after e. refl)
    (λ now told stood.
    still_tables now tables (op.Load b class) reply stood (of_services (op.Load b class) reply (λ n since. refl) (λ c. refl) (λ c. refl) refl (λ c. refl) refl refl refl (λ l. refl) refl refl (λ now world same. same)) (quiet_load b class by))
