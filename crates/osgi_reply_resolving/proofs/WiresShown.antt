-- A list of wires shows what the world has.
use Rattle.std.proofs.Common.{◌≡◌, ℕ, inl, inr, IsSome, List, [], ◌∷◌, sym, ◌∙◌, refl}
use Rattle.std.specs.Prelude.{All, true, false, Option, None, Some}
use Rattle.std.specs.Option.{option_map}
use Rattle.std.proofs.lemmas.List.Elements.{All-cons, All-nil}
use Rattle.osgi_base.specs.declared.ids.BundleId.{BundleId}
use Rattle.osgi_base.specs.declared.ids.RevisionId.{RevisionId}
use Rattle.osgi_legal.specs.Operations.{IsReply}
use Rattle.osgi_ops.specs.Resolved.{current_revision}
use Rattle.osgi_ops.specs.WireRows.{AreWireRows, fragment_row, shown_by, wire_row}
use Rattle.osgi_ops.specs.declared.op.Op.TheVariants as op
use Rattle.osgi_ops.specs.declared.refusal.Refusal.TheVariants.{NoSuchBundle}
use Rattle.osgi_ops.specs.declared.reply.Reply.TheVariants as answer
use Rattle.osgi_ops.specs.declared.rows.WireRow.{WireRow}
use Rattle.osgi_wiring.proofs.Grown.{host-known}
use Rattle.osgi_wiring.proofs.Kept.{find-in}
use Rattle.osgi_wiring.specs.States.{IsKeptWorld, wiring_at}
use Rattle.osgi_world.specs.Lists.{In}
use Rattle.osgi_world.specs.Lookups.{capability_at, known_at, SatisfiesAt}
use Rattle.osgi_world.specs.declared.capability.Capability.{Capability}
use Rattle.osgi_world.specs.declared.revision.Revision.{Revision}
use Rattle.osgi_world.specs.declared.wiring.Wire.{Wire}
use Rattle.osgi_world.specs.declared.wiring.Wiring.{Wiring}
use Rattle.osgi_world.specs.declared.world.Known.{Known}
use Rattle.osgi_world.specs.declared.world.World.{World}
use Rattle.osgi_legal.specs.Quiet.{QuietServices}
use Rattle.osgi_stage.proofs.Current.{dead-at, live-at}
use Rattle.osgi_tables.proofs.Replying.{at, from_own, of_services, replied_refused, still_tables, unseen}
use Rattle.osgi_tables.specs.Replied.{IsAnsweredToAll}
use Rattle.osgi_tables.specs.declared.tables.Tables.{Tables}

-- ---- what the wires name is known

shown : (k : Option Known) (c : Option Capability) (v : Revision) (d : Capability) → option_map (λ (k : Known). k.revision) k ≡ Some v → c ≡ Some d → IsSome (shown_by k c)
shown None c v d provider capability = absurd (cc provider)
shown (Some k) None v d provider capability = absurd (cc capability)
shown (Some k) (Some c) v d provider capability = refl

satisfied_shown : (K : List Known) (w : Wire) → SatisfiesAt K w.requirement w.capability → IsSome (wire_row K w)
satisfied_shown K w s = shown (known_at K w.capability.provider) (capability_at K w.capability.owner w.capability.index) s.provider s.capability s.provider_is s.capability_is

fragment_shown : (o : Option Known) → IsSome o → IsSome (option_map (λ (k : Known). let row : WireRow = record { namespace = []; name = []; bundle = k.bundle; version = k.revision.version; revision = k.id } in row) o)
fragment_shown None is = cc is
fragment_shown (Some k) is = refl

all_of : {X : Type 0} (P : X → Type 0) (xs : List X) → ((x : X) → In x xs → P x) → All P xs
all_of P [] each = All-nil P
all_of P (x ∷ xs) each = All-cons P x xs (each x (inl refl)) (all_of P xs (λ y i. each y (inr i)))

stands_there : (W : World) (r : RevisionId) (g : Wiring) → wiring_at W.wirings r ≡ Some g → In g W.wirings
stands_there W r g is = (find-in _ W.wirings g is).0

pub wires_known : (W : World) (issued : ℕ) (r : RevisionId) (g : Wiring) → IsKeptWorld W issued → Some g ≡ wiring_at W.wirings r → All (λ w. IsSome (wire_row W.known w)) g.wires
wires_known W issued r g kept is =
    all_of (λ w. IsSome (wire_row W.known w)) g.wires (λ w i.
    satisfied_shown W.known w (kept.consistent.satisfied g.revision w (record { wiring = g; stands = stands_there W r g (sym is); revision = refl; has = i })))

pub fragments_known : (W : World) (issued : ℕ) (r : RevisionId) (g : Wiring) → IsKeptWorld W issued → Some g ≡ wiring_at W.wirings r → All (λ f. IsSome (fragment_row W.known f)) g.fragments
fragments_known W issued r g kept is =
    all_of (λ f. IsSome (fragment_row W.known f)) g.fragments (λ f i.
    fragment_shown (known_at W.known f) (host-known W.known f g.revision (kept.consistent.coherent.rules.attached g.revision f (record { wiring = g; stands = stands_there W r g (sym is); revision = refl; has = i }))))

-- ---- the reply

pub wires_missing : (tables : Tables) (b : BundleId) → current_revision tables.wirings.world b ≡ None → IsAnsweredToAll (op.ListWires b) tables (answer.Refused NoSuchBundle)
wires_missing tables b none who =
    replied_refused (record { tag = who; op = op.ListWires b }) tables NoSuchBundle refl
    (from_own tables (λ now. IsReply now (op.ListWires b) (answer.Refused NoSuchBundle)) (λ now told stood. inl (NoSuchBundle, (refl, dead-at (at now tables) told b none), refl)))

quiet_wires : (b : BundleId) (rows fragments : List WireRow) → QuietServices (op.ListWires b) (answer.Wires rows fragments)
quiet_wires b rows fragments = record { registered = λ n since. refl; taken = λ s owner. refl; given = λ s. refl; got = λ u s. refl; let_go = λ u s. refl; cleaned = refl; made = λ tag opened. refl }

pub wires_listed : (tables : Tables) (b : BundleId) (k : Known) (rows fragments : List WireRow) → current_revision tables.wirings.world b ≡ Some k → AreWireRows tables.wirings.world b rows fragments →
    IsAnsweredToAll (op.ListWires b) tables (answer.Wires rows fragments)
wires_listed tables b k rows fragments is are who =
    let reply = answer.Wires rows fragments in
    unseen (record { tag = who; op = op.ListWires b }) tables tables reply
    (from_own tables (λ now. IsReply now (op.ListWires b) reply) (λ now told stood.
    inr ((λ other called. let bad : true ≡ false = sym (live-at (at now tables) told b k is) ∙ called.1 in cc bad), (rows, fragments, refl, are))))
    (λ now told stood. stood.world) (λ past before after e. refl)
    (λ now told stood.
    still_tables now tables (op.ListWires b) reply stood (of_services (op.ListWires b) reply (λ n since. refl) (λ c. refl) (λ c. refl) refl (λ c. refl) refl refl refl (λ l. refl) refl refl (λ now world same. same)) (quiet_wires b rows fragments))
