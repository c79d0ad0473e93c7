-- How operations change the world: the revisions that are known, and their wirings.
use Rattle.std.specs.Prelude.{◌≡◌, ◌+◌, ◌||◌, not, Bool, if◌then◌else◌, ℕ, List, [], ◌∷◌, ◌++◌, true, false, Option, Some, filter, map, is_some, IsSomeAnd}
use Rattle.osgi_base.specs.declared.ids.BundleId.{BundleId}
use Rattle.osgi_base.specs.declared.ids.RevisionId.{RevisionId}
use Rattle.osgi_ops.specs.Bundles.{lists_bundle, revisions}
use Rattle.osgi_ops.specs.Depots.{stored_revision}
use Rattle.osgi_ops.specs.Dynamic.{IsAddedWhere, world_with_wire}
use Rattle.osgi_ops.specs.Levels.{refresh}
use Rattle.osgi_ops.specs.Moments.{Moment}
use Rattle.osgi_ops.specs.Resolved.{is_current_of, is_in_use, is_resolved}
use Rattle.osgi_ops.specs.Resolving.{Resolves}
use Rattle.osgi_ops.specs.declared.op.Op.{Op}
use Rattle.osgi_ops.specs.declared.op.Op.TheVariants as op
use Rattle.osgi_ops.specs.declared.reply.Reply.{Reply}
use Rattle.osgi_ops.specs.declared.reply.Reply.TheVariants as answer
use Rattle.osgi_ops.specs.declared.rows.WireRow.{WireRow}
use Rattle.osgi_world.specs.Lookups.{bundle_of}
use Rattle.osgi_world.specs.declared.revision.Revision.{Revision}
use Rattle.osgi_world.specs.declared.wiring.Wire.{Wire}
use Rattle.osgi_world.specs.declared.wiring.Wiring.{Wiring}
use Rattle.osgi_world.specs.declared.world.Known.{Known}
use Rattle.osgi_world.specs.declared.world.World.{World}

-- the world with one more revision, the current one of its bundle
abbrev pub with_revision : World → RevisionId → BundleId → Revision → World
with_revision world id bundle revision = record {
  known = world.known ++ record { id = id; bundle = bundle; current = true; revision = revision } ∷ [];
  wirings = world.wirings;
}

-- the revision, no longer current where it was the bundle's current one
abbrev pub passed : BundleId → Known → Known
passed bundle k = if is_current_of bundle k then record k { current = false } else k

-- it is not the bundle's current revision, or it is in use
abbrev pub stays_known : List Wiring → BundleId → Known → Bool
stays_known wirings bundle k = not (is_current_of bundle k) || is_in_use wirings k.id

-- the bundle's revision is current no longer, and forgotten where it is not in use
abbrev pub pended : BundleId → World → World
pended bundle world = record { known = map (passed bundle) (filter (stays_known world.wirings bundle) world.known); wirings = world.wirings }

-- the members' wirings are dropped, and their revisions that are not current are forgotten
abbrev pub dropped : List BundleId → World → World
dropped members world = record {
  known = filter (λ (k : Known). not (lists_bundle members k.bundle.0) || k.current) world.known;
  wirings = filter (λ (g : Wiring). not (lists_bundle members (bundle_of world.known g.revision))) world.wirings;
}

-- the revision that the depot has at the location is known besides, as the bundle's current one. Its id is one more than the number of
-- those brought before
pub record Brings (now : Moment) (bundle : BundleId) (location : List ℕ) (before after : World) : Type 0 where
  pub revision : Revision
  pub read : stored_revision now.setting.depot location ≡ Some revision
  pub is : after ≡ with_revision before (record { 0 = revisions now.before + 1 }) bundle revision

-- the world that a load leaves: where its reply shows a row of a wire, the one before with a wire that the load adds; where it shows
-- none, the one before
pub record IsLeftByLoad (before : World) (bundle : BundleId) (class : List ℕ) (row : Option WireRow) (after : World) : Type 0 where
  pub wire : Option Wire
  pub added : IsAddedWhere before bundle class row wire
  pub is : after ≡ world_with_wire before bundle wire

-- the world that an operation with this reply leaves. An accepted Install of a bundle that was not known brings its revision; an accepted
-- Resolve brings wirings, where the bundle was not resolved; an accepted Update or Uninstall makes the bundle's revision no longer
-- current, and an Update brings another; DropWirings takes the wirings of a refresh; a Load may add a wire. Nothing else changes the world
abbrev pub Leaves : Moment → Op → Reply → World → Type 0
Leaves now (op.Install location) (answer.Bundle bundle false) after = Brings now bundle location now.world after
Leaves now (op.Resolve bundle) (answer.Resolved added) after = Resolves (is_resolved now.world bundle) now bundle added after
Leaves now (op.Update bundle location) answer.Done after = Brings now bundle location (pended bundle now.world) after
Leaves now (op.Uninstall bundle) answer.Done after = after ≡ pended bundle now.world
Leaves now op.DropWirings (answer.Ids ids) after = IsSomeAnd (refresh now.before) (λ r. after ≡ dropped r.members now.world)
Leaves now (op.Load bundle class) (answer.LoadedMore by row wake) after =
    IsLeftByLoad now.world bundle class row after
Leaves now _ _ after = after ≡ now.world

-- the world that an operation with this reply leaves may be another than before; where this is false, it is the same. Of a Resolve it is
-- true exactly where it resolved a bundle
abbrev pub may_change_world : Op → Reply → Bool
may_change_world (op.Install location) (answer.Bundle bundle known) = not known
may_change_world (op.Resolve bundle) (answer.Resolved []) = false
may_change_world (op.Resolve bundle) (answer.Resolved (first ∷ more)) = true
may_change_world (op.Update bundle location) answer.Done = true
may_change_world (op.Uninstall bundle) answer.Done = true
may_change_world op.DropWirings (answer.Ids ids) = true
may_change_world (op.Load bundle class) (answer.LoadedMore by row wake) = is_some row
may_change_world _ _ = false
