-- Which bundles are resolved, in a world with one more known revision.
use Rattle.std.proofs.Common.{◌≡◌, [], ◌∷◌, ap, ◌∙◌, refl}
use Rattle.std.specs.Prelude.{true, false, cond, ◌==◌, Option, None, Some}
use Rattle.std.specs.Option.{option_map_or, option_or}
use Rattle.std.proofs.lemmas.Bool.{eq-eqb}
use Rattle.std.proofs.lemmas.List.Folds.{find-append}
use Rattle.osgi_base.specs.declared.ids.BundleId.{BundleId}
use Rattle.osgi_base.specs.declared.ids.RevisionId.{RevisionId}
use Rattle.osgi_ops.specs.Resolved.{current_revision, is_current_of, is_in_use, is_resolved}
use Rattle.osgi_ops.specs.Worlds.{with_revision}
use Rattle.osgi_world.specs.declared.revision.Revision.{Revision}
use Rattle.osgi_world.specs.declared.world.Known.{Known}
use Rattle.osgi_world.specs.declared.world.World.{World}

abbrev brings : RevisionId → BundleId → Revision → Known
brings r id revision = record { id = r; bundle = id; current = true; revision = revision }

or_none : {X : Type 0} (o : Option X) → option_or o None ≡ o
or_none None = refl
or_none (Some x) = refl

-- the current revisions of a bundle: that which it had, or the new one
pub current_with : (world : World) (r : RevisionId) (id : BundleId) (revision : Revision) (b : BundleId) →
    current_revision (with_revision world r id revision) b ≡ option_or (current_revision world b) (cond (id.0 == b.0) (Some (brings r id revision)) None)
current_with world r id revision b = find-append (is_current_of b) world.known (brings r id revision ∷ [])

-- that of another bundle stays
pub current_other : (world : World) (r : RevisionId) (id : BundleId) (revision : Revision) (b : BundleId) → (id.0 == b.0) ≡ false → current_revision (with_revision world r id revision) b ≡ current_revision world b
current_other world r id revision b other =
    current_with world r id revision b
    ∙ ap (λ t. option_or (current_revision world b) (cond t (Some (brings r id revision)) None)) other
    ∙ or_none (current_revision world b)

pub resolved_other : (world : World) (r : RevisionId) (id : BundleId) (revision : Revision) (b : BundleId) → (id.0 == b.0) ≡ false → is_resolved (with_revision world r id revision) b ≡ is_resolved world b
resolved_other world r id revision b other = ap (λ o. option_map_or (λ (k : Known). is_in_use world.wirings k.id) o false) (current_other world r id revision b other)

-- the new bundle has it
pub current_new : (world : World) (r : RevisionId) (id : BundleId) (revision : Revision) → current_revision world id ≡ None → current_revision (with_revision world r id revision) id ≡ Some (brings r id revision)
current_new world r id revision none =
    current_with world r id revision id
    ∙ (λ i. option_or (none i) (cond (eq-eqb id.0 id.0 refl i) (Some (brings r id revision)) None))

-- and is not resolved
pub unresolved_new : (world : World) (r : RevisionId) (id : BundleId) (revision : Revision) → current_revision world id ≡ None → is_in_use world.wirings r ≡ false → is_resolved (with_revision world r id revision) id ≡ false
unresolved_new world r id revision none unused =
    ap (λ o. option_map_or (λ (k : Known). is_in_use world.wirings k.id) o false) (current_new world r id revision none) ∙ unused
