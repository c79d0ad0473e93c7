-- How keys are ordered.
use Rattle.std.specs.Prelude.{ℕ, List, None, Some, if◌then◌else◌}
use Rattle.std.specs.Option.{option_cmp}
use Rattle.std.specs.Ordering.{nat_cmp, on, then_cmp}
use Rattle.std.specs.declared.cmp.Ordering.{Ordering}
use Rattle.osgi_base.specs.computed.Texts.{text_cmp}
use Rattle.osgi_base.specs.declared.ids.RevisionId.{RevisionId}
use Rattle.osgi_space_rules.specs.declared.keys.Attachment.{Attachment}
use Rattle.osgi_space_rules.specs.declared.keys.PackageAt.{PackageAt}
use Rattle.osgi_space_rules.specs.declared.keys.Place.{Place}
use Rattle.osgi_space_rules.specs.declared.keys.Provided.{Provided}
use Rattle.osgi_space_rules.specs.declared.keys.WireKey.{WireKey}
use Rattle.osgi_space_rules.specs.declared.keys.WiredPlace.{WiredPlace}
use Rattle.osgi_world.specs.Lookups.{is_multiple}
use Rattle.osgi_world.specs.declared.wiring.CapRef.{CapRef}
use Rattle.osgi_world.specs.declared.wiring.ReqRef.{ReqRef}
use Rattle.osgi_world.specs.declared.wiring.Wire.{Wire}
use Rattle.osgi_world.specs.declared.world.Known.{Known}

abbrev pub revision_cmp : RevisionId → RevisionId → Ordering
revision_cmp = on (λ r. r.0) nat_cmp

abbrev pub attachment_cmp : Attachment → Attachment → Ordering
attachment_cmp = then_cmp (on (λ a. a.host) revision_cmp) (on (λ a. a.fragment) revision_cmp)

abbrev pub place_cmp : Place → Place → Ordering
place_cmp = then_cmp (on (λ p. p.owner) revision_cmp) (on (λ p. p.index) nat_cmp)

abbrev pub wired_cmp : WiredPlace → WiredPlace → Ordering
wired_cmp = then_cmp (on (λ p. p.revision) revision_cmp) (on (λ p. p.requirement) place_cmp)

abbrev pub attachment : RevisionId → RevisionId → Attachment
attachment host fragment = record { host = host; fragment = fragment }

abbrev pub wired_place : RevisionId → ReqRef → WiredPlace
wired_place r q = record { revision = r; requirement = record { owner = q.owner; index = q.index } }

abbrev pub package_cmp : PackageAt → PackageAt → Ordering
package_cmp = then_cmp (on (λ p. p.revision) revision_cmp) (on (λ p. p.name) text_cmp)

abbrev pub package_at : RevisionId → List ℕ → PackageAt
package_at r p = record { revision = r; name = p }

abbrev pub provided_cmp : Provided → Provided → Ordering
provided_cmp = then_cmp (on (λ p. p.provider) revision_cmp) (on (λ p. p.place) place_cmp)

abbrev pub wire_cmp : WireKey → WireKey → Ordering
wire_cmp = then_cmp (on (λ k. k.requirement) place_cmp) (on (λ k. k.capability) (option_cmp provided_cmp))

abbrev pub place_at : RevisionId → ℕ → Place
place_at owner index = record { owner = owner; index = index }

abbrev pub provided : CapRef → Provided
provided c = record { provider = c.provider; place = place_at c.owner c.index }

abbrev pub wire_key : List Known → Wire → WireKey
wire_key K w = record { requirement = place_at w.requirement.owner w.requirement.index; capability = if is_multiple K w.requirement then Some (provided w.capability) else None }
