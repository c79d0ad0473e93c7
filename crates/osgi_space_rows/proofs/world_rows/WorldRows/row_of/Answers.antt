-- The row of a wire, by the capability that it goes to.
use Rattle.std.proofs.Common.{◌≡◌, ◌<◌, ap, sym, ◌∙◌, subst, length}
use Rattle.std.specs.Prelude.{None, Some, true, false}
use Rattle.std.specs.Option.{option_copied}
use Rattle.osgi_world.specs.Decisions.{wired}
use Rattle.osgi_world.specs.Lookups.{capability_at, is_reexport}
use Rattle.osgi_world.specs.Satisfaction.{is_bundle, is_package}
use Rattle.osgi_space_rows.specs.Rows.{with_import, with_required}
use Rattle.osgi_space_rows.specs.Worlds.{WorldLists}
use Rattle.osgi_space_rows.specs.computed.Growing.{RowsAfter}
use Rattle.osgi_space_rows.proofs.Payload.{within-names}
use Rattle.osgi_space_rows.proofs.WireRows.{wire-bundle, wire-none, wire-other, wire-package, wire-unnumbered}
use Rattle.osgi_space_rows.proofs.world_rows.WorldRows.row_of.Goals as goal

pub returns-in_default-clause-agree : goal.returns-in_default-clause-agree
returns-in_default-clause-agree c =
    let K = c.self.inside.known in
    let w = c.args.wire.now in
    let at : capability_at K w.capability.owner w.capability.index ≡ None = sym c.capability.ensures.capability ∙ ap option_copied c.in_default.is in
    subst (λ (world : WorldLists). RowsAfter world (wired c.args.revision w) (λ R. R)) c.self.view_is
    (λ W are. wire-none K c.self.inside.named.names c.self.inside.named.rows W c.args.revision w are at)

pub returns-then-is_bundle-clause-agree : goal.returns-then-is_bundle-clause-agree
returns-then-is_bundle-clause-agree c =
    let K = c.self.inside.known in
    let w = c.args.wire.now in
    let found = c.in-Some.capability.now in
    let at : capability_at K w.capability.owner w.capability.index ≡ Some found = sym c.capability.ensures.capability ∙ ap option_copied c.in-Some.is in
    let bundle : is_bundle found.namespace ≡ true = ap is_bundle (sym c.bytes.ensures.bytes) ∙ sym c.is_bundle.ensures.bundle ∙ c.if-is_bundle.true in
    subst (λ reexport. RowsAfter c.args.self.now (wired c.args.revision w) (λ R. with_required R (record { revision = c.args.revision.0; provider = w.capability.provider.0; reexport = reexport }))) (sym c.is_reexport.ensures.reexport)
    (subst (λ (world : WorldLists). RowsAfter world (wired c.args.revision w) (λ R. with_required R (record { revision = c.args.revision.0; provider = w.capability.provider.0; reexport = is_reexport K w.requirement }))) c.self.view_is
    (λ W are. wire-bundle K c.self.inside.named.names c.self.inside.named.rows W c.args.revision w are found at bundle))

pub returns-then-not-is_package-clause-agree : goal.returns-then-not-is_package-clause-agree
returns-then-not-is_package-clause-agree c =
    let K = c.self.inside.known in
    let w = c.args.wire.now in
    let found = c.in-Some.capability.now in
    let at : capability_at K w.capability.owner w.capability.index ≡ Some found = sym c.capability.ensures.capability ∙ ap option_copied c.in-Some.is in
    let no_bundle : is_bundle found.namespace ≡ false = ap is_bundle (sym c.bytes.ensures.bytes) ∙ sym c.is_bundle.ensures.bundle ∙ c.if-is_bundle.false in
    let no_package : is_package found.namespace ≡ false = ap is_package (sym c.bytes-2.ensures.bytes) ∙ sym c.is_package.ensures.«package» ∙ c.if-not-is_package.true in
    subst (λ (world : WorldLists). RowsAfter world (wired c.args.revision w) (λ R. R)) c.self.view_is
    (λ W are. wire-other K c.self.inside.named.names c.self.inside.named.rows W c.args.revision w are found at no_bundle no_package)

pub returns-in-Some-number-clause-numbered : goal.returns-in-Some-number-clause-numbered
returns-in-Some-number-clause-numbered c =
    subst (λ (world : WorldLists). c.in-Some-number.imported < length world.names) c.self.view_is
    (within-names c.self.inside.named.names c.in-Some.capability.now.name c.in-Some-number.imported c.in-Some-number.ensures.number)

pub returns-in-Some-number-clause-agree : goal.returns-in-Some-number-clause-agree
returns-in-Some-number-clause-agree c =
    let K = c.self.inside.known in
    let w = c.args.wire.now in
    let found = c.in-Some.capability.now in
    let at : capability_at K w.capability.owner w.capability.index ≡ Some found = sym c.capability.ensures.capability ∙ ap option_copied c.in-Some.is in
    let of_package : is_package found.namespace ≡ true = ap is_package (sym c.bytes-2.ensures.bytes) ∙ sym c.is_package.ensures.«package» ∙ c.if-not-is_package.false in
    subst (λ (world : WorldLists). RowsAfter world (wired c.args.revision w) (λ R. with_import R (record { revision = c.args.revision.0; imported = c.in-Some-number.imported; provider = w.capability.provider.0 }))) c.self.view_is
    (λ W are. wire-package K c.self.inside.named.names c.self.inside.named.rows W c.args.revision w are found at of_package c.in-Some-number.imported c.in-Some-number.ensures.number)

pub returns-in-None-clause-agree : goal.returns-in-None-clause-agree
returns-in-None-clause-agree c =
    let K = c.self.inside.known in
    let w = c.args.wire.now in
    let found = c.in-Some.capability.now in
    let at : capability_at K w.capability.owner w.capability.index ≡ Some found = sym c.capability.ensures.capability ∙ ap option_copied c.in-Some.is in
    let of_package : is_package found.namespace ≡ true = ap is_package (sym c.bytes-2.ensures.bytes) ∙ sym c.is_package.ensures.«package» ∙ c.if-not-is_package.false in
    subst (λ (world : WorldLists). RowsAfter world (wired c.args.revision w) (λ R. R)) c.self.view_is
    (λ W are. wire-unnumbered K c.self.inside.named.names c.self.inside.named.rows W c.args.revision w are found at c.self.invariant of_package c.in-None.ensures.number)
