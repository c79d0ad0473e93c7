-- The host itself, or a row of a bundle wire.
use Rattle.std.proofs.Common.{inl, inr, sym, ◌∙◌}
use Rattle.osgi_space_sources.proofs.Lengths.{not_empty, some_item}
use Rattle.osgi_resolver_hopeless.proofs.Settling.{row-there, wire-there}
use Rattle.osgi_resolver_hopeless.proofs.offer.may_reach.Goals as goal

pub returns : goal.returns
returns c =
    let R = c.args.rows.now in
    let r = c.args.wired.wire.capability.provider.0 in
    record {
      may = (
        λ t. inr (wire-there R r (λ none. not_empty c.of.result.now c.is_empty.result c.is_empty.ensures t (c.of.ensures.rows ∙ none))),
        λ may. elim may [
          | inl e ↦ absurd (c.if-provider-host.false e)
          | inr some ↦ some_item c.of.result.now c.is_empty.result c.is_empty.ensures (λ none. row-there R r some.0 some.1 (sym c.of.ensures.rows ∙ none))
        ],
      );
    }
