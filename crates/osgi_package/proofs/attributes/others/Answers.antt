-- One attribute more is read, and joins the others unless it is the version or the exporter's.
use Rattle.std.proofs.Common.{◌+◌, ap, sym, ◌∙◌, drop}
use Rattle.osgi_package.specs.computed.AttributeReader.{others_of, others_onto}
use Rattle.osgi_package.proofs.Reading.{others_step}
use Rattle.osgi_package.proofs.attributes.others.Goals as goal

pub loop-typed-preserved : goal.loop-typed-preserved
loop-typed-preserved c =
    ap (λ o. others_onto o (others_of (drop (c.loop-typed.typed-index + 1) c.args.attributes.now))) c.in_ok-push_other.ensures.added
    ∙ others_step c.args.attributes.now c.loop-typed.typed-index c.typed-item.result c.in-Some.attribute c.loop-typed.others c.loop-typed-test.true c.typed-item.is
    (sym c.in-Some.is ∙ c.in_ok-attribute.ensures.attribute) c.loop-typed.invariant
