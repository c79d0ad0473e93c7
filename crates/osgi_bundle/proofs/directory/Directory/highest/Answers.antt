-- The last key before those of longer names.
use Rattle.std.proofs.Common.{◌≡◌, ap, ◌∙◌, rules, subst}
use Rattle.std.specs.Prelude.{true, false, not}
use Rattle.std.specs.BTreeMap.Range.{IsRangeOf}
use Rattle.std.specs.declared.ops.Bound.TheVariants.{Excluded, Unbounded}
use Rattle.std.proofs.lemmas.Slice.Eq.{bytes_eq-Decides}
use Rattle.osgi_bundle.specs.computed.Kept.{name_cmp}
use Rattle.osgi_bundle.proofs.Highest.{highest_is, none_before, none_is}
use Rattle.osgi_bundle.proofs.directory.Directory.highest.Goals as goal

pub returns : goal.returns
returns c =
    let h = subst (λ end. IsRangeOf name_cmp Unbounded (Excluded end) c.args.self.now.names c.range.result) c.in_ok-end.ensures.after (c.range.ensures.in_range tt) in
    let same : c.in-Some.key.now.name ≡ c.args.name.now = search rules in
    record { highest = highest_is c.args.self.now.names c.args.name.now c.in-Some.key.now c.in-Some.field-0-1.now (h.3 _ _ c.in-Some.ensures.steps) (h.4 _ _ c.in-Some.ensures.steps) same }

pub returns-then-ne : goal.returns-then-ne
returns-then-ne c =
    let h = subst (λ end. IsRangeOf name_cmp Unbounded (Excluded end) c.args.self.now.names c.range.result) c.in_ok-end.ensures.after (c.range.ensures.in_range tt) in
    let other : ¬ (c.in-Some.key.now.name ≡ c.args.name.now) = λ same. let bad : true ≡ false = c.if-ne.ensures ∙ ap not ((bytes_eq-Decides c.in-Some.key.now.name c.args.name.now).1 same) in cc bad in
    record { highest = none_is c.args.self.now.names c.args.name.now c.in-Some.key.now c.in-Some.field-0-1.now (h.3 _ _ c.in-Some.ensures.steps) (h.4 _ _ c.in-Some.ensures.steps) other }

pub returns-in_default : goal.returns-in_default
returns-in_default c =
    let h = subst (λ end. IsRangeOf name_cmp Unbounded (Excluded end) c.args.self.now.names c.range.result) c.in_ok-end.ensures.after (c.range.ensures.in_range tt) in
    record { highest = none_before c.args.self.now.names c.args.name.now (h.5 c.in_default.ensures.steps.0) }
