-- One use less of the user's.
use Rattle.std.proofs.Common.{◌≡◌, ◌-◌, ap, sym, ◌∙◌, nat_eq}
use Rattle.std.specs.Prelude.{Some, unwrap_or}
use Rattle.std.specs.Map.{lookup, set_value}
use Rattle.std.proofs.lemmas.Bool.{OnFalse_at, OnFalse_from, OnTrue_from}
use Rattle.std.proofs.lemmas.Map.Steps.{set_value_same}
use Rattle.osgi_registry_index.proofs.Counting.{counted_by_set}
use Rattle.osgi_registry_index.specs.Counts.{with_count}
use Rattle.osgi_registry_index.proofs.others.take_from.Goals as goal

pub returns-clause-taken : goal.returns-clause-taken
returns-clause-taken c =
    let found : lookup (nat_eq c.args.user.0) c.args.uses.now.entries ≡ Some c.in-Some.count.now = sym c.in-Some.ensures.value in
    OnTrue_from c.take_one.result _
    (λ _. (c.get_mut.follows.holds _).0 ∙ ap (set_value (nat_eq c.args.user.0) c.args.uses.now.entries) c.take_one.ensures.taken
    ∙ counted_by_set c.args.user _ (c.in-Some.count.now - 1) _ found
    ∙ ap (λ o. with_count c.args.user (unwrap_or o 0 - 1) c.args.uses.now.entries) (sym found))

pub returns-clause-unchanged : goal.returns-clause-unchanged
returns-clause-unchanged c =
    OnFalse_from c.take_one.result _
    (λ no. (c.get_mut.follows.holds _).0 ∙ ap (set_value (nat_eq c.args.user.0) c.args.uses.now.entries) (OnFalse_at no c.take_one.ensures.unchanged)
    ∙ set_value_same (nat_eq c.args.user.0) c.args.uses.now.entries _ (sym c.in-Some.ensures.value))
