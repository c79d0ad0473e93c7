-- A name that is new joins those that were seen.
use Rattle.std.proofs.Common.{◌≡◌, ℕ, List, ap, sym, ◌∙◌, rules, subst}
use Rattle.std.specs.Prelude.{◌||◌, true, false, cond}
use Rattle.std.specs.BTreeMap.{is_at}
use Rattle.std.specs.BTreeSet.{contains}
use Rattle.std.specs.Cmp.Lexicographic.{slice_cmp}
use Rattle.std.specs.Ordering.{nat_cmp}
use Rattle.osgi_ops.specs.Properties.{has_twins}
use Rattle.osgi_registry_index.proofs.Twins.{is_seen, none_seen, one_seen, twins_step}
use Rattle.osgi_registry_index.proofs.properties.has_twins_of_many.Goals as goal

pub loop-first-preserved : goal.loop-first-preserved
loop-first-preserved c =
    let names = c.loop-first.names in
    let first = c.in-Some.first.now in
    let unseen : is_seen names first ≡ false = search (rules, c.in_ok-name.ensures.lowercase, c.in_ok-is_new.ensures.added) in
    twins_step names c.insert.new.self first
    (λ q. subst (λ (low : List ℕ). contains (slice_cmp nat_cmp) c.insert.new.self q ≡ cond (is_at (slice_cmp nat_cmp low) q) true (contains (slice_cmp nat_cmp) names q)) c.in_ok-name.ensures.lowercase (c.in_ok-is_new.ensures.updates.0 q))
    (has_twins c.args.properties.now) c.in-Some.rest.now unseen
    (c.loop-first.invariant ∙ ap (λ l. one_seen names l || has_twins l) c.in-Some.ensures.cases.0)

pub loop-first-init : goal.loop-first-init
loop-first-init c = ap (λ b. b || has_twins c.args.properties.now) (sym (none_seen c.new-names.result c.args.properties.now c.new-names.ensures.empty))
