-- One use less.
use Rattle.std.proofs.Common.{◌≡◌, [], ◌∷◌, ◌++◌, ap, sym, subst, ◌∙◌, refl, nat_eq, rules}
use Rattle.std.specs.Prelude.{false, None, Some}
use Rattle.std.specs.Map.{lookup, values_of}
use Rattle.std.proofs.lemmas.Bool.{OnFalse_at, OnFalse_from, OnTrue_at, OnTrue_from}
use Rattle.osgi_registry.proofs.Changed.{kept_set, rows_set, written_same}
use Rattle.osgi_registry.proofs.Covered.{covered_returned, covered_set}
use Rattle.osgi_registry.proofs.Current.{current_kept}
use Rattle.osgi_registry.proofs.Entries.{found_under, row_absent, row_present}
use Rattle.osgi_registry.proofs.Keys.{found_by, set_by}
use Rattle.osgi_registry.proofs.Placed.{index_kept, only_one}
use Rattle.osgi_ops.specs.declared.op.Op.TheVariants as op
use Rattle.osgi_ops.specs.declared.reply.Reply.TheVariants as answers
use Rattle.osgi_registry.specs.Rows.{row_at, used_less}
use Rattle.osgi_registry.specs.Stands.{StandsFor}
use Rattle.osgi_registry.specs.laws.Standing.{all_held, stands_ungot, stands_unreturned}
use Rattle.osgi_registry_index.specs.Places.{classes_in}
use Rattle.osgi_registry_index.specs.Belonging.{bundles_in}
use Rattle.osgi_registry_index.specs.Slots.{slots_in}
use Rattle.osgi_registry.proofs.registry.Registry.unget.Goals as goal

pub returns-in_default-clause-answer : goal.returns-in_default-clause-answer
returns-in_default-clause-answer c =
    let none : row_at c.args.service c.args.self.now.rows ≡ None = row_absent _ c.args.service _ _ (ap (λ r. r.rows) c.self.view_is) c.self.invariant.rows.under (found_by c.args.service.0 _ _ c.in_default.ensures.value) in
    rw none refl

pub invariant_of-self-2 : goal.invariant_of-self-2
invariant_of-self-2 c =
    let found : lookup (nat_eq c.args.service.0) c.self.inside.services.entries ≡ Some c.in-Some.held.now = found_by c.args.service.0 _ _ c.in-Some.ensures.value in
    rw (set_by c.args.service.0 _ _ _ (c.get_mut.follows.holds c.take_use.new.self).0)
    (record {
      rows = kept_set _ c.args.service.0 _ _ c.self.invariant.rows (ap (λ s. s.service.0) c.take_use.ensures.service ∙ sym (found_under _ _ _ _ c.self.invariant.rows.under found).key);
      index = index_kept _ c.args.service c.in-Some.held.now c.take_use.new.self _ (classes_in c.self.inside.index) c.self.invariant.rows c.self.invariant.index c.take_use.ensures.service found;
      current = current_kept _ c.args.service c.in-Some.held.now c.take_use.new.self _ (slots_in c.self.inside.slots) c.self.invariant.rows c.self.invariant.current c.take_use.ensures.service found;
      covered =
          covered_set (bundles_in c.self.inside.bundles) c.args.service.0 c.in-Some.held.now c.take_use.new.self c.self.inside.services.entries found
          (covered_returned (bundles_in c.self.inside.bundles) c.args.user c.in-Some.held.now c.take_use.new.self c.take_use.result c.take_use.ensures.answer c.take_use.ensures.used c.take_use.ensures.unchanged) c.self.invariant.covered;
    })

pub returns-clause-answer : goal.returns-clause-answer
returns-clause-answer c =
    let some : row_at c.args.service c.args.self.now.rows ≡ Some c.in-Some.held.now = row_present _ c.args.service _ _ _ (ap (λ r. r.rows) c.self.view_is) c.self.invariant.rows.under (found_by c.args.service.0 _ _ c.in-Some.ensures.value) in
    rw some c.take_use.ensures.answer

pub returns-clause-rows : goal.returns-clause-rows
returns-clause-rows c =
    OnTrue_from c.take_use.result _
    (λ yes.
    rw (set_by c.args.service.0 _ _ _ (c.get_mut.follows.holds c.take_use.new.self).0, ← c.self.view_is)
    (rows_set _ c.args.service c.in-Some.held.now c.take_use.new.self (used_less c.args.user) _ c.self.invariant.rows.under c.self.invariant.rows.rising (sym (OnTrue_at yes c.take_use.ensures.used)) (found_by c.args.service.0 _ _ c.in-Some.ensures.value)))

pub returns-clause-unchanged : goal.returns-clause-unchanged
returns-clause-unchanged c =
    OnFalse_from c.take_use.result _
    (λ no.
    ap (λ es. record { rows = values_of es; issued = c.self.inside.issued })
    (written_same c.args.service.0 c.in-Some.held.now c.take_use.new.self _ _ (OnFalse_at no c.take_use.ensures.unchanged) c.in-Some.ensures.value (c.get_mut.follows.holds c.take_use.new.self).0)
    ∙ c.self.view_is)

pub returns-in_default-clause-unchanged : goal.returns-in_default-clause-unchanged
returns-in_default-clause-unchanged c = search rules

pub returns-in_default-clause-stands : goal.returns-in_default-clause-stands
returns-in_default-clause-stands c = λ history tag stands.
    subst (λ r. StandsFor (history ++ record { tag = tag; op = op.Unget c.args.user c.args.service; reply = answers.Flag false } ∷ []) r) (sym (returns-in_default-clause-unchanged c))
    (stands_unreturned history c.args.self.now tag c.args.user c.args.service stands)

pub returns-clause-stands : goal.returns-clause-stands
returns-clause-stands c = λ history tag stands.
    let found : lookup (nat_eq c.args.service.0) c.self.inside.services.entries ≡ Some c.in-Some.held.now = found_by c.args.service.0 _ _ c.in-Some.ensures.value in
    stands_ungot history c.args.self.now _ tag c.args.user c.args.service c.take_use.result stands (returns-clause-rows c) (returns-clause-unchanged c) (ap (λ r. r.issued) c.self.view_is)
    (λ held.
    all_held c.args.user c.args.service c.in-Some.held.now c.args.self.now.rows c.take_use.result c.take_use.ensures.answer held
    (rw (← c.self.view_is) (only_one c.self.inside.issued c.args.service c.in-Some.held.now c.self.inside.services.entries c.self.invariant.rows.under c.self.invariant.rows.rising found)))
