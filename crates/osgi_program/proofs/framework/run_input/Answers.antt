-- The session's history is the machine's, which replays under the limits and the depot that were read, sound at every step.
use Rattle.std.proofs.Common.{◌≡◌, ap, sym, subst, ◌∙◌, rules}
use Rattle.osgi_core.specs.Sound.{IsSoundlyTold}
use Rattle.osgi_ops.specs.Settings.{bounds_of, Setting, setting_of}
use Rattle.osgi_ops.specs.declared.depot.Depot.{Depot}
use Rattle.osgi_program.proofs.Closing.{as_told}
use Rattle.osgi_session.specs.Scripts.{sections_of}
use Rattle.osgi_program.proofs.framework.run_input.Goals as goal

pub returns-clause-run : goal.returns-clause-run
returns-clause-run g c =
    let machine = c.in_ok-ran.core in
    let stored : Depot = c.into_parts-stored.result.0 in
    let depot : Depot = c.into_parts-depot.result.0 in
    let entries = c.into_parts-depot.result.1 in
    let kept : machine.setting ≡ setting_of c.args.limits stored = c.in_ok-ran.ensures.setting ∙ c.in_ok-core.ensures.setting in
    let rows : stored.rows ≡ depot.rows = sym (c.into_parts-depot.ensures.depot ∙ ap (λ (s : Setting). s.depot) kept) in
    let all : c.in_ok-folders.folders.depot.rows ≡ depot.rows = ap (λ (d : Depot). d.rows) (sym c.into_parts-stored.ensures.depot) ∙ rows in
    let setting : machine.setting ≡ record { bounds = bounds_of c.args.limits; depot = depot.rows } = kept ∙ (λ i. record { bounds = bounds_of c.args.limits; depot = rows i }) in
    let bounds = bounds_of c.args.limits in
    let told = subst (λ (s : Setting). IsSoundlyTold s entries machine.world) setting c.into_parts-depot.ensures.sound in
    record {
      lines = search rules;
      depot = rw (c.items.ensures.items, all, sym c.into_parts-stored.ensures.scripts) at c.in_ok-folders.ensures.depot;
      legal = (machine.world, told.replayed);
      sound = told.sound;
      runs = rw (c.items-2.ensures.items) at (as_told c.in_ok-ran.ran (sections_of c.into_parts-stored.result.1) _ bounds.entries _ machine.entries entries (ap (λ (s : Setting). s.bounds.entries) c.in_ok-core.ensures.setting) c.into_parts-depot.ensures.entries c.in_ok-ran.ensures.lines);
      handings = search rules;
      peeks = c.in_ok-peeks.ensures.empty;
    }
