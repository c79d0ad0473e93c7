-- The rows where the stop began stand for the history with its begin.
use Rattle.std.proofs.Common.{◌≡◌, ◌∙◌, Ok, refl, rules}
use Rattle.osgi_base.specs.Verdict.{answers, Gives}
use Rattle.osgi_bundle.specs.Rows.{stop_refusals, rows_begun, StopBegins}
use Rattle.osgi_bundle.specs.Stands.{StandsPut}
use Rattle.osgi_bundle.specs.declared.life.Begun.TheVariants.{Already}
use Rattle.osgi_bundle.specs.laws.Changes.{stands_begun}
use Rattle.osgi_ops.specs.Bundles.{stopping}
use Rattle.osgi_ops.specs.declared.state.TheConstants.{STOPPING}
use Rattle.osgi_bundle.proofs.Begins.{rows_run, stop_apart, stop_possible}
use Rattle.osgi_bundle.proofs.table.Table.begin_stop.Goals as goal

answered : (c : goal.Joined-begun) → Gives (stop_refusals c.args.bundle c.args.self.now.rows) (StopBegins c.args.bundle c.args.self.now.rows) (answers c.in_ok-begun.begun)
answered c = c.in_ok-begun.ensures.answer

put : (c : goal.Joined-begun) → ¬ (c.in_ok-begun.begun ≡ Already) → StandsPut stopping c.args.tag c.args.bundle c.args.self.now c.match-begun.self
put c runs =
    let given = answered c in
    let rows : c.match-begun.self.rows ≡ rows_begun c.args.bundle STOPPING c.args.tag c.args.self.now.rows c.in_ok-begun.begun = search rules in
    let issued : c.match-begun.self.issued ≡ c.args.self.now.issued = search rules in
    stands_begun stopping STOPPING c.args.tag c.args.bundle c.args.self.now c.match-begun.self refl (λ t. refl) (stop_apart c.args.bundle c.args.self.now c.in_ok-begun.begun given)
    (rows ∙ rows_run c.args.bundle STOPPING c.args.tag c.args.self.now.rows c.in_ok-begun.begun runs) issued

pub returns-clause-stands : goal.returns-clause-stands
returns-clause-stands c = put c

pub returns-clause-possible : goal.returns-clause-possible
returns-clause-possible c = λ possible.
    let runs = stop_possible c.args.bundle c.args.self.now.rows (Ok c.in_ok-begun.begun) (answered c) possible in
    (runs, put c runs)
