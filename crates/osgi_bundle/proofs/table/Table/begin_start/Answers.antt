-- The rows where the start began stand for the history with its begin.
use Rattle.std.proofs.Common.{◌≡◌, ◌∙◌, Ok, refl, rules}
use Rattle.osgi_base.specs.Verdict.{answers, Gives}
use Rattle.osgi_bundle.specs.Rows.{start_refusals, rows_begun, StartBegins}
use Rattle.osgi_bundle.specs.Stands.{StandsPut}
use Rattle.osgi_bundle.specs.declared.life.Begun.TheVariants.{Already}
use Rattle.osgi_bundle.specs.laws.Changes.{stands_begun}
use Rattle.osgi_ops.specs.Bundles.{starting}
use Rattle.osgi_ops.specs.declared.state.TheConstants.{STARTING}
use Rattle.osgi_bundle.proofs.Begins.{rows_run, start_apart, start_possible}
use Rattle.osgi_bundle.proofs.table.Table.begin_start.Goals as goal

answered : (c : goal.Joined-begun) → Gives (start_refusals c.args.bundle c.args.self.now.rows) (StartBegins c.args.bundle c.args.self.now.rows) (answers c.in_ok-begun.begun)
answered c = c.in_ok-begun.ensures.answer

put : (c : goal.Joined-begun) → ¬ (c.in_ok-begun.begun ≡ Already) → StandsPut starting c.args.tag c.args.bundle c.args.self.now c.match-begun.self
put c runs =
    let given = answered c in
    let rows : c.match-begun.self.rows ≡ rows_begun c.args.bundle STARTING c.args.tag c.args.self.now.rows c.in_ok-begun.begun = search rules in
    let issued : c.match-begun.self.issued ≡ c.args.self.now.issued = search rules in
    stands_begun starting STARTING c.args.tag c.args.bundle c.args.self.now c.match-begun.self refl (λ t. refl) (start_apart c.args.bundle c.args.self.now c.in_ok-begun.begun given runs)
    (rows ∙ rows_run c.args.bundle STARTING c.args.tag c.args.self.now.rows c.in_ok-begun.begun runs) issued

pub returns-clause-stands : goal.returns-clause-stands
returns-clause-stands c = put c

pub returns-clause-possible : goal.returns-clause-possible
returns-clause-possible c = λ possible.
    let runs = start_possible c.args.bundle c.args.self.now.rows (Ok c.in_ok-begun.begun) (answered c) possible in
    (runs, put c runs)
