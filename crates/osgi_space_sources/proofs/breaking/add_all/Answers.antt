-- One export more.
use Rattle.std.proofs.Common.{get_or}
use Rattle.std.proofs.lemmas.List.{get_or_default}
use Rattle.osgi_space_sources.specs.computed.Amongst.{IsAmong}
use Rattle.osgi_space_sources.specs.computed.Leads.{StartsWith}
use Rattle.osgi_space_sources.specs.declared.given.Given.{Given}
use Rattle.osgi_space_sources.proofs.Whole.{each-more, each-none, each-whole}
use Rattle.osgi_space_sources.proofs.breaking.add_all.Goals as goal

pub loop-given-init : goal.loop-given-init
loop-given-init c = record {
  kept = λ g at. at;
  added = each-none (StartsWith c.args.rows.now (IsAmong c.args.among) c.args.found.now) c.args.givens.now;
}

pub loop-given-preserved : goal.loop-given-preserved
loop-given-preserved c =
    let R = c.args.rows.now in
    let A = IsAmong c.args.among in
    let givens = c.args.givens.now in
    let i = c.loop-given.given-index in
    let given : Given = get_or givens i (record { «package» = 0; source = 0 }) in
    let kept = c.in_ok-add_start.ensures.kept in
    record {
      kept = λ g at. kept g (c.loop-given.invariant.kept g at);
      added = each-more (StartsWith R A c.loop-given.found) (StartsWith R A c.add_start.new.found) givens i given c.loop-given-test.true (get_or_default givens i _ given c.loop-given-test.true)
          (λ h there among may. kept h (there among may)) c.loop-given.invariant.added c.in_ok-add_start.ensures.added;
    }

pub returns-clause-added : goal.returns-clause-added
returns-clause-added c = each-whole (StartsWith c.args.rows.now (IsAmong c.args.among) c.loop-given.found) c.args.givens.now c.loop-given.given-index c.loop-given-test.false c.loop-given.invariant.added
