-- One more entry, and all of them.
use Rattle.std.proofs.Common.{rules, ◌≡◌, ◌∙◌, arith}
use Rattle.std.specs.Prelude.{cond}
use Rattle.osgi_history.proofs.Lives.{count-next, live-all, live-next, one-more}
use Rattle.osgi_history.proofs.states.is_live.Goals as goal

pub loop-entry-preserved : goal.loop-entry-preserved
loop-entry-preserved c =
    let entries = c.args.entries.now in
    let i = c.loop-entry.entry-index in
    let e = c.entry-item.result in
    let so_far = c.loop-entry.invariant in
    let more : c.from-earlier.result ≡ cond c.installs.result 1 0 = search rules in
    record {
      live =
          c.is_live_after-live.ensures.live
          ∙ live-next c.args.bundle entries i e c.loop-entry.live c.loop-entry.earlier c.loop-entry-test.true c.entry-item.is so_far.live so_far.earlier;
      earlier = count-next entries i e c.loop-entry.earlier c.from-earlier.result c.installs.result c.loop-entry-test.true c.entry-item.is c.installs.ensures.installs more so_far.earlier;
      few = omega (arith, so_far.few, one-more c.from-earlier.result c.installs.result more);
    }

pub returns : goal.returns
returns c =
    record {
      live = c.loop-entry.invariant.live ∙ live-all c.args.bundle c.args.entries.now c.loop-entry.entry-index c.requires.other c.loop-entry-test.false;
    }
