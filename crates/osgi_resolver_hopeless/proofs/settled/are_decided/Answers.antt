-- The next revision, and the first that is not decided.
use Rattle.std.proofs.Common.{ℕ, get_or}
use Rattle.std.proofs.lemmas.List.{get_or_default}
use Rattle.osgi_space_rules.proofs.Grow.{at_in, each_done, each_step}
use Rattle.osgi_space_rules.proofs.OneValue.{not_true}
use Rattle.osgi_resolver_hopeless.proofs.Answering.{no, yes}
use Rattle.osgi_resolver_path.specs.Standing.{made}
use Rattle.osgi_space_rows.specs.Agree.{id}
use Rattle.osgi_world.specs.Hopeless.{IsDecided}
use Rattle.osgi_resolver_hopeless.proofs.settled.are_decided.Goals as goal

pub loop-revision-init : goal.loop-revision-init
loop-revision-init c = λ P L all n here. elim here [ ]

pub loop-revision-preserved : goal.loop-revision-preserved
loop-revision-preserved c = λ P L all.
    let revisions = c.args.revisions.now in
    let i = c.loop-revision.revision-index in
    let within = c.loop-revision-test.true in
    let n = get_or revisions i 0 in
    let at = get_or_default revisions i 0 n within in
    each_step (λ (m : ℕ). IsDecided P (made P c.args.path.now) (id m)) revisions i n within at (c.loop-revision.invariant P L all)
    ((c.is_decided.ensures.decided P L (all n (at_in revisions i n within at))).0 c.if-not-is_decided.false)

pub returns-then-not-is_decided : goal.returns-then-not-is_decided
returns-then-not-is_decided c = record {
  decided = λ P L all.
      let revisions = c.args.revisions.now in
      let i = c.loop-revision.revision-index in
      let within = c.loop-revision-test.true in
      let n = get_or revisions i 0 in
      let in-it = at_in revisions i n within (get_or_default revisions i 0 n within) in
      no (λ each. not_true _ c.if-not-is_decided.true ((c.is_decided.ensures.decided P L (all n in-it)).1 (each n in-it)));
}

pub returns : goal.returns
returns c = record {
  decided = λ P L all. yes (each_done (λ (m : ℕ). IsDecided P (made P c.args.path.now) (id m)) c.args.revisions.now c.loop-revision.revision-index c.loop-revision-test.false (c.loop-revision.invariant P L all));
}
