-- One owner more.
use Rattle.std.proofs.lemmas.List.Elements.{All-more}
use Rattle.osgi_base.specs.declared.ids.RevisionId.{RevisionId}
use Rattle.osgi_resolver_decisions.proofs.Owners.{still-all}
use Rattle.osgi_resolver_decisions.specs.computed.Known.{Knows}
use Rattle.osgi_resolver_path.proofs.growing.learn_all.Goals as goal

pub loop-owner-preserved : goal.loop-owner-preserved
loop-owner-preserved c =
    let all = c.args.owners.now in
    let i = c.loop-owner.owner-index in
    let zero : RevisionId = record { 0 = 0 } in
    record {
      kept = still-all _ _ _ c.loop-owner.invariant.kept c.in_ok-learn.ensures.nothing_lost;
      known = All-more (Knows c.learn.new.self) all i zero c.loop-owner-test.true (λ k d h. c.in_ok-learn.ensures.nothing_lost.owners _ (c.loop-owner.invariant.known k d h)) c.in_ok-learn.ensures.known;
    }
