-- One source more.
use Rattle.std.proofs.Common.{inl, inr, refl, List, get_or, sym, subst, Contains}
use Rattle.std.proofs.lemmas.List.{get_or_default}
use Rattle.osgi_space_sources.specs.declared.given.Given.{Given}
use Rattle.osgi_space_sources.proofs.Whole.{each-more, each-none, each-whole}
use Rattle.osgi_space_sources.proofs.breaking.add_leads.Goals as goal

pub loop-source-init : goal.loop-source-init
loop-source-init c = record {
  kept = λ g at. at;
  added = each-none (Contains c.args.found.now) c.of-source-items.result.now;
}

pub loop-source-preserved : goal.loop-source-preserved
loop-source-preserved c =
    let sources = c.of-source-items.result.now in
    let i = c.loop-source.source-index in
    let source : Given = get_or sources i (record { «package» = 0; source = 0 }) in
    let adds = c.in_ok-add.ensures.added in
    record {
      kept = λ g at. (adds.exact g).1 (inl (c.loop-source.invariant.kept g at));
      added = each-more (Contains c.loop-source.found) (Contains c.add.new.self) sources i source c.loop-source-test.true (get_or_default sources i _ source c.loop-source-test.true)
          (λ g at. (adds.exact g).1 (inl at)) c.loop-source.invariant.added ((adds.exact source).1 (inr refl));
    }

pub returns-clause-added : goal.returns-clause-added
returns-clause-added c = λ s under.
    each-whole (Contains c.loop-source.found) c.of-source-items.result.now c.loop-source.source-index c.loop-source-test.false c.loop-source.invariant.added s
    (subst (λ (xs : List Given). Contains xs s) (sym c.of-source-items.ensures.values) under)
