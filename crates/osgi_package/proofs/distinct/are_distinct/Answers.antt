-- No text stands twice where each was new among those before it.
use Rattle.std.proofs.Common.{◌≢◌, ℕ, List, []}
use Rattle.std.specs.Prelude.{Bool, true, false, AllPairs, IfOk, MatchBool, Result, Ok, Err}
use Rattle.std.specs.BTreeSet.{BTreeSet}
use Rattle.std.specs.declared.alloc.AllocError.{AllocError}
use Rattle.osgi_package.specs.computed.ImportReader.{AreNew}
use Rattle.osgi_package.proofs.ImportReading.{no_packages}
use Rattle.osgi_package.proofs.distinct.are_distinct.Goals as goal

distinct : (seen : BTreeSet (List ℕ)) (texts : List (List ℕ)) (r : Result Bool AllocError) → IfOk r (AreNew seen texts) →
    IfOk r (λ distinct. MatchBool distinct (AllPairs ◌≢◌ texts) (¬ AllPairs ◌≢◌ texts))
distinct seen texts (Ok true) are = are.apart
distinct seen texts (Ok false) twice = twice
distinct seen texts (Err e) are = tt

pub returns : goal.returns
returns c = record {
  distinct = distinct c.add_texts.new.seen c.args.texts.now c.add_texts.result
      (c.add_texts.ensures.new [] (no_packages c.new-seen.result c.new-seen.ensures.empty));
}
