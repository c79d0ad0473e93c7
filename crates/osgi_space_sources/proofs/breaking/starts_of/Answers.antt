-- What one revision more sees.
use Rattle.std.proofs.Common.{ℕ, List, get_or}
use Rattle.std.proofs.lemmas.List.{get_or_default}
use Rattle.osgi_space_rows.specs.Rows.{RowLists}
use Rattle.osgi_space_sources.specs.computed.Amongst.{IsAmong}
use Rattle.osgi_space_sources.specs.computed.Givens.{IsSeen}
use Rattle.osgi_space_sources.specs.computed.Leads.{StartsWith}
use Rattle.osgi_space_sources.specs.declared.given.Given.{Given}
use Rattle.osgi_space_sources.proofs.Whole.{each-more, each-none, each-whole}
use Rattle.osgi_space_sources.proofs.breaking.starts_of.Goals as goal

abbrev Starts : RowLists → (ℕ → Type 0) → List Given → ℕ → Type 0
Starts R A found n = (h : Given) → IsSeen R n h → StartsWith R A found h

pub loop-revision-init : goal.loop-revision-init
loop-revision-init c = each-none (Starts c.args.rows.now (IsAmong c.args.among) c.new-found.result) c.args.revisions.now

pub loop-revision-preserved : goal.loop-revision-preserved
loop-revision-preserved c =
    let R = c.args.rows.now in
    let A = IsAmong c.args.among in
    let revisions = c.args.revisions.now in
    let i = c.loop-revision.revision-index in
    let n = get_or revisions i 0 in
    let kept = c.in_ok-add_seen.ensures.kept in
    each-more (Starts R A c.loop-revision.found) (Starts R A c.add_seen.new.found) revisions i n c.loop-revision-test.true (get_or_default revisions i 0 n c.loop-revision-test.true)
    (λ m all h seen among may. kept h (all h seen among may)) c.loop-revision.invariant c.in_ok-add_seen.ensures.added

pub returns : goal.returns
returns c = record {
  starts = λ n h at.
      each-whole (Starts c.args.rows.now (IsAmong c.args.among) c.loop-revision.found) c.args.revisions.now c.loop-revision.revision-index c.loop-revision-test.false c.loop-revision.invariant n at h;
}
