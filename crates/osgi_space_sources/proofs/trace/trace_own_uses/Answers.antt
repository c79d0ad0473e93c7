-- One use more; what was traced stays so.
use Rattle.std.proofs.Common.{◌≡◌, ℕ, List, get_or, refl, sym, subst, Contains}
use Rattle.std.proofs.lemmas.List.{get_or_default}
use Rattle.osgi_space_rows.specs.Rows.{RowLists, uses_for}
use Rattle.osgi_space_rows.specs.declared.rows.Use.{Use}
use Rattle.osgi_space_sources.specs.computed.Amongst.{IsAmong}
use Rattle.osgi_space_sources.specs.computed.Disputes.{IsDisputed}
use Rattle.osgi_space_sources.specs.computed.RowSources.{Sources}
use Rattle.osgi_space_sources.specs.computed.Traces.{IsTracedTo}
use Rattle.osgi_space_sources.specs.declared.given.Given.{Given}
use Rattle.osgi_space_sources.specs.declared.trace.Trace.{Trace}
use Rattle.osgi_space_sources.specs.laws.Adding.{any-in}
use Rattle.osgi_space_sources.proofs.Rows.{some-use}
use Rattle.osgi_space_sources.proofs.Tracing.{keeps-same, keeps-then, to-kept}
use Rattle.osgi_space_sources.proofs.Whole.{each-more, each-none, each-whole}
use Rattle.osgi_space_sources.proofs.trace.trace_own_uses.Goals as goal

-- the export is traced to the sources of what the row uses
abbrev IsBy : RowLists → (ℕ → Type 0) → (ℕ → Type 0) → Given → Trace → Use → Type 0
IsBy R A D h t row = (x : ℕ) → Sources R h.source row.used x → IsTracedTo R A D t h (record { «package» = row.used; source = x })

pub loop-row-init : goal.loop-row-init
loop-row-init c = record {
  kept = keeps-same c.args.trace.now;
  traced = each-none (IsBy c.args.rows.now (IsAmong c.args.among) (IsDisputed c.args.disputed.now) c.args.export c.args.trace.now) c.of-row-items.result.now;
}

pub loop-row-preserved : goal.loop-row-preserved
loop-row-preserved c =
    let R = c.args.rows.now in
    let A = IsAmong c.args.among in
    let D = IsDisputed c.args.disputed.now in
    let h = c.args.export in
    let rows = c.of-row-items.result.now in
    let i = c.loop-row.row-index in
    let row : Use = get_or rows i (record { owner = 0; exported = 0; used = 0 }) in
    let old = c.loop-row.trace in
    let new = c.trace_use.new.trace in
    record {
      kept = keeps-then c.loop-row.invariant.kept c.in_ok-trace_use.ensures.kept;
      traced = each-more (IsBy R A D h old) (IsBy R A D h new) rows i row c.loop-row-test.true (get_or_default rows i _ row c.loop-row-test.true)
          (λ other by x s. to-kept R A D old new c.in_ok-trace_use.ensures.kept h (record { «package» = other.used; source = x }) (by x s)) c.loop-row.invariant.traced c.in_ok-trace_use.ensures.traced;
    }

pub returns-clause-traced : goal.returns-clause-traced
returns-clause-traced c = λ u x own source.
    let R = c.args.rows.now in
    let A = IsAmong c.args.among in
    let D = IsDisputed c.args.disputed.now in
    let h = c.args.export in
    let t = c.loop-row.trace in
    let rows = c.of-row-items.result.now in
    let P : Use → Type 0 = λ row. row.used ≡ u in
    let some = (some-use R (λ v. v ≡ u) c.args.owner h.package).1 (u, own, refl) in
    let at : Contains rows some.1 = subst (λ (xs : List Use). Contains xs some.1) (sym c.of-row-items.ensures.rows) (any-in P (uses_for R c.args.owner h.package) some) in
    let by = each-whole (IsBy R A D h t) rows c.loop-row.row-index c.loop-row-test.false c.loop-row.invariant.traced some.1 at in
    let Q : ℕ → Type 0 = λ v. Sources R h.source v x → IsTracedTo R A D t h (record { «package» = v; source = x }) in
    subst Q some.4 (by x) source
