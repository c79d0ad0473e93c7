-- What an export uses, it uses by its exporter's own exports or by those of a fragment.
use Rattle.std.proofs.Common.{◌≡◌, inl, inr, ℕ, List, get_or, refl, sym, subst, Contains}
use Rattle.std.proofs.lemmas.List.{get_or_default}
use Rattle.osgi_space_rows.specs.Rows.{RowLists, OwnUse, attached_to}
use Rattle.osgi_space_rows.specs.declared.rows.Attachment.{Attachment}
use Rattle.osgi_space_sources.specs.computed.Amongst.{IsAmong}
use Rattle.osgi_space_sources.specs.computed.Disputes.{IsDisputed}
use Rattle.osgi_space_sources.specs.computed.RowSources.{Sources}
use Rattle.osgi_space_sources.specs.computed.Traces.{IsTracedTo}
use Rattle.osgi_space_sources.specs.declared.given.Given.{Given}
use Rattle.osgi_space_sources.specs.declared.trace.Trace.{Trace}
use Rattle.osgi_space_sources.specs.laws.Adding.{any-in}
use Rattle.osgi_space_sources.proofs.Rows.{some-attached}
use Rattle.osgi_space_sources.proofs.Tracing.{keeps-then, to-kept}
use Rattle.osgi_space_sources.proofs.Whole.{each-more, each-none, each-whole}
use Rattle.osgi_space_sources.proofs.trace.trace_export.Goals as goal

-- the export is traced by what the owner's exports use
abbrev IsBy : RowLists → (ℕ → Type 0) → (ℕ → Type 0) → Given → Trace → ℕ → Type 0
IsBy R A D h t o = (u x : ℕ) → OwnUse R o h.package u → Sources R h.source u x → IsTracedTo R A D t h (record { «package» = u; source = x })

pub loop-row-init : goal.loop-row-init
loop-row-init c = record {
  kept = c.in_ok-trace_own_uses.ensures.kept;
  own = c.in_ok-trace_own_uses.ensures.traced;
  attached = each-none (λ (row : Attachment). IsBy c.args.rows.now (IsAmong c.args.among) (IsDisputed c.args.disputed.now) c.args.export c.trace_own_uses.new.trace row.fragment) c.of-row-items.result.now;
}

pub loop-row-preserved : goal.loop-row-preserved
loop-row-preserved c =
    let R = c.args.rows.now in
    let A = IsAmong c.args.among in
    let D = IsDisputed c.args.disputed.now in
    let h = c.args.export in
    let rows = c.of-row-items.result.now in
    let i = c.loop-row.row-index in
    let row : Attachment = get_or rows i (record { host = 0; fragment = 0 }) in
    let old = c.loop-row.trace in
    let new = c.trace_own_uses-in-loop-row.new.trace in
    let kept = to-kept R A D old new c.in_ok-trace_own_uses-2.ensures.kept h in
    record {
      kept = keeps-then c.loop-row.invariant.kept c.in_ok-trace_own_uses-2.ensures.kept;
      own = λ u x own source. kept (record { «package» = u; source = x }) (c.loop-row.invariant.own u x own source);
      attached = each-more (λ (other : Attachment). IsBy R A D h old other.fragment) (λ (other : Attachment). IsBy R A D h new other.fragment) rows i row c.loop-row-test.true (get_or_default rows i _ row c.loop-row-test.true)
          (λ other by u x own source. kept (record { «package» = u; source = x }) (by u x own source)) c.loop-row.invariant.attached c.in_ok-trace_own_uses-2.ensures.traced;
    }

pub returns-clause-traced : goal.returns-clause-traced
returns-clause-traced c = λ s uses.
    let R = c.args.rows.now in
    let A = IsAmong c.args.among in
    let D = IsDisputed c.args.disputed.now in
    let h = c.args.export in
    let t = c.loop-row.trace in
    let rows = c.of-row-items.result.now in
    let o = uses.0.0 in
    elim uses.0.1 [
      | inl own ↦ c.loop-row.invariant.own s.package s.source (subst (λ p. OwnUse R p h.package s.package) own uses.0.2) uses.1
      | inr attached ↦
          let P : Attachment → Type 0 = λ row. row.fragment ≡ o in
          let some = (some-attached R (λ f. f ≡ o) h.source).1 (o, attached, refl) in
          let at : Contains rows some.1 = subst (λ (xs : List Attachment). Contains xs some.1) (sym c.of-row-items.ensures.rows) (any-in P (attached_to R h.source) some) in
          let by = each-whole (λ (row : Attachment). IsBy R A D h t row.fragment) rows c.loop-row.row-index c.loop-row-test.false c.loop-row.invariant.attached some.1 at in
          by s.package s.source (subst (λ p. OwnUse R p h.package s.package) (sym some.4) uses.0.2) uses.1
    ]
