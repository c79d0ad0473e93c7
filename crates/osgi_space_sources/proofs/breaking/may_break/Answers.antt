-- Who sees no disputed package clashes with none.
use Rattle.std.proofs.Common.{ℕ, List, sym, subst, Contains}
use Rattle.osgi_space_sources.specs.computed.Amongst.{IsAmong}
use Rattle.osgi_space_sources.specs.computed.Clashes.{HasWires, KeepsUsesAmong}
use Rattle.osgi_space_sources.specs.computed.Disputes.{IsDisputed}
use Rattle.osgi_space_sources.specs.computed.RowSources.{Clash, Implied}
use Rattle.osgi_space_sources.specs.declared.given.Given.{Given}
use Rattle.osgi_space_sources.specs.laws.Adding.{any-of}
use Rattle.osgi_space_sources.specs.laws.Following.{none-implied}
use Rattle.osgi_space_sources.proofs.Agreeing.{agrees-unless}
use Rattle.osgi_space_sources.proofs.Alone.{agrees-with-itself}
use Rattle.osgi_space_sources.proofs.Whole.{true-unless}
use Rattle.osgi_space_sources.proofs.breaking.may_break.Goals as goal

pub returns-then-not-has : goal.returns-then-not-has
returns-then-not-has c =
    let R = c.args.rows.now in
    let A = IsAmong c.args.among in
    let r = c.args.revision in
    let away : ¬ A r = λ there. let yes = c.has.ensures.among.1 there in let no = c.if-not-has.true in cc in
    let keeps : KeepsUsesAmong R A r = λ e u implied clash. none-implied R A r away (record { «package» = u; source = e }) implied in
    record { may = λ breaks. absurd (breaks keeps) }

pub returns-then-not-has_wires : goal.returns-then-not-has_wires
returns-then-not-has_wires c =
    let R = c.args.rows.now in
    let r = c.args.revision in
    let none : ¬ HasWires R r = λ has. let yes = c.has_wires.ensures.wires.1 has in let no = c.if-not-has_wires.true in cc in
    record { may = λ breaks. absurd (breaks (agrees-with-itself R r none (IsAmong c.args.among))) }

pub returns : goal.returns
returns c =
    let R = c.args.rows.now in
    let A = IsAmong c.args.among in
    let r = c.args.revision in
    let disputed = c.args.disputed.now in
    let D : Given → Type 0 = λ g. IsDisputed disputed g.package in
    record {
      may = λ breaks. true-unless c.has_disputed.result (λ none.
          let away : (e u : ℕ) → Implied R A r e u → Clash R r e u → ¬ IsDisputed disputed u = λ e u implied clash is.
          let s : Given = record { «package» = u; source = clash.ours } in
          let at : Contains c.as_slice.result.now s = subst (λ (xs : List Given). Contains xs s) (sym c.as_slice.ensures.value) ((c.in_ok-givens.ensures.sources s).1 clash.ours_in) in
          none (c.has_disputed.ensures.disputed.1 (any-of D c.as_slice.result.now s at is)) in
          breaks (agrees-unless R disputed c.requires.disputed A r away));
    }
