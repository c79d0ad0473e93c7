-- All wires are noted with their ends.
use Rattle.std.proofs.Common.{ℕ, List, Contains, inl, inr, sym, subst}
use Rattle.osgi_space_rows.specs.Rows.{Imports, no_rows}
use Rattle.osgi_space_rows.specs.declared.rows.Import.{Import}
use Rattle.osgi_space_rows.specs.declared.rows.Required.{Required}
use Rattle.osgi_space_sources.specs.computed.Disputes.{IsNotedEnd, IsNoted}
use Rattle.osgi_space_sources.specs.laws.Noted.{extends-then, noted-more, none-noted}
use Rattle.osgi_space_sources.proofs.disputed.possible_sources.Goals as goal

pub returns : goal.returns
returns c =
    let R = c.args.rows.now in
    let none = c.new-possible.result in
    let made = c.note_bundle_wires.new.possible in
    let more = c.note_bundle_wires.ensures.extends in
    let extends = extends-then R c.note_package_wires.ensures.extends more in
    let import : (r p x : ℕ) → Imports R r p x → IsNoted made p x × IsNotedEnd made.disputed r × IsNotedEnd made.disputed x = λ r p x at.
    let done = c.in_ok-note_package_wires.ensures.noted r p x (subst (λ (xs : List Import). Contains xs (record { revision = r; imported = p; provider = x })) (sym c.all.ensures.rows) at) in
    (more.sources p x done.0, more.ends r done.1, more.ends x done.2) in
    let bundle : (row : Required) → Contains R.required row → IsNotedEnd made.disputed row.revision × IsNotedEnd made.disputed row.provider = λ row at.
    c.in_ok-note_bundle_wires.ensures.ends row (subst (λ (xs : List Required). Contains xs row) (sym c.all-2.ensures.rows) at) in
    record {
      noted = noted-more no_rows R none made (none-noted none) extends
          (λ x end. inr (elim end [
            | inl wires ↦ elim wires [ inl (p, y, at) ↦ (import x p y at).1 | inr (b, q) ↦ (bundle (record { revision = x; provider = b; reexport = q.0 }) q.1).0 ]
            | inr to ↦ elim to [ inl (r, p, at) ↦ (import r p x at).2 | inr (r, q) ↦ (bundle (record { revision = r; provider = x; reexport = q.0 }) q.1).1 ]
          ]))
          (λ r p x at. inr (import r p x at).0)
          (λ x p end has. absurd (c.new-possible.ensures.no_end x end));
    }
