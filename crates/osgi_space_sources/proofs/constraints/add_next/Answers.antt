-- By the wires for the package where there are any, and by all its sources where there are none.
use Rattle.std.proofs.Common.{◌≡◌, ◌==◌, ◌↔◌, inl, List, length, sym, ◌∙◌, ap, subst, Contains}
use Rattle.osgi_space_rows.specs.Rows.{imports_for}
use Rattle.osgi_space_rows.specs.declared.rows.Import.{Import}
use Rattle.osgi_space_sources.specs.computed.Adds.{Adds}
use Rattle.osgi_space_sources.specs.computed.Amongst.{IsAmong}
use Rattle.osgi_space_sources.specs.computed.Givens.{IsSourceOf}
use Rattle.osgi_space_sources.specs.computed.Pairs.{IsNext, IsUseOfSome, IsUseOfWired}
use Rattle.osgi_space_sources.specs.declared.given.Given.{Given}
use Rattle.osgi_space_sources.specs.laws.Adding.{adds-same}
use Rattle.osgi_space_sources.proofs.Alone.{some-row}
use Rattle.osgi_space_sources.proofs.Carried.{some-of, wired-next}
use Rattle.osgi_space_sources.proofs.Lengths.{empty-false, not_empty}
use Rattle.osgi_space_sources.proofs.Rows.{some_import}
use Rattle.osgi_space_sources.proofs.constraints.add_next.Goals as goal

pub returns-then-not-is_empty : goal.returns-then-not-is_empty
returns-then-not-is_empty c =
    let R = c.args.rows.now in
    let A = IsAmong c.args.among in
    let pair = c.args.pair in
    let rows = imports_for R pair.source pair.package in
    let is : c.is_empty.result ≡ (length rows == 0) = c.is_empty.ensures ∙ ap (λ (xs : List Import). length xs == 0) c.of-imports.ensures.rows in
    let there = some_import R pair.source pair.package (empty-false rows (sym is ∙ c.if-not-is_empty.true)) in
    record {
      added = adds-same (wired-next R A pair there)
          (subst (λ xs. Adds (IsUseOfWired R A xs) c.args.found.now c.add_uses_of_imports.new.found) c.of-imports.ensures.rows c.in_ok-add_uses_of_imports.ensures.added);
      some = λ t. (there.0, inl there.1);
    }

pub returns : goal.returns
returns c =
    let R = c.args.rows.now in
    let A = IsAmong c.args.among in
    let pair = c.args.pair in
    let sources = c.in_ok-sources.sources.items in
    let next : (g : Given) → IsUseOfSome R A sources g ↔ IsNext R A pair g = some-of R A (IsSourceOf R pair.source pair.package) sources c.in_ok-sources.ensures.sources in
    record {
      added = adds-same next
          (subst (λ givens. Adds (IsUseOfSome R A givens) c.args.found.now c.add_uses_of_all.new.found) c.as_slice.ensures.value c.in_ok-add_uses_of_all.ensures.added);
      some = λ t.
          let slice = c.as_slice-2.result.now in
          let one = some-row slice (not_empty slice c.is_empty-2.result c.is_empty-2.ensures t) in
          let at : Contains sources one.0 = subst (λ (xs : List Given). Contains xs one.0) c.as_slice-2.ensures.value one.1 in
          (one.0.source, ((c.in_ok-sources.ensures.sources one.0).0 at).1);
    }
