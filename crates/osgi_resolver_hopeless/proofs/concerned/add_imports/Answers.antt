-- One wire more.
use Rattle.std.proofs.Common.{◌≡◌, inl, inr, sym, subst}
use Rattle.std.proofs.lemmas.List.{get_or_default, take_all}
use Rattle.osgi_space_rows.specs.declared.rows.Import.{Import}
use Rattle.osgi_space_rules.proofs.Grow.{in_more}
use Rattle.osgi_world.specs.Lists.{In}
use Rattle.osgi_resolver_hopeless.proofs.concerned.add_imports.Goals as goal

pub loop-row-init : goal.loop-row-init
loop-row-init c = record { kept = λ row i. i; added = λ row none same. elim none [ ] }

pub loop-row-preserved : goal.loop-row-preserved
loop-row-preserved c =
    let rows = c.of_revision-row-items.result.now in
    let i = c.loop-row.row-index in
    let within = c.loop-row-test.true in
    let more = in_more rows i _ within (get_or_default rows i _ _ within) in
    record {
      kept = λ row j. c.in_ok-add_import.ensures.kept row (c.loop-row.invariant.kept row j);
      added = λ row j same. elim ((more row).0 j) [
        | inl old ↦ c.in_ok-add_import.ensures.kept row (c.loop-row.invariant.added row old same)
        | inr e ↦ subst (λ (x : Import). In x c.add_import.new.list.items) (sym e) (c.in_ok-add_import.ensures.added (subst (λ (x : Import). x.provider ≡ c.args.host) e same))
      ];
    }

pub returns : goal.returns
returns c =
    let rows = c.of_revision-row-items.result.now in
    record {
      kept = c.loop-row.invariant.kept;
      added = λ row j same. c.loop-row.invariant.added row (subst (In row) (sym (take_all c.loop-row.row-index rows c.loop-row-test.false)) (subst (In row) (sym c.of_revision-row-items.ensures.rows) j)) same;
    }
