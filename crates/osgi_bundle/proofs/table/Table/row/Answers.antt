-- The row at the place of the bundle, or none.
use Rattle.std.proofs.Common.{◌≡◌, ap, Bor, subst, sym, ◌∙◌}
use Rattle.std.specs.Prelude.{All, IfSome, slice_get}
use Rattle.std.specs.Option.{option_copied}
use Rattle.osgi_bundle.specs.Rows.{IsBegun, TableRows}
use Rattle.osgi_bundle.specs.declared.kept.BundleKept.{BundleKept}
use Rattle.osgi_bundle.proofs.Finding.{lent, lent_so}
use Rattle.osgi_bundle.proofs.table.Table.row.Goals as goal

pub returns-in_err-place : goal.returns-in_err-place
returns-in_err-place c = record {
  row = ap option_copied c.from_residual.ensures ∙ c.in_err-place.ensures.place;
  begun = subst (λ o. IfSome o (λ (row : Bor BundleKept). IsBegun row.now)) (sym c.from_residual.ensures) tt;
}

pub returns : goal.returns
returns c =
    let found : option_copied c.get.result ≡ slice_get c.deref.result.now c.in_ok-place.place = lent c.deref.result.now c.in_ok-place.place c.get.result c.get.ensures.lookup in
    record {
      row = found ∙ ap (λ l. slice_get l c.in_ok-place.place) (c.deref.ensures.value ∙ ap (λ (t : TableRows). t.rows) c.self.view_is) ∙ c.in_ok-place.ensures.place;
      begun = lent_so IsBegun c.deref.result.now c.in_ok-place.place c.get.result c.get.ensures.lookup (subst (All IsBegun) (sym c.deref.ensures.value) c.self.invariant.begun);
    }
