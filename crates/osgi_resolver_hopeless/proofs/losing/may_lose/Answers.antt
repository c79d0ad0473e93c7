-- No bundle wire goes to the host, and it imports nothing that it exports: without a fragment for it nothing is lost.
use Rattle.std.proofs.Common.{◌≡◌, ◌∙◌, Any, sym, subst}
use Rattle.osgi_resolver_hopeless.proofs.Answering.{known-is}
use Rattle.osgi_resolver_hopeless.proofs.Replacing.{nothing-lost, row-required}
use Rattle.osgi_resolver_hopeless.specs.computed.Losing.{ReplacesOwn}
use Rattle.osgi_resolver_path.specs.Standing.{made}
use Rattle.osgi_space_rows.specs.Agree.{AreRowsOf, id}
use Rattle.osgi_space_rows.specs.Names.{name_numbered}
use Rattle.osgi_space_rows.specs.Rows.{RowLists}
use Rattle.osgi_space_rows.specs.declared.rows.Required.{Required}
use Rattle.osgi_space_rules.proofs.OneValue.{not_true}
use Rattle.osgi_space_sources.proofs.Lengths.{some_item}
use Rattle.osgi_world.specs.Partial.{partial}
use Rattle.osgi_resolver_hopeless.proofs.losing.may_lose.Goals as goal

pub returns : goal.returns
returns c = record {
  all = λ P L is_member s lost.
      let h = c.args.host in
      let W = partial P (made P c.args.path.now) in
      let world = c.rows.result.now in
      let N = name_numbered world.names in
      let is : AreRowsOf P.world.known W N world.rows = subst (λ K. AreRowsOf K W N world.rows) (known-is c.args.path.now P L world.known c.rows.ensures.known) (c.rows.ensures.rows P L) in
      let alone : ¬ Any (λ (row : Required). row.provider ≡ h.0) world.rows.required =
      λ any.
      let at = row-required world.rows h.0 any in
      not_true _ c.if-is_required.false ((c.is_required.ensures.required P L is_member).1 (id at.0, (is.requires at.0 h.0).0 at.1)) in
      let stays : ¬ ReplacesOwn world.rows h.0 =
      λ own. not_true _ c.if-replaces_own.false (c.replaces_own.ensures.replaces.1 (subst (λ (R : RowLists). ReplacesOwn R h.0) (sym c.rows-2.ensures.rows) own)) in
      let are = c.as_slice.ensures.value ∙ c.in_ok-fragments.ensures.fragments P L.is (L.world ∙ sym c.offers.ensures.world) in
      some_item c.as_slice.result.now c.is_empty.result c.is_empty.ensures (λ none. nothing-lost P L.is (made P c.args.path.now) s h is_member N world.rows is alone stays (sym are ∙ none) lost);
}
