-- The next holder, and the first that requires the host; who requires it is a member, and has a wire to it.
use Rattle.std.proofs.Common.{◌≡◌, ◌∙◌, ℕ, Any, [], get_or, refl, sym, subst}
use Rattle.std.proofs.lemmas.List.{get_or_default}
use Rattle.osgi_base.specs.declared.ids.RevisionId.{RevisionId}
use Rattle.osgi_resolver_hopeless.proofs.Answering.{known-is, no, yes}
use Rattle.osgi_resolver_hopeless.proofs.Backwards.{holder-member}
use Rattle.osgi_resolver_path.specs.Standing.{made}
use Rattle.osgi_space_rows.specs.Agree.{AreRowsOf, id}
use Rattle.osgi_space_rows.specs.Names.{name_numbered}
use Rattle.osgi_space_rows.specs.Rows.{Requires, RowLists}
use Rattle.osgi_space_rows.specs.declared.rows.Required.{Required}
use Rattle.osgi_space_rules.proofs.Grow.{each_done, each_step}
use Rattle.osgi_space_rules.proofs.OneValue.{not_true}
use Rattle.osgi_space_sources.proofs.Lengths.{empty-true}
use Rattle.osgi_space_sources.specs.laws.Adding.{any-none, any-of}
use Rattle.osgi_world.specs.DueDecisions.{members}
use Rattle.osgi_world.specs.Lists.{In}
use Rattle.osgi_world.specs.Partial.{partial}
use Rattle.osgi_resolver_hopeless.proofs.losing.is_required.Goals as goal

pub returns-then-is_empty : goal.returns-then-is_empty
returns-then-is_empty c = record {
  required = λ P L is_member.
      let W = partial P (made P c.args.path.now) in
      let world = c.rows.result.now in
      let N = name_numbered world.names in
      let is : AreRowsOf P.world.known W N world.rows = subst (λ K. AreRowsOf K W N world.rows) (known-is c.args.path.now P L world.known c.rows.ensures.known) (c.rows.ensures.rows P L) in
      let empty : c.rows-rows.result.now.required ≡ [] = sym c.all.ensures.rows ∙ empty-true c.all.result.now (sym c.is_empty.ensures ∙ c.if-is_empty.true) in
      let none : world.rows.required ≡ [] = subst (λ (R : RowLists). R.required ≡ []) c.rows-rows.ensures.rows empty in
      let Q : Required → Type 0 = λ row. row.provider ≡ c.args.host.0 in
      no (λ some.
      let at = (is.requires some.0.0 c.args.host.0).1 some.1 in
      any-none Q (subst (Any Q) none (any-of Q world.rows.required (record { revision = some.0.0; provider = c.args.host.0; reexport = at.0 }) at.1 refl)));
}

pub loop-holder-init : goal.loop-holder-init
loop-holder-init c = λ n here. elim here [ ]

pub loop-holder-preserved : goal.loop-holder-preserved
loop-holder-preserved c =
    let holders = c.wired_to-holder-items.result.now in
    let i = c.loop-holder.holder-index in
    let within = c.loop-holder-test.true in
    each_step (λ (n : ℕ). ¬ Requires c.rows-rows.result.now n c.args.host.0) holders i _ within (get_or_default holders i _ _ within) c.loop-holder.invariant (λ at. not_true _ c.if-has_bundle_wire.false (c.has_bundle_wire.ensures.wire.1 at))

pub returns-then-has_bundle_wire : goal.returns-then-has_bundle_wire
returns-then-has_bundle_wire c = record {
  required = λ P L is_member.
      let W = partial P (made P c.args.path.now) in
      let world = c.rows.result.now in
      let N = name_numbered world.names in
      let is : AreRowsOf P.world.known W N world.rows = subst (λ K. AreRowsOf K W N world.rows) (known-is c.args.path.now P L world.known c.rows.ensures.known) (c.rows.ensures.rows P L) in
      let n = get_or c.wired_to-holder-items.result.now c.loop-holder.holder-index 0 in
      let at : Requires world.rows n c.args.host.0 = subst (λ (R : RowLists). Requires R n c.args.host.0) c.rows-rows.ensures.rows (c.has_bundle_wire.ensures.wire.0 c.if-has_bundle_wire.true) in
      yes (id n, (is.requires n c.args.host.0).0 at);
}

pub returns : goal.returns
returns c = record {
  required = λ P L is_member.
      let D = made P c.args.path.now in
      let host = c.args.host in
      let world = c.rows.result.now in
      let N = name_numbered world.names in
      let is : AreRowsOf P.world.known (partial P D) N world.rows = subst (λ K. AreRowsOf K (partial P D) N world.rows) (known-is c.args.path.now P L world.known c.rows.ensures.known) (c.rows.ensures.rows P L) in
      let none = each_done (λ (n : ℕ). ¬ Requires c.rows-rows.result.now n host.0) c.wired_to-holder-items.result.now c.loop-holder.holder-index c.loop-holder-test.false c.loop-holder.invariant in
      no (λ some.
      let r = some.0 in
      let b = some.1 in
      let member = holder-member P L.is D r b.wire b.has (subst (λ (y : RevisionId). In y (members P D)) (sym b.provider) is_member) in
      let wired = (c.wired_to-holder-items.ensures.wired P L r.0).1 (member, (b.wire, b.has, b.provider)) in
      none r.0 wired (subst (λ (R : RowLists). Requires R r.0 host.0) (sym c.rows-rows.ensures.rows) ((is.requires r.0 host.0).1 b)));
}
