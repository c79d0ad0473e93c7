-- Without a bundle wire it reaches nothing.
use Rattle.std.proofs.Common.{◌≡◌, [], sym, ◌∙◌, subst}
use Rattle.osgi_resolver_theory.proofs.Views.{in_force-member}
use Rattle.osgi_resolver_hopeless.proofs.Answering.{denied, granted, known-is}
use Rattle.osgi_resolver_hopeless.proofs.Settling.{none-reached, settled-by}
use Rattle.osgi_resolver_path.specs.Standing.{made}
use Rattle.osgi_space_sources.proofs.Lengths.{empty-true}
use Rattle.osgi_space_rows.specs.Agree.{AreRowsOf}
use Rattle.osgi_space_rows.specs.Names.{name_numbered}
use Rattle.osgi_space_rows.specs.Rows.{required_by}
use Rattle.osgi_world.specs.Partial.{partial}
use Rattle.osgi_resolver_hopeless.proofs.settled.is_unsettled_by_wire.Goals as goal

pub returns-then-is_empty : goal.returns-then-is_empty
returns-then-is_empty c = record {
  unsettled = λ P L i t. let f = t in cc;
  decided = λ P L i own n.
      let D = made P c.args.path.now in
      let m = c.args.member in
      let rows = c.rows.result.now in
      let N = name_numbered rows.names in
      let is : AreRowsOf P.world.known (partial P D) N rows.rows = subst (λ K. AreRowsOf K (partial P D) N rows.rows) (known-is c.args.path.now P L rows.known c.rows.ensures.known) (c.rows.ensures.rows P L) in
      let empty : required_by c.rows-2.result.now m.0 ≡ [] = sym c.of.ensures.rows ∙ empty-true c.of.result.now (sym c.is_empty.ensures ∙ c.if-is_empty.true) in
      let none : required_by rows.rows m.0 ≡ [] = subst (λ R. required_by R m.0 ≡ []) c.rows-2.ensures.rows empty in
      settled-by P L.is D N rows.rows is m own (λ x l. absurd (none-reached rows.rows m.0 none x l));
}

pub returns : goal.returns
returns c = record {
  unsettled = λ P L i t. denied c.in_ok-is_settled.field-0 (c.in_ok-is_settled.ensures.settled P L (in_force-member P (made P c.args.path.now) c.args.member i)) t;
  decided = λ P L i own n. granted c.in_ok-is_settled.field-0 (c.in_ok-is_settled.ensures.settled P L (in_force-member P (made P c.args.path.now) c.args.member i)) n;
}
