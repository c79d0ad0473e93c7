-- The revision itself is decided or not, reaches nothing, or reaches what is decided.
use Rattle.std.proofs.Common.{◌≡◌, ◌↔◌, ℕ, List, [], sym, ◌∙◌, subst, Contains}
use Rattle.osgi_space_rules.proofs.OneValue.{not_true}
use Rattle.osgi_resolver_hopeless.proofs.Answering.{known-is, no, yes}
use Rattle.osgi_resolver_hopeless.proofs.Settling.{none-reached, reached-there, settled-all, settled-by}
use Rattle.osgi_resolver_path.specs.Standing.{made}
use Rattle.osgi_space_sources.proofs.Lengths.{empty-true}
use Rattle.osgi_space_sources.specs.computed.Reach.{Reach}
use Rattle.osgi_space.proofs.Ids.{contains-in, in-contains}
use Rattle.osgi_space_rows.specs.Agree.{AreRowsOf}
use Rattle.osgi_space_rows.specs.Names.{name_numbered}
use Rattle.osgi_space_rows.specs.Rows.{Reexports, Requires, RowLists, required_by}
use Rattle.osgi_world.specs.Lists.{In}
use Rattle.osgi_world.specs.Partial.{partial}
use Rattle.osgi_resolver_hopeless.proofs.settled.is_settled.Goals as goal

pub returns-then-not-is_decided : goal.returns-then-not-is_decided
returns-then-not-is_decided c = record { settled = λ P L i. no (λ s. not_true _ c.if-not-is_decided.true ((c.is_decided.ensures.decided P L i).1 s.own)) }

pub returns-then-is_empty : goal.returns-then-is_empty
returns-then-is_empty c = record {
  settled = λ P L i.
      let D = made P c.args.path.now in
      let rows = c.rows.result.now in
      let N = name_numbered rows.names in
      let is : AreRowsOf P.world.known (partial P D) N rows.rows = subst (λ K. AreRowsOf K (partial P D) N rows.rows) (known-is c.args.path.now P L rows.known c.rows.ensures.known) (c.rows.ensures.rows P L) in
      let none : required_by c.rows-rows.result.now c.args.revision.0 ≡ [] = sym c.of.ensures.rows ∙ empty-true c.of.result.now (sym c.is_empty.ensures ∙ c.if-is_empty.true) in
      let none' : required_by rows.rows c.args.revision.0 ≡ [] = subst (λ R. required_by R c.args.revision.0 ≡ []) c.rows-rows.ensures.rows none in
      yes (settled-by P L.is D N rows.rows is c.args.revision ((c.is_decided.ensures.decided P L i).0 c.if-not-is_decided.false) (λ n l. absurd (none-reached rows.rows c.args.revision.0 none' n l)));
}

pub returns : goal.returns
returns c = record {
  settled = λ P L i.
      let D = made P c.args.path.now in
      let r = c.args.revision in
      let rows = c.rows.result.now in
      let N = name_numbered rows.names in
      let is : AreRowsOf P.world.known (partial P D) N rows.rows = subst (λ K. AreRowsOf K (partial P D) N rows.rows) (known-is c.args.path.now P L rows.known c.rows.ensures.known) (c.rows.ensures.rows P L) in
      let items = c.in_ok-reached.reached in
      let reached : (n : ℕ) → Contains items n ↔ Reach (Requires rows.rows r.0) (Reexports rows.rows) n =
      subst (λ (R : RowLists). (n : ℕ) → Contains items n ↔ Reach (Requires R r.0) (Reexports R) n) c.rows-rows.ensures.rows c.in_ok-reached.ensures.reached in
      let listed : (n : ℕ) → In n c.items.result.now → Reach (Requires rows.rows r.0) (Reexports rows.rows) n =
      λ n j. (reached n).0 (in-contains items n (subst (λ (xs : List ℕ). In n xs) c.items.ensures.items j)) in
      let all = c.are_decided.ensures.decided P L (λ n j. reached-there P L.is D N rows.rows is r i n (listed n j)) in (
        λ t. settled-by P L.is D N rows.rows is r ((c.is_decided.ensures.decided P L i).0 c.if-not-is_decided.false) (λ n l. all.0 t n (subst (λ (xs : List ℕ). In n xs) (sym c.items.ensures.items) (contains-in items n ((reached n).1 l)))),
        λ s. all.1 (λ n j. settled-all P L.is D N rows.rows is r s n (listed n j)),
      );
}
