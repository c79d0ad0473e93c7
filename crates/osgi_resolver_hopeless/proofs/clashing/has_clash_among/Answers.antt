-- The constraints by rows are those of the wirings that are decided.
use Rattle.std.proofs.Common.{◌≡◌, ◌∙◌, ◌↔◌, ℕ, ap, subst, sym, IsTrue}
use Rattle.osgi_space_sources.specs.computed.Disputes.{AreDisputed}
use Rattle.osgi_resolver_hopeless.proofs.Answering.{known-is}
use Rattle.osgi_resolver_hopeless.proofs.Clashes.{clash-breaks, clash-of}
use Rattle.osgi_resolver_hopeless.specs.computed.Clashing.{IsBroken}
use Rattle.osgi_resolver_path.specs.Standing.{IsProblemOf, made}
use Rattle.osgi_space_rows.specs.Agree.{AreRowsOf, id}
use Rattle.osgi_space_rows.specs.Names.{name_numbered}
use Rattle.osgi_space_rows.specs.Rows.{RowLists}
use Rattle.osgi_space_rows.specs.Worlds.{WorldLists}
use Rattle.osgi_world.specs.Lists.{In}
use Rattle.osgi_world.specs.Partial.{partial}
use Rattle.osgi_world.specs.declared.problem.Problem.{Problem}
use Rattle.osgi_resolver_hopeless.proofs.clashing.has_clash_among.Goals as goal

-- the rows that are looked at are those of the wirings
rows-are : (c : goal.In_ok-is_one_broken) → c.rows.result.now ≡ c.disputed_rows-rows.result.now.rows
rows-are c = c.rows.ensures.rows ∙ ap (λ (lists : WorldLists). lists.rows) c.world_rows.ensures.rows

pub is_one_broken-requires : goal.is_one_broken-requires
is_one_broken-requires c =
    record {
      disputed =
          subst (λ (R : RowLists). AreDisputed R c.disputed.result.now) (sym (c.rows.ensures.rows ∙ ap (λ (lists : WorldLists). lists.rows) c.world_rows.ensures.rows))
          c.disputed.ensures.disputed;
    }

-- one of these is broken
one : (c : goal.In_ok-is_one_broken) → IsTrue c.in_ok-is_one_broken.field-0 ↔ ((n : ℕ) × In n c.args.numbers.now × IsBroken c.disputed_rows-rows.result.now.rows c.args.unsettled.now n)
one c = subst (λ (R : RowLists). IsTrue c.in_ok-is_one_broken.field-0 ↔ ((n : ℕ) × In n c.args.numbers.now × IsBroken R c.args.unsettled.now n)) (rows-are c) c.in_ok-is_one_broken.ensures.broken

agree : (c : goal.In_ok-is_one_broken) (P : Problem) → IsProblemOf c.args.path.now P → AreRowsOf P.world.known (partial P (made P c.args.path.now)) (name_numbered c.disputed_rows-rows.result.now.names) c.disputed_rows-rows.result.now.rows
agree c P L =
    let rows = c.disputed_rows-rows.result.now in
    subst (λ K. AreRowsOf K (partial P (made P c.args.path.now)) (name_numbered rows.names) rows.rows) (known-is c.args.path.now P L rows.known c.disputed_rows-rows.ensures.known) (c.disputed_rows-rows.ensures.rows P L)

pub returns : goal.returns
returns c = record {
  clash = λ P L there t.
      let rows = c.disputed_rows-rows.result.now in
      let some = (one c).0 t in
      clash-of P L.is (made P c.args.path.now) c.args.unsettled.now (c.requires.unsettled P L) (name_numbered rows.names) rows.rows (agree c P L) (id some.0) (there some.0 some.1) some.2;
  all = λ P L h among.
      let D = made P c.args.path.now in
      let rows = c.disputed_rows-rows.result.now in
      let N = name_numbered rows.names in
      (one c).1 (h.member.0, among, clash-breaks P L.is D c.args.unsettled.now (c.requires.unsettled P L) N rows.rows (agree c P L) h);
}
