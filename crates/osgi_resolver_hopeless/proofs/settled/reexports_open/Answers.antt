-- The next bundle wire of the revision, and the first that reexports what is not decided.
use Rattle.std.proofs.Common.{◌≡◌, ◌∙◌, ℕ, true, List, refl, sym, subst, Contains}
use Rattle.std.proofs.lemmas.List.{get_or_default}
use Rattle.osgi_base.specs.declared.ids.RevisionId.{RevisionId}
use Rattle.osgi_resolver_hopeless.proofs.Answering.{known-is, no, yes}
use Rattle.osgi_resolver_hopeless.proofs.Settling.{reached-there}
use Rattle.osgi_resolver_hopeless.specs.computed.Open.{IsOpenReexport, ReexportsOpen}
use Rattle.osgi_resolver_path.specs.Standing.{made}
use Rattle.osgi_resolver_theory.proofs.Views.{in_force-member}
use Rattle.osgi_space.proofs.Ids.{contains-in, in-contains}
use Rattle.osgi_space_rows.specs.Agree.{AreRowsOf, id}
use Rattle.osgi_space_rows.specs.Names.{name_numbered}
use Rattle.osgi_space_rows.specs.Rows.{RowLists, required_by}
use Rattle.osgi_space_rows.specs.declared.rows.Required.{Required}
use Rattle.osgi_space_rules.proofs.Grow.{at_in, each_done, each_step}
use Rattle.osgi_space_rules.proofs.OneValue.{not_true}
use Rattle.osgi_space_sources.proofs.Rows.{in-required}
use Rattle.osgi_space_sources.specs.computed.Reach.{starts}
use Rattle.osgi_world.specs.Candidates.{IsProblem}
use Rattle.osgi_world.specs.Decisions.{Made}
use Rattle.osgi_world.specs.DueDecisions.{members}
use Rattle.osgi_world.specs.Lists.{In}
use Rattle.osgi_world.specs.Partial.{partial}
use Rattle.osgi_world.specs.Wirings.{InForce}
use Rattle.osgi_world.specs.declared.problem.Problem.{Problem}
use Rattle.osgi_resolver_hopeless.proofs.settled.reexports_open.Goals as goal

-- a row of a revision is among all, and says it of that revision
own-row : (R : RowLists) (r : ℕ) (row : Required) → In row (required_by R r) → Contains R.required (record { revision = r; provider = row.provider; reexport = row.reexport })
own-row R r row there =
    let both = (in-required R r row).0 (in-contains (required_by R r) row there) in
    subst (Contains R.required) (λ i. record { revision = both.1 i; provider = row.provider; reexport = row.reexport }) both.0

-- the provider of a member's bundle wire is in force
provider-there : (P : Problem) → IsProblem P → (D : Made) (N : ℕ → List ℕ) (R : RowLists) → AreRowsOf P.world.known (partial P D) N R → (r : RevisionId) → In r (members P D) → (row : Required) → In row (required_by R r.0) → InForce (partial P D) (id row.provider)
provider-there P L D N R is r member row there = reached-there P L D N R is r (in_force-member P D r member) row.provider (starts (row.reexport, own-row R r.0 row there))

-- whose row it is that is reexported and not decided
open-of : (P : Problem) (D : Made) (N : ℕ → List ℕ) (R : RowLists) → AreRowsOf P.world.known (partial P D) N R → (r : RevisionId) (row : Required) → In row (required_by R r.0) → IsOpenReexport P D row → ReexportsOpen P D r
open-of P D N R is r row among both = record {
  bundle = id row.provider;
  reexports = (is.reexports r.0 row.provider).0 (subst (λ b. Contains R.required (record { revision = r.0; provider = row.provider; reexport = b })) both.0 (own-row R r.0 row among));
  undecided = both.1;
}

pub loop-row-init : goal.loop-row-init
loop-row-init c = λ P L is_member row here. elim here [ ]

pub loop-row-preserved : goal.loop-row-preserved
loop-row-preserved c = λ P L is_member.
    let D = made P c.args.path.now in
    let rows = c.of-row-items.result.now in
    let world = c.rows.result.now in
    let N = name_numbered world.names in
    let is : AreRowsOf P.world.known (partial P D) N world.rows = subst (λ K. AreRowsOf K (partial P D) N world.rows) (known-is c.args.path.now P L world.known c.rows.ensures.known) (c.rows.ensures.rows P L) in
    let listed : rows ≡ required_by world.rows c.args.revision.0 = c.of-row-items.ensures.rows ∙ (λ i. required_by (c.rows-2.ensures.rows i) c.args.revision.0) in
    let i = c.loop-row.row-index in
    let within = c.loop-row-test.true in
    let at = get_or_default rows i _ _ within in
    let there = provider-there P L.is D N world.rows is c.args.revision is_member _ (subst (In _) listed (at_in rows i _ within at)) in
    each_step (λ (row : Required). ¬ IsOpenReexport P D row) rows i _ within at (c.loop-row.invariant P L is_member) (λ some. not_true _ c.if-is_open_reexport.false ((c.is_open_reexport.ensures.waits P L there).1 some))

pub returns-then-is_open_reexport : goal.returns-then-is_open_reexport
returns-then-is_open_reexport c = record {
  waits = λ P L is_member.
      let D = made P c.args.path.now in
      let rows = c.of-row-items.result.now in
      let world = c.rows.result.now in
      let N = name_numbered world.names in
      let is : AreRowsOf P.world.known (partial P D) N world.rows = subst (λ K. AreRowsOf K (partial P D) N world.rows) (known-is c.args.path.now P L world.known c.rows.ensures.known) (c.rows.ensures.rows P L) in
      let listed : rows ≡ required_by world.rows c.args.revision.0 = c.of-row-items.ensures.rows ∙ (λ i. required_by (c.rows-2.ensures.rows i) c.args.revision.0) in
      let i = c.loop-row.row-index in
      let within = c.loop-row-test.true in
      let at = get_or_default rows i _ _ within in
      let among = subst (In _) listed (at_in rows i _ within at) in
      let there = provider-there P L.is D N world.rows is c.args.revision is_member _ among in
      let both = (c.is_open_reexport.ensures.waits P L there).0 c.if-is_open_reexport.true in
      yes (open-of P D N world.rows is c.args.revision _ among both);
}

pub returns : goal.returns
returns c = record {
  waits = λ P L is_member.
      let D = made P c.args.path.now in
      let rows = c.of-row-items.result.now in
      let world = c.rows.result.now in
      let r = c.args.revision in
      let N = name_numbered world.names in
      let is : AreRowsOf P.world.known (partial P D) N world.rows = subst (λ K. AreRowsOf K (partial P D) N world.rows) (known-is c.args.path.now P L world.known c.rows.ensures.known) (c.rows.ensures.rows P L) in
      let listed : rows ≡ required_by world.rows r.0 = c.of-row-items.ensures.rows ∙ (λ i. required_by (c.rows-2.ensures.rows i) r.0) in
      let none = each_done (λ (row : Required). ¬ IsOpenReexport P D row) rows c.loop-row.row-index c.loop-row-test.false (c.loop-row.invariant P L is_member) in
      no (λ some.
      let row : Required = record { revision = r.0; provider = some.bundle.0; reexport = true } in
      let at = (is.reexports r.0 some.bundle.0).1 some.reexports in
      let among = contains-in (required_by world.rows r.0) row ((in-required world.rows r.0 row).1 (at, refl)) in
      none row (subst (In row) (sym listed) among) (refl, some.undecided));
}
