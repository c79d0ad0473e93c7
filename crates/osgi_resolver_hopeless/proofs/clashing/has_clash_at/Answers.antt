-- Without a disputed package nothing clashes; else all are asked, where they are few, or those whom the host concerns.
use Rattle.std.proofs.Common.{ℕ, subst, sym}
use Rattle.osgi_resolver_hopeless.proofs.Answering.{known-is}
use Rattle.osgi_resolver_hopeless.proofs.Clashes.{none-disputed}
use Rattle.osgi_resolver_path.specs.Standing.{IsProblemOf, made}
use Rattle.osgi_space_sources.specs.laws.Sets.{none_in}
use Rattle.std.specs.Ordering.{nat_cmp}
use Rattle.osgi_space_rows.specs.Agree.{AreRowsOf, id}
use Rattle.osgi_space_rows.specs.Names.{name_numbered}
use Rattle.osgi_world.specs.DueDecisions.{members}
use Rattle.osgi_world.specs.Lists.{In}
use Rattle.osgi_world.specs.Partial.{partial}
use Rattle.osgi_world.specs.declared.problem.Problem.{Problem}
use Rattle.osgi_resolver_hopeless.proofs.clashing.has_clash_at.Goals as goal

pub returns-then-is_empty : goal.returns-then-is_empty
returns-then-is_empty c = record {
  clash = λ P L there t. let f = t in cc;
  all = λ P L there h.
      let W = partial P (made P c.args.path.now) in
      let rows = c.disputed_rows.result.now in
      let N = name_numbered rows.names in
      let is : AreRowsOf P.world.known W N rows.rows = subst (λ K. AreRowsOf K W N rows.rows) (known-is c.args.path.now P L rows.known c.disputed_rows.ensures.known) (c.disputed_rows.ensures.rows P L) in
      absurd (none-disputed P (made P c.args.path.now) N rows.rows is c.disputed.result.now c.disputed.ensures.disputed (none_in nat_cmp c.disputed.result.now.packages (c.is_empty.ensures.none.0 c.if-is_empty.true)) h.clash);
}

pub has_clash-requires : goal.has_clash-requires
has_clash-requires c = record { unsettled = c.in_ok-unsettled.ensures.unsettled }

pub returns-then-are_few : goal.returns-then-are_few
returns-then-are_few c = record {
  clash = λ P L there t. (c.in_ok-has_clash.ensures.clash P L).0 t;
  all = λ P L there h. (c.in_ok-has_clash.ensures.clash P L).1 h.clash;
}

pub has_clash_among-requires : goal.has_clash_among-requires
has_clash_among-requires c = record { unsettled = c.in_ok-unsettled.ensures.unsettled }

pub concerned_by-requires : goal.concerned_by-requires
concerned_by-requires c = record { unsettled = c.in_ok-unsettled.ensures.unsettled }

pub returns : goal.returns
returns c =
    let are_members : (P : Problem) → IsProblemOf c.args.path.now P → In c.args.host (members P (made P c.args.path.now)) → (n : ℕ) → In n c.as_slice.result.now → In (id n) (members P (made P c.args.path.now)) = λ P L there n i.
    c.in_ok-asked.ensures.members P L there n (subst (In n) c.as_slice.ensures.value i) in
    record {
      clash = λ P L there t. c.in_ok-has_clash_among.ensures.clash P L (are_members P L there) t;
      all = λ P L there h.
          let among = subst (In h.clash.member.0) (sym c.as_slice.ensures.value) (c.in_ok-asked.ensures.all P L there h) in
          c.in_ok-has_clash_among.ensures.all P L h.clash among;
    }
