-- The numbers are those of all members.
use Rattle.std.proofs.Common.{ℕ, subst, ◌↔◌, sym}
use Rattle.osgi_space.proofs.Ids.{contains-in, in-contains}
use Rattle.osgi_resolver_path.specs.Standing.{made}
use Rattle.osgi_space_rows.specs.Agree.{id}
use Rattle.osgi_world.specs.DueDecisions.{members}
use Rattle.osgi_world.specs.Lists.{In}
use Rattle.osgi_resolver_hopeless.proofs.clashing.has_clash.Goals as goal

pub has_clash_among-requires : goal.has_clash_among-requires
has_clash_among-requires c = record { unsettled = c.requires.unsettled }

pub returns : goal.returns
returns c = record {
  clash = λ P L.
      let D = made P c.args.path.now in
      let numbers = c.in_ok-members.members.items in
      let list = c.as_slice.result.now in
      let same : (n : ℕ) → In n list ↔ In (id n) (members P D) = λ n. (
        λ i. subst (In (id n)) (c.members.ensures.members P L) ((c.in_ok-members.ensures.numbers n).0 (in-contains numbers n (subst (In n) c.as_slice.ensures.value i))),
        λ m. subst (In n) (sym c.as_slice.ensures.value) (contains-in numbers n ((c.in_ok-members.ensures.numbers n).1 (subst (In (id n)) (sym (c.members.ensures.members P L)) m))),
      ) in (
        λ t. c.in_ok-has_clash_among.ensures.clash P L (λ n i. (same n).0 i) t,
        λ h. c.in_ok-has_clash_among.ensures.all P L h ((same h.member.0).1 h.is_member),
      );
}
