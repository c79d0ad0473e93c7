-- The path tells the numbers of the members that are not decided.
use Rattle.std.proofs.Common.{ℕ, List, subst, sym, Contains}
use Rattle.osgi_space.proofs.Ids.{contains-in, in-contains}
use Rattle.osgi_resolver_hopeless.proofs.settled.undecided.Goals as goal

pub returns : goal.returns
returns c = record {
  undecided = λ P L n.
      let same = c.in_ok-of.ensures.revisions in
      let list = c.in_ok-numbers.numbers.items in
      let members = c.in_ok-numbers.ensures.undecided P L n in (
        λ has. members.0 (contains-in list n (subst (λ (xs : List ℕ). Contains xs n) same has)),
        λ both. subst (λ (xs : List ℕ). Contains xs n) (sym same) (in-contains list n (members.1 both)),
      );
}
