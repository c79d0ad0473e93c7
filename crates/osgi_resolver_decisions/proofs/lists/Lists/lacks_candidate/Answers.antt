-- What is known of the owner, if it is.
use Rattle.std.proofs.Common.{refl}
use Rattle.std.proofs.lemmas.Bool.{false≢true}
use Rattle.osgi_resolver_decisions.proofs.Lacking.{no}
use Rattle.osgi_resolver_decisions.proofs.lists.Lists.lacks_candidate.Goals as goal

pub returns-in-Some : goal.returns-in-Some
returns-in-Some c = record {
  lacks = λ P in_it.
      let is = (c.in-Some.ensures.right P in_it).lacks_is in (
        λ t. (c.in-Some.ensures.known.0 refl, (is.0 t).0, (is.0 t).1),
        λ l. is.1 (l.1, l.2),
      );
}

pub returns-in-None : goal.returns-in-None
returns-in-None c = record { lacks = λ P in_it. no (λ l. false≢true (c.in-None.ensures.known.1 l.0)) }
