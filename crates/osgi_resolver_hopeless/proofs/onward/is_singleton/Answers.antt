-- The revision, if there is one.
use Rattle.std.proofs.Common.{◌↔◌, subst, IsTrue}
use Rattle.osgi_resolver_hopeless.proofs.Answering.{no}
use Rattle.osgi_resolver_hopeless.proofs.Tested.{some-none, some-same}
use Rattle.osgi_resolver_hopeless.specs.computed.Rivals.{IsCurrentSingleton}
use Rattle.osgi_resolver_hopeless.proofs.onward.is_singleton.Goals as goal

pub returns-in-Some : goal.returns-in-Some
returns-in-Some c =
    let r = c.in-Some.revision in
    let is : IsTrue c.is_current_singleton.result ↔ IsCurrentSingleton c.args.path.now.world.known r =
    subst (λ K. IsTrue c.is_current_singleton.result ↔ IsCurrentSingleton K r) c.known_at.ensures.known c.is_current_singleton.ensures.singleton in
    record {
      singleton = (
        λ t. (r, c.in-Some.is, is.0 t),
        λ some. is.1 (subst (IsCurrentSingleton c.args.path.now.world.known) (some-same c.args.revision some.0 r some.1 c.in-Some.is) some.2),
      );
    }

pub returns-in-None : goal.returns-in-None
returns-in-None c = record { singleton = no (λ some. some-none c.args.revision some.0 c.in-None.is some.1) }
