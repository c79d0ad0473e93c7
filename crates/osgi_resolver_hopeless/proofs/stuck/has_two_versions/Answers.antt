-- Whether two have one name is decided.
use Rattle.std.proofs.Common.{◌↔◌, not, IsTrue, subst}
use Rattle.osgi_base.specs.declared.ids.RevisionId.{RevisionId}
use Rattle.osgi_resolver_theory.proofs.Closure.{text-dec, two-dec}
use Rattle.osgi_resolver_hopeless.proofs.Answering.{turned}
use Rattle.osgi_resolver_hopeless.specs.computed.Stuck.{SameName}
use Rattle.osgi_world.specs.Lists.{Two}
use Rattle.osgi_world.specs.Lookups.{symbolic_name}
use Rattle.osgi_resolver_hopeless.proofs.stuck.has_two_versions.Goals as goal

pub returns : goal.returns
returns c =
    let K = c.known_at.result.now in
    let single = c.in_ok-are_names_single.field-0 in
    let two : IsTrue (not single) ↔ Two (SameName K) c.args.fragments.now =
    turned single (Two (SameName K) c.args.fragments.now) (two-dec (SameName K) (λ (e f : RevisionId). text-dec (symbolic_name K e) (symbolic_name K f)) c.args.fragments.now) c.in_ok-are_names_single.ensures.single in
    record { two = subst (λ k. IsTrue (not single) ↔ Two (SameName k) c.args.fragments.now) c.known_at.ensures.known two }
