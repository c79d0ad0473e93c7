-- By the value that is given, or by the number.
use Rattle.std.proofs.Common.{◌∙◌, ap, sym}
use Rattle.osgi_world.specs.Decisions.{is_yes}
use Rattle.osgi_resolver_path.proofs.Fragments.{has-yes, head-yes, tail-value}
use Rattle.osgi_resolver_path.proofs.attached.is_attached.Goals as goal

pub returns-then-decided-fragment : goal.returns-then-decided-fragment
returns-then-decided-fragment c = record { attached = λ D h are. head-yes D h c.args.decided c.args.fragment c.args.value c.is_first.result c.if-decided-fragment.true c.is_first.ensures.first }

pub returns-else-decided-fragment : goal.returns-else-decided-fragment
returns-else-decided-fragment c = record {
  attached = λ D h are. has-yes c.args.attached.now D h c.args.fragment c.has.result are c.has.ensures.has ∙ ap is_yes (sym (tail-value D h c.args.decided c.args.fragment c.args.value c.if-decided-fragment.false));
}
