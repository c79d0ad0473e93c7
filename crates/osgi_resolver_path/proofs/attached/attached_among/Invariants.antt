-- Those of the fragments so far that are attached.
use Rattle.std.proofs.Common.{◌≡◌, filter, take}
use Rattle.osgi_resolver_path.specs.computed.Attached.{AreAttached}
use Rattle.osgi_world.specs.Decisions.{Made, attaching, is_yes, value_made}
use Rattle.osgi_resolver_path.proofs.attached.attached_among.Given as goal

abbrev pub invariant-loop-fragment : goal.invariant-loop-fragment
invariant-loop-fragment l = (D : Made) → AreAttached l.rows D l.fn.host → l.list.items ≡ filter (λ f. is_yes (value_made D (attaching l.fn.host f))) (take l.fragment-index l.fragments)
