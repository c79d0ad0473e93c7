-- The host, and those of the fragments so far that are attached.
use Rattle.std.proofs.Common.{◌≡◌, ◌∷◌, filter, take}
use Rattle.osgi_resolver_path.specs.computed.Attached.{AreAttached}
use Rattle.osgi_world.specs.Decisions.{Made, attaching, is_yes, value_made}
use Rattle.osgi_resolver_path.proofs.attached.owners_of.Given as goal

abbrev pub invariant-loop-fragment : goal.invariant-loop-fragment
invariant-loop-fragment l = (D : Made) → AreAttached l.rows D l.fn.host → l.owners.items ≡ l.fn.host ∷ filter (λ f. is_yes (value_made ((attaching l.fn.host l.decided, l.value) ∷ D) (attaching l.fn.host f))) (take l.fragment-index l.fragment-items)
