-- A text has one reading.
use Rattle.std.proofs.Common.{Some, ap, ◌∙◌}
use Rattle.osgi_version.specs.VersionValues.{order, parts}
use Rattle.osgi_version.proofs.Unique.{reads_one}
use Rattle.osgi_version.proofs.version.Version.compare_text.Goals as goal

pub returns-in-Ok-clause-order : goal.returns-in-Ok-clause-order
returns-in-Ok-clause-order c = λ v h. ap Some (c.order.ensures.order ∙ ap (order (parts c.args.self.now)) (reads_one c.args.bytes.now _ v c.in-Ok.ensures.reads h))
