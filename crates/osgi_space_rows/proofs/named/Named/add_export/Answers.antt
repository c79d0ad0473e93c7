-- An export with its name.
use Rattle.std.proofs.Common.{List, sym, subst}
use Rattle.osgi_space_rows.specs.computed.Payloads.{Adds, Exported}
use Rattle.osgi_space_rows.specs.declared.rows.Export.{Export}
use Rattle.osgi_space_rows.proofs.Payload.{export-added}
use Rattle.osgi_space_rows.proofs.named.Named.add_export.Goals as goal

pub returns-clause-adds : goal.returns-clause-adds
returns-clause-adds c =
    let answer = c.in_ok-exported.ensures in
    subst (λ (exports : List Export). Adds c.args.self.now (record { names = c.intern.new.self; rows = record c.args.self.now.rows { exports = exports } }) (Exported c.args.owner c.args.name.now)) (sym c.in_ok-push.ensures.added)
    (export-added c.args.self.now c.intern.new.self c.args.owner c.in_ok-exported.exported c.args.name.now c.requires.named answer.names answer.once answer.number)
