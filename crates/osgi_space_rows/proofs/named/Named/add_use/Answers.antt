-- A use with its name.
use Rattle.std.proofs.Common.{List, sym, subst, [], ◌∷◌}
use Rattle.osgi_space_rows.specs.computed.Payloads.{Adds, Used}
use Rattle.osgi_space_rows.specs.declared.rows.Use.{Use}
use Rattle.osgi_space_rows.proofs.Payload.{use-added}
use Rattle.osgi_space_rows.proofs.named.Named.add_use.Goals as goal

pub returns : goal.returns
returns c = record {
  adds = λ name has.
      let answer = c.in_ok-used.ensures in
      subst (λ (uses : List Use). Adds c.args.self.now (record { names = c.intern.new.self; rows = record c.args.self.now.rows { uses = uses } }) (Used c.args.owner name (c.args.used.now ∷ []))) (sym c.in_ok-push.ensures.added)
      (use-added c.args.self.now c.intern.new.self c.args.owner c.args.exported c.in_ok-used.used name c.args.used.now c.requires.named has answer.names answer.once answer.number);
}
