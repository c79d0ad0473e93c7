-- Where memory runs out, nothing is noted.
use Rattle.std.proofs.Common.{refl}
use Rattle.osgi_candidate_rows.proofs.Noted.{on-err, tells-same}
use Rattle.osgi_candidate_rows.proofs.gone.Gone.note.Goals as goal

pub returns-in_err-push-clause-unchanged : goal.returns-in_err-push-clause-unchanged
returns-in_err-push-clause-unchanged c = on-err c.from_residual.result (tells-same c.args.self.now (record { is_out = c.args.self.now.is_out; order = c.push.new.self }) refl c.in_err-push.ensures.items)
