-- As contracts see it.
use Rattle.std.proofs.Common.{map, subst}
use Rattle.osgi_candidate_rows.specs.Listed.{Listed, TakesOut}
use Rattle.osgi_candidate_rows.specs.computed.Numbers.{candidate}
use Rattle.osgi_candidate_rows.proofs.Taken.{takes-out}
use Rattle.osgi_candidate_rows.proofs.candidate_rows.CandidateRows.take_out.Goals as goal

pub returns : goal.returns
returns c =
    let choices = c.self.inside.choices.now in
    record {
      taken = subst (λ (s : Listed). TakesOut c.args.provider c.args.before s c.take_out_of.result (record { choices = choices; out = map (candidate choices) c.take_out_of.new.rows.removed })) c.self.view_is
          (takes-out choices c.args.provider c.args.before c.take_out_of.result c.self.inside.rows c.take_out_of.new.rows c.take_out_of.ensures.taken);
    }
