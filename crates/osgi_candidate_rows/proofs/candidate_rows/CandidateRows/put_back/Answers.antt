-- As contracts see it.
use Rattle.std.proofs.Common.{◌∙◌, List, drop, map, ap}
use Rattle.osgi_links.specs.Held.{Held}
use Rattle.osgi_world.specs.declared.wiring.CapRef.{CapRef}
use Rattle.osgi_candidate_rows.specs.Listed.{Listed}
use Rattle.osgi_candidate_rows.specs.computed.Numbers.{candidate}
use Rattle.osgi_candidate_rows.proofs.Taken.{map-drop}
use Rattle.osgi_candidate_rows.proofs.candidate_rows.CandidateRows.put_back.Goals as goal

pub returns : goal.returns
returns c =
    let choices = c.self.inside.choices.now in
    record {
      back =
          ap (λ (h : Held). record { choices = choices; out = map (candidate choices) h.removed }) c.put_back_last.ensures.back
          ∙ ap (λ (xs : List CapRef). record { choices = choices; out = xs }) (map-drop (candidate choices) c.args.count c.self.inside.rows.removed)
          ∙ ap (λ (s : Listed). record { choices = s.choices; out = drop c.args.count s.out }) c.self.view_is;
    }
