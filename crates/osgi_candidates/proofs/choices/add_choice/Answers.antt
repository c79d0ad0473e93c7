-- A requirement that can be asked, and one that cannot.
use Rattle.std.proofs.Common.{◌↔◌, IsTrue, List, subst, ap, ◌++◌, ◌∷◌, [], ◌∙◌}
use Rattle.osgi_candidates.proofs.Posed.{not_one, rows_none, rows_one}
use Rattle.osgi_candidates.proofs.Tested.{not_by}
use Rattle.osgi_world.specs.Candidates.{CanBeAsked}
use Rattle.osgi_world.specs.declared.problem.Choice.{Choice}
use Rattle.osgi_world.specs.declared.wiring.CapRef.{CapRef}
use Rattle.osgi_world.specs.declared.world.Known.{Known}
use Rattle.osgi_candidates.proofs.choices.add_choice.Goals as goal

pub returns-then-not-has_candidates : goal.returns-then-not-has_candidates
returns-then-not-has_candidates c =
    let w = c.args.offers.now in
    let q = c.args.at in
    let test = subst (λ (K : List Known). IsTrue c.has_candidates.result ↔ CanBeAsked K c.args.at) c.known.ensures.known c.has_candidates.ensures.has in
    record { added = λ fit within. rows_none w (q ∷ []) c.args.choices.now (not_one w q within (not_by c.has_candidates.result _ c.if-not-has_candidates.true test)) }

pub returns : goal.returns
returns c =
    let test = subst (λ (K : List Known). IsTrue c.has_candidates.result ↔ CanBeAsked K c.args.at) c.known.ensures.known c.has_candidates.ensures.has in
    let has = test.0 c.if-not-has_candidates.false in
    let one : List CapRef → Choice = λ cs. record { requirement = c.args.at; candidates = cs } in
    record {
      added = λ fit within.
          rows_one c.args.offers.now c.args.choices.now c.push.new.self c.args.at c.in_ok-listed.field-0.items has (c.in_ok-listed.ensures.exact fit has)
          (c.in_ok-push.ensures.added ∙ ap (λ cs. c.args.choices.now ++ one cs ∷ []) c.from.ensures);
    }
