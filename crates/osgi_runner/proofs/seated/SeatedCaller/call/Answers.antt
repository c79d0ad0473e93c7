-- A call in the hall is a call of the caller, who goes on with the same pass.
use Rattle.std.proofs.Common.{◌≡◌, ◌∙◌, [], ◌∷◌, refl}
use Rattle.osgi_runner.proofs.Called.{begins, called, legal_of, seen_within}
use Rattle.osgi_runner.proofs.seated.SeatedCaller.call.Goals as goal

pub invariant_of-self : goal.invariant_of-self
invariant_of-self g c =
    let z = c.args.self.now.hall.now.setting in
    let q = c.call-answer.new.pass in
    let same = c.call-answer.ensures.same in
    let is : q.setting ≡ z ∷ [] = same.setting ∙ c.args.self.now.of_hall.1 in
    record { of_hall = (same.hall ∙ c.args.self.now.of_hall.0, is); within = seen_within (g.M.Framework.runs_under z) q.seen (legal_of g.M.Machine.can_make g.M.Framework.runs_under g.met.M.Framework.made_is z q c.call-answer.ensures.legal is) }

pub returns-clause-goes : goal.returns-clause-goes
returns-clause-goes g c =
    let z = c.args.self.now.hall.now.setting in
    let more = begins g.M.Machine.is_recorded (g.M.Machine.gives z) (g.M.Framework.runs_under z) g.met.M.Framework.recorded_is (λ h o r given. (g.met.M.Framework.gives_is z h o r).0 given)
    c.args.self.now.pass.now c.call-answer.new.pass c.args.command c.args.op c.call-answer.result c.call-answer.ensures.call in
    ((refl, record { same = c.call-answer.ensures.same; more = more }), refl)

pub returns-clause-called : goal.returns-clause-called
returns-clause-called g c =
    let z = c.args.self.now.hall.now.setting in
    let q = c.call-answer.new.pass in
    let is : q.setting ≡ z ∷ [] = c.call-answer.ensures.same.setting ∙ c.args.self.now.of_hall.1 in
    called g.M.Machine.is_recorded (g.M.Machine.gives z) (g.M.Framework.runs_under z) g.met.M.Framework.recorded_is (λ h o r given. (g.met.M.Framework.gives_is z h o r).0 given)
    c.args.self.now.pass.now q c.args.command c.args.op c.call-answer.result (legal_of g.M.Machine.can_make g.M.Framework.runs_under g.met.M.Framework.made_is z q c.call-answer.ensures.legal is) c.call-answer.ensures.legal.own_calls c.call-answer.ensures.call
