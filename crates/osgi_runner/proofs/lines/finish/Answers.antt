-- One call more is one of the run; and where nothing more is called, something was left to call.
use Rattle.std.proofs.Common.{List, ◌∷◌, refl, rules, subst, sym, ◌∙◌, reverse}
use Rattle.std.specs.Prelude.{Option}
use Rattle.osgi_ops.specs.declared.op.Op.{Op}
use Rattle.osgi_runner.proofs.Loops.{one-call, one-cut, one-falls, starved}
use Rattle.osgi_runner.proofs.Unfinished.{after-reply, on-err, reply-leaves}
use Rattle.osgi_runner.specs.computed.Stacks.{IsAskedIn}
use Rattle.osgi_runner.specs.computed.States.{After, frames_of, Reaches}
use Rattle.osgi_runner.specs.declared.frames.Wait.{Wait}
use Rattle.osgi_session.specs.Runs.{Call, call}
use Rattle.osgi_session.specs.Scripts.{sections_of}
use Rattle.osgi_runner.proofs.lines.finish.Goals as goal

pub returns-in_err-reserve-clause-wanting : goal.returns-in_err-reserve-clause-wanting
returns-in_err-reserve-clause-wanting g c = on-err c.from_residual-in_err-reserve.result (starved (g.C.Caller.made c.advance.new.caller) c.in-Some.op c.loop-op.invariant.way c.advance.ensures.made
    (reply-leaves (sections_of c.args.scripts.now) c.in-Some.op c.in-Some.wait (reverse c.advance.new.stack.items)
    (λ (calls : List Call). After (sections_of c.args.scripts.now) c.loop-op.step (frames_of c.loop-op.stack.items) calls)
    (subst (λ (a : Option (Op × Wait)). IsAskedIn a (reverse c.advance.new.stack.items)) c.in-Some.is c.in_ok-op.ensures.asked)
    (subst (λ (a : Option (Op × Wait)). Reaches (sections_of c.args.scripts.now) a (frames_of c.advance.new.stack.items) c.loop-op.step (frames_of c.loop-op.stack.items)) c.in-Some.is c.in_ok-op.ensures.on)))

pub returns-in_err-reply-clause-wanting : goal.returns-in_err-reply-clause-wanting
returns-in_err-reply-clause-wanting g c = on-err c.from_residual-in_err-reply.result (starved (g.C.Caller.made c.call.new.self) c.in-Some.op c.loop-op.invariant.way
    (c.in_err-reply.ensures.called ∙ c.advance.ensures.made)
    (reply-leaves (sections_of c.args.scripts.now) c.in-Some.op c.in-Some.wait (reverse c.advance.new.stack.items)
    (λ (calls : List Call). After (sections_of c.args.scripts.now) c.loop-op.step (frames_of c.loop-op.stack.items) calls)
    (subst (λ (a : Option (Op × Wait)). IsAskedIn a (reverse c.advance.new.stack.items)) c.in-Some.is c.in_ok-op.ensures.asked)
    (subst (λ (a : Option (Op × Wait)). Reaches (sections_of c.args.scripts.now) a (frames_of c.advance.new.stack.items) c.loop-op.step (frames_of c.loop-op.stack.items)) c.in-Some.is c.in_ok-op.ensures.on)))

pub returns-then-is_cut-clause-ended : goal.returns-then-is_cut-clause-ended
returns-then-is_cut-clause-ended g c = one-cut (g.C.Caller.limit c.advance.new.caller) c.args.number (g.C.Caller.number c.args.caller.now) (g.C.Caller.number c.advance.new.caller) (g.C.Caller.made c.args.caller.now)
    (g.C.Caller.made c.loop-op.caller) (g.C.Caller.made c.advance.new.caller) (g.C.Caller.made c.call.new.self) (g.C.Caller.full c.call.new.self) c.in-Some.op c.in_ok-reply.reply
    (c.advance.ensures.number ∙ c.loop-op.invariant.number) c.advance.ensures.made c.loop-op.invariant.way c.in_ok-reply.ensures.called
    (sym c.is_cut.ensures.cut ∙ c.if-is_cut.true)
    (reply-leaves (sections_of c.args.scripts.now) c.in-Some.op c.in-Some.wait (reverse c.advance.new.stack.items)
    (λ (calls : List Call). After (sections_of c.args.scripts.now) c.loop-op.step (frames_of c.loop-op.stack.items) calls)
    (subst (λ (a : Option (Op × Wait)). IsAskedIn a (reverse c.advance.new.stack.items)) c.in-Some.is c.in_ok-op.ensures.asked)
    (subst (λ (a : Option (Op × Wait)). Reaches (sections_of c.args.scripts.now) a (frames_of c.advance.new.stack.items) c.loop-op.step (frames_of c.loop-op.stack.items)) c.in-Some.is c.in_ok-op.ensures.on))

pub loop-op-init : goal.loop-op-init
loop-op-init g c = record {
  number = refl;
  limit = refl;
  goes = g.met.C.Caller.stays c.args.caller.now;
  fit = c.requires.fit;
  can = c.requires.can;
  way = search rules;
}

pub loop-op-preserved : goal.loop-op-preserved
loop-op-preserved g c =
    let asked = subst (λ (a : Option (Op × Wait)). IsAskedIn a (reverse c.advance.new.stack.items)) c.in-Some.is c.in_ok-op.ensures.asked in
    let reaches = subst (λ (a : Option (Op × Wait)). Reaches (sections_of c.args.scripts.now) a (frames_of c.advance.new.stack.items) c.loop-op.step (frames_of c.loop-op.stack.items)) c.in-Some.is c.in_ok-op.ensures.on in
    let goes = sym c.is_cut.ensures.cut ∙ c.if-is_cut.false in
    let IsNext : List Call → Type 0 = λ (calls : List Call). After (sections_of c.args.scripts.now) c.answered-step.result (frames_of c.answered-step.new.stack.items) calls in
    let on = after-reply (sections_of c.args.scripts.now) c.advance.new.stack.items c.reserve.new.self.items c.in-Some.op c.in-Some.wait c.in_ok-reply.reply IsNext c.reserve.ensures.items asked
    (λ calls is next s. c.answered-step.ensures.on (sections_of c.args.scripts.now) c.in-Some.op calls is next s) goes in
    record {
      number = c.call.ensures.number ∙ c.advance.ensures.number ∙ c.loop-op.invariant.number;
      limit = c.call.ensures.limit ∙ c.advance.ensures.limit ∙ c.loop-op.invariant.limit;
      goes = g.met.C.Caller.goes_further c.args.caller.now c.advance.new.caller c.call.new.self (g.met.C.Caller.goes_further c.args.caller.now c.loop-op.caller c.advance.new.caller c.loop-op.invariant.goes c.advance.ensures.goes) c.call.ensures.goes;
      fit = c.answered-step.ensures.fit;
      can = c.answered-step.ensures.can;
      way = one-call (g.C.Caller.limit c.advance.new.caller) c.args.number (g.C.Caller.number c.args.caller.now) (g.C.Caller.number c.advance.new.caller) (g.C.Caller.made c.args.caller.now)
          (g.C.Caller.made c.loop-op.caller) (g.C.Caller.made c.advance.new.caller) (g.C.Caller.made c.call.new.self) (g.C.Caller.full c.call.new.self) c.in-Some.op c.in_ok-reply.reply
          (c.advance.ensures.number ∙ c.loop-op.invariant.number) c.advance.ensures.made c.loop-op.invariant.way c.in_ok-reply.ensures.called
          goes (λ calls next. reaches (call c.in-Some.op c.in_ok-reply.reply ∷ calls) (on calls next));
    }

pub loop-op-smaller : goal.loop-op-smaller
loop-op-smaller g c = one-falls (g.C.Caller.limit c.call.new.self) (g.C.Caller.limit c.advance.new.caller) (g.C.Caller.limit c.loop-op.caller)
    (record { caller = g.C.Caller.number c.advance.new.caller; command = c.args.number }) (g.C.Caller.made c.loop-op.caller) (g.C.Caller.made c.advance.new.caller) (g.C.Caller.made c.call.new.self)
    (g.C.Caller.full c.call.new.self) c.in-Some.op c.in_ok-reply.reply c.call.ensures.limit c.advance.ensures.limit c.advance.ensures.made c.in_ok-reply.ensures.called (sym c.is_cut.ensures.cut ∙ c.if-is_cut.false)
