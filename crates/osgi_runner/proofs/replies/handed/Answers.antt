-- A drain ends, or goes on with a section.
use Rattle.std.proofs.Common.{sym, subst, ◌∙◌, refl}
use Rattle.osgi_runner.proofs.Following.{by-hand, drain-over, pushed}
use Rattle.osgi_runner.specs.computed.States.{frames_of, RestBy}
use Rattle.osgi_runner.specs.declared.frames.Frame.TheVariants as frame
use Rattle.osgi_runs.proofs.Courses.{drain-ended}
use Rattle.osgi_runner.proofs.replies.handed.Goals as goal

pub returns-in_default-clause-on : goal.returns-in_default-clause-on
returns-in_default-clause-on c = λ script calls l s. drain-ended c.args.reply (drain-over c.args.reply (sym c.handed_to.ensures.listener ∙ c.in_default.is) s) l

pub returns-clause-on : goal.returns-clause-on
returns-clause-on c = λ script calls h s.
    by-hand script (frames_of c.args.stack.now.items) calls c.args.reply c.in-Some.listener (sym c.handed_to.ensures.listener ∙ c.in-Some.is)
    (subst (λ l. RestBy script c.args.reply l calls)
    (pushed c.args.stack.now.items c.args.stack.now.items c.push_reserved.new.self.items (frame.Hand c.in-Some.listener) refl c.push_reserved.ensures.items) h)
