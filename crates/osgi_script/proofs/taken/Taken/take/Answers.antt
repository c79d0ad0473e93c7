-- A name joins the names that were taken.
use Rattle.osgi_script.proofs.Sections.{job_taken, make_taken, on_taken}
use Rattle.osgi_script.proofs.taken.Taken.take.Goals as goal

pub returns-in_ok-insert-in-On-clause-taken : goal.returns-in_ok-insert-in-On-clause-taken
returns-in_ok-insert-in-On-clause-taken c =
    on_taken c.args.self.now c.insert.new.self c.args.section.now c.in_ok-copy-in-On.field-0 c.in-On.name c.in-On.is c.in_ok-copy-in-On.ensures.same
    (λ q. c.in_ok-insert-in-On.ensures.updates.0 q)

pub returns-in_ok-insert-in-Job-clause-taken : goal.returns-in_ok-insert-in-Job-clause-taken
returns-in_ok-insert-in-Job-clause-taken c =
    job_taken c.args.self.now c.insert-in-Job.new.self c.args.section.now c.in_ok-copy-in-Job.field-0 c.in-Job.name c.in-Job.is c.in_ok-copy-in-Job.ensures.same
    (λ q. c.in_ok-insert-in-Job.ensures.updates.0 q)

pub returns-in_ok-insert-in-Make-clause-taken : goal.returns-in_ok-insert-in-Make-clause-taken
returns-in_ok-insert-in-Make-clause-taken c =
    make_taken c.args.self.now c.insert-in-Make.new.self c.args.section.now c.in_ok-copy-in-Make.field-0 c.in-Make.name c.in-Make.is c.in_ok-copy-in-Make.ensures.same
    (λ q. c.in_ok-insert-in-Make.ensures.updates.0 q)
