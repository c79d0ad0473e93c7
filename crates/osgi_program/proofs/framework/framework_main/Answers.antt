-- The session is that of all bytes that were left, under the limits that the words give, and its status says what is in it.
use Rattle.std.proofs.Common.{◌≡◌, inr, subst}
use Rattle.osgi_ops.specs.Settings.{bounds_of}
use Rattle.osgi_ops.specs.declared.limits.Limits.{Limits}
use Rattle.osgi_program.proofs.Ends.{all_taken, completed, limit_from, not_asked, not_cut_by, part_for, session_from, status_from, whole_for}
use Rattle.osgi_program.specs.Outcome.{IsAtLimit}
use Rattle.osgi_program.specs.Words.{bounds_in, replies, Request}
use Rattle.osgi_program.proofs.framework.framework_main.Goals as goal

pub returns-in-Ok-clause-session : goal.returns-in-Ok-clause-session
returns-in-Ok-clause-session g c = λ asked asks.
    let bounds = bounds_of c.in-Some.limits in
    let same : replies bounds ≡ asked = c.in-Some.ensures.only asked asks in
    let read = rw c.in-Ok-All.field-0-is at c.in-Ok-All.ensures.input in
    session_from asked bounds c.bytes.result.now _ c.in-Ok.ran c.in-Ok.session c.write_session-status.result _ same c.in-Ok.ensures.run
    (rw c.bytes.ensures.bytes (all_taken _ _ _ read.0 read.1)) (rw c.bytes.ensures.bytes read.2) c.write_session-status.ensures.starved c.write_session-status.ensures.status

pub returns-in-Ok-clause-part_written : goal.returns-in-Ok-clause-part_written
returns-in-Ok-clause-part_written g c = λ asked asks failed.
    part_for _ _ c.in-Ok.session (bounds_of c.in-Some.limits) asked (c.in-Some.ensures.only asked asks) (c.write_session-status.ensures.part failed)

pub returns-in-Ok-clause-written : goal.returns-in-Ok-clause-written
returns-in-Ok-clause-written g c = λ asked asks written.
    whole_for _ _ _ c.in-Ok.session (bounds_of c.in-Some.limits) asked (c.in-Some.ensures.only asked asks) (c.write_session-status.ensures.whole written)

pub returns-in-Ok-clause-status_by_session : goal.returns-in-Ok-clause-status_by_session
returns-in-Ok-clause-status_by_session g c = λ written. status_from (bounds_of c.in-Some.limits) c.bytes.result.now _ c.in-Ok.ran c.in-Ok.session c.write_session-status.result c.in-Ok.ensures.run c.write_session-status.ensures.starved written (c.write_session-status.ensures.status written)

pub returns-in-Ok-clause-cut : goal.returns-in-Ok-clause-cut
returns-in-Ok-clause-cut g c = λ asked asks cut.
    let bounds = bounds_of c.in-Some.limits in
    let same : replies bounds ≡ asked = c.in-Some.ensures.only asked asks in
    subst (λ (a : Request). IsAtLimit (bounds_in a) c.in-Ok.session) same
    (limit_from bounds c.bytes.result.now _ c.in-Ok.ran c.in-Ok.session c.write_session-status.result c.in-Ok.ensures.run c.write_session-status.ensures.starved c.write_session-status.ensures.status cut)

pub returns-in-Ok-clause-complete : goal.returns-in-Ok-clause-complete
returns-in-Ok-clause-complete g c = λ asked asks source sink left uncut.
    let status = c.write_session-status.result in
    completed status c.write_session-status.ensures.which (λ failed. sink (c.write_session-status.ensures.failed failed))
    (λ cut. not_cut_by c.in-Ok.session status uncut
    (status_from (bounds_of c.in-Some.limits) c.bytes.result.now _ c.in-Ok.ran c.in-Ok.session status c.in-Ok.ensures.run c.write_session-status.ensures.starved (inr (inr cut)) (c.write_session-status.ensures.status (inr (inr cut)))) cut)

pub returns-in_default-clause-faulty_words : goal.returns-in_default-clause-faulty_words
returns-in_default-clause-faulty_words g c = ((λ is asks. not_asked (λ (limits : Limits). replies (bounds_of limits) ≡ asks.0) c.run_limits.result c.in_default.not-Some (c.run_limits.ensures.only asks.0 asks.1)), (λ none. c.bare.ensures.status))

pub returns-in_default-clause-complete : goal.returns-in_default-clause-complete
returns-in_default-clause-complete g c = λ asked asks source sink left free. absurd (not_asked (λ (limits : Limits). replies (bounds_of limits) ≡ asked) c.run_limits.result c.in_default.not-Some (c.run_limits.ensures.only asked asks))
