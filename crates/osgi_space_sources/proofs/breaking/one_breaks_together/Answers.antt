-- The exports that the revisions see are among those of which it was found to what they lead.
use Rattle.osgi_space_sources.specs.computed.Amongst.{IsAmong}
use Rattle.osgi_space_sources.proofs.Tracing.{follows-may}
use Rattle.osgi_space_sources.proofs.breaking.one_breaks_together.Goals as goal

pub one_breaks_by-requires-clause-leads : goal.one_breaks_by-requires-clause-leads
one_breaks_by-requires-clause-leads c = λ n at h s seen among lead disputed.
    c.in_ok-leads.ensures.leads c.in-Some.leads c.in-Some.is h s (c.in_ok-starts.ensures.starts n h at seen among (follows-may c.args.rows.now (IsAmong c.args.among) h lead.1)) lead disputed
