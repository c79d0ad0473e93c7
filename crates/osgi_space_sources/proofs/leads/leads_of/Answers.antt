-- To what a traced export leads is carried back to it.
use Rattle.osgi_space_sources.specs.computed.Amongst.{IsAmong}
use Rattle.osgi_space_sources.specs.computed.Disputes.{IsDisputed}
use Rattle.osgi_space_sources.specs.declared.lead.Lead.{Lead}
use Rattle.osgi_space_sources.proofs.Tracing.{lead-there}
use Rattle.osgi_space_sources.proofs.leads.leads_of.Goals as goal

pub returns : goal.returns
returns c =
    let t = c.in-Some.trace in
    let from = c.in_ok-trace.ensures in
    record {
      leads = λ leads is h s at lead disputed.
          let l : Lead = record { export = h; source = s } in
          c.in_ok-leads_in.ensures.leads leads is l (lead-there c.args.rows.now (IsAmong c.args.among) (IsDisputed c.args.disputed.now) t (from.traced t c.in-Some.is) h s (from.exports t c.in-Some.is h at) lead disputed);
    }
