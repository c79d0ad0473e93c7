-- One more host, and all of them.
use Rattle.std.proofs.Common.{List, get_or, subst}
use Rattle.std.proofs.lemmas.List.{take_all}
use Rattle.osgi_base.specs.declared.ids.RevisionId.{RevisionId}
use Rattle.osgi_candidates.specs.computed.Collecting.{Extends, IsAtOf}
use Rattle.osgi_candidates.proofs.Collected.{hosts_more, hosts_none}
use Rattle.osgi_space_rules.proofs.Items.{no_revision, there}
use Rattle.osgi_candidates.proofs.offers.Offers.add_hosts.Goals as goal

pub loop-host-init : goal.loop-host-init
loop-host-init c = λ fit asks. hosts_none c.args.self.now c.args.at c.args.found.now c.args.place

pub loop-host-preserved : goal.loop-host-preserved
loop-host-preserved c = λ fit asks.
    let hosts = c.args.hosts.now in
    let i = c.loop-host.host-index in
    let within = c.loop-host-test.true in
    hosts_more c.args.self.now c.args.at c.args.found.now c.loop-host.found c.add_candidate.new.found c.args.place hosts i (get_or hosts i no_revision) within (there hosts i no_revision within) (c.loop-host.invariant fit asks)
    (c.in_ok-add_candidate.ensures.added fit asks)

pub returns : goal.returns
returns c = record {
  added = λ fit asks.
      subst (λ (l : List RevisionId). Extends c.args.self.now c.args.at c.args.found.now c.loop-host.found (IsAtOf c.args.place l)) (take_all c.loop-host.host-index c.args.hosts.now c.loop-host-test.false)
      (c.loop-host.invariant fit asks);
}
