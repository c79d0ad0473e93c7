-- The one clause names the host, or there is none though the header is there, or there is no header.
use Rattle.std.proofs.Common.{◌∙◌, sym}
use Rattle.osgi_manifest.proofs.Single.{host_empty, host_said, no_host}
use Rattle.osgi_manifest.proofs.host.bundle_host.Goals as goal

pub returns-in-Some : goal.returns-in-Some
returns-in-Some c = record {
  step = host_said c.args.headers.now c.in_ok-host.field-0 c.in_ok-host.ensures.answer.1 c.in-Some.host c.in-Some.is c.in_ok-host.ensures.answer.0;
}

pub returns-in_ok-header_fault-in-None : goal.returns-in_ok-header_fault-in-None
returns-in_ok-header_fault-in-None c = record {
  step = host_empty c.args.headers.now c.in_ok-host.field-0 c.in_ok-host.ensures.answer.1 c.in_ok-header_fault-in-None.field-0 c.in-None.is
      (sym c.has_host.ensures.host ∙ c.if-has_host.true) c.in_ok-header_fault-in-None.ensures.fault;
}

pub returns-in-None-2 : goal.returns-in-None-2
returns-in-None-2 c = record {
  step = no_host c.args.headers.now c.in_ok-host.field-0 c.in_ok-host.ensures.answer.1 c.in-None-2.is (sym c.has_host.ensures.host ∙ c.if-has_host.false)
      c.in_ok-host.ensures.answer.0;
}
