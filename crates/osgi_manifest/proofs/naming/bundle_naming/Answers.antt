-- The one clause names the bundle, or there is none.
use Rattle.osgi_manifest.proofs.Single.{name_missing, name_said}
use Rattle.osgi_manifest.proofs.naming.bundle_naming.Goals as goal

pub returns-in-Some : goal.returns-in-Some
returns-in-Some c = record {
  step = name_said c.args.headers.now c.in_ok-naming.field-0 c.in-Some.naming c.in-Some.is c.in_ok-naming.ensures.answer.0 c.in_ok-naming.ensures.answer.1;
}

pub returns-in_ok-header_fault-in-None : goal.returns-in_ok-header_fault-in-None
returns-in_ok-header_fault-in-None c = record {
  step = name_missing c.args.headers.now c.in_ok-naming.field-0 c.in_ok-header_fault-in-None.field-0 c.in-None.is c.in_ok-naming.ensures.answer.1
      c.in_ok-header_fault-in-None.ensures.fault;
}
