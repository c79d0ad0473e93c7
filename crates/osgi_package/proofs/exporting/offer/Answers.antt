-- The first fault of a clause is found, or what it offers.
use Rattle.std.proofs.Common.{◌∙◌, sym}
use Rattle.osgi_package.proofs.ExportReading.{no_version, said_all, said_names, said_values}
use Rattle.osgi_package.proofs.exporting.offer.Goals as goal

pub returns-in_default : goal.returns-in_default
returns-in_default c = record { offer = no_version c.args.clause.now c.in_ok-version.field-0 c.in_ok-version.ensures.version c.in_default.is }

pub returns-in-Err : goal.returns-in-Err
returns-in-Err c = record {
  offer = said_values c.args.clause.now c.in-Some.version (sym c.in_ok-version.ensures.version ∙ c.in-Some.is) c.in_ok-others.field-0 c.in-Err.kind
      c.in_ok-others.ensures.attributes c.in-Err.is;
}

pub returns-in-Some-named_fault : goal.returns-in-Some-named_fault
returns-in-Some-named_fault c = record {
  offer = said_names c.args.clause.now c.in-Some.version (sym c.in_ok-version.ensures.version ∙ c.in-Some.is) c.in_ok-others.field-0 c.in-Ok.others c.named_fault.result
      c.in-Some-named_fault.kind c.in_ok-others.ensures.attributes c.in-Ok.is c.named_fault.ensures.fault c.in-Some-named_fault.is;
}

pub returns : goal.returns
returns c = record {
  offer = said_all c.args.clause.now c.in-Some.version (sym c.in_ok-version.ensures.version ∙ c.in-Some.is) c.in_ok-others.field-0 c.in-Ok.others c.named_fault.result
      c.in_ok-capability.field-0 c.in_ok-attributes.attributes c.in_ok-others.ensures.attributes c.in-Ok.is c.named_fault.ensures.fault c.in_default-named_fault.is
      c.in_ok-attributes.ensures.attributes c.in_ok-capability.ensures.offer;
}
