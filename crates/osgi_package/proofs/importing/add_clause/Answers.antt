-- A clause has the fault of its template, or a package stands twice, or its requirements are added.
use Rattle.osgi_package.specs.Packages.{packages}
use Rattle.osgi_package.proofs.ImportReading.{all_added, said_fault, said_twice}
use Rattle.osgi_package.proofs.importing.add_clause.Goals as goal

pub returns-in-Err : goal.returns-in-Err
returns-in-Err c = record {
  added = λ before seen. said_fault before c.args.clause.now c.in_ok-template.field-0 c.in-Err.kind c.in_ok-template.ensures.template c.in-Err.is;
}

pub returns-then-branch : goal.returns-then-branch
returns-then-branch c = record {
  added = λ before seen.
      all_added before c.args.clause.now c.in_ok-template.field-0 c.in-Ok.template c.items.result.now c.args.requirements.now c.add_all.new.requirements c.add_all.new.seen
      c.items.ensures.items c.in_ok-template.ensures.template c.in-Ok.is c.in_ok-add_all.field-0 c.if-branch.true (c.in_ok-add_all.ensures.new (packages before) seen)
      c.in_ok-add_all.ensures.added;
}

pub returns : goal.returns
returns c = record {
  added = λ before seen.
      said_twice before c.args.clause.now c.in_ok-template.field-0 c.in-Ok.template c.items.result.now c.args.requirements.now c.add_all.new.requirements c.add_all.new.seen
      c.items.ensures.items c.in_ok-template.ensures.template c.in-Ok.is c.in_ok-add_all.field-0 c.if-branch.false (c.in_ok-add_all.ensures.new (packages before) seen);
}
