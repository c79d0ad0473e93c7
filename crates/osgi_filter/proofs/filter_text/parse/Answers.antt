-- What was read stands in the grammar, and where the reading stopped nothing goes on.
use Rattle.osgi_filter.specs.laws.Levels.{whole_sound, one_tree}
use Rattle.osgi_filter.proofs.Places.{fault_is, fault_within, unread}
use Rattle.osgi_filter.proofs.filter_text.parse.Goals as goal

pub overflow_sub-result : goal.overflow_sub-result
overflow_sub-result c = fault_within c.args.bytes.now c.in-Err-Fault.left (rw c.in-Err-Fault.field-0-is at c.in-Err-Fault.ensures.filter)

pub returns-in-Ok : goal.returns-in-Ok
returns-in-Ok c =
    let read = whole_sound c.args.bytes.now c.in-Ok.filter c.in-Ok.ensures.filter in
    record { reads = read; only = λ f r. one_tree c.args.bytes.now c.in-Ok.filter f read r; one_tree = one_tree c.args.bytes.now; fault = tt }

pub returns-in-Err-Fault : goal.returns-in-Err-Fault
returns-in-Err-Fault c =
    let stops = rw c.in-Err-Fault.field-0-is at c.in-Err-Fault.ensures.filter in
    record {
      reads = tt;
      only = λ f r. unread c.args.bytes.now c.in-Err-Fault.left stops f r;
      one_tree = one_tree c.args.bytes.now;
      fault = (λ some. unread c.args.bytes.now c.in-Err-Fault.left stops some.0 some.1, fault_is c.args.bytes.now c.in-Err-Fault.left stops);
    }

pub returns-in-Err-Memory : goal.returns-in-Err-Memory
returns-in-Err-Memory c = record { reads = tt; only = λ f r. tt; one_tree = one_tree c.args.bytes.now; fault = tt }
