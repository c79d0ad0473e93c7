-- How a start and an update begin.
use Rattle.std.proofs.Common.{[]}
use Rattle.osgi_lifecycle.proofs.Beginning.{start-begins, update-begins}
use Rattle.osgi_lifecycle.proofs.at.At.first.Goals as goal

pub returns-in-Start : goal.returns-in-Start
returns-in-Start c = record { plan = λ kept. rw c.in-Start.is (start-begins c.args.owner c.in-Start.target c.in-Start.transient (record kept { text = [] })) }

pub returns-in-Update : goal.returns-in-Update
returns-in-Update c = record { plan = λ kept. rw c.in-Update.is (update-begins c.args.owner c.in-Update.bundle c.in-Update.location kept) }
