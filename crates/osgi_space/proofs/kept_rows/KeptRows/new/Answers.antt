-- Of nothing there are no rows.
use Rattle.osgi_space.proofs.Followed.{follows-nothing}
use Rattle.osgi_space.proofs.kept_rows.KeptRows.new.Goals as goal

pub returns : goal.returns
returns c = record { follows = follows-nothing c.new.result c.new-2.result c.new.ensures.no_names c.new.ensures.no_rows }
