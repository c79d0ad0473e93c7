-- The word, the namespace and the name are added one after another.
use Rattle.std.proofs.Common.{append_assoc}
use Rattle.osgi_console_text.proofs.refusals.add_no_candidate.Goals as goal

pub returns : goal.returns
returns c =
    record { added = rw (c.in_ok-add_spaced-2.ensures.added, c.in_ok-add_spaced.ensures.added, append_assoc, append_assoc) at c.add_spaced-3.ensures.added }
