-- A header more was read, and those of the lines after it are left.
use Rattle.std.proofs.Common.{sym, ◌∙◌}
use Rattle.osgi_header.proofs.HeaderReading.{headers_more}
use Rattle.osgi_header.proofs.unfolding.read_headers.Goals as goal

pub loop-first-preserved : goal.loop-first-preserved
loop-first-preserved c =
    let begun = c.in-Some.ensures.header in
    record {
      within = begun.within;
      read =
          headers_more c.loop-first.all.items c.push.new.self.items c.in-Ok.header _ _ _ _ begun.groups (sym c.in-Ok.is ∙ c.in_ok-header.ensures.header)
          c.in_ok-push-in-Ok.ensures.items c.loop-first.invariant.read;
    }
