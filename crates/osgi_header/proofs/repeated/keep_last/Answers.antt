-- The header that was taken counts where its name was not seen after it.
use Rattle.std.proofs.Common.{◌≡◌, length, drop, sym, subst, ap, ◌∙◌}
use Rattle.std.specs.Prelude.{reverse}
use Rattle.std.specs.Str.{str_to_ascii_lowercase}
use Rattle.osgi_header.specs.Headers.{counting}
use Rattle.osgi_header.proofs.Repeating.{AreNames, counts_is, kept_more, names_more, taken}
use Rattle.osgi_header.proofs.repeated.keep_last.Goals as goal

pub loop-header-preserved : goal.loop-header-preserved
loop-header-preserved c =
    let headers = c.args.headers.items in
    let header = c.in-Some.header in
    let remainder = drop (length c.loop-header.left.items) headers in
    let name = c.in_ok-name.name in
    let took = taken headers c.loop-header.left.items c.pop.new.self.items header c.in-Some.ensures.items c.loop-header.invariant.left in
    let low : name.items ≡ str_to_ascii_lowercase header.name = c.in_ok-name.ensures.lowercase ∙ ap str_to_ascii_lowercase c.bytes.ensures.bytes in
    let counts = counts_is c.loop-header.seen.keys name header remainder c.in_ok-counts.counts low c.loop-header.invariant.seen c.in_ok-counts.ensures.added in
    record {
      left = took.prefix;
      kept =
          subst (λ l. reverse c.push_if.new.kept.items ≡ counting l) (sym took.rest)
          (kept_more header remainder c.loop-header.kept.items c.push_if.new.kept.items c.in_ok-counts.counts counts c.loop-header.invariant.kept c.in_ok-push_if.ensures.added);
      seen =
          subst (AreNames c.insert.new.self.keys) (sym took.rest)
          (names_more c.loop-header.seen.keys c.insert.new.self.keys name header remainder low c.loop-header.invariant.seen (λ q. c.in_ok-counts.ensures.updates.0 q));
    }
