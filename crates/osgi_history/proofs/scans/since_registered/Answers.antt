-- The entry that registered the service counts its uses from itself on.
use Rattle.std.proofs.Common.{◌≡◌, ◌+◌, ◌∙◌, ap, sym, drop, true}
use Rattle.std.specs.Option.{option_to_list}
use Rattle.osgi_history.proofs.Front.{ids_of, newly, rest_of, uses-left}
use Rattle.osgi_history.specs.computed.Scans.{held}
use Rattle.osgi_history.proofs.scans.since_registered.Goals as goal

pub returns-then-eq : goal.returns-then-eq
returns-then-eq c =
    record {
      since = λ user.
          let entries = c.args.entries.now in
          let i = c.loop-place.place in
          let e = c.index-entries-place.result in
          let registered : option_to_list c.registered.result ≡ ids_of (newly c.loop-place.earlier e (drop (i + 1) entries)) = rw (rest_of entries (i + 1)) at c.registered.ensures.registered in
          c.loop-place.invariant.left user
          ∙ uses-left user c.args.service c.loop-place.earlier entries i e c.registered.result true c.loop-place-test.true c.index-entries-place.is registered (sym c.if-eq.ensures)
          ∙ ap (held user c.args.service) (sym (rest_of entries (i + 1)));
    }
