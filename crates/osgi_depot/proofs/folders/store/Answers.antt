-- What is kept is of what was found, with its script.
use Rattle.osgi_depot.proofs.Keeping.{all_kept}
use Rattle.osgi_depot.proofs.folders.store.Goals as goal

pub returns-clause-kept : goal.returns-clause-kept
returns-clause-kept g c =
    all_kept (g.F.Shelf.told c.args.shelf.now) c.args.location.now c.count-before.result c.count-after.result c.in_ok-found.found c.keep.result c.in_ok-found.ensures.answer
    c.in_ok-found.ensures.limits (rw (c.count-before.ensures.faults, c.count-after.ensures.faults) c.in_ok-found.ensures.cause) c.keep.ensures.stored c.keep.ensures.script
