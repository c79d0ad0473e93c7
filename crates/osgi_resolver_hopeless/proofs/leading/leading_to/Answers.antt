-- One member more is looked at; when none is left, all that leads to the host is found.
use Rattle.std.proofs.Common.{◌<◌, length, get_or, arith}
use Rattle.osgi_resolver_path.specs.Standing.{made}
use Rattle.osgi_space_sources.specs.laws.Adding.{adds-from, item-at}
use Rattle.osgi_resolver_hopeless.proofs.Worklist.{worklist-done, worklist-init, worklist-step}
use Rattle.osgi_resolver_hopeless.proofs.leading.leading_to.Goals as goal

pub loop-next-init : goal.loop-next-init
loop-next-init c = λ P L. worklist-init P (made P c.args.path.now) c.args.host c.add.new.self (adds-from c.new-found.ensures.empty c.in_ok-add.ensures.added)

pub loop-next-preserved : goal.loop-next-preserved
loop-next-preserved c = λ P L.
    let found = c.loop-next.found in
    let next = c.loop-next.next in
    let slice = c.items.result.now in
    let within : next < length found = omega arith in
    worklist-step P (made P c.args.path.now) c.args.host found c.add_wired.new.found next (get_or slice next 0) within (item-at found slice next 0 c.items.ensures.items within) (c.loop-next.invariant P L) (c.in_ok-add_wired.ensures.added P L)

pub returns : goal.returns
returns c = record {
  leading = λ P L. worklist-done P (made P c.args.path.now) c.args.host c.loop-next.found c.loop-next.next (omega arith) (c.loop-next.invariant P L);
}
