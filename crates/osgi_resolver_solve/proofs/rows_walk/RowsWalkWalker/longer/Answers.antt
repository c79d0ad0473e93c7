-- A layer more, or none where memory runs out.
use Rattle.std.proofs.Common.{sym, subst}
use Rattle.osgi_resolver_solve.specs.computed.Layers.{IsInRows}
use Rattle.osgi_resolver_solve.proofs.Layers.{back-there, counts-kept, counts-more, in_rows-longer, in_rows-same, out-least, put-back}
use Rattle.osgi_resolver_solve.proofs.rows_walk.RowsWalkWalker.longer.Goals as goal

pub put_back-requires : goal.put_back-requires
put_back-requires c = record { out = out-least c.longer.new.self c.self.inside.rows c.take_out_by_last-count.new.rows c.take_out_by_last-count.result c.take_out_by_last-count.ensures.taken }

pub invariant_of-self-then-is_err : goal.invariant_of-self-then-is_err
invariant_of-self-then-is_err c =
    let s = c.self.inside.path in
    let t = c.longer.new.self in
    let u = c.shorter.new.self in
    let l = c.self.inside.rows in
    let m = c.take_out_by_last-count.new.rows in
    let k = c.put_back.new.self in
    let n = c.take_out_by_last-count.result in
    let counts = c.self.inside.taken.items in
    let there = back-there s t u c.args.value c.shorter.result c.in_ok-longer.ensures.word c.shorter.ensures.word in
    let back = put-back t l m k n c.take_out_by_last-count.ensures.taken c.put_back.ensures.back in
    subst (IsInRows u k) (sym (counts-kept c.push.result c.is_err.result counts c.push.new.self.items n c.push.ensures.items c.is_err.ensures.value c.if-is_err.true)) (in_rows-same s u l k counts c.self.invariant there back)

pub invariant_of-self-else-is_err : goal.invariant_of-self-else-is_err
invariant_of-self-else-is_err c =
    let s = c.self.inside.path in
    let t = c.longer.new.self in
    let l = c.self.inside.rows in
    let m = c.take_out_by_last-count.new.rows in
    let n = c.take_out_by_last-count.result in
    let counts = c.self.inside.taken.items in
    let more = c.push.new.self.items in
    in_rows-longer s t l m counts more c.args.value n c.self.invariant c.in_ok-longer.ensures.word c.take_out_by_last-count.ensures.taken (counts-more c.push.result c.is_err.result counts more n c.push.ensures.items c.is_err.ensures.value c.if-is_err.false)
