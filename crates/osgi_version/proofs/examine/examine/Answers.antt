-- Each fault, from the laws of a reader and where the two scans stopped.
use Rattle.std.proofs.Common.{arith, sym, ◌∙◌}
use Rattle.osgi_version.proofs.Faults.{IsLastDigits, fault_end, fault_inside, fault_big, fine_not}
use Rattle.osgi_version.proofs.examine.examine.Goals as goal
use Rattle.osgi_version.proofs.examine.examine.Goals.{else-end-bytes-via-then-end-bytes+else-may_end-2, else-end-bytes-via-else-end-bytes}

pub returns-then-at-bytes : goal.returns-then-at-bytes
returns-then-at-bytes g c = record {
  state = fault_end _ _ _ _ _ _ _ c.requires.reader c.args.bytes.now c.scan-state.result.1 c.scan-state.result.0
      (record { within = c.scan-state.ensures.within; prefix = c.scan-state.ensures.prefix; stop = c.scan-state.ensures.stop }) (omega arith) (sym c.may_end.ensures.end ∙ c.if-may_end.false);
}

pub returns-then-may_end-2 : goal.returns-then-may_end-2
returns-then-may_end-2 g c =
    let d : IsLastDigits c.split_at.result.0.now c.number_start-begin.result = record { within = c.number_start-begin.ensures.within; digits = c.number_start-begin.ensures.digits; apart = c.number_start-begin.ensures.apart } in
    record {
      state = fault_big _ _ _ _ _ _ _ c.requires.reader c.args.bytes.now c.scan-state.result.1 c.scan-last.result.1 c.number_start-begin.result c.scan-state.result.0 c.scan-last.result.0
          (record { within = c.scan-state.ensures.within; prefix = c.scan-state.ensures.prefix; stop = c.scan-state.ensures.stop })
          (record { within = c.scan-last.ensures.within; prefix = c.scan-last.ensures.prefix; stop = c.scan-last.ensures.stop })
          (omega arith) (omega arith) (sym c.may_end-then-end-bytes.ensures.end ∙ c.if-may_end-2.true)
          (rw c.split_at.ensures.front at d);
    }

pub returns : goal.returns
returns g c = record {
  state = fault_inside _ _ _ _ _ _ _ c.requires.reader c.args.bytes.now c.scan-state.result.1 c.scan-last.result.1 c.scan-state.result.0 c.scan-last.result.0
      (record { within = c.scan-state.ensures.within; prefix = c.scan-state.ensures.prefix; stop = c.scan-state.ensures.stop })
      (record { within = c.scan-last.ensures.within; prefix = c.scan-last.ensures.prefix; stop = c.scan-last.ensures.stop })
      (elim c.else-end-bytes.branch [
        | else-end-bytes-via-then-end-bytes+else-may_end-2 w ↦ λ le l. fine_not _ l (sym w.may_end-then-end-bytes.ensures.end ∙ w.if-may_end-2.false)
        | else-end-bytes-via-else-end-bytes w ↦ λ le l. absurd (omega arith)
      ]);
}
