-- There is room for the entry and, behind it, for the ends of the hands and jobs that are open then.
use Rattle.std.proofs.Common.{◌≡◌, ◌+◌, ◌-◌, ◌++◌, ◌∷◌, [], true, false, arith, sym, ◌∙◌}
use Rattle.osgi_core.proofs.Hands.{ends_then, ends_few, kept_ends, own_ends, some_open}
use Rattle.osgi_core.proofs.machine.answer.Goals as goal
use Rattle.osgi_core.proofs.machine.answer.Goals.{then-ends, else-ends}

pub returns-in_err-reserve-clause-no_memory : goal.returns-in_err-reserve-clause-no_memory
returns-in_err-reserve-clause-no_memory c own =
    let entries = c.args.entries.now.items in
    let ends : c.ends_own-ends.result ≡ true = c.ends_own-ends.ensures.ends ∙ kept_ends entries c.args.tables.now.brackets c.args.asked.tag c.args.asked.op c.requires.brackets ∙ own_ends entries c.args.asked.tag c.args.asked.op own in
    let enough = c.requires.ends.room in
    let room : c.if-ends.room ≡ c.args.begun.now = elim c.if-ends.branch [
      | then-ends w ↦ w.room-is
      | else-ends w ↦ absurd (let bad : true ≡ false = sym ends ∙ w.if-ends.false in cc bad)
    ] in
    absurd (let bad : false ≡ true = c.in_err-reserve.ensures.succeeds (omega (arith, enough, room)) in cc bad)

pub returns-in_err-replied-clause-no_memory : goal.returns-in_err-replied-clause-no_memory
returns-in_err-replied-clause-no_memory c own = absurd (let bad : false ≡ true = c.in_err-replied.ensures.no_memory own.0 in cc bad)

pub begun_after-requires-clause-some : goal.begun_after-requires-clause-some
begun_after-requires-clause-some c ends =
    let entries = c.args.entries.now.items in
    let some = some_open c.args.asked.tag c.args.asked.op _ (sym (kept_ends entries c.args.tables.now.brackets c.args.asked.tag c.args.asked.op c.requires.brackets) ∙ sym c.ends_own-ends.ensures.ends ∙ ends) in
    omega (arith, some, c.requires.ends.open_ends)

pub begun_after-requires-clause-countable : goal.begun_after-requires-clause-countable
begun_after-requires-clause-countable c = omega (arith, c.requires.countable, c.requires.ends.open_ends, ends_few c.args.entries.now.items)

pub added-requires : goal.added-requires
added-requires c =
    let entries = c.args.entries.now.items in
    record {
      room = elim c.if-ends.branch [
        | then-ends w ↦ (
            let some = some_open c.args.asked.tag c.args.asked.op _ (sym (kept_ends entries c.args.tables.now.brackets c.args.asked.tag c.args.asked.op c.requires.brackets) ∙ sym c.ends_own-ends.ensures.ends ∙ w.if-ends.true) in
            let room = w.room-is in
            omega (arith, some, room, c.requires.ends.open_ends, c.in_ok-reserve.ensures.ok))
        | else-ends w ↦ (let room = w.room-is in omega (arith, room, c.in_ok-reserve.ensures.ok))
      ];
    }

pub returns-clause-ends : goal.returns-clause-ends
returns-clause-ends c =
    let entries = c.args.entries.now.items in
    let fits = c.in_ok-reserve.ensures.ok in
    let more = c.added.ensures.capacity in
    ends_then entries c.added.new.items.items c.args.asked.tag c.args.asked.op c.in_ok-replied.replied.reply c.in_ok-replied.replied.kept c.args.tables.now.brackets c.args.begun.now c.begun_after.result c.if-ends.room _ c.ends_own-ends.result
    c.requires.brackets c.requires.ends.open_ends c.ends_own-ends.ensures.ends c.in_ok-replied.ensures.copied
    (c.added.ensures.added ∙ (λ i. c.reserve.ensures.items i ++ c.answered.ensures.entry i ∷ []))
    c.begun_after.ensures.begun (omega (arith, fits, more))
    (λ ends. elim c.if-ends.branch [ then-ends w ↦ w.room-is | else-ends w ↦ absurd (let bad : true ≡ false = sym ends ∙ w.if-ends.false in cc bad) ])
    (λ other. elim c.if-ends.branch [ then-ends w ↦ absurd (let bad : true ≡ false = sym w.if-ends.true ∙ other in cc bad) | else-ends w ↦ w.room-is ])
