-- Each answer of the resolver is what the rules say.
use Rattle.std.proofs.Common.{ap, refl}
use Rattle.osgi_reply_resolving.proofs.Brought.{sound_of}
use Rattle.osgi_tables.proofs.Replying.{decided_all}
use Rattle.osgi_reply_resolving.proofs.Searching.{asked_unresolved, found_ok, replied_spent, replied_unresolvable}
use Rattle.osgi_reply_resolving.specs.computed.Searched.{IsSaid}
use Rattle.osgi_tables.specs.declared.tables.Tables.{Tables}
use Rattle.osgi_ops.specs.declared.op.Op.TheVariants as op
use Rattle.osgi_ops.specs.declared.refusal.Refusal.TheVariants.{BudgetSpent, Unresolvable}
use Rattle.osgi_ops.specs.declared.reply.Reply.TheVariants as answer
use Rattle.osgi_resolver.specs.Answers.{IsAnswerTo}
use Rattle.osgi_resolver.specs.declared.answer.Answer.TheVariants.{Found, NoWord, Spent}
use Rattle.osgi_wiring.specs.States.{WiringState}
use Rattle.osgi_reply_resolving.proofs.resolving.search.Goals as goal

pub resolve-requires-clause-unresolved : goal.resolve-requires-clause-unresolved
resolve-requires-clause-unresolved c =
    let W = c.args.tables.now.wirings.world in
    asked_unresolved W c.args.bundle c.args.root (sound_of W c.args.tables.now.wirings.issued c.requires.holds) c.requires.asked

pub returns-in-Found-clause-decided : goal.returns-in-Found-clause-decided
returns-in-Found-clause-decided c =
    let same = c.resolve.ensures.unchanged in
    let a : IsAnswerTo c.args.tables.now.wirings.world c.args.root c.args.tables.now.budget (Found c.in-Found.word c.in-Found.added) = rw c.in-Found.is at c.in_ok-added.ensures.answer in
    found_ok c.accept.result c.args.tables.now c.args.bundle c.args.root c.requires.holds c.requires.asked c.in-Found.word c.in-Found.added a
    (rw (c.wirings.ensures.wirings, same) at c.accept.ensures.reply) (rw (c.wirings.ensures.wirings, same) at c.accept.ensures.change) (rw (c.wirings.ensures.wirings, same) at c.accept.ensures.settable) c.accept.ensures.in_order

pub returns-in-NoWord-clause-decided : goal.returns-in-NoWord-clause-decided
returns-in-NoWord-clause-decided c =
    let t : Tables = c.args.tables.now in
    let same = c.resolve.ensures.unchanged in
    let a : IsAnswerTo t.wirings.world c.args.root t.budget (NoWord c.in-NoWord.cause) = rw c.in-NoWord.is at c.in_ok-added.ensures.answer in
    let said : IsSaid t.wirings.world.known c.in-NoWord.cause c.in_ok-cause-in-NoWord.cause = rw (c.wirings-in-NoWord.ensures.wirings, same) at c.in_ok-cause-in-NoWord.ensures.said in
    decided_all (op.Resolve c.args.bundle) t (answer.Refused (Unresolvable c.in_ok-cause-in-NoWord.cause)) refl
    (replied_unresolvable t c.args.bundle c.args.root c.requires.holds c.requires.asked c.in-NoWord.cause c.in_ok-cause-in-NoWord.cause a said)

pub returns-clause-decided : goal.returns-clause-decided
returns-clause-decided c =
    let t : Tables = c.args.tables.now in
    let a : IsAnswerTo t.wirings.world c.args.root t.budget (Spent c.in-Spent.visited) = rw c.in-Spent.is at c.in_ok-added.ensures.answer in
    decided_all (op.Resolve c.args.bundle) t (answer.Refused (BudgetSpent c.in-Spent.visited)) refl (replied_spent t c.args.bundle c.args.root c.requires.holds c.requires.asked c.in-Spent.visited a)

pub returns-clause-unchanged : goal.returns-clause-unchanged
returns-clause-unchanged c = ap (λ (s : WiringState). record c.args.tables.now { wirings = s }) c.resolve.ensures.unchanged
