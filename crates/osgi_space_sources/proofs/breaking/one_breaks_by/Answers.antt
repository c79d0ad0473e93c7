-- The answer is true at the first that breaks a constraint.
use Rattle.std.proofs.Common.{get_or, refl, sym, Any}
use Rattle.std.proofs.lemmas.Bool.{false≢true}
use Rattle.std.proofs.lemmas.List.{get_or_default}
use Rattle.osgi_space_sources.specs.computed.Amongst.{IsAmong}
use Rattle.osgi_space_sources.specs.computed.Clashes.{BreaksUses}
use Rattle.osgi_space_sources.specs.laws.Adding.{any-at, none-more, none-start, none-whole}
use Rattle.osgi_space_sources.proofs.breaking.one_breaks_by.Goals as goal

pub loop-revision-init : goal.loop-revision-init
loop-revision-init c = none-start (BreaksUses c.args.rows.now (IsAmong c.args.among)) c.args.revisions.now

pub loop-revision-preserved : goal.loop-revision-preserved
loop-revision-preserved c =
    let revisions = c.args.revisions.now in
    let i = c.loop-revision.revision-index in
    let n = get_or revisions i 0 in
    none-more (BreaksUses c.args.rows.now (IsAmong c.args.among)) revisions i n c.loop-revision-test.true (get_or_default revisions i 0 n c.loop-revision-test.true) c.loop-revision.invariant
    (λ breaks. let yes = c.in_ok-breaks_uses_by.ensures.breaks.1 breaks in let no = c.if-branch.false in cc)

pub returns-then-branch : goal.returns-then-branch
returns-then-branch c =
    let revisions = c.args.revisions.now in
    let i = c.loop-revision.revision-index in
    let n = get_or revisions i 0 in
    let any : Any (BreaksUses c.args.rows.now (IsAmong c.args.among)) revisions =
    any-at (BreaksUses c.args.rows.now (IsAmong c.args.among)) revisions i n c.loop-revision-test.true (get_or_default revisions i 0 n c.loop-revision-test.true) (c.in_ok-breaks_uses_by.ensures.breaks.0 c.if-branch.true) in
    record { breaks = (λ t. any, λ there. refl) }

pub returns : goal.returns
returns c =
    let none = none-whole (BreaksUses c.args.rows.now (IsAmong c.args.among)) c.args.revisions.now c.loop-revision.revision-index c.loop-revision-test.false c.loop-revision.invariant in
    record { breaks = (λ t. absurd (false≢true t), λ any. absurd (none any)) }

pub breaks_uses_by-requires-clause-leads : goal.breaks_uses_by-requires-clause-leads
breaks_uses_by-requires-clause-leads c =
    let revisions = c.args.revisions.now in
    let i = c.loop-revision.revision-index in
    let n = get_or revisions i 0 in
    c.requires.leads n (i, c.loop-revision-test.true, sym (get_or_default revisions i 0 n c.loop-revision-test.true))
