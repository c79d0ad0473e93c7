-- One that agrees with all to which it is led breaks nothing.
use Rattle.std.proofs.lemmas.Bool.{false≢true}
use Rattle.osgi_space_sources.specs.computed.Amongst.{IsAmong}
use Rattle.osgi_space_sources.specs.computed.Disputes.{IsDisputed}
use Rattle.osgi_space_sources.proofs.Agreeing.{agrees-unless}
use Rattle.osgi_space_sources.proofs.Leading.{plain-keeps}
use Rattle.osgi_space_sources.proofs.breaking.breaks_uses_by.Goals as goal

pub returns-then-branch : goal.returns-then-branch
returns-then-branch c =
    let R = c.args.rows.now in
    let A = IsAmong c.args.among in
    let disputed = c.args.disputed.now in
    let r = c.args.revision in
    let keeps = agrees-unless R disputed c.requires.disputed A r (plain-keeps R A (IsDisputed disputed) r c.args.leads.now c.requires.leads (c.in_ok-plainly_keeps_uses.ensures.keeps c.if-branch.true)) in
    record { breaks = (λ t. absurd (false≢true t), λ breaks. absurd (breaks keeps)) }
