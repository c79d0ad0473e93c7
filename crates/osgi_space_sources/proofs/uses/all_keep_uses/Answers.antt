-- The answer is false at the first wiring whose revision has a violated constraint.
use Rattle.std.proofs.Common.{Any, refl}
use Rattle.std.proofs.lemmas.Bool.{false≢true}
use Rattle.osgi_space_sources.specs.computed.Clashes.{KeepsUses}
use Rattle.osgi_space_sources.specs.laws.Adding.{any-at, none-more, none-whole}
use Rattle.osgi_world.specs.declared.wiring.Wiring.{Wiring}
use Rattle.osgi_space_sources.proofs.uses.all_keep_uses.Goals as goal

pub loop-wiring-preserved : goal.loop-wiring-preserved
loop-wiring-preserved c =
    none-more (λ (g : Wiring). ¬ KeepsUses c.args.rows.now g.revision.0) c.args.wirings.now c.loop-wiring.wiring-index c.wiring-item.result c.loop-wiring-test.true c.wiring-item.is c.loop-wiring.invariant
    (λ broken. broken (c.in_ok-keeps_uses.ensures.uses.0 c.if-not-branch.false))

pub returns-then-not-branch : goal.returns-then-not-branch
returns-then-not-branch c =
    let P : Wiring → Type 0 = λ g. ¬ KeepsUses c.args.rows.now g.revision.0 in
    let any : Any P c.args.wirings.now = any-at P c.args.wirings.now c.loop-wiring.wiring-index c.wiring-item.result c.loop-wiring-test.true c.wiring-item.is
    (λ keeps. let yes = c.in_ok-keeps_uses.ensures.uses.1 keeps in let no = c.if-not-branch.true in cc) in
    record { uses = (λ t. absurd (false≢true t), λ none. absurd (none any)) }

pub returns : goal.returns
returns c = record { uses = (λ t. none-whole (λ (g : Wiring). ¬ KeepsUses c.args.rows.now g.revision.0) c.args.wirings.now c.loop-wiring.wiring-index c.loop-wiring-test.false c.loop-wiring.invariant, λ none. refl) }
