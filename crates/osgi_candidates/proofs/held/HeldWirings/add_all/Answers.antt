-- One more wiring, and all of them.
use Rattle.std.proofs.Common.{◌≡◌, ◌+◌, List, [], ◌∷◌, ◌++◌, take, ap, sym, subst, ◌∙◌, append_assoc}
use Rattle.std.proofs.lemmas.List.{append-nil, take_all}
use Rattle.osgi_candidates.specs.computed.Holding.{AreHeld}
use Rattle.osgi_space_rules.proofs.Grow.{one_more}
use Rattle.osgi_world.specs.declared.wiring.Wiring.{Wiring}
use Rattle.osgi_candidates.proofs.held.HeldWirings.add_all.Goals as goal

pub loop-wiring-init : goal.loop-wiring-init
loop-wiring-init c = λ W are. subst (λ (V : List Wiring). AreHeld c.args.known.now V c.args.self.now) (sym (append-nil W)) are

pub loop-wiring-preserved : goal.loop-wiring-preserved
loop-wiring-preserved c = λ W are.
    let wirings = c.args.wirings.now in
    let i = c.loop-wiring.wiring-index in
    let g = c.wiring-item.result in
    let grown : W ++ take (i + 1) wirings ≡ (W ++ take i wirings) ++ g ∷ [] = ap (λ l. W ++ l) (one_more wirings i g c.loop-wiring-test.true c.wiring-item.is) ∙ sym (append_assoc W (take i wirings) (g ∷ [])) in
    subst (λ (V : List Wiring). AreHeld c.args.known.now V c.add.new.self) (sym grown) (c.in_ok-add.ensures.added (W ++ take i wirings) (c.loop-wiring.invariant W are))

pub returns : goal.returns
returns c = record {
  added = λ W are. subst (λ (V : List Wiring). AreHeld c.args.known.now (W ++ V) c.loop-wiring.self) (take_all c.loop-wiring.wiring-index c.args.wirings.now c.loop-wiring-test.false) (c.loop-wiring.invariant W are);
}
