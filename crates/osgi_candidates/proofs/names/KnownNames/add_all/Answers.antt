-- One more revision, and all of them.
use Rattle.std.proofs.Common.{◌≡◌, ◌+◌, List, [], ◌∷◌, ◌++◌, take, drop, ap, sym, subst, ◌∙◌, append_assoc}
use Rattle.std.proofs.lemmas.List.{append-nil, take-append-drop, take_all}
use Rattle.osgi_candidates.specs.computed.Names.{AreNames, AreOnce}
use Rattle.osgi_candidates.proofs.Following.{names_grow, once_before}
use Rattle.osgi_space_rules.proofs.Grow.{one_more}
use Rattle.osgi_world.specs.declared.world.Known.{Known}
use Rattle.osgi_candidates.proofs.names.KnownNames.add_all.Goals as goal

pub loop-one-init : goal.loop-one-init
loop-one-init c = λ K once are. subst (λ (L : List Known). AreNames L c.args.self.now) (sym (append-nil K)) are

pub loop-one-preserved : goal.loop-one-preserved
loop-one-preserved c = λ K once are.
    let known = c.args.known.now in
    let i = c.loop-one.one-index in
    let one = c.one-item.result in
    let so_far = take i known in
    let grown : K ++ take (i + 1) known ≡ (K ++ so_far) ++ one ∷ [] = ap (λ l. K ++ l) (one_more known i one c.loop-one-test.true c.one-item.is) ∙ sym (append_assoc K so_far (one ∷ [])) in
    let all : (K ++ take (i + 1) known) ++ drop (i + 1) known ≡ K ++ known = append_assoc K (take (i + 1) known) (drop (i + 1) known) ∙ ap (λ l. K ++ l) (take-append-drop (i + 1) known) in
    let now = once_before (K ++ take (i + 1) known) (drop (i + 1) known) (subst AreOnce (sym all) once) in
    subst (λ (L : List Known). AreNames L c.add.new.self) (sym grown) (names_grow (K ++ so_far) one (subst AreOnce grown now) c.loop-one.self c.add.new.self c.in_ok-add.ensures.added (c.loop-one.invariant K once are))

pub returns : goal.returns
returns c = record {
  added = λ K once are. subst (λ (L : List Known). AreNames (K ++ L) c.loop-one.self) (take_all c.loop-one.one-index c.args.known.now c.loop-one-test.false) (c.loop-one.invariant K once are);
}
