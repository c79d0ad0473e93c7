-- The last candidate, if there is one, and the decision on it.
use Rattle.std.proofs.Common.{◌≡◌, ◌∙◌, ◌-◌, suc, ◌++◌, ◌∷◌, [], List, Some, length, length-append, ap, refl, sym, subst, take, IsTrue, arith}
use Rattle.std.specs.Prelude.{slice_get}
use Rattle.osgi_resolver_decisions.specs.DecisionOf.{decision_of}
use Rattle.osgi_resolver_path.proofs.Lasts.{last-split}
use Rattle.osgi_resolver_theory.proofs.Values.{same-eq, same-refl, some-inj}
use Rattle.osgi_resolver_hopeless.proofs.Answering.{no}
use Rattle.osgi_world.specs.Decisions.{Decision, pick, same_decision}
use Rattle.osgi_resolver_hopeless.proofs.stuck.is_on_last.Goals as goal

-- the last item stands at the last place
end-there : {X : Type 0} (xs : List X) (x : X) → slice_get (xs ++ x ∷ []) (length (xs ++ x ∷ []) - 1) ≡ Some x
end-there [] x = refl
end-there (y ∷ ys) x =
    let more : length (y ∷ (ys ++ x ∷ [])) - 1 ≡ suc (length (ys ++ x ∷ []) - 1) = (let n = length-append ys (x ∷ []) in omega (arith, n)) in
    ap (slice_get (y ∷ (ys ++ x ∷ []))) more ∙ end-there ys x

at-end : {X : Type 0} (xs before : List X) (x : X) → xs ≡ before ++ x ∷ [] → slice_get xs (length xs - 1) ≡ Some x
at-end xs before x e = ap (λ l. slice_get l (length l - 1)) e ∙ end-there before x

pub returns-in_default : goal.returns-in_default
returns-in_default c = record {
  last = λ P L is_member i effective.
      let xs = c.candidates.result.now in
      let are = c.candidates.ensures.candidates P L c.args.member is_member i effective in
      no (λ end. let some = at-end xs end.0 end.1 (are ∙ end.2) in let none = c.in_default.ensures.value in cc);
}

pub returns : goal.returns
returns c = record {
  last = λ P L is_member i effective.
      let xs = c.candidates.result.now in
      let are = c.candidates.ensures.candidates P L c.args.member is_member i effective in
      let x = c.in-Some.capability.now in
      let d = decision_of c.args.decision in
      let p = pick c.args.member c.args.requirement x in
      let same : c.is_same.result ≡ same_decision d p = c.is_same.ensures.same in (
        λ t. (take (length xs - 1) xs, x, sym are ∙ last-split xs x c.in-Some.ensures.value, same-eq d p (sym same ∙ t)),
        λ end.
            let here : x ≡ end.1 = some-inj x end.1 (c.in-Some.ensures.value ∙ at-end xs end.0 end.1 (are ∙ end.2)) in
            let is : d ≡ p = end.3 ∙ ap (pick c.args.member c.args.requirement) (sym here) in
            same ∙ subst (λ (e : Decision). IsTrue (same_decision d e)) is (same-refl d),
      );
}
