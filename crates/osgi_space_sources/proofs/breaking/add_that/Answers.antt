-- One more, if it is added.
use Rattle.std.proofs.Common.{◌∷◌, [], inl, inr, ℕ, List, sym, subst, Contains}
use Rattle.std.proofs.lemmas.List.Elements.{Contains-append_left, Contains-push, Contains-push_cases}
use Rattle.osgi_space_sources.proofs.breaking.add_that.Goals as goal

pub returns-clause-those : goal.returns-clause-those
returns-clause-those c = λ n at. elim (Contains-push_cases c.args.list.now.items c.args.revision n (subst (λ (xs : List ℕ). Contains xs n) c.in_ok-push.ensures.items at)) [ inl old ↦ inl old | inr e ↦ inr (sym e) ]

pub returns-clause-kept : goal.returns-clause-kept
returns-clause-kept c = λ n at. subst (λ (xs : List ℕ). Contains xs n) (sym c.in_ok-push.ensures.items) (Contains-append_left c.args.list.now.items (c.args.revision ∷ []) n at)

pub returns-clause-added : goal.returns-clause-added
returns-clause-added c = λ may. subst (λ (xs : List ℕ). Contains xs c.args.revision) (sym c.in_ok-push.ensures.items) (Contains-push c.args.list.now.items c.args.revision)
