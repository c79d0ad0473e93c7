-- It is one of the sources, or there are none.
use Rattle.std.proofs.Common.{◌≡◌, inl, inr, List, [], refl, sym, ◌∙◌, subst, arith, Contains}
use Rattle.osgi_space_sources.specs.declared.given.Given.{Given}
use Rattle.osgi_space_sources.proofs.Lengths.{empty-true}
use Rattle.osgi_space_sources.proofs.breaking.agrees.Goals as goal

pub returns-then-is_empty : goal.returns-then-is_empty
returns-then-is_empty c = record {
  agrees = λ t. inr (λ x source.
      let s : Given = record { «package» = c.args.source.package; source = x } in
      let none : c.as_slice-sources.result.now ≡ [] = empty-true c.as_slice-sources.result.now (sym c.is_empty.ensures ∙ c.if-is_empty.true) in
      let at : Contains c.as_slice-sources.result.now s = subst (λ (xs : List Given). Contains xs s) (sym c.as_slice-sources.ensures.value) ((c.in_ok-found.ensures.sources s).1 (refl, source)) in
      let nothing : Contains [] s = subst (λ (xs : List Given). Contains xs s) none at in
      omega (arith, nothing.1));
}

pub returns : goal.returns
returns c = record {
  agrees = λ t. inl ((c.in_ok-found.ensures.sources c.args.source).0 (subst (λ (xs : List Given). Contains xs c.args.source) c.as_slice-sources.ensures.value (c.is_listed.ensures.listed.0 t))).1;
}
