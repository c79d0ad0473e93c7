-- All that stands under what the revision sees agrees.
use Rattle.std.proofs.Common.{List, sym, subst, Contains}
use Rattle.osgi_space_sources.specs.declared.given.Given.{Given}
use Rattle.osgi_space_sources.proofs.breaking.plainly_keeps_uses.Goals as goal

pub returns : goal.returns
returns c = record {
  keeps = λ t h s seen under.
      let at : Contains c.as_slice.result.now h = subst (λ (xs : List Given). Contains xs h) (sym c.as_slice.ensures.value) ((c.in_ok-givens.ensures.sources h).1 seen) in
      let found = c.in_ok-sources.ensures.leads h s at under in
      c.in_ok-all_agree.ensures.agree t s (subst (λ (xs : List Given). Contains xs s) (sym c.items.ensures.items) found);
}
