-- A pass that nothing was done with has gone on, and one that has gone on twice has.
use Rattle.std.proofs.Common.{◌≡◌, ◌++◌, append-nil, append_assoc, ap, sym, ◌∙◌, refl, []}
use Rattle.osgi_hall.specs.Passes.{PassView}
use Rattle.osgi_runner.specs.Passes.{Grown}

module _ {O R Z : Type 0} where
  pub grows : (p : PassView O R Z) → Grown p p
  grows p = record { same = record { hall = refl; setting = refl; caller = refl; made = refl; out = refl; ended = refl }; more = ([], sym (append-nil p.seen)) }

  pub grows_further : (p q r : PassView O R Z) → Grown p q → Grown q r → Grown p r
  grows_further p q r one two =
      let a = one.same in let b = two.same in record {
        same = record { hall = b.hall ∙ a.hall; setting = b.setting ∙ a.setting; caller = b.caller ∙ a.caller; made = b.made ∙ a.made; out = b.out ∙ a.out; ended = b.ended ∙ a.ended };
        more = (one.more.0 ++ two.more.0, two.more.1 ∙ (ap (λ l. l ++ two.more.0) one.more.1 ∙ append_assoc p.seen one.more.0 two.more.0));
      }
