-- How a pass goes on that is lent.
use Rattle.std.proofs.Common.{◌≡◌, ◌∙◌, refl, MutBor}
use Rattle.osgi_hall.specs.Passes.{PassView}
use Rattle.osgi_runner.specs.Passes.{Grown}
use Rattle.osgi_runner.specs.laws.Passes.{grows, grows_further}

module _ {O R Z : Type 0} where
  -- the same reference to the same pass, which has gone on
  abbrev pub GoesOn : MutBor (PassView O R Z) → MutBor (PassView O R Z) → Type 0
  GoesOn p q = (q.ghost_name ≡ p.ghost_name) × Grown p.now q.now

  pub stays : (p : MutBor (PassView O R Z)) → GoesOn p p
  stays p = (refl, grows p.now)

  pub goes_further : (p q r : MutBor (PassView O R Z)) → GoesOn p q → GoesOn q r → GoesOn p r
  goes_further p q r one two = (two.0 ∙ one.0, grows_further p.now q.now r.now one.1 two.1)
