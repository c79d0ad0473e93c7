-- The uses of the others.
use Rattle.std.proofs.Common.{ℕ, ◌==◌}
use Rattle.std.specs.Prelude.{not}
use Rattle.osgi_registry_index.proofs.Counting.{left_apart}
use Rattle.osgi_registry_index.proofs.uses.Uses.forget.Goals as goal

pub returns : goal.returns
returns c = record {
  forgotten =
      rw (← c.self.view_is)
      (left_apart (λ (other : ℕ × ℕ). not (c.args.user.0 == other.0)) c.self.inside.first c.other_than-self-inside.result c.self.inside.others c.forget.new.self
      c.other_than-self-inside.ensures.other c.forget.ensures.forgotten);
}
