-- The object of a service that is live, and none of one that is not.
use Rattle.std.proofs.Common.{◌≡◌, ℕ, List, ap, refl}
use Rattle.std.specs.Prelude.{Option, None, Some, Ok, Err}
use Rattle.std.specs.Option.{option_map}
use Rattle.osgi_ops.specs.declared.refusal.Refusal.TheVariants.{NoSuchService}
use Rattle.osgi_registry.specs.Rows.{object_at, LiveService}

pub object_there : (at : Option LiveService) (text : List ℕ) → Some text ≡ option_map (λ (row : LiveService). row.service.object) at → Ok text ≡ object_at at
object_there None text is = absurd (cc is)
object_there (Some row) text is = ap Ok (cc is)

pub row_there : (at : Option LiveService) (text : List ℕ) → Some text ≡ option_map (λ (row : LiveService). row.service.object) at → ¬ (at ≡ None)
row_there None text is none = absurd (cc is)
row_there (Some row) text is none = absurd (cc none)

pub object_absent : (at : Option LiveService) → None ≡ option_map (λ (row : LiveService). row.service.object) at → Err NoSuchService ≡ object_at at
object_absent None is = refl
object_absent (Some row) is = absurd (cc is)
