-- The text so far, and that of the ids that are left.
use Rattle.std.proofs.Common.{◌≡◌, ◌∷◌, ◌++◌, drop, map}
use Rattle.std.specs.Fmt.{decimal}
use Rattle.std.specs.List.{concat}
use Rattle.osgi_console_text.proofs.ids.add_bundle_ids.Given as goal

abbrev pub invariant-loop-id : goal.invariant-loop-id
invariant-loop-id l =
    l.out.items ++ concat (map (λ id. 32 ∷ decimal id.0) (drop l.id-index l.ids)) ≡ l.initial.out.items ++ concat (map (λ id. 32 ∷ decimal id.0) l.ids)
