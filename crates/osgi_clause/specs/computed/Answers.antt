-- What a clause makes or adds, or its first fault. No public promise speaks of this.
use Rattle.std.specs.Prelude.{ℕ, ◌≡◌, List, ◌++◌, None, Option, Some, Ok, Err, Result}
use Rattle.osgi_world.specs.declared.manifest_fault.ManifestKind.{ManifestKind}
use Rattle.osgi_package.specs.Only.{IsOnly}
use Rattle.osgi_clause.specs.ClauseFaults.{HasNone}
use Rattle.osgi_clause.specs.Walks.{IsTheFirst}

-- what a clause makes of each of its paths, or its first fault
abbrev pub IsTemplate : {X : Type 0} → List (ManifestKind → Type 0) → (List ℕ → X → Type 0) → (X → List ℕ → X) → Result X ManifestKind → Type 0
IsTemplate faults Makes named (Ok template) = HasNone faults × ((path : List ℕ) → IsOnly (Makes path) (named template path))
IsTemplate faults Makes named (Err kind) = IsTheFirst faults kind

-- what a clause adds to the items so far, or its first fault
abbrev pub IsAdded : {X : Type 0} → List (ManifestKind → Type 0) → (List X → Type 0) → List X → List X → Option ManifestKind → Type 0
IsAdded faults Adds old new (Some kind) = IsTheFirst faults kind
IsAdded {X} faults Adds old new None = HasNone faults × ((others : List X) × (new ≡ old ++ others) × IsOnly Adds others)
