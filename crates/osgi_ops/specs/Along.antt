-- A list taken item by item, each with the items before it; `before` stands for what comes before the list.
use Rattle.std.specs.Prelude.{List, [], ◌∷◌, ◌++◌, Option, None}
use Rattle.std.specs.List.{filter_map, last_or}

-- what is read of each item, one after another
abbrev pub along : {A B : Type 0} → (List A → A → List B) → List A → List A → List B
along read before [] = []
along read before (item ∷ rest) = read before item ++ along read (before ++ item ∷ []) rest

-- each item is allowed after those before it
abbrev pub AllAlong : {A : Type 0} → (List A → A → Type 0) → List A → List A → Type 0
AllAlong allowed before [] = Unit {0}
AllAlong allowed before (item ∷ rest) = allowed before item × AllAlong allowed (before ++ item ∷ []) rest

-- a state that is carried along, and changed by each item
abbrev pub carry : {S A : Type 0} → (S → A → S) → S → List A → S
carry step state [] = state
carry step state (item ∷ rest) = carry step (step state item) rest

-- what the last item that sets it sets
abbrev pub latest : {A B : Type 0} → (A → Option B) → List A → Option B
latest sets list = last_or None (filter_map sets list)

-- a state that is changed by each item, each with the items before it
abbrev pub carried : {S A : Type 0} → (List A → S → A → S) → List A → S → List A → S
carried step before state [] = state
carried step before state (item ∷ rest) = carried step (before ++ item ∷ []) (step before state item) rest
