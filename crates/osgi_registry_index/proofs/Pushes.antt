-- Lists after several pushes.
use Rattle.std.proofs.Common.{◌≡◌, List, [], ◌∷◌, ◌++◌, append_assoc}

pub four_pushes : {X : Type 0} (list : List X) (a b c d : X) → (((list ++ a ∷ []) ++ b ∷ []) ++ c ∷ []) ++ d ∷ [] ≡ list ++ a ∷ b ∷ c ∷ d ∷ []
four_pushes list a b c d = simp append_assoc
