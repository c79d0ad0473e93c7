-- What is seen of an entry determines the list of its sights, so a history with its worlds is told in one way. Where nothing happens, or no
-- listener is live, nothing is seen.
use Rattle.std.proofs.Common.{◌≡◌, inl, inr, List, ◌∙◌, arith}
use Rattle.osgi_ops.specs.Listening.{AreSights, ComesBefore, IsSight}
use Rattle.osgi_ops.specs.Moments.{Sight}
use Rattle.osgi_ops.specs.declared.entry.Entry.{Entry}
use Rattle.osgi_world.specs.declared.world.World.{World}
use Rattle.std.proofs.lemmas.List.Elements.{All-contains}
use Rattle.osgi_ops.specs.laws.Members.{AreAmong, ordered-once}

not-itself : (s : Sight) → ComesBefore s s → ⊥
not-itself s (inl less) = omega arith
not-itself s (inr (same, less)) = omega arith

comes-on : (s t u : Sight) → ComesBefore s t → ComesBefore t u → ComesBefore s u
comes-on s t u (inl a) (inl b) = inl (omega arith)
comes-on s t u (inl a) (inr (same, b)) = inl (omega arith)
comes-on s t u (inr (same, a)) (inl b) = inl (omega arith)
comes-on s t u (inr (same, a)) (inr (also, b)) = inr (same ∙ also, omega arith)

among : (past : List Entry) (before after : World) (e : Entry) (xs ys : List Sight) → AreSights past before after e xs → AreSights past before after e ys → AreAmong xs ys
among past before after e xs ys a b = λ s i. b.every s (All-contains (IsSight past before after e) xs s a.only i)

-- exactly what is seen, in order: there is one such list
pub sights-once : (past : List Entry) (before after : World) (e : Entry) (xs ys : List Sight) → AreSights past before after e xs → AreSights past before after e ys → xs ≡ ys
sights-once past before after e xs ys a b =
    ordered-once ComesBefore not-itself comes-on xs ys a.in_order b.in_order (among past before after e xs ys a b) (among past before after e ys xs b a)
