-- Both ways of writing entries say the same.
use Rattle.std.proofs.Common.{◌≡◌, List, [], ◌∷◌, map, ap, refl}
use Rattle.osgi_framework.specs.Entries.{as_hall, from_hall}
use Rattle.osgi_hall.specs.declared.entry.Entry.{Entry}
use Rattle.osgi_ops.specs.declared.entry.Entry as framework
use Rattle.osgi_ops.specs.declared.op.Op.{Op}
use Rattle.osgi_ops.specs.declared.reply.Reply.{Reply}

pub from-as : (history : List framework.Entry) → map from_hall (map as_hall history) ≡ history
from-as [] = refl
from-as (e ∷ rest) = ap (λ l. e ∷ l) (from-as rest)

pub as-from : (history : List (Entry Op Reply)) → map as_hall (map from_hall history) ≡ history
as-from [] = refl
as-from (e ∷ rest) = ap (λ l. e ∷ l) (as-from rest)
