-- Makes, their texts and their objects after one more entry, and where nothing is made.
use Rattle.std.proofs.Common.{◌≡◌, List, [], ◌∷◌, ◌++◌, ap, ◌∙◌}
use Rattle.std.specs.Prelude.{All, None, filter, find}
use Rattle.std.proofs.lemmas.List.Elements.{All-weaker}
use Rattle.osgi_base.specs.declared.ids.BundleId.{BundleId}
use Rattle.osgi_base.specs.declared.ids.ServiceId.{ServiceId}
use Rattle.osgi_ops.specs.Brackets.{brackets, closes}
use Rattle.osgi_ops.specs.Makes.{make_change, open_makes, with_make, with_make_change}
use Rattle.osgi_ops.specs.Objects.{bundle_object, is_still_held, object_by, objects, with_object}
use Rattle.osgi_ops.specs.Services.{made}
use Rattle.osgi_ops.specs.declared.entry.Entry.{Entry}
use Rattle.osgi_ops.specs.laws.Along.{carried-last, carried-still}
use Rattle.osgi_ops.specs.laws.Services.{MakesNone}

pub open_makes-push : (history : List Entry) (e : Entry) → open_makes (history ++ e ∷ []) ≡ with_make history (open_makes history) e
open_makes-push history e = carried-last with_make [] history e

-- an entry that says nothing of makes leaves them
pub open_makes-quiet : (history : List Entry) (e : Entry) → make_change (closes e.tag e.op (brackets history)) e.op e.reply ≡ None → open_makes (history ++ e ∷ []) ≡ open_makes history
open_makes-quiet history e none = open_makes-push history e ∙ ap (λ c. with_make_change e.tag.caller c (open_makes history)) none

-- the objects that are left after an entry, and the one that it made
pub objects-push : (history : List Entry) (e : Entry) → objects (history ++ e ∷ []) ≡ filter (is_still_held (history ++ e ∷ []) e) (objects history ++ object_by history e (made history e))
objects-push history e = carried-last with_object [] history e

nothing-made : (before : List Entry) (e : Entry) → made before e ≡ None → object_by before e (made before e) ≡ []
nothing-made before e none = ap (object_by before e) none

-- where no entry made anything nobody holds an object
pub objects-none : (history : List Entry) → All (λ (e : Entry). MakesNone e.op e.reply) history → objects history ≡ []
objects-none history none =
    carried-still with_object [] [] history
    (All-weaker (λ (e : Entry). MakesNone e.op e.reply) (λ e. (before : List Entry) → with_object before [] e ≡ [])
    (λ e m before. ap (filter (is_still_held (before ++ e ∷ []) e)) (nothing-made before e (m e.tag (brackets before)))) history none)

pub no-bundle-object : (user : BundleId) (service : ServiceId) (history : List Entry) → objects history ≡ [] → bundle_object user service history ≡ None
no-bundle-object user service history none = ap (find _) none
