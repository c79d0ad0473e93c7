-- Who is asked whether it sees a happening: the listeners of its kinds, by rising id.
use Rattle.std.specs.Prelude.{◌||◌, nat_lt, if◌then◌else◌, Bool, List, [], ◌∷◌, filter}
use Rattle.osgi_base.specs.declared.ids.ListenerId.{ListenerId}
use Rattle.osgi_listeners.specs.Rows.{ids_of, is_kind, Row}
use Rattle.osgi_ops.specs.declared.kind.Kind.TheVariants as kind
use Rattle.osgi_sights.specs.Shown.{Shown, service, modified, bundle, framework}

-- an id and those behind it, put among others
abbrev pub put_among : ListenerId → (List ListenerId → List ListenerId) → List ListenerId → List ListenerId
put_among one rest [] = one ∷ rest []
put_among one rest (other ∷ others) = if nat_lt other.0 one.0 then other ∷ put_among one rest others else one ∷ rest (other ∷ others)

-- two lists of rising ids as one
abbrev pub merged : List ListenerId → List ListenerId → List ListenerId
merged [] others = others
merged (one ∷ ones) others = put_among one (merged ones) others

-- the row's listener is of a kind that can see such a happening
abbrev pub asks : Shown → Row → Bool
asks (service code s) row = is_kind kind.Service row || is_kind kind.All row
asks (modified old new) row = is_kind kind.Service row || is_kind kind.All row
asks (bundle code b name version) row = is_kind kind.Bundle row
asks (framework code) row = is_kind kind.Framework row

abbrev pub askers : Shown → List Row → List ListenerId
askers shown rows = ids_of (filter (asks shown) rows)
