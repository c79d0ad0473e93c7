-- The index of the listeners by kind.
use Rattle.std.specs.Prelude.{◌≡◌, List, filter}
use Rattle.osgi_base.specs.declared.ids.ListenerId.{ListenerId}
use Rattle.osgi_listeners.specs.Rows.{ids_of, is_kind, Row}
use Rattle.osgi_listeners.specs.declared.kind_index.KindIndex.{KindIndex}
use Rattle.osgi_ops.specs.declared.kind.Kind.{Kind}
use Rattle.osgi_ops.specs.declared.kind.Kind.TheVariants.{Service, All, Bundle, Framework}

-- the ids that it has for a kind
abbrev pub ids_in : Kind → KindIndex → List ListenerId
ids_in Service index = index.service.items
ids_in All index = index.all.items
ids_in Bundle index = index.bundle.items
ids_in Framework index = index.framework.items

-- for each kind it has the ids of the listeners of that kind
abbrev pub AreByKind : KindIndex → List Row → Type 0
AreByKind index rows = (kind : Kind) → ids_in kind index ≡ ids_of (filter (is_kind kind) rows)
