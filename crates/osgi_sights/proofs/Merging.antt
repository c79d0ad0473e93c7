-- The listeners of two kinds, one after another by rising id.
use Rattle.std.proofs.Common.{◌≡◌, List, [], ◌∷◌, ap, arith, refl, ◌∙◌}
use Rattle.std.specs.Prelude.{◌||◌, Bool, true, false, cond, filter}
use Rattle.std.proofs.lemmas.Bool.{le-ltb, lt-ltb}
use Rattle.osgi_base.specs.declared.ids.ListenerId.{ListenerId}
use Rattle.osgi_listeners.specs.Rows.{AreInOrder, id_of, ids_of, is_kind, Listening, Row, same_kind}
use Rattle.osgi_ops.specs.declared.kind.Kind.{Kind}
use Rattle.osgi_ops.specs.declared.kind.Kind.TheVariants as kind
use Rattle.osgi_sights.specs.computed.Asking.{merged, put_among}
use Rattle.osgi_sights.proofs.Rising.{IdsAbove, ids_above, Rise, rows_rise}

pub merged-nil : (ones : List ListenerId) → merged ones [] ≡ ones
merged-nil [] = refl
merged-nil (one ∷ ones) = ap (λ ids. one ∷ ids) (merged-nil ones)

-- the first of the ones is lower than the others
pub put_first : (one : ListenerId) (rest : List ListenerId → List ListenerId) (others : List ListenerId) → IdsAbove one.0 others → put_among one rest others ≡ one ∷ rest others
put_first one rest [] above = refl
put_first one rest (other ∷ others) above = rw (le-ltb other.0 one.0 (omega (arith, above.0))) refl

-- the first of the others is lower than the ones
pub put_second : (ones : List ListenerId) (other : ListenerId) (others : List ListenerId) → IdsAbove other.0 ones → merged ones (other ∷ others) ≡ other ∷ merged ones others
put_second [] other others above = refl
put_second (one ∷ ones) other others above = rw (lt-ltb other.0 one.0 above.0) refl

-- no row passes both tests: those that pass the one and those that pass the other are those that pass one of the two
pub merged-filter : (p q : Row → Bool) → ((row : Row) → p row ≡ true → q row ≡ false) → (rows : List Row) → Rise rows →
    merged (ids_of (filter p rows)) (ids_of (filter q rows)) ≡ ids_of (filter (λ row. p row || q row) rows)
merged-filter p q apart [] rise = refl
merged-filter p q apart (row ∷ rest) rise = go (p row) (q row) (apart row) (merged-filter p q apart rest rise.1)
  where
    go : (a b : Bool) → (a ≡ true → b ≡ false) → merged (ids_of (filter p rest)) (ids_of (filter q rest)) ≡ ids_of (filter (λ r. p r || q r) rest) →
        merged (ids_of (cond a (row ∷ filter p rest) (filter p rest))) (ids_of (cond b (row ∷ filter q rest) (filter q rest))) ≡ ids_of (cond (a || b) (row ∷ filter (λ r. p r || q r) rest) (filter (λ r. p r || q r) rest))
    go true true never others = absurd (let bad = never refl in cc bad)
    go true false never others = put_first row.listener.listener (merged (ids_of (filter p rest))) (ids_of (filter q rest)) (ids_above (id_of row) q rest rise.0) ∙ ap (λ ids. row.listener.listener ∷ ids) others
    go false true never others = put_second (ids_of (filter p rest)) row.listener.listener (ids_of (filter q rest)) (ids_above (id_of row) p rest rise.0) ∙ ap (λ ids. row.listener.listener ∷ ids) others
    go false false never others = others

-- no listener is of two kinds
other_kind : (k : Kind) → same_kind k kind.Service ≡ true → same_kind k kind.All ≡ false
other_kind kind.Service is = refl
other_kind kind.All is = absurd (cc is)
other_kind kind.Bundle is = refl
other_kind kind.Framework is = refl

-- the listeners of the kinds service and all
pub merged-services : (l : Listening) → AreInOrder l → merged (ids_of (filter (is_kind kind.Service) l.rows)) (ids_of (filter (is_kind kind.All) l.rows)) ≡ ids_of (filter (λ row. is_kind kind.Service row || is_kind kind.All row) l.rows)
merged-services l ordered = merged-filter (is_kind kind.Service) (is_kind kind.All) (λ row. other_kind row.listener.kind) l.rows (rows_rise l ordered)
