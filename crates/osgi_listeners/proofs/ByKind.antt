-- The index by kind stays in step with the rows.
use Rattle.std.proofs.Common.{◌≡◌, List, [], ◌∷◌, ◌++◌, map, ap, sym, refl, ◌∙◌}
use Rattle.std.specs.Prelude.{Bool, true, false, cond, Option, None, Some, All, filter, find, is_some}
use Rattle.std.proofs.lemmas.Bool.{eq-eqb, eqb-true, false≢true}
use Rattle.std.proofs.lemmas.List.{map-append}
use Rattle.std.proofs.lemmas.List.Elements.{All-head, All-tail, filter-append}
use Rattle.osgi_base.specs.declared.ids.ListenerId.{ListenerId}
use Rattle.osgi_listeners.specs.Rows.{id_of, ids_of, is_kind, is_listener, is_live, listeners_in, new_row, Row, same_kind}
use Rattle.osgi_listeners.specs.computed.Kinds.{AreByKind, ids_in}
use Rattle.osgi_listeners.specs.declared.kind_index.KindIndex.{KindIndex}
use Rattle.osgi_listeners.specs.declared.row.ListenerRow.{ListenerRow}
use Rattle.osgi_listeners.specs.laws.Ids.{Rise, same_row}
use Rattle.osgi_listeners.specs.laws.Items.{all-in}
use Rattle.osgi_ops.specs.declared.kind.Kind.{Kind}
use Rattle.osgi_ops.specs.laws.Items.{find-some, found-in, In-contains, In-filter, In-kept}
use Rattle.osgi_world.specs.Lists.{In}

-- ---- the same listeners

-- the ids of a kind, read of the listeners alone
abbrev ids_among : Kind → List ListenerRow → List ListenerId
ids_among kind ls = map (λ (l : ListenerRow). l.listener) (filter (λ (l : ListenerRow). same_kind l.kind kind) ls)

ids-among : (kind : Kind) (rows : List Row) → ids_of (filter (is_kind kind) rows) ≡ ids_among kind (listeners_in rows)
ids-among kind [] = refl
ids-among kind (row ∷ rest) = by (same_kind row.listener.kind kind) (ids-among kind rest)
  where
    by : (here : Bool) → ids_of (filter (is_kind kind) rest) ≡ ids_among kind (listeners_in rest) →
        ids_of (cond here (row ∷ filter (is_kind kind) rest) (filter (is_kind kind) rest))
        ≡ map (λ (l : ListenerRow). l.listener) (cond here (row.listener ∷ filter (λ (l : ListenerRow). same_kind l.kind kind) (listeners_in rest)) (filter (λ (l : ListenerRow). same_kind l.kind kind) (listeners_in rest)))
    by true more = ap (λ ids. row.listener.listener ∷ ids) more
    by false more = more

pub by_kind_same : {index : KindIndex} (old new : List Row) → listeners_in new ≡ listeners_in old → AreByKind index old → AreByKind index new
by_kind_same old new same are kind = are kind ∙ ids-among kind old ∙ ap (ids_among kind) (sym same) ∙ sym (ids-among kind new)

-- ---- a listener more

pub by_kind_push : (index index' : KindIndex) (rows : List Row) (added : ListenerRow) → ((kind : Kind) → ids_in kind index' ≡ ids_in kind index ++ cond (same_kind added.kind kind) (added.listener ∷ []) []) →
    AreByKind index rows → AreByKind index' (rows ++ new_row added ∷ [])
by_kind_push index index' rows added more are kind =
    more kind
    ∙ ap (λ ids. ids ++ cond (same_kind added.kind kind) (added.listener ∷ []) []) (are kind)
    ∙ by (same_kind added.kind kind)
    ∙ sym (ap ids_of (filter-append (is_kind kind) rows (new_row added ∷ [])))
  where
    by : (here : Bool) → ids_of (filter (is_kind kind) rows) ++ cond here (added.listener ∷ []) [] ≡ ids_of (filter (is_kind kind) rows ++ cond here (new_row added ∷ []) [])
    by true = sym (map-append (λ (row : Row). row.listener.listener) (filter (is_kind kind) rows) (new_row added ∷ []))
    by false = sym (map-append (λ (row : Row). row.listener.listener) (filter (is_kind kind) rows) [])

-- ---- some listeners less

module _ (kind : Kind) (stays : ListenerId → Bool) (keeps : Row → Bool) where
  abbrev own : List Row → List Row
  own rows = filter (is_kind kind) rows

  kept_ids : (rows : List Row) → All (λ row. stays row.listener.listener ≡ keeps row) rows → filter stays (ids_of (filter (is_kind kind) rows)) ≡ ids_of (filter (is_kind kind) (filter keeps rows))
  kept_ids [] same = refl
  kept_ids (row ∷ rest) same =
      left (is_kind kind row)
      ∙ ap (λ t. cond (is_kind kind row) (cond t (row.listener.listener ∷ filter stays (ids_of (own rest))) (filter stays (ids_of (own rest)))) (filter stays (ids_of (own rest))))
      (All-head (λ (r : Row). stays r.listener.listener ≡ keeps r) row rest same)
      ∙ by (is_kind kind row) (keeps row) (kept_ids rest (All-tail (λ (r : Row). stays r.listener.listener ≡ keeps r) row rest same))
      ∙ right (keeps row)
    where
      left : (k : Bool) → filter stays (ids_of (cond k (row ∷ own rest) (own rest)))
          ≡ cond k (cond (stays row.listener.listener) (row.listener.listener ∷ filter stays (ids_of (own rest))) (filter stays (ids_of (own rest)))) (filter stays (ids_of (own rest)))
      left true = refl
      left false = refl

      by : (k p : Bool) → filter stays (ids_of (own rest)) ≡ ids_of (own (filter keeps rest)) →
          cond k (cond p (row.listener.listener ∷ filter stays (ids_of (own rest))) (filter stays (ids_of (own rest)))) (filter stays (ids_of (own rest)))
          ≡ ids_of (cond p (cond k (row ∷ own (filter keeps rest)) (own (filter keeps rest))) (own (filter keeps rest)))
      by true true ih = ap (λ ids. row.listener.listener ∷ ids) ih
      by true false ih = ih
      by false true ih = ih
      by false false ih = ih

      right : (p : Bool) → ids_of (cond p (cond (is_kind kind row) (row ∷ own (filter keeps rest)) (own (filter keeps rest))) (own (filter keeps rest))) ≡ ids_of (own (cond p (row ∷ filter keeps rest) (filter keeps rest)))
      right true = refl
      right false = refl

-- a listener is live after a filter where the filter keeps its row
live_kept : (rows : List Row) → Rise rows → (keeps : Row → Bool) → All (λ row. is_live (filter keeps rows) row.listener.listener ≡ keeps row) rows
live_kept rows rise keeps = all-in (λ row. is_live (filter keeps rows) row.listener.listener ≡ keeps row) rows (λ row there. by row there (keeps row) refl)
  where
    gone : (row : Row) → In row rows → keeps row ≡ false → (found : Option Row) → find (is_listener row.listener.listener) (filter keeps rows) ≡ found → is_some found ≡ false
    gone row there out None is = refl
    gone row there out (Some other) is =
        let f = found-in (is_listener row.listener.listener) (filter keeps rows) other is in
        let k = In-filter keeps rows other f.0 in
        let same : other ≡ row = same_row rows rise other row (In-contains rows other k.0) (In-contains rows row there) (eqb-true (id_of other) (id_of row) f.1) in
        absurd (false≢true (sym out ∙ ap keeps (sym same) ∙ k.1))

    by : (row : Row) → In row rows → (k : Bool) → keeps row ≡ k → is_live (filter keeps rows) row.listener.listener ≡ k
    by row there true is =
        ap is_some (find-some (is_listener row.listener.listener) (filter keeps rows) row (In-kept keeps rows row there is) (eq-eqb (id_of row) (id_of row) refl)).1
    by row there false is = gone row there is (find (is_listener row.listener.listener) (filter keeps rows)) refl

pub by_kind_filter : (index index' : KindIndex) (keeps : Row → Bool) (rows : List Row) → Rise rows → ((kind : Kind) → ids_in kind index' ≡ filter (is_live (filter keeps rows)) (ids_in kind index)) → AreByKind index rows → AreByKind index' (filter keeps rows)
by_kind_filter index index' keeps rows rise less are kind =
    less kind ∙ ap (filter (is_live (filter keeps rows))) (are kind) ∙ kept_ids kind (is_live (filter keeps rows)) keeps rows (live_kept rows rise keeps)
