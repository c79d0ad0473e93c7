-- The rows that stay, and all that is true of the fields.
use Rattle.std.proofs.Common.{◌≡◌, List, map, ap, subst, sym, ◌∙◌, rules}
use Rattle.std.specs.Prelude.{◌==◌, ◌&&◌, not, filter}
use Rattle.std.specs.Str.{bytes_eq}
use Rattle.std.specs.List.Sorted.{IsStrictlyIncreasing}
use Rattle.std.proofs.lemmas.Fn.{filter_same}
use Rattle.osgi_listeners.specs.Rows.{AreInOrder, is_live, is_named, Listening, listeners_in, number_of, Row}
use Rattle.osgi_listeners.specs.computed.Kept.{AreFirsts}
use Rattle.osgi_listeners.specs.computed.Kinds.{AreByKind, ids_in}
use Rattle.osgi_listeners.specs.declared.row.ListenerRow.{ListenerRow}
use Rattle.osgi_listeners.proofs.ByKind.{by_kind_filter}
use Rattle.osgi_listeners.specs.laws.Ids.{ids_rise}
use Rattle.osgi_listeners.proofs.Orders.{order_filter}
use Rattle.osgi_ops.specs.declared.kind.Kind.{Kind}
use Rattle.osgi_listeners.proofs.Standing.{removed_stands}
use Rattle.osgi_listeners.proofs.listeners.Listeners.remove.Goals as goal

rows_left : (c : goal.After-set_firsts) → c.retain.new.self.items ≡ filter (λ (row : Row). not (is_named c.args.owner c.args.name.now row)) c.self.inside.slots.items
rows_left c = filter_same _ _ _ (λ x b f' k. search rules) _ _ c.retain.ensures.filtered

pub keep_live-requires : goal.keep_live-requires
keep_live-requires c =
    let old : Listening = record { rows = c.self.inside.slots.items; turns = c.self.inside.turns.entries; issued = c.self.inside.issued } in
    let left : c.retain.new.self.items ≡ filter (λ (row : Row). not (is_named c.args.owner c.args.name.now row)) old.rows = filter_same _ _ _ (λ x b f' k. search rules) _ _ c.retain.ensures.filtered in
    let order : AreInOrder (record { rows = filter (λ (row : Row). not (is_named c.args.owner c.args.name.now row)) old.rows; turns = old.turns; issued = old.issued }) = order_filter (λ (l : ListenerRow). not ((l.owner.0 == c.args.owner.0) && bytes_eq l.name c.args.name.now)) old c.self.invariant.in_order in
    record { rising = subst (λ (rows : List Row). IsStrictlyIncreasing (map number_of (listeners_in rows))) (sym (c.deref.ensures.value ∙ left)) order.listeners.rising }

pub invariant_of-self : goal.invariant_of-self
invariant_of-self c =
    let old : Listening = record { rows = c.self.inside.slots.items; turns = c.self.inside.turns.entries; issued = c.self.inside.issued } in
    record {
      in_order =
          subst (λ (rows : List Row). AreInOrder (record { rows = rows; turns = old.turns; issued = old.issued })) (sym (rows_left c))
          (order_filter (λ (l : ListenerRow). not ((l.owner.0 == c.args.owner.0) && bytes_eq l.name c.args.name.now)) old c.self.invariant.in_order);
      size = c.set_firsts.ensures.size;
      firsts = subst (λ (rows : List Row). AreFirsts c.set_firsts.new.firsts old.turns rows) c.deref-2.ensures.value c.set_firsts.ensures.firsts;
      by_kind =
          subst (λ (rows : List Row). AreByKind c.keep_live.new.self rows) (sym (rows_left c))
          (by_kind_filter c.self.inside.by_kind c.keep_live.new.self (λ (row : Row). not (is_named c.args.owner c.args.name.now row)) old.rows (ids_rise old.rows c.self.invariant.in_order.listeners.rising)
          (subst (λ (rows : List Row). (kind : Kind) → ids_in kind c.keep_live.new.self ≡ filter (is_live rows) (ids_in kind c.self.inside.by_kind)) (c.deref.ensures.value ∙ rows_left c) c.keep_live.ensures.kept) c.self.invariant.by_kind);
    }

pub returns-clause-rows : goal.returns-clause-rows
returns-clause-rows c = rows_left c ∙ ap (λ (l : Listening). filter (λ (row : Row). not (is_named c.args.owner c.args.name.now row)) l.rows) c.self.view_is

pub returns-clause-stands : goal.returns-clause-stands
returns-clause-stands c = removed_stands c.args.self.now _ c.args.owner c.args.name.now c.has-found.result (search rules) (returns-clause-rows c) (search rules) (search rules)
