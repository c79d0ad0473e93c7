-- The fields after the listener is added.
use Rattle.std.proofs.Common.{◌≡◌, ◌+◌, ◌++◌, ◌∷◌, [], length, ap, sym, subst, refl, ◌∙◌, rules}
use Rattle.std.specs.Prelude.{Bool, true, false, cond, None, Some, nat_le}
use Rattle.std.specs.List.{list_any}
use Rattle.std.specs.Option.{option_or}
use Rattle.std.proofs.lemmas.Bool.{leb-false}
use Rattle.osgi_listeners.specs.Rows.{add_refusal, is_named, Listening, new_row}
use Rattle.osgi_listeners.specs.computed.Kept.{IsKept}
use Rattle.osgi_listeners.proofs.Orders.{kept_push}
use Rattle.osgi_listeners.proofs.Standing.{added_stands}
use Rattle.osgi_listeners.proofs.listeners.Listeners.insert.Goals as goal
use Rattle.osgi_ops.specs.declared.refusal.Many.TheVariants.{Listeners}
use Rattle.osgi_ops.specs.declared.refusal.Refusal.TheVariants.{InvalidOperation, TooMany}

neither : (named full : Bool) → option_or (cond named (Some InvalidOperation) None) (cond full (Some (TooMany Listeners)) None) ≡ None → (named ≡ false) × (full ≡ false)
neither true full is = absurd (cc is)
neither false true is = absurd (cc is)
neither false false is = (refl, refl)

pub invariant_of-self-2 : goal.invariant_of-self-2
invariant_of-self-2 c =
    let old : Listening = record { rows = c.self.inside.slots.items; turns = c.self.inside.turns.entries; issued = c.self.inside.issued } in
    let rows : c.push_reserved.new.self.items ≡ old.rows ++ new_row c.args.row ∷ [] = search rules in
    let next : c.args.row.listener.0 ≡ old.issued + 1 = c.requires.next ∙ ap (λ (l : Listening). l.issued + 1) (sym c.self.view_is) in
    let free : add_refusal c.args.row.owner c.args.row.name old.rows ≡ None = ap (λ (l : Listening). add_refusal c.args.row.owner c.args.row.name l.rows) c.self.view_is ∙ c.requires.free in
    let both = neither (list_any (is_named c.args.row.owner c.args.row.name) old.rows) (nat_le 4096 (length old.rows)) free in
    subst (λ (l : Listening). IsKept l c.self.inside.firsts c.add.new.self) (λ i. record { rows = sym rows i; turns = old.turns; issued = sym next i })
    (kept_push old c.args.row c.self.inside.firsts next (leb-false 4096 (length old.rows) both.1) both.0 c.self.inside.by_kind c.add.new.self c.in_ok-add.ensures.added c.self.invariant)

pub returns-clause-stands : goal.returns-clause-stands
returns-clause-stands c = added_stands c.args.self.now _ c.args.row c.requires.next (search rules) (search rules) (search rules)
