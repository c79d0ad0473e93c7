-- What is decided of hands, and what their ends come to.
use Rattle.std.proofs.Common.{◌≡◌, ◌<◌, ◌-◌, inl, inr, ℕ, Bool, true, false, List, [], refl, sym, ap, ◌∙◌, subst, arith}
use Rattle.std.specs.Option.{option_map, option_map_or}
use Rattle.std.specs.Prelude.{All, Err, is_err, None, Ok, OnOk, Result, Some}
use Rattle.std.specs.Result.{result_err}
use Rattle.osgi_base.specs.declared.ids.ListenerId.{ListenerId}
use Rattle.osgi_base.specs.declared.ids.Tag.{Tag}
use Rattle.osgi_brackets.specs.Open.{Closes, HoldsMost, open_of}
use Rattle.osgi_brackets.specs.declared.brackets.Brackets.{Brackets}
use Rattle.osgi_bundle.specs.Rows.{row_at}
use Rattle.osgi_bundle.specs.declared.kept.BundleKept.{BundleKept}
use Rattle.osgi_listeners.specs.Rows.{AreInOrder, busy_in, end_refusal, IsHanded, is_open, Listening, listener_of, row_at as listener_at_row, without_turn}
use Rattle.osgi_listeners.specs.declared.row.ListenerRow.{ListenerRow}
use Rattle.osgi_listeners.specs.laws.Busy.{answers-nothing}
use Rattle.osgi_listeners.specs.laws.Conditions.{is-end-accepted}
use Rattle.osgi_listeners.specs.laws.Handing.{answers-next, row-handed}
use Rattle.osgi_ops.specs.Brackets.{brackets, is_own_end}
use Rattle.osgi_ops.specs.OwnBrackets.{own_closes}
use Rattle.osgi_legal.specs.Legal.{IsAskedAt, IsTold}
use Rattle.osgi_ops.specs.Listening.{handings, happenings}
use Rattle.osgi_ops.specs.Moments.{later, Moment}
use Rattle.osgi_ops.specs.declared.asked.Asked.{Asked}
use Rattle.osgi_ops.specs.declared.entry.Entry.{Entry}
use Rattle.osgi_ops.specs.declared.event.Busy.{Busy}
use Rattle.osgi_ops.specs.declared.event.Event.{Event}
use Rattle.osgi_ops.specs.declared.op.Op.TheVariants as op
use Rattle.osgi_ops.specs.declared.refusal.Refusal.{Refusal}
use Rattle.osgi_ops.specs.declared.refusal.Refusal.TheVariants as no
use Rattle.osgi_ops.specs.declared.reply.Reply.{Reply}
use Rattle.osgi_ops.specs.declared.reply.Reply.TheVariants as answer
use Rattle.osgi_legal.specs.laws.Stages.{row-here}
use Rattle.osgi_ops.specs.rows.Events.{IsAnyReady, IsHanding}
use Rattle.osgi_reply_listening.specs.Hands.{handed_reply}
use Rattle.osgi_tables.proofs.DepotRows.{shown_row}
use Rattle.osgi_tables.proofs.Heard.{ended_stands, handed_stands, nothing_stands, with_end}
use Rattle.osgi_tables.proofs.Living.{deep_at, own_end_at, shallow_at}
use Rattle.osgi_tables.proofs.Premises.{handed-first, turns-apart}
use Rattle.osgi_tables.proofs.Replying.{decided_refused, decided_same, replied_refused, replied_unseen, unseen}
use Rattle.osgi_tables.specs.Changes.{IsReplyAndChange}
use Rattle.osgi_tables.specs.Replied.{end_reply, IsReplied, StandsFor}
use Rattle.osgi_world.specs.declared.world.World.{World}
use Rattle.osgi_tables.specs.declared.change.Change.TheVariants as change
use Rattle.osgi_tables.specs.declared.tables.Tables.{Tables}

-- a hand that the line of the tag asks for
abbrev pub by_tag : Tag → Asked
by_tag tag = record { tag = tag; op = op.Hand }

-- ---- Nothing

-- where no row is open, nothing may be handed, and the busy ones are named
pub decided_nothing : (tables : Tables) (tag : Tag) (busy : List Busy) → busy ≡ busy_in tables.listeners → All (λ row. is_open tables.listeners.turns row ≡ false) tables.listeners.rows → IsReplyAndChange (by_tag tag) tables (answer.Nothing busy) change.Nothing
decided_nothing tables tag busy is none =
    subst (λ list. IsReplyAndChange (by_tag tag) tables (answer.Nothing list) change.Nothing) (sym is)
    (decided_same (by_tag tag) tables (answer.Nothing (busy_in tables.listeners)) refl
    (unseen (by_tag tag) tables tables (answer.Nothing (busy_in tables.listeners))
    (λ now at stood.
    let nothing = answers-nothing now tables.listeners (handed-first now at.told) (turns-apart now at.told) stood.listeners none in
    row-here now op.Hand (answer.Nothing (busy_in tables.listeners)) refl
    (inr ((λ f called. nothing.none called.1.0), inr ((λ f called. nothing.none called.1.0), inr nothing))))
    (λ now at stood. stood.world)
    (λ past before after e. refl)
    (λ now at stood. nothing_stands now tables (busy_in tables.listeners) stood)))

-- ---- an event that is handed next

-- the listener has a row
pub no_row : (l : Listening) (listener : ListenerId) (event : Event) → AreInOrder l → IsHanded l listener event → option_map listener_of (listener_at_row listener l.rows) ≡ None → ⊥
no_row l listener event order next none =
    let bad : Some next.row.listener ≡ None = sym (ap (option_map listener_of) (row-handed l listener event order next)) ∙ none in
    cc bad

-- it is this one
row_is : (l : Listening) (listener : ListenerId) (event : Event) (row : ListenerRow) → AreInOrder l → (next : IsHanded l listener event) → option_map listener_of (listener_at_row listener l.rows) ≡ Some row → next.row.listener ≡ row
row_is l listener event row order next is = cc (sym (ap (option_map listener_of) (row-handed l listener event order next)) ∙ is)

module _ (tables : Tables) (tag : Tag) (listener : ListenerId) (event : Event) (order : AreInOrder tables.listeners) (next : IsHanded tables.listeners listener event) where
  found_row : option_map listener_of (listener_at_row listener tables.listeners.rows) ≡ Some next.row.listener
  found_row = ap (option_map listener_of) (row-handed tables.listeners listener event order next)

  own : next.row.listener.listener ≡ listener
  own = next.to

  handing_at : (now : Moment) → IsTold now → StandsFor now tables → IsHanding now (handed_reply tables.bundles.rows next.row.listener event)
  handing_at now told stood =
      let row : ListenerRow = next.row.listener in
      subst (IsHanding now) (sym (λ i. answer.Handed (own i) row.kind row.owner (shown_row now told tables.bundles row.owner stood.bundles i) row.name event))
      (answers-next now tables.listeners listener event row stood.small (handed-first now told) order stood.listeners next found_row)

  any_ready : (now : Moment) → IsTold now → StandsFor now tables → IsAnyReady now
  any_ready now told stood = let h = handing_at now told stood in (h.listener, h.spot, h.earliest.ready)

  -- as many brackets are open as may be
  pub decided_deep : HoldsMost tag.caller tables.brackets → IsReplyAndChange (by_tag tag) tables (answer.Refused no.TooDeep) change.Nothing
  decided_deep deep =
      decided_refused (by_tag tag) tables no.TooDeep refl
      (λ now at stood.
      row-here now op.Hand (answer.Refused no.TooDeep) refl
      (inl (no.TooDeep, (refl, (any_ready now at.told stood, deep_at (by_tag tag) tables now at stood deep)), refl)))

  -- enough was handed
  pub decided_spent : ¬ HoldsMost tag.caller tables.brackets → tables.handings_left ≡ 0 → IsReplyAndChange (by_tag tag) tables (answer.Refused no.HandingsSpent) change.Nothing
  decided_spent shallow none =
      decided_refused (by_tag tag) tables no.HandingsSpent refl
      (λ now at stood.
      row-here now op.Hand (answer.Refused no.HandingsSpent) refl
      (inr ((λ f called. shallow_at (by_tag tag) tables now at stood shallow called.1.1), inl (no.HandingsSpent, (refl, (any_ready now at.told stood, (let left = stood.handings in omega (arith, none, left)))), refl))))

  -- it is handed
  handed_next : ¬ HoldsMost tag.caller tables.brackets → 0 < tables.handings_left → IsReplyAndChange (by_tag tag) tables (handed_reply tables.bundles.rows next.row.listener event) (change.Hand tag listener)
  handed_next shallow some =
      let row : ListenerRow = next.row.listener in
      record {
        possible = record { event = event; next = next; left = some };
        cleans = refl;
        answered = λ new changed.
            unseen (by_tag tag) tables new (handed_reply tables.bundles.rows row event)
            (λ now at stood.
            row-here now op.Hand (handed_reply tables.bundles.rows row event) refl
            (inr (
              (λ f called. shallow_at (by_tag tag) tables now at stood shallow called.1.1),
              inr (
                (λ f called. (let left = stood.handings in let most = called.1.1 in omega (arith, some, left, most))),
                inl (handing_at now at.told stood),
              ),
            )))
            (λ now at stood. ap (λ (t : Tables). t.wirings.world) changed.is ∙ stood.world)
            (λ past before after e. refl)
            (λ now at stood.
            subst (λ (l : ListenerId). StandsFor (later now op.Hand (answer.Handed l row.kind row.owner (option_map_or (λ (r : BundleKept). r.row) (row_at row.owner tables.bundles.rows) 0) row.name event) new.wirings.world []) new) (sym own)
            (handed_stands now tables new tag listener row.kind row.owner (option_map_or (λ (r : BundleKept). r.row) (row_at row.owner tables.bundles.rows) 0) row.name event at.tag stood changed));
      }

  pub decided_handed : (row : ListenerRow) → option_map listener_of (listener_at_row listener tables.listeners.rows) ≡ Some row → ¬ HoldsMost tag.caller tables.brackets → 0 < tables.handings_left →
      IsReplyAndChange (by_tag tag) tables (handed_reply tables.bundles.rows row event) (change.Hand tag listener)
  decided_handed row is shallow some =
      subst (λ (r : ListenerRow). IsReplyAndChange (by_tag tag) tables (handed_reply tables.bundles.rows r event) (change.Hand tag listener)) (row_is tables.listeners listener event row order next is) (handed_next shallow some)

-- ---- the end of a hand

abbrev pub end_by : Tag → ListenerId → Asked
end_by tag listener = record { tag = tag; op = op.EndHand listener }

end_happens : (listener : ListenerId) (y : Reply) (past : List Entry) (before after : World) (e : Entry) → e.op ≡ op.EndHand listener → e.reply ≡ y → happenings past before after e e.op e.reply ≡ []
end_happens listener y past before after e is says = ap (λ o. happenings past before after e o e.reply) is

module _ (tables : Tables) (tag : Tag) (listener : ListenerId) where
  -- at a moment the caller's own innermost bracket says whether the end is one
  own_at : (now : Moment) → IsAskedAt (end_by tag listener) now → StandsFor now tables → is_own_end now.tag (op.EndHand listener) now.before ≡ own_closes tag (op.EndHand listener) (open_of tables.brackets tag.caller)
  own_at now at stood = own_end_at (end_by tag listener) tables now at stood

  -- it is none
  pub ended_none : (entries : ℕ) → own_closes tag (op.EndHand listener) (open_of tables.brackets tag.caller) ≡ false → IsReplied entries (end_by tag listener) tables tables (end_reply false) []
  ended_none entries other =
      replied_unseen entries (end_by tag listener) tables tables (answer.Refused no.InvalidOperation) (end_happens listener (answer.Refused no.InvalidOperation))
      (replied_refused (end_by tag listener) tables no.InvalidOperation refl
      (λ now at stood. row-here now (op.EndHand listener) (answer.Refused no.InvalidOperation) refl (inl (no.InvalidOperation, (refl, own_at now at stood ∙ other), refl))))

  -- the listener is in a turn of the tag
  accepted_at : (now : Moment) → IsAskedAt (end_by tag listener) now → StandsFor now tables → own_closes tag (op.EndHand listener) (open_of tables.brackets tag.caller) ≡ true → end_refusal tag listener tables.listeners.turns ≡ None
  accepted_at now at stood own =
      subst (λ (t : Tag). end_refusal t listener tables.listeners.turns ≡ None) at.tag
      (is-end-accepted now.sights now.before tables.listeners now.tag listener (turns-apart now at.told) (own_at now at stood ∙ own) stood.listeners)

  -- so it does not come that it is in none
  pub ended_not : (entries : ℕ) (new : Tables) (y : Reply) → own_closes tag (op.EndHand listener) (open_of tables.brackets tag.caller) ≡ true → (r : Result (Unit {0}) Refusal) → result_err r ≡ end_refusal tag listener tables.listeners.turns → (failed : Bool) → failed ≡ is_err r → failed ≡ true →
      IsReplied entries (end_by tag listener) tables new y []
  ended_not entries new y own r says failed is fails = record {
    due = λ now at number stood. absurd (never now at stood);
    left = λ now at number stood. absurd (never now at stood);
    seen = λ now at number stood. absurd (never now at stood);
    stands = λ now at number stood. absurd (never now at stood);
  }
    where
      refused : (q : Result (Unit {0}) Refusal) → result_err q ≡ None → is_err q ≡ true → ⊥
      refused (Ok x) e f = cc f
      refused (Err x) e f = cc e

      never : (now : Moment) → IsAskedAt (end_by tag listener) now → StandsFor now tables → ⊥
      never now at stood = refused r (says ∙ accepted_at now at stood own) (sym is ∙ fails)

  -- it is ended
  pub ended_hand : (entries : ℕ) (kept : Brackets) (l : Listening) → own_closes tag (op.EndHand listener) (open_of tables.brackets tag.caller) ≡ true → Closes tables.brackets kept tag.caller →
      l.rows ≡ tables.listeners.rows → l.issued ≡ tables.listeners.issued → (r : Result (Unit {0}) Refusal) → OnOk r (l.turns ≡ without_turn listener tables.listeners.turns) → (failed : Bool) → failed ≡ is_err r → failed ≡ false →
      IsReplied entries (end_by tag listener) tables (record tables { brackets = kept; listeners = l }) (end_reply true) []
  ended_hand entries kept l own closed rows issued r turns failed is fails =
      let turned : l.turns ≡ without_turn listener tables.listeners.turns = said r turns (sym is ∙ fails) in
      subst (λ (n : Listening). IsReplied entries (end_by tag listener) tables (record tables { brackets = kept; listeners = n }) (end_reply true) []) (sym (λ i. record { rows = rows i; turns = turned i; issued = issued i }))
      (replied_unseen entries (end_by tag listener) tables (record tables { brackets = kept; listeners = with_end listener tables.listeners }) answer.Done (end_happens listener answer.Done)
      (unseen (end_by tag listener) tables (record tables { brackets = kept; listeners = with_end listener tables.listeners }) answer.Done
      (λ now at stood. row-here now (op.EndHand listener) answer.Done refl (inr ((λ f called. (let bad : true ≡ false = sym (own_at now at stood ∙ own) ∙ called.1 in cc bad)), refl)))
      (λ now at stood. stood.world)
      (λ past before after e. refl)
      (λ now at stood.
      ended_stands now tables listener kept at.told stood (subst (λ (t : Tag). own_closes t (op.EndHand listener) (open_of tables.brackets t.caller) ≡ true) (sym at.tag) own)
      (subst (λ (t : Tag). Closes tables.brackets kept t.caller) (sym at.tag) closed))))
    where
      said : {P : Type 0} (q : Result (Unit {0}) Refusal) → OnOk q P → is_err q ≡ false → P
      said (Ok x) p e = p
      said (Err x) p e = absurd (cc e)
