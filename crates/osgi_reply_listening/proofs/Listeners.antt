-- What is decided of listeners that are added and removed.
use Rattle.std.proofs.Common.{◌≡◌, ◌≤◌, ◌<◌, ◌+◌, ◌-◌, inl, inr, ℕ, Bool, true, false, List, [], ◌∷◌, length, refl, sym, ap, ◌∙◌, subst}
use Rattle.std.specs.List.{list_any}
use Rattle.std.specs.Option.{option_or}
use Rattle.std.specs.Prelude.{◌^◌, cond, nat_le, None, Option, Some}
use Rattle.std.proofs.lemmas.Bool.{le-leb, leb-true}
use Rattle.osgi_base.specs.Verdict.{answers, Gives, refuses}
use Rattle.osgi_base.specs.declared.ids.BundleId.{BundleId}
use Rattle.osgi_base.specs.declared.ids.ListenerId.{ListenerId}
use Rattle.osgi_legal.specs.Askers.{MayAsk}
use Rattle.osgi_legal.proofs.Askers.{asker-passes}
use Rattle.osgi_listeners.specs.Rows.{add_refusal, is_named}
use Rattle.osgi_listeners.specs.laws.Conditions.{has-same-count, has-same-names}
use Rattle.osgi_model.specs.declared.filter.Filter.{Filter}
use Rattle.osgi_legal.specs.Legal.{IsTold}
use Rattle.osgi_ops.specs.Listening.{listeners}
use Rattle.osgi_ops.specs.Moments.{Moment}
use Rattle.osgi_legal.specs.Operations.{Answers, own_conditions}
use Rattle.osgi_ops.specs.Replies.{took_effect}
use Rattle.osgi_ops.specs.declared.kind.Kind.{Kind}
use Rattle.osgi_ops.specs.declared.limits.TheConstants.{MAX_LISTENERS}
use Rattle.osgi_ops.specs.declared.op.Op.TheVariants as op
use Rattle.osgi_ops.specs.declared.refusal.Many.TheVariants as many
use Rattle.osgi_ops.specs.declared.refusal.Refusal.{Refusal}
use Rattle.osgi_ops.specs.declared.refusal.Refusal.TheVariants as no
use Rattle.osgi_ops.specs.declared.reply.Reply.{Reply}
use Rattle.osgi_ops.specs.declared.reply.Reply.TheVariants as answer
use Rattle.osgi_legal.specs.laws.Stages.{row-here}
use Rattle.osgi_ops.specs.rows.Events.{has_listener}
use Rattle.osgi_tables.proofs.Asking.{passed_by}
use Rattle.osgi_tables.proofs.Heard.{added_stands, removed_stands}
use Rattle.osgi_tables.proofs.Replying.{decided_refused, unseen}
use Rattle.osgi_tables.specs.Asked.{asker_refusal}
use Rattle.osgi_tables.specs.Changes.{IsReplyAndChange, IsReplyAndChangeToAll}
use Rattle.osgi_tables.specs.Replied.{StandsFor}
use Rattle.osgi_tables.specs.declared.change.Change.TheVariants as change
use Rattle.osgi_tables.specs.declared.tables.Tables.{Tables}

-- who may ask by the table of bundles may ask
may_ask : (now : Moment) (tables : Tables) (owner : BundleId) → IsTold now → StandsFor now tables → asker_refusal tables.bundles (Some owner) ≡ None → MayAsk now (Some owner)
may_ask now tables owner told stood none = passed_by now tables.bundles (Some owner) told stood.bundles none

-- ---- AddListener

-- the row's own conditions, by what the listeners say
refused_by : (named full : Bool) (has : Bool) (count : ℕ) (refusal : Refusal) (due : Reply → Type 0) → has ≡ named → nat_le MAX_LISTENERS count ≡ full → option_or (cond named (Some no.InvalidOperation) None) (cond full (Some (no.TooMany many.Listeners)) None) ≡ Some refusal →
    Gives ((λ f. (f ≡ no.InvalidOperation) × (has ≡ true)) ∷ (λ f. (f ≡ no.TooMany many.Listeners) × (MAX_LISTENERS ≤ count)) ∷ []) due (refuses refusal)
refused_by true full has count refusal due named is e =
    let f : no.InvalidOperation ≡ refusal = cc e in inl (no.InvalidOperation, (refl, named), ap refuses (sym f))
refused_by false true has count refusal due named is e =
    let f : no.TooMany many.Listeners ≡ refusal = cc e in
    inr ((λ g called. (let bad : true ≡ false = sym called.1 ∙ named in cc bad)), inl (no.TooMany many.Listeners, (refl, leb-true MAX_LISTENERS count is), ap refuses (sym f)))
refused_by false false has count refusal due named is e = absurd (cc e)

passed_both : (named full : Bool) (has : Bool) (count : ℕ) (reply : Reply) (due : Reply → Type 0) → has ≡ named → nat_le MAX_LISTENERS count ≡ full → option_or (cond named (Some no.InvalidOperation) None) (cond full (Some (no.TooMany many.Listeners)) None) ≡ None → due reply →
    Gives ((λ f. (f ≡ no.InvalidOperation) × (has ≡ true)) ∷ (λ f. (f ≡ no.TooMany many.Listeners) × (MAX_LISTENERS ≤ count)) ∷ []) due (answers reply)
passed_both true full has count reply due named is e answer = absurd (cc e)
passed_both false true has count reply due named is e answer = absurd (cc e)
passed_both false false has count reply due named is e answer = inr (
  (λ g called. (let bad : true ≡ false = sym called.1 ∙ named in cc bad)),
  inr ((λ g called. (let bad : true ≡ false = sym (le-leb MAX_LISTENERS count called.1) ∙ is in cc bad)), answer),
)

-- such a refusal cleans up nothing
plain : (named full : Bool) (refusal : Refusal) → option_or (cond named (Some no.InvalidOperation) None) (cond full (Some (no.TooMany many.Listeners)) None) ≡ Some refusal → took_effect (answer.Refused refusal) ≡ false
plain true full refusal e = let f : no.InvalidOperation ≡ refusal = cc e in ap (λ g. took_effect (answer.Refused g)) (sym f)
plain false true refusal e = let f : no.TooMany many.Listeners ≡ refusal = cc e in ap (λ g. took_effect (answer.Refused g)) (sym f)
plain false false refusal e = absurd (cc e)

module _ (tables : Tables) (owner : BundleId) (name : List ℕ) (kind : Kind) (given : Option Filter) (asks : asker_refusal tables.bundles (Some owner) ≡ None) where
  names_at : (now : Moment) → StandsFor now tables → has_listener now owner name ≡ list_any (is_named owner name) tables.listeners.rows
  names_at now stood = sym (has-same-names now.sights now.before tables.listeners owner name stood.listeners)

  count_at : (now : Moment) → StandsFor now tables → nat_le MAX_LISTENERS (length (listeners now.before)) ≡ nat_le MAX_LISTENERS (length tables.listeners.rows)
  count_at now stood = ap (λ n. nat_le MAX_LISTENERS n) (sym (has-same-count now.sights now.before tables.listeners stood.listeners))

  -- why it is refused, if it is
  pub add_refused : (refusal : Refusal) → add_refusal owner name tables.listeners.rows ≡ Some refusal → IsReplyAndChangeToAll (op.AddListener owner name kind given) tables (answer.Refused refusal) change.Nothing
  add_refused refusal is who =
      decided_refused (record { tag = who; op = op.AddListener owner name kind given }) tables refusal (plain (list_any (is_named owner name) tables.listeners.rows) (nat_le MAX_LISTENERS (length tables.listeners.rows)) refusal is)
      (λ now at stood.
      row-here now (op.AddListener owner name kind given) (answer.Refused refusal) refl
      (asker-passes now (Some owner) (own_conditions now (op.AddListener owner name kind given)) (Answers now (op.AddListener owner name kind given)) (refuses refusal) (may_ask now tables owner at.told stood asks)
      (refused_by (list_any (is_named owner name) tables.listeners.rows) (nat_le MAX_LISTENERS (length tables.listeners.rows)) (has_listener now owner name) (length (listeners now.before)) refusal
      (Answers now (op.AddListener owner name kind given)) (names_at now stood) (count_at now stood) is)))

  -- else it is added under the next id
  pub added : add_refusal owner name tables.listeners.rows ≡ None → tables.listeners.issued < 2 ^ 32 - 1 → (id : ListenerId) → id.0 ≡ tables.listeners.issued + 1 →
      IsReplyAndChangeToAll (op.AddListener owner name kind given) tables (answer.Listener id) (change.Listen owner name kind given)
  added none left id next who =
      subst (λ (i : ListenerId). IsReplyAndChange (record { tag = who; op = op.AddListener owner name kind given }) tables (answer.Listener i) (change.Listen owner name kind given)) same (record {
        possible = record { free = none; ids = left };
        cleans = refl;
        answered = λ new changed.
            unseen (record { tag = who; op = op.AddListener owner name kind given }) tables new (answer.Listener (record { 0 = tables.listeners.issued + 1 }))
            (λ now at stood.
            row-here now (op.AddListener owner name kind given) (answer.Listener (record { 0 = tables.listeners.issued + 1 })) refl
            (asker-passes now (Some owner) (own_conditions now (op.AddListener owner name kind given)) (Answers now (op.AddListener owner name kind given)) (answers (answer.Listener (record { 0 = tables.listeners.issued + 1 })))
            (may_ask now tables owner at.told stood asks)
            (passed_both (list_any (is_named owner name) tables.listeners.rows) (nat_le MAX_LISTENERS (length tables.listeners.rows)) (has_listener now owner name) (length (listeners now.before))
            (answer.Listener (record { 0 = tables.listeners.issued + 1 })) (Answers now (op.AddListener owner name kind given)) (names_at now stood) (count_at now stood) none
            (λ i. answer.Listener (record { 0 = stood.listeners.issued i + 1 })))))
            (λ now at stood. ap (λ (t : Tables). t.wirings.world) changed ∙ stood.world)
            (λ past before after e. refl)
            (λ now at stood. added_stands now tables new owner name kind given at.told stood changed);
      })
    where
      same : record { 0 = tables.listeners.issued + 1 } ≡ id
      same = λ i. record { 0 = sym next i }
      -- so it is with copies of its name and of its filter

  pub decided_added : add_refusal owner name tables.listeners.rows ≡ None → tables.listeners.issued < 2 ^ 32 - 1 → (id : ListenerId) → id.0 ≡ tables.listeners.issued + 1 → (copied : List ℕ) (filter : Option Filter) → ◌≡◌ {A = List ℕ × Option Filter} (copied, filter) (name, given) →
      IsReplyAndChangeToAll (op.AddListener owner name kind given) tables (answer.Listener id) (change.Listen owner copied kind filter)
  decided_added none left id next copied filter same =
      subst (λ (p : List ℕ × Option Filter). IsReplyAndChangeToAll (op.AddListener owner name kind given) tables (answer.Listener id) (change.Listen owner p.0 kind p.1)) (sym same) (added none left id next)

-- ---- RemoveListener

module _ (tables : Tables) (owner : BundleId) (name : List ℕ) (asks : asker_refusal tables.bundles (Some owner) ≡ None) where
  named_at : (now : Moment) → StandsFor now tables → has_listener now owner name ≡ list_any (is_named owner name) tables.listeners.rows
  named_at now stood = sym (has-same-names now.sights now.before tables.listeners owner name stood.listeners)

  -- whether there is one is answered, and it goes
  pub removed : IsReplyAndChangeToAll (op.RemoveListener owner name) tables (answer.Flag (list_any (is_named owner name) tables.listeners.rows)) (change.Unlisten owner name)
  removed who = record {
    possible = record {};
    cleans = refl;
    answered = λ new changed.
        unseen (record { tag = who; op = op.RemoveListener owner name }) tables new (answer.Flag (list_any (is_named owner name) tables.listeners.rows))
        (λ now at stood.
        row-here now (op.RemoveListener owner name) (answer.Flag (list_any (is_named owner name) tables.listeners.rows)) refl
        (asker-passes now (Some owner) (own_conditions now (op.RemoveListener owner name)) (Answers now (op.RemoveListener owner name)) (answers (answer.Flag (list_any (is_named owner name) tables.listeners.rows)))
        (may_ask now tables owner at.told stood asks) (ap answer.Flag (sym (named_at now stood)))))
        (λ now at stood. ap (λ (t : Tables). t.wirings.world) changed ∙ stood.world)
        (λ past before after e. refl)
        (λ now at stood. removed_stands now tables new owner name stood changed);
  }

  pub decided_removed : (value : Bool) (copied : List ℕ) → value ≡ list_any (is_named owner name) tables.listeners.rows → copied ≡ name → IsReplyAndChangeToAll (op.RemoveListener owner name) tables (answer.Flag value) (change.Unlisten owner copied)
  decided_removed value copied is same =
      subst (λ (p : Bool × List ℕ). IsReplyAndChangeToAll (op.RemoveListener owner name) tables (answer.Flag p.0) (change.Unlisten owner p.1)) (sym (λ i. (is i, same i))) removed
