-- The calls as what they make of the history that the listeners stand for, from what they make of rows and turns.
use Rattle.std.proofs.Common.{◌≡◌, ℕ, ◌+◌, List, [], ◌∷◌, ◌++◌, Bool, map, sym, subst, refl}
use Rattle.std.specs.Prelude.{filter, None, not}
use Rattle.std.specs.List.{list_any}
use Rattle.osgi_base.specs.declared.ids.BundleId.{BundleId}
use Rattle.osgi_base.specs.declared.ids.ListenerId.{ListenerId}
use Rattle.osgi_base.specs.declared.ids.Tag.{Tag}
use Rattle.osgi_listeners.specs.Rows.{is_named, is_owned, Listening, new_row, number_of, rows_after, turns_after, without_turn}
use Rattle.osgi_listeners.specs.Sights.{told_all}
use Rattle.osgi_listeners.specs.Stands.{StandsAdded, StandsCleaned, StandsEnded, StandsFor, StandsHanded, StandsRemoved, StandsSeen}
use Rattle.osgi_listeners.specs.declared.answer.HandAnswer.{HandAnswer}
use Rattle.osgi_listeners.specs.declared.answer.HandAnswer.TheVariants.{Handed, Nothing}
use Rattle.osgi_listeners.specs.declared.row.ListenerRow.{ListenerRow}
use Rattle.osgi_listeners.specs.laws.Standing.{entry_by, stands-with-added, stands-with-all-seen, stands-with-cleaned, stands-with-ended, stands-with-handed, stands-with-quiet, stands-with-removed}
use Rattle.osgi_listeners.specs.laws.Turns.{opens-none, turn-stays}
use Rattle.osgi_ops.specs.Moments.{Sight}
use Rattle.osgi_ops.specs.declared.op.Op.TheVariants as op
use Rattle.osgi_ops.specs.declared.reply.Reply.TheVariants as answer

module _ (old new : Listening) where
  pub added_stands : (row : ListenerRow) → number_of row ≡ old.issued + 1 → new.rows ≡ old.rows ++ new_row row ∷ [] → new.turns ≡ old.turns → new.issued ≡ old.issued + 1 → StandsAdded row old new
  added_stands row next rows turns issued = λ sights history tag added stands.
      subst (StandsFor sights (history ++ entry_by tag (op.AddListener row.owner row.name row.kind row.filter) (answer.Listener row.listener) ∷ []))
      (λ i. record { rows = sym rows i; turns = sym turns i; issued = sym issued i })
      (stands-with-added sights history old tag row.owner row.name row.kind row.filter row.listener next added stands)

  pub removed_stands : (owner : BundleId) (name : List ℕ) (found : Bool) → found ≡ list_any (is_named owner name) old.rows → new.rows ≡ filter (λ row. not (is_named owner name row)) old.rows → new.turns ≡ old.turns → new.issued ≡ old.issued →
      StandsRemoved owner name found old new
  removed_stands owner name found is rows turns issued = λ sights history tag stands.
      subst (λ (value : Bool). StandsFor sights (history ++ entry_by tag (op.RemoveListener owner name) (answer.Flag value) ∷ []) new) (sym is)
      (subst (StandsFor sights (history ++ entry_by tag (op.RemoveListener owner name) (answer.Flag (list_any (is_named owner name) old.rows)) ∷ []))
      (λ i. record { rows = sym rows i; turns = sym turns i; issued = sym issued i })
      (stands-with-removed sights history old tag owner name stands))

  pub cleaned_stands : (owner : BundleId) → new.rows ≡ filter (λ row. not (is_owned owner row)) old.rows → new.turns ≡ old.turns → new.issued ≡ old.issued → StandsCleaned owner old new
  cleaned_stands owner rows turns issued = λ sights history e cleaned stands.
      subst (StandsFor sights (history ++ e ∷ [])) (λ i. record { rows = sym rows i; turns = sym turns i; issued = sym issued i })
      (stands-with-cleaned sights history old e owner cleaned stands)

  pub seen_stands : (entry : ℕ) (these : List Sight) → new.rows ≡ map (told_all entry these) old.rows → new.turns ≡ old.turns → new.issued ≡ old.issued → StandsSeen entry these old new
  seen_stands entry these rows turns issued = λ sights history first stands.
      subst (StandsFor _ history) (λ i. record { rows = sym rows i; turns = sym turns i; issued = sym issued i })
      (stands-with-all-seen sights history old entry these first stands)

  pub handed_stands : (tag : Tag) (given : HandAnswer) → new.rows ≡ rows_after given old.rows → new.turns ≡ turns_after tag given old.turns → new.issued ≡ old.issued → StandsHanded tag given old new
  handed_stands tag (Handed listener event) rows turns issued = λ sights history kind owner row name stands.
      subst (StandsFor sights (history ++ entry_by tag op.Hand (answer.Handed listener kind owner row name event) ∷ [])) (λ i. record { rows = sym rows i; turns = sym turns i; issued = sym issued i })
      (stands-with-handed sights history old tag listener kind owner row name event stands)
  handed_stands tag (Nothing busy) rows turns issued = λ sights history stands.
      let e = entry_by tag op.Hand (answer.Nothing busy) in
      subst (StandsFor sights (history ++ e ∷ [])) (λ i. record { rows = sym rows i; turns = sym turns i; issued = sym issued i })
      (stands-with-quiet sights history old e (record { heard = refl; turns = λ n. turn-stays n history e (opens-none n None refl) (λ k. refl); handed = λ listener. refl }) stands)

  pub ended_stands : (tag : Tag) (listener : ListenerId) → new.rows ≡ old.rows → new.turns ≡ without_turn listener old.turns → new.issued ≡ old.issued → StandsEnded tag listener old new
  ended_stands tag listener rows turns issued = λ sights history apart own stands.
      subst (StandsFor sights (history ++ entry_by tag (op.EndHand listener) answer.Done ∷ [])) (λ i. record { rows = sym rows i; turns = sym turns i; issued = sym issued i })
      (stands-with-ended sights history old tag listener apart own stands)
