-- What the calls of the listeners make of them, as the changes of the tables say it.
use Rattle.std.proofs.Common.{◌≡◌, ◌∷◌, ◌∙◌, subst}
use Rattle.std.specs.Prelude.{◌==◌, cond}
use Rattle.osgi_base.specs.declared.ids.ListenerId.{ListenerId}
use Rattle.osgi_base.specs.declared.ids.Tag.{Tag}
use Rattle.osgi_brackets.specs.Open.{HoldsSame, Opens}
use Rattle.osgi_brackets.specs.declared.brackets.Brackets.{Brackets}
use Rattle.osgi_listeners.specs.Rows.{AreInOrder, IsHanded, Listening, rows_after, turns_after}
use Rattle.osgi_listeners.specs.declared.answer.HandAnswer.TheVariants as answer
use Rattle.osgi_listeners.specs.laws.Handing.{handed_once}
use Rattle.osgi_ops.specs.Brackets.{bracket, handing}
use Rattle.osgi_ops.specs.declared.event.Event.{Event}
use Rattle.osgi_tables.specs.Changes.{with_turn}

-- the event that is to be handed next was handed
pub turned_is : (old new : Listening) (tag : Tag) (listener to : ListenerId) (event happened : Event) → AreInOrder old → IsHanded old listener event → IsHanded old to happened →
    new.rows ≡ rows_after (answer.Handed to happened) old.rows → new.turns ≡ turns_after tag (answer.Handed to happened) old.turns → new.issued ≡ old.issued → new ≡ with_turn tag listener old
turned_is old new tag listener to event happened order next handed rows turns issued =
    let same : to ≡ listener = (handed_once old to listener happened event order handed next).0 in
    subst (λ (l : ListenerId). new ≡ with_turn tag l old) same (λ i. record { rows = rows i; turns = turns i; issued = issued i })

-- the bracket is open that was opened where room was made for it
pub opened_is : (old mid new : Brackets) (tag : Tag) (listener to : ListenerId) → HoldsSame old mid → Opens mid new tag (handing to) → to ≡ listener → Opens old new tag (handing listener)
opened_is old mid new tag listener to holds opened same = λ caller. opened caller ∙ (λ i. cond (tag.caller == caller) (bracket tag (handing (same i)) ∷ holds caller i) (holds caller i))
