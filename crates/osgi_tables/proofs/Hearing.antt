-- The listeners after an entry that hands nothing, adds no listener, and takes none away but by a clean up.
use Rattle.std.proofs.Common.{◌≡◌, ◌-◌, ℕ, List, [], ◌∷◌, ◌++◌, append-nil, length, ap, sym, subst, ◌∙◌}
use Rattle.std.specs.Prelude.{true, false, cond, None, Some, filter}
use Rattle.std.proofs.lemmas.List.Elements.{filter-append}
use Rattle.osgi_base.specs.declared.ids.BundleId.{BundleId}
use Rattle.osgi_base.specs.declared.ids.ListenerId.{ListenerId}
use Rattle.osgi_legal.specs.Quiet.{QuietListeners}
use Rattle.osgi_legal.proofs.Owned.{closes-not}
use Rattle.osgi_listeners.specs.Rows.{Listening}
use Rattle.osgi_listeners.specs.Stands as hearing
use Rattle.osgi_listeners.specs.Stands.{AreSmall}
use Rattle.osgi_listeners.specs.laws.Premises.{quiet-entry}
use Rattle.osgi_listeners.specs.laws.Standing.{stands-with-cleaned, stands-with-quiet}
use Rattle.osgi_ops.specs.Brackets.{brackets, closes}
use Rattle.osgi_ops.specs.OwnBrackets.{is_end}
use Rattle.osgi_ops.specs.Cleaning.{cleaned_by}
use Rattle.osgi_legal.specs.Legal.{entry_of}
use Rattle.osgi_ops.specs.Listening.{handed_by, handings, heard_by, is_handed}
use Rattle.osgi_ops.specs.Moments.{Moment, Seen, seen_after}
use Rattle.osgi_ops.specs.declared.entry.Entry.{Entry}
use Rattle.osgi_ops.specs.declared.op.Op.{Op}
use Rattle.osgi_ops.specs.declared.reply.Reply.{Reply}
use Rattle.osgi_ops.specs.laws.Brackets.{ends_turn}
use Rattle.osgi_tables.specs.Changes.{without_listeners}
use Rattle.osgi_tables.specs.Replied.{StandsFor}
use Rattle.osgi_tables.specs.declared.tables.Tables.{Tables}

-- the operation with this reply hands nothing
pub record HandsNothing (o : Op) (reply : Reply) : Type 0 where
  pub handed : (l : ListenerId) → handed_by l o reply ≡ []
  pub counted : is_handed o reply ≡ false

-- nor does it add a listener or take one away
pub record KeepsListeners (o : Op) (reply : Reply) : Type 0 where
  pub heard : heard_by o reply ≡ None
  pub hands : HandsNothing o reply

pub quiet_keeps : (o : Op) (reply : Reply) → QuietListeners o reply → KeepsListeners o reply
quiet_keeps o reply quiet = record { heard = quiet.heard; hands = record { handed = quiet.handed; counted = quiet.counted } }

-- where it is the end of its caller's innermost bracket, it ends no turn
abbrev pub EndsNoTurn : Moment → Op → Type 0
EndsNoTurn now o = (l : ListenerId) → closes now.tag o (brackets now.before) ≡ true → ends_turn l o ≡ false

pub closes_none : (now : Moment) (o : Op) → closes now.tag o (brackets now.before) ≡ false → EndsNoTurn now o
closes_none now o stays l closed = let bad : true ≡ false = sym closed ∙ stays in absurd (cc bad)

-- so the listeners are after the entry, where nobody sees it
pub record HearsAfter (now : Moment) (o : Op) (reply : Reply) (l : Listening) (left : ℕ) : Type 0 where
  pub listeners : hearing.StandsFor (now.sights ++ seen_after (length now.before) []) (now.before ++ entry_of now o reply ∷ []) l
  pub small : AreSmall (now.sights ++ seen_after (length now.before) [])
  pub handings : left ≡ now.setting.bounds.handings - handings (now.before ++ entry_of now o reply ∷ [])

none_handed : (h : List Entry) (e : Entry) → is_handed e.op e.reply ≡ false → handings (h ++ e ∷ []) ≡ handings h
none_handed h e none =
    ap (λ (l : List Entry). length l)
    (filter-append (λ (x : Entry). is_handed x.op x.reply) h (e ∷ []) ∙ ap (λ k. filter (λ (x : Entry). is_handed x.op x.reply) h ++ cond k (e ∷ []) []) none ∙ append-nil _)

after : (now : Moment) (tables : Tables) (o : Op) (reply : Reply) (l : Listening) → StandsFor now tables → HandsNothing o reply → hearing.StandsFor now.sights (now.before ++ entry_of now o reply ∷ []) l → HearsAfter now o reply l tables.handings_left
after now tables o reply l stood none stands = record {
  listeners = subst (λ (all : List Seen). hearing.StandsFor all (now.before ++ entry_of now o reply ∷ []) l) (sym (append-nil now.sights)) stands;
  small = subst AreSmall (sym (append-nil now.sights)) stood.small;
  handings = stood.handings ∙ ap (λ n. now.setting.bounds.handings - n) (sym (none_handed now.before (entry_of now o reply) none.counted));
}

-- they stay
pub heard_kept : (now : Moment) (tables : Tables) (o : Op) (reply : Reply) → StandsFor now tables → KeepsListeners o reply → EndsNoTurn now o → HearsAfter now o reply tables.listeners tables.handings_left
heard_kept now tables o reply stood keeps ends =
    let e : Entry = entry_of now o reply in
    after now tables o reply tables.listeners stood keeps.hands
    (stands-with-quiet now.sights now.before tables.listeners e (quiet-entry now.before e keeps.heard keeps.hands.handed ends) stood.listeners)

-- so they do where it is the end of no bracket
pub heard_still : (now : Moment) (tables : Tables) (o : Op) (reply : Reply) → StandsFor now tables → is_end o ≡ false → heard_by o reply ≡ None → ((l : ListenerId) → handed_by l o reply ≡ []) → is_handed o reply ≡ false →
    HearsAfter now o reply tables.listeners tables.handings_left
heard_still now tables o reply stood no_end heard handed counted =
    heard_kept now tables o reply stood (record { heard = heard; hands = record { handed = handed; counted = counted } }) (closes_none now o (closes-not now.tag o (brackets now.before) no_end))

-- those of the bundle that is cleaned go
pub heard_cleaned : (now : Moment) (tables : Tables) (o : Op) (reply : Reply) (b : BundleId) → StandsFor now tables → cleaned_by o reply ≡ Some b → HandsNothing o reply → HearsAfter now o reply (without_listeners true b tables.listeners) tables.handings_left
heard_cleaned now tables o reply b stood cleans none =
    after now tables o reply (without_listeners true b tables.listeners) stood none (stands-with-cleaned now.sights now.before tables.listeners (entry_of now o reply) b cleans stood.listeners)
