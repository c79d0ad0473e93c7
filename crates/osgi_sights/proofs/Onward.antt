-- The sights so far, as the loops make them: with what is told of the rest they are what is told of all.
use Rattle.std.proofs.Common.{◌≡◌, ◌<◌, ◌+◌, ℕ, suc, List, [], ◌∷◌, ◌++◌, ap, append_assoc, arith, drop, drop-cons, get_or, length, map, subst, sym, ◌∙◌}
use Rattle.std.specs.Prelude.{Option, None, Some}
use Rattle.std.specs.Iterator.{YieldsFirst}
use Rattle.std.proofs.lemmas.List.{append-nil, get_or-map, length-map, map-append}
use Rattle.osgi_base.specs.declared.ids.BundleId.{BundleId}
use Rattle.osgi_base.specs.declared.ids.ListenerId.{ListenerId}
use Rattle.osgi_listeners.specs.Rows.{Listening}
use Rattle.osgi_listeners.specs.declared.sight.Sight as declared
use Rattle.osgi_ops.specs.Moments.{Sight}
use Rattle.osgi_ops.specs.declared.event.Event.{Event}
use Rattle.osgi_listeners.specs.Sights.{sight_of, sights_of}
use Rattle.osgi_sights.specs.Shown.{Shown, shown}
use Rattle.osgi_sights.specs.declared.happening.Happening.{Happening}
use Rattle.osgi_sights.specs.Sights.{IsSeenBy}
use Rattle.osgi_sights.specs.computed.Telling.{AddsSights, all_told, first_of, IsAnswerOf, misses, sees, Tells, TellsAll, TellsOf}
use Rattle.osgi_world.specs.declared.world.World.{World}

module _ (l : Listening) (removed : Option BundleId) (world : World) where
  -- of the listeners that are asked, these are left: what was told so far goes on with what they see
  pub record IsUnderway (shown : Shown) (place : ℕ) (asked left : List ListenerId) (old now : List Sight) : Type 0 where
    pub added : List Sight
    pub are : now ≡ old ++ added
    pub onward : (more : List Sight) → Tells l removed world shown place left more → Tells l removed world shown place asked (added ++ more)

  -- one more sees it
  pub one_sees : (shown : Shown) (place : ℕ) (asked left rest : List ListenerId) (listener : ListenerId) (seen : Event) (old now : List Sight) → IsUnderway shown place asked left old now → left ≡ listener ∷ rest →
      IsSeenBy l removed world shown listener seen → IsUnderway shown place asked rest old (now ++ record { listener = listener; place = place; event = seen } ∷ [])
  one_sees shown place asked left rest listener seen old now so_far is it = record {
    added = so_far.added ++ s ∷ [];
    are = ap (λ xs. xs ++ s ∷ []) so_far.are ∙ append_assoc old so_far.added (s ∷ []);
    onward = λ more told. subst (Tells l removed world shown place asked) (sym (append_assoc so_far.added (s ∷ []) more))
        (so_far.onward (s ∷ more) (subst (λ ids. Tells l removed world shown place ids (s ∷ more)) (sym is) (sees it told)));
  }
    where
      s : Sight
      s = record { listener = listener; place = place; event = seen }

  -- one more does not
  pub one_misses : (shown : Shown) (place : ℕ) (asked left rest : List ListenerId) (listener : ListenerId) (old now : List Sight) → IsUnderway shown place asked left old now → left ≡ listener ∷ rest →
      ((seen : Event) → ¬ IsSeenBy l removed world shown listener seen) → IsUnderway shown place asked rest old now
  one_misses shown place asked left rest listener old now so_far is none = record {
    added = so_far.added;
    are = so_far.are;
    onward = λ more told. so_far.onward more (subst (λ ids. Tells l removed world shown place ids more) (sym is) (misses none told));
  }

  -- nobody is left
  pub all_asked : (shown : Shown) (place : ℕ) (asked left : List ListenerId) (old now : List Sight) → IsUnderway shown place asked left old now → left ≡ [] → AddsSights (Tells l removed world shown place asked) old now
  all_asked shown place asked left old now so_far is = record {
    added = so_far.added;
    are = so_far.are;
    told = subst (Tells l removed world shown place asked) (append-nil so_far.added) (so_far.onward [] (subst (λ ids. Tells l removed world shown place ids []) (sym is) all_told));
  }

  -- ---- happenings

  -- the happenings from this place on are left
  abbrev pub GoesOn : List Shown → ℕ → List Sight → Type 0
  GoesOn happened place now = (more : List Sight) → TellsAll l removed world place (drop place happened) more → TellsAll l removed world 0 happened (now ++ more)

  one_shown : (happened : List Happening) (place : ℕ) (item : Happening) → place < length happened → item ≡ get_or happened place item → drop place (map shown happened) ≡ shown item ∷ drop (1 + place) (map shown happened)
  one_shown happened place item within is =
      let same : suc place ≡ 1 + place = omega arith in
      drop-cons (map shown happened) place (shown item) (subst (λ n. place < n) (sym (length-map happened shown)) within)
      ∙ ap (λ first. first ∷ drop (suc place) (map shown happened)) (get_or-map shown happened place item (shown item) within ∙ ap shown (sym is))
      ∙ ap (λ n. shown item ∷ drop n (map shown happened)) same

  pub one_happened : (happened : List Happening) (place next : ℕ) (item : Happening) (old now : List Sight) → next ≡ place + 1 → place < length happened → item ≡ get_or happened place item → GoesOn (map shown happened) place old →
      AddsSights (TellsOf l removed world (shown item) place) old now → GoesOn (map shown happened) next now
  one_happened happened place next item old now is_next within is so_far adds =
      let same : 1 + place ≡ next = omega (arith, is_next) in
      subst (λ n. GoesOn (map shown happened) n now) same
      (λ more told. subst (TellsAll l removed world 0 (map shown happened)) (sym (append_assoc old adds.added more) ∙ ap (λ xs. xs ++ more) (sym adds.are))
      (so_far (adds.added ++ more) (subst (λ hs. TellsAll l removed world place hs (adds.added ++ more)) (sym (one_shown happened place item within is)) (first_of adds.told told))))

  pub all_happened : (happened : List Shown) (place : ℕ) (now : List Sight) → GoesOn happened place now → drop place happened ≡ [] → TellsAll l removed world 0 happened now
  all_happened happened place now so_far is = subst (TellsAll l removed world 0 happened) (append-nil now) (so_far [] (subst (λ hs. TellsAll l removed world place hs []) (sym is) all_told))

  -- ---- as the loops say it

  -- the answer of one more is told, being an event, which is put behind the others
  pub event_told : (shown : Shown) (place : ℕ) (asked left rest : List ListenerId) (listener : ListenerId) (old : List Sight) (items later : List declared.Sight) (answer : Option Event) (seen : Event) →
      IsUnderway shown place asked left old (sights_of items) → left ≡ listener ∷ rest → IsAnswerOf l removed world shown listener answer → answer ≡ Some seen →
      later ≡ items ++ record { listener = listener; place = place; event = seen } ∷ [] → IsUnderway shown place asked rest old (sights_of later)
  event_told shown place asked left rest listener old items later answer seen so_far is told some pushed =
      subst (IsUnderway shown place asked rest old) (sym (ap sights_of pushed ∙ map-append sight_of items _))
      (one_sees shown place asked left rest listener seen old (sights_of items) so_far is (subst (IsAnswerOf l removed world shown listener) some told))

  -- or none
  pub none_told : (shown : Shown) (place : ℕ) (asked left rest : List ListenerId) (listener : ListenerId) (old now : List Sight) (answer : Option Event) →
      IsUnderway shown place asked left old now → left ≡ listener ∷ rest → IsAnswerOf l removed world shown listener answer → answer ≡ None → IsUnderway shown place asked rest old now
  none_told shown place asked left rest listener old now answer so_far is told none = one_misses shown place asked left rest listener old now so_far is (subst (IsAnswerOf l removed world shown listener) none told)

-- what an iterator over a list gave, and its end
pub given : (left now : List ListenerId) (r : Option ListenerId) (x : ListenerId) → r ≡ Some x → YieldsFirst (λ (s : List ListenerId). s) left r now → left ≡ x ∷ now
given left now r x is gives = subst (λ (o : Option ListenerId). YieldsFirst (λ (s : List ListenerId). s) left o now) is gives

pub ended : (left now : List ListenerId) (r : Option ListenerId) → r ≡ None → YieldsFirst (λ (s : List ListenerId). s) left r now → left ≡ []
ended left now r is gives = let end : YieldsFirst (λ (s : List ListenerId). s) left None now = subst (λ (o : Option ListenerId). YieldsFirst (λ (s : List ListenerId). s) left o now) is gives in end.0
