-- What a whole call leaves.
use Rattle.std.proofs.Common.{◌≡◌, ℕ, List, [], ◌∷◌, ◌++◌, length, drop, sym, refl, ap, ◌∙◌, subst, Bool, true, false, Option, None, Some, Result, Ok, Err, MatchBool, append_assoc}
use Rattle.std.specs.Prelude.{IfSome}
use Rattle.std.proofs.Math.Seq.{drop-append_seam, drop-length}
use Rattle.std.proofs.lemmas.List.{append-nil}
use Rattle.atomic_table.specs.Table.{Me}
use Rattle.atomic_table.specs.Seated.{TableId}
use Rattle.osgi_hall.specs.declared.entry.Entry.{Entry}
use Rattle.osgi_hall.specs.declared.entry.Joined.{Joined}
use Rattle.osgi_base.specs.declared.ids.Tag.{Tag}
use Rattle.osgi_hall.specs.declared.board.Known.{Known}
use Rattle.osgi_hall.specs.declared.board.Stage.TheVariants.{Idle, Has}
use Rattle.osgi_hall.specs.declared.board.View.{View}
use Rattle.osgi_hall.specs.declared.board.View.TheVariants.{Live}
use Rattle.osgi_hall.specs.Histories.{BeginsWith, TellsOfPrefix, entry, IsApplied, calls_by}
use Rattle.osgi_hall.specs.Passes.{PassView, IsLegalFor, IsLegal}
use Rattle.osgi_hall.specs.Calls.{tag_of, AddsEntry, AddsNone, IsCall}
use Rattle.osgi_hall.specs.computed.Lists.{Each}
use Rattle.osgi_hall.specs.computed.Steps.{staged, told, Knows}
use Rattle.osgi_hall.specs.computed.Seats.{HasTurn, MayLeave}
use Rattle.osgi_hall.specs.computed.Shown.{pass_view}
use Rattle.osgi_hall.proofs.Tallies.{all_at, all_each, by_append, by_all, by_others}

or_else : (b : Bool) (P Q C : Type 0) → MatchBool b P Q → (P → C) → (Q → C) → C
or_else true P Q C m f g = f m
or_else false P Q C m f g = g m

one : {A : Type 0} (a b : A) → a ∷ [] ≡ b ∷ [] → a ≡ b
one a b e = cc

module _ {O R : Type 0} where
  abbrev pub Own : ℕ → List (Entry O R) → Type 0
  Own c es = Each (λ (e : Entry O R). e.tag.caller ≡ c) es

  -- what was added is of the caller
  abbrev pub Grown : ℕ → List (Entry O R) → List (Entry O R) → Type 0
  Grown c es es' = (suffix : List (Entry O R)) × (es' ≡ es ++ suffix) × Own c suffix

  grows : {E : Type 0} (is_recorded : R → Bool) (gives : List (Entry O R) → O → R → Type 0) (es es' : List (Entry O R)) (t : Tag) (o : O) (answer : Result R E) → IsApplied is_recorded gives es es' t o answer → Grown t.caller es es'
  grows is_recorded gives es es' t o (Ok r) a = or_else (is_recorded r) (es' ≡ es ++ entry t o r ∷ []) ((es' ≡ es) × gives es o r) (Grown t.caller es es') a
      (λ (e : es' ≡ es ++ entry t o r ∷ []). (entry t o r ∷ [], e, (refl, tt)))
      (λ (e : (es' ≡ es) × gives es o r). ([], e.0 ∙ sym (append-nil es), tt))
  grows is_recorded gives es es' t o (Err e) a = ([], a ∙ sym (append-nil es), tt)

module _ {M O R Z : Type 0} (entries : M → List (Entry O R)) (setting : M → Z) where
  pub grown_by : {E : Type 0} (is_recorded : R → Bool) (gives : List (Entry O R) → O → R → Type 0) (k : Known O R Z) (n command : ℕ) (x x' : M) (o : O) (answer : Result R E)
      → k.caller ≡ n → IsApplied is_recorded gives (entries x) (entries x') record { caller = n; command = command } o answer → Grown k.caller (entries x) (entries x')
  grown_by is_recorded gives k n command x x' o answer n_is a =
      subst (λ (c : ℕ). Grown c (entries x) (entries x')) (sym n_is) (grows is_recorded gives (entries x) (entries x') record { caller = n; command = command } o answer a)

  pub may_leave : (k : Known O R Z) (v : View O R Z) (x x' : M) (me : Me (Option M) (View O R Z)) → v ≡ Live k → HasTurn entries setting v x me → setting x' ≡ setting x → Grown k.caller (entries x) (entries x') → MayLeave entries setting x' me
  may_leave k v x x' me is turn same grown = (
    record k { stage = Has turn.0 (entries x) },
    turn.0,
    entries x,
    grown.0,
    turn.1 ∙ ap (λ (y : View O R Z). (staged (Has turn.0 (entries x)) y, (0, None) ∷ [])) is,
    refl,
    grown.1,
    grown.2,
    ap (λ (y : Z). y ∷ []) same ∙ (subst (λ (y : View O R Z). Knows entries setting y x) is turn.2).0,
  )

  -- the caller after its turn, where the machine was x and is x'
  abbrev pub after : Known O R Z → M → M → Known O R Z
  after k x x' = record k { stage = Idle; seen = entries x'; own = k.own ++ drop (length (entries x)) (entries x') }

  pub ends_as : (k : Known O R Z) (v : View O R Z) (x x' : M) (me me' : Me (Option M) (View O R Z)) → v ≡ Live k → HasTurn entries setting v x me → me' ≡ (staged Idle (told (entries x') me.0), []) → me' ≡ (Live (after k x x'), [])
  ends_as k v x x' me me' is turn e = e ∙ (ap (λ (m : Me (Option M) (View O R Z)). (staged Idle (told (entries x') m.0), [])) turn.1 ∙ ap (λ (y : View O R Z). (staged Idle (told (entries x') (staged (Has turn.0 (entries x)) y)), [])) is)

  pub legal_after : (can_make : Z → List (Entry O R) → Type 0) (k : Known O R Z) (v : View O R Z) (x x' : M) → v ≡ Live k → Knows entries setting v x → setting x' ≡ setting x → can_make (setting x') (entries x') → Grown k.caller (entries x) (entries x') → IsLegalFor can_make (after k x x').setting (after k x x').caller (after k x x').seen (after k x x').own (after k x x').ended
  legal_after can_make k v x x' is knows same can grown =
      let knows' = subst (λ (y : View O R Z). Knows entries setting y x) is knows in record {
        can = all_each (λ (z : Z). can_make z (entries x')) k.setting (subst (λ (s : List Z). Each (λ (z : Z). can_make z (entries x')) s) knows'.0 (subst (λ (z : Z). can_make z (entries x')) same can, tt));
        own_calls = ap (calls_by k.caller) grown.1 ∙ (by_append k.caller (entries x) grown.0
            ∙ (λ i. knows'.2 i ++ (by_all k.caller grown.0 grown.2 ∙ sym (ap (drop (length (entries x))) grown.1 ∙ drop-append_seam (entries x) grown.0)) i));
        ended_calls = all_at (λ (y : Joined O R). calls_by y.caller (entries x') ≡ y.own) k.ended (λ i y there. let e = knows'.3 i y there in ap (calls_by y.caller) grown.1 ∙ by_others y.caller k.caller e.0 (entries x) grown.0 y.own grown.2 e.1);
      }

  told_so : {E : Type 0} (is_recorded : R → Bool) (gives : Z → List (Entry O R) → O → R → Type 0) (z : Z) (p q : PassView O R Z) (es es' : List (Entry O R)) (y : Z) (t : Tag) (command : ℕ) (o : O) (answer : Result R E)
      → IsApplied is_recorded (gives y) es es' t o answer
      → (es' ≡ es → AddsNone p q)
      → ((r : R) → es' ≡ es ++ entry t o r ∷ [] → AddsEntry p q (entry (tag_of p command) o r))
      → ((r : R) → es' ≡ es → gives y es o r → gives z q.seen o r)
      → IsCall is_recorded (gives z) p q command o answer
  told_so is_recorded gives z p q es es' y t command o (Ok r) a none_added added free = told_bool (is_recorded r) a
    where
      told_bool : (b : Bool) → MatchBool b (es' ≡ es ++ entry t o r ∷ []) ((es' ≡ es) × gives y es o r) → MatchBool b (AddsEntry p q (entry (tag_of p command) o r)) (AddsNone p q × gives z q.seen o r)
      told_bool true m = added r m
      told_bool false m = (none_added m.0, free r m.0 m.1)
  told_so is_recorded gives z p q es es' y t command o (Err e) a none_added added free = none_added a

  pub called_after : {E : Type 0} (is_recorded : R → Bool) (gives : Z → List (Entry O R) → O → R → Type 0) (h : TableId) (z : Z) (k : Known O R Z) (v : View O R Z) (x x' : M) (command : ℕ) (o : O) (answer : Result R E)
      → v ≡ Live k → k.setting ≡ z ∷ [] → Knows entries setting v x → IsApplied is_recorded (gives (setting x)) (entries x) (entries x') record { caller = k.caller; command = command } o answer
      → IsCall is_recorded (gives z) (pass_view h (Live k)) (pass_view h (Live (after k x x'))) command o answer
  called_after is_recorded gives h z k v x x' command o answer is set_is knows applied =
      let knows' = subst (λ (y : View O R Z). Knows entries setting y x) is knows in
      let z_is : setting x ≡ z = one (setting x) z (knows'.0 ∙ set_is) in
      let es : List (Entry O R) = entries x in
      let es' : List (Entry O R) = entries x' in
      let none_added : es' ≡ es → AddsNone (pass_view h (Live k)) (pass_view h (Live (after k x x'))) = λ e. (
        (knows'.1.0, e ∙ knows'.1.1),
        ap (λ (l : List (Entry O R)). k.own ++ l) (ap (drop (length es)) e ∙ drop-length es) ∙ append-nil k.own,
      ) in
      told_so is_recorded gives z (pass_view h (Live k)) (pass_view h (Live (after k x x'))) es es' (setting x) record { caller = k.caller; command = command } command o answer applied none_added (λ r e. (
        knows'.1.0,
        e ∙ ap (λ (l : List (Entry O R)). l ++ entry (tag_of (pass_view h (Live k)) command) o r ∷ []) knows'.1.1,
        ap (λ (l : List (Entry O R)). k.own ++ l) (ap (drop (length es)) e ∙ drop-append_seam es (entry (tag_of (pass_view h (Live k)) command) o r ∷ [])),
      ))
      (λ r e g. subst (λ (y : Z × List (Entry O R)). gives y.0 y.1 o r) (λ i. (z_is i, sym e i)) g)

module _ {M O R Z : Type 0} where
  pub called_on : {E : Type 0} (is_recorded : R → Bool) (gives : List (Entry O R) → O → R → Type 0) (p : PassView O R Z) (t t' : TableId) (me me' : Me (Option M) (View O R Z)) (k k' : Known O R Z) (command : ℕ) (o : O) (answer : Result R E)
      → pass_view t me.0 ≡ p → me ≡ (Live k, []) → t' ≡ t → me' ≡ (Live k', []) → IsCall is_recorded gives (pass_view t (Live k)) (pass_view t (Live k')) command o answer → IsCall is_recorded gives p (pass_view t' me'.0) command o answer
  called_on is_recorded gives p t t' me me' k k' command o answer view_is is same is' c =
      let before : pass_view t (Live k) ≡ p = ap (λ (m : Me (Option M) (View O R Z)). pass_view t m.0) (sym is) ∙ view_is in
      let after_ : pass_view t (Live k') ≡ pass_view t' me'.0 = λ i. pass_view (sym same i) ((sym is' i).0) in
      subst (λ (x : PassView O R Z × PassView O R Z). IsCall is_recorded gives x.0 x.1 command o answer) (λ i. (before i, after_ i)) c

  pub legal_on : (can_make : Z → List (Entry O R) → Type 0) (t : TableId) (me : Me (Option M) (View O R Z)) (k : Known O R Z) → me ≡ (Live k, []) → IsLegalFor can_make k.setting k.caller k.seen k.own k.ended → IsLegal can_make (pass_view t me.0)
  legal_on can_make t me k is l = subst (λ (m : Me (Option M) (View O R Z)). IsLegal can_make (pass_view t m.0)) (sym is) l

  -- what a caller knows as fields of what its pass is seen as
  pub is_shown : (p : PassView O R Z) (t : TableId) (me : Me (Option M) (View O R Z)) (k : Known O R Z) → pass_view t me.0 ≡ p → me ≡ (Live k, []) → pass_view t (Live k) ≡ p
  is_shown p t me k view_is is = ap (λ (m : Me (Option M) (View O R Z)). pass_view t m.0) (sym is) ∙ view_is

module _ {M O R Z : Type 0} (entries : M → List (Entry O R)) (setting : M → Z) where
  -- a turn that adds nothing
  pub views_on : (p : PassView O R Z) (t t' : TableId) (me me' : Me (Option M) (View O R Z)) (k : Known O R Z) (v : View O R Z) (x x' : M)
      → pass_view t me.0 ≡ p → me ≡ (Live k, []) → v ≡ Live k → Knows entries setting v x → entries x' ≡ entries x → me' ≡ (Live (after entries setting k x x'), []) → AddsNone p (pass_view t' me'.0)
  views_on p t t' me me' k v x x' view_is is v_is knows same is' =
      let knows' = subst (λ (y : View O R Z). Knows entries setting y x) v_is knows in
      let k_is : pass_view t (Live k) ≡ p = is_shown p t me k view_is is in
      let seen_is : (pass_view t' me'.0).seen ≡ entries x' = ap (λ (m : Me (Option M) (View O R Z)). (pass_view t' m.0).seen) is' in
      let own_is : (pass_view t' me'.0).own ≡ k.own ++ drop (length (entries x)) (entries x') = ap (λ (m : Me (Option M) (View O R Z)). (pass_view t' m.0).own) is' in (
        (knows'.1.0, seen_is ∙ (same ∙ (knows'.1.1 ∙ ap (λ (q : PassView O R Z). q.seen ++ knows'.1.0) k_is))),
        own_is ∙ (ap (λ (l : List (Entry O R)). k.own ++ l) (ap (drop (length (entries x))) same ∙ drop-length (entries x)) ∙ (append-nil k.own ∙ ap (λ (q : PassView O R Z). q.own) k_is)),
      )

-- a hint that tells of a prefix of what a pass has seen tells of a prefix of the machine's history, which begins with that
pub hint_kept : {O R Z H : Type 0} (hints : Z → List (Entry O R) → H → Type 0) (z : Z) (known : List Z) (z' : Z) (seen all : List (Entry O R)) (hint : Option H)
    → known ≡ z ∷ [] → z' ∷ [] ≡ known → BeginsWith all seen → IfSome hint (TellsOfPrefix (hints z) seen) → IfSome hint (TellsOfPrefix (hints z') all)
hint_kept hints z known z' seen all None of_hall is grown told = tt
hint_kept {O} {R} hints z known z' seen all (Some h) of_hall is grown told =
    let same : z' ≡ z = cc (is ∙ of_hall) in (
      told.0,
      (told.1.0 ++ grown.0, grown.1 ∙ (ap (λ (l : List (Entry O R)). l ++ grown.0) told.1.1 ∙ append_assoc told.0 told.1.0 grown.0)),
      subst (λ y. hints y told.0 h) (sym same) told.2,
    )
