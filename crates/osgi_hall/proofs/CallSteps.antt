-- Each step of a call keeps the rule of the hall's table.
use Rattle.std.proofs.Common.{◌≡◌, ℕ, zero, suc, ◌+◌, ◌%◌, ◌^◌, ◌<◌, ◌≤◌, ◌≢◌, ◌⊎◌, List, [], ◌∷◌, ◌++◌, length, get_or, set, drop, sym, refl, ap, ◌∙◌, subst, inl, inr, ⊎_elim, arith, length-set, Option, Some, None}
use Rattle.std.proofs.Math.Seq.{drop-append_seam}
use Rattle.std.proofs.lemmas.List.{append-nil, append_assoc}
use mathlib.Core.Logic.{dite}
use mathlib.Core.Option.{some, none, some-injective, some-ne-none}
use mathlib.Core.Option as maybe
use native.Mathlib.Decide.{ℕ_discrete}
use lib.ListN.{get_elem?}
use lib.Seq.{set-get_or}
use Rattle.atomic_table.specs.Table.{State, Me, keeps, takes, gives, put_back, rest, step, stepped, Allows, opening}
use Rattle.atomic_table.proofs.Lists.{at_set, set_here, set_else, set_again, one_turn}
use Rattle.osgi_hall.specs.declared.entry.Entry.{Entry}
use Rattle.osgi_hall.specs.declared.board.Known.{Known}
use Rattle.osgi_hall.specs.declared.entry.Joined.{Joined}
use Rattle.osgi_hall.specs.declared.board.Stage.{Stage}
use Rattle.osgi_hall.specs.declared.board.Stage.TheVariants.{Idle, Waits, Has, Done}
use Rattle.osgi_hall.specs.declared.board.View.{View}
use Rattle.osgi_hall.specs.declared.board.View.TheVariants.{Live, Spent}
use Rattle.osgi_hall.specs.Histories.{BeginsWith, calls_by}
use Rattle.osgi_hall.specs.computed.Lists.{total, Each}
use Rattle.osgi_hall.specs.computed.Stages.{HasPlace, places_of, stage_place, noted_of, IsOut, InTurn, stage_of, held, live}
use Rattle.osgi_hall.specs.computed.Kept.{IsSeated, Sound, AtHome, WithSomeone, Kept}
use Rattle.osgi_hall.specs.computed.Steps.{first_view, staged, told, drawn, Knows, found, entries_in, noted, given}
use Rattle.osgi_hall.proofs.Tallies.{total_set, total_few, at_below, Each-append, Each-map, begins_more, begins_trans, by_append, by_all, by_others}

module _ {O R : Type 0} where
  out_has_place : (low high : ℕ) (all : List (Entry O R)) (st : Stage O R) → IsOut st → InTurn low high all st → HasPlace st low
  out_has_place low high all Idle o t = absurd o
  out_has_place low high all (Waits p) o t = absurd o
  out_has_place low high all (Has p n) o t = t.0
  out_has_place low high all (Done p) o t = absurd o

module _ {O R Z : Type 0} where
  pub live_is : (a b : Known O R Z) → ◌≡◌ {A = View O R Z} (Live a) (Live b) → a ≡ b
  live_is a b e = cc

  pub spent_not : (a : Known O R Z) → ◌≡◌ {A = View O R Z} (Live a) Spent → ⊥
  spent_not a e = cc

  held_one : (v : View O R Z) → held v ≤ 1
  held_one Spent = omega arith
  held_one (Live k) = elim (k.stage) as (λ (st : Stage O R). places_of st ≤ 1) [ Idle ↦ omega arith | Waits _ ↦ omega arith | Has _ _ ↦ omega arith | Done _ ↦ omega arith ]

one_is : {A : Type 0} (a b : A) → a ∷ [] ≡ b ∷ [] → a ≡ b
one_is a b e = cc

module _ {M O R Z : Type 0} (entries : M → List (Entry O R)) (setting : M → Z) (CanMake : Z → List (Entry O R) → Type 0) (z : Z) where
  abbrev pub St : Type 0
  St = State (Option M) (View O R Z)

  abbrev pub Rule : St → Type 0
  Rule = Kept entries setting CanMake z

  abbrev pub mine : ℕ → List (Entry O R) → Type 0
  mine id es = Each (λ (e : Entry O R). e.tag.caller ≡ id) es

  abbrev pub changed : St → List ℕ → List (maybe.Option (Option M)) → ℕ → View O R Z → St
  changed s ws hs id w = record { words = ws; homes = hs; views = set s.views id w }

  pub apart_from : (s : St) (r : Rule s) (id j : ℕ) (k : Known O R Z) → get_elem? s.views id ≡ some (Live k) → get_elem? s.views j ≡ some Spent → j ≢ id
  apart_from s r id j k at there e = spent_not k (some-injective (Live k) Spent (sym at ∙ (ap (λ (i : ℕ). get_elem? s.views i) (sym e) ∙ there)))

  other_sound : (all suffix : List (Entry O R)) (low high low' high' id : ℕ) (ended : List (Joined O R)) (j : ℕ) (v : View O R Z) → j ≢ id → mine id suffix
      → (InTurn low high all (stage_of v) → InTurn low' high' (all ++ suffix) (stage_of v)) → Sound CanMake z all low high ended j v → Sound CanMake z (all ++ suffix) low' high' ended j v
  other_sound all suffix low high low' high' id ended j Spent n a f k = k
  other_sound all suffix low high low' high' id ended j (Live v) n a f k = record {
    caller = k.caller;
    setting = k.setting;
    begins = begins_more all v.seen suffix k.begins;
    can = k.can;
    own_all = by_others j id n all suffix v.own a k.own_all;
    own_seen = k.own_seen;
    turn = f k.turn;
    noted_begin = k.noted_begin;
    plain = k.plain;
  }

  -- one caller goes on: it has a new stage and a new seen list, and the longest list has grown by entries of its own
  pub moved : (s : St) (r : Rule s) (id : ℕ) (k k' : Known O R Z) → get_elem? s.views id ≡ some (Live k)
      → (suffix : List (Entry O R)) (low' high' : ℕ) (ws : List ℕ) (hs : List (maybe.Option (Option M)))
      → (k'.made ≡ k.made) × (k'.out ≡ k.out) × (k'.ended ≡ k.ended)
      → mine id suffix
      → ws ≡ high' % 2 ^ 64 ∷ low' % 2 ^ 64 ∷ length (r.all ++ suffix) ∷ []
      → IsSeated CanMake z (r.all ++ suffix) low' high' id k'
      → ((j : ℕ) (v : View O R Z) → j ≢ id → get_elem? s.views j ≡ some v → InTurn r.low r.high r.all (stage_of v) → InTurn low' high' (r.all ++ suffix) (stage_of v))
      → ((p : ℕ) → HasPlace k'.stage p → (j : ℕ) (v : View O R Z) → j ≢ id → get_elem? s.views j ≡ some v → HasPlace (stage_of v) p → ⊥)
      → ((p : ℕ) → low' ≤ p → p < high' → HasPlace k'.stage p ⊎ ((r.low ≤ p) × (p < r.high) × (HasPlace k.stage p → ⊥)))
      → low' + places_of k'.stage + r.high ≡ r.low + places_of k.stage + high'
      → AtHome entries setting z (r.all ++ suffix) (changed s ws hs id (Live k')) ⊎ WithSomeone (changed s ws hs id (Live k'))
      → ((k'.seen ≡ k.seen) × (suffix ≡ [])) ⊎ (k'.seen ≡ r.all ++ suffix)
      → Rule (changed s ws hs id (Live k'))
  moved s r id k k' at suffix low' high' ws hs same own words fits turns alone holds count slot saw =
      let all' : List (Entry O R) = r.all ++ suffix in
      let inside : id < length s.views = at_below s.views id (Live k) at in
      let here : get_elem? (set s.views id (Live k')) id ≡ some (Live k') = set_here s.views id (Live k') inside in
      let else_ : (j : ℕ) → j ≢ id → get_elem? (set s.views id (Live k')) j ≡ get_elem? s.views j = λ j n. set_else s.views id j (Live k') n in
      record {
        all = all';
        low = low';
        high = high';
        made = r.made;
        out = r.out;
        ended = r.ended;
        words = words;
        each = λ j v e. ⊎_elim
            (λ (t : (j ≡ id) × (Live k' ≡ v)). subst (λ (x : ℕ × View O R Z). Sound CanMake z all' low' high' r.ended x.0 x.1) (λ i. (sym t.0 i, t.1 i)) fits)
            (λ (t : (j ≢ id) × (get_elem? s.views j ≡ some v)). other_sound r.all suffix r.low r.high low' high' id r.ended j v t.0 own (turns j v t.0 t.1) (r.each j v t.1))
            (at_set s.views id j (Live k') v e);
        apart = λ i j p v w e d a b. ⊎_elim
            (λ (t : (i ≡ id) × (Live k' ≡ v)). ⊎_elim
            (λ (u : (j ≡ id) × (Live k' ≡ w)). t.0 ∙ sym u.0)
            (λ (u : (j ≢ id) × (get_elem? s.views j ≡ some w)). absurd (alone p (subst (λ (x : View O R Z). HasPlace (stage_of x) p) (sym t.1) a) j w u.0 u.1 b))
            (at_set s.views id j (Live k') w d))
            (λ (t : (i ≢ id) × (get_elem? s.views i ≡ some v)). ⊎_elim
            (λ (u : (j ≡ id) × (Live k' ≡ w)). absurd (alone p (subst (λ (x : View O R Z). HasPlace (stage_of x) p) (sym u.1) b) i v t.0 t.1 a))
            (λ (u : (j ≢ id) × (get_elem? s.views j ≡ some w)). r.apart i j p v w t.1 u.1 a b)
            (at_set s.views id j (Live k') w d))
            (at_set s.views id i (Live k') v e);
        places = let sums : total held (set s.views id (Live k')) + places_of k.stage ≡ total held s.views + places_of k'.stage = total_set held s.views id (Live k) (Live k') at in let was = r.places in omega arith;
        taken = λ p from below. ⊎_elim
            (λ (h : HasPlace k'.stage p). (id, Live k', here, h))
            (λ (t : (r.low ≤ p) × (p < r.high) × (HasPlace k.stage p → ⊥)). let o = r.taken p t.0 t.1 in
            (o.0, o.1, else_ o.0 (λ (e : o.0 ≡ id). t.2 (subst (λ (y : View O R Z). HasPlace (stage_of y) p) (some-injective o.1 (Live k) (sym o.2 ∙ (ap (λ (i : ℕ). get_elem? s.views i) e ∙ at))) o.3)) ∙ o.2, o.3))
            (holds p from below);
        slot = slot;
        longest = ⊎_elim
            (λ (t : (k'.seen ≡ k.seen) × (suffix ≡ [])). let l = r.longest in let grown : r.all ≡ all' = sym (ap (λ (x : List (Entry O R)). r.all ++ x) t.1 ∙ append-nil r.all) in dite (ℕ_discrete l.0 id)
            (λ (e : l.0 ≡ id). let is : l.1 ≡ k = live_is l.1 k (some-injective (Live l.1) (Live k) (sym l.2 ∙ (ap (λ (i : ℕ). get_elem? s.views i) e ∙ at))) in (id, k', here, t.0 ∙ (ap (λ (x : Known O R Z). x.seen) (sym is) ∙ (l.3 ∙ grown))))
            (λ (n : l.0 ≢ id). (l.0, l.1, else_ l.0 n ∙ l.2, l.3 ∙ grown)))
            (λ (t : k'.seen ≡ all'). (id, k', here, t))
            saw;
        made_is = length-set s.views id (Live k') ∙ r.made_is;
        few = r.few;
        out_is = let sums : total live (set s.views id (Live k')) + 1 ≡ total live s.views + 1 = total_set live s.views id (Live k) (Live k') at in let was = r.out_is in omega arith;
        tally = r.tally;
        root = let o = r.root in dite (ℕ_discrete 0 id)
            (λ (e : 0 ≡ id). let is : o.0 ≡ k = live_is o.0 k (some-injective (Live o.0) (Live k) (sym o.1 ∙ (ap (λ (i : ℕ). get_elem? s.views i) e ∙ at))) in (
              k',
              ap (λ (i : ℕ). get_elem? (set s.views id (Live k')) i) e ∙ here,
              record {
                made_is = same.0 ∙ (ap (λ (x : Known O R Z). x.made) (sym is) ∙ o.2.made_is);
                out_is = same.1 ∙ (ap (λ (x : Known O R Z). x.out) (sym is) ∙ o.2.out_is);
                ended_is = same.2 ∙ (ap (λ (x : Known O R Z). x.ended) (sym is) ∙ o.2.ended_is);
                ended_calls = λ i x there. ⊎_elim
                    (λ (t : (k'.seen ≡ k.seen) × (suffix ≡ [])). ap (calls_by x.caller) (t.0 ∙ ap (λ (y : Known O R Z). y.seen) (sym is)) ∙ o.2.ended_calls i x there)
                    (λ (t : k'.seen ≡ all'). ap (calls_by x.caller) t ∙ by_others x.caller id (apart_from s r id x.caller k at (r.ended_spent i x there).0) r.all suffix x.own own (r.ended_spent i x there).1)
                    saw;
              },
            ))
            (λ (n : 0 ≢ id). (o.0, else_ 0 n ∙ o.1, o.2));
        no_others = Each-append (λ (e : Entry O R). e.tag.caller < r.made) r.all suffix r.no_others
            (Each-map (λ (e : Entry O R). e.tag.caller ≡ id) (λ (e : Entry O R). e.tag.caller < r.made) (λ e is. let was = r.made_is in omega arith) suffix own);
        ended_apart = r.ended_apart;
        ended_spent = λ i x there. let was = r.ended_spent i x there in let n = apart_from s r id x.caller k at was.0 in (else_ x.caller n ∙ was.0, by_others x.caller id n r.all suffix x.own own was.1);
      }

  -- a place is that which is served, where the words agree: fewer than 2^64 places are held
  served : (s : St) (r : Rule s) (p : ℕ) → r.low ≤ p → p < r.high → r.low % 2 ^ 64 ≡ p % 2 ^ 64 → r.low ≡ p
  served s r p from below e =
      let few : total held s.views ≤ length s.views = total_few held held_one s.views in
      let a = r.places in let b = r.made_is in let c = r.few in
      one_turn r.low p (2 ^ 64) from (omega arith) e

  -- no other caller has the place of this one
  pub alone_at : (s : St) (r : Rule s) (id p : ℕ) (k : Known O R Z) → get_elem? s.views id ≡ some (Live k) → HasPlace k.stage p
      → (j : ℕ) (v : View O R Z) → j ≢ id → get_elem? s.views j ≡ some v → HasPlace (stage_of v) p → ⊥
  alone_at s r id p k at has j v n there h = n (r.apart j id p v (Live k) there at h has)

  pub fits_at : (s : St) (r : Rule s) (id : ℕ) (k : Known O R Z) → get_elem? s.views id ≡ some (Live k) → IsSeated CanMake z r.all r.low r.high id k
  fits_at s r id k at = r.each id (Live k) at

  higher : (low high : ℕ) (all all' : List (Entry O R)) (st : Stage O R) → all ≡ all' → InTurn low high all st → InTurn low (high + 1) all' st
  higher low high all all' Idle e t = tt
  higher low high all all' (Waits p) e t = let a = t.1 in (t.0, omega arith)
  higher low high all all' (Has p n) e t = let a = t.1 in (t.0, omega arith, t.2 ∙ e)
  higher low high all all' (Done p) e t = let a = t.1 in (t.0, omega arith)

  pub same_turn : (low high : ℕ) (all all' : List (Entry O R)) (st : Stage O R) → all ≡ all' → InTurn low high all st → InTurn low high all' st
  same_turn low high all all' Idle e t = tt
  same_turn low high all all' (Waits p) e t = t
  same_turn low high all all' (Has p n) e t = (t.0, t.1, t.2 ∙ e)
  same_turn low high all all' (Done p) e t = t

  -- the slot is as it was, where the caller has it neither before nor after
  pub same_slot : (s : St) (id : ℕ) (k k' : Known O R Z) (all all' : List (Entry O R)) (ws : List ℕ) → get_elem? s.views id ≡ some (Live k) → (IsOut k.stage → ⊥) → (IsOut k'.stage → ⊥) → all ≡ all'
      → AtHome entries setting z all s ⊎ WithSomeone s
      → AtHome entries setting z all' (changed s ws s.homes id (Live k')) ⊎ WithSomeone (changed s ws s.homes id (Live k'))
  same_slot s id k k' all all' ws at not not' e slot = ⊎_elim
      (λ (h : AtHome entries setting z all s). inl (
        h.0,
        h.1,
        h.2 ∙ e,
        h.3,
        λ j v there out. ⊎_elim
            (λ (t : (j ≡ id) × (Live k' ≡ v)). not' (subst (λ (x : View O R Z). IsOut (stage_of x)) (sym t.1) out))
            (λ (t : (j ≢ id) × (get_elem? s.views j ≡ some v)). h.4 j v t.1 out)
            (at_set s.views id j (Live k') v there),
      ))
      (λ (h : WithSomeone s). inr (
        h.0,
        h.1,
        h.2,
        set_else s.views id h.1 (Live k') (λ (i : h.1 ≡ id). let is : h.2 ≡ Live k = some-injective h.2 (Live k) (sym h.3 ∙ (ap (λ (x : ℕ). get_elem? s.views x) i ∙ at)) in not (subst (λ (x : View O R Z). IsOut (stage_of x)) is h.4)) ∙ h.3,
        h.4,
      ))
      slot

  not_above : (low high : ℕ) (all : List (Entry O R)) (st : Stage O R) → InTurn low high all st → HasPlace st high → ⊥
  not_above low high all Idle t h = h
  not_above low high all (Waits p) t h = let a = t.1 in omega arith
  not_above low high all (Has p n) t h = let a = t.1 in omega arith
  not_above low high all (Done p) t h = let a = t.1 in omega arith

  above : (s : St) (r : Rule s) (j : ℕ) (v : View O R Z) → get_elem? s.views j ≡ some v → HasPlace (stage_of v) r.high → ⊥
  above s r j Spent there h = h
  above s r j (Live k) there h = not_above r.low r.high r.all k.stage (r.each j (Live k) there).turn h

  pub draws : (slots id : ℕ) (me : Me (Option M) (View O R Z)) (k : Known O R Z) → me.0 ≡ Live k → k.stage ≡ Idle
      → Allows Rule slots id me 0 (λ n. (n + 1) % 2 ^ 64) (drawn (step slots 0 1 0 none) me)
  draws slots id me k is idle s r _ at _ =
      let at' : get_elem? s.views id ≡ some (Live k) = at ∙ ap some is in
      let k' : Known O R Z = record k { stage = Waits r.high } in
      let fits = fits_at s r id k at' in
      let nothing : r.all ≡ r.all ++ [] = sym (append-nil r.all) in
      let ws : List ℕ = set s.words 0 ((get_or s.words 0 0 + 1) % 2 ^ 64) in
      let words₀ : ws ≡ (r.high % 2 ^ 64 + 1) % 2 ^ 64 ∷ r.low % 2 ^ 64 ∷ length r.all ∷ [] = ap (λ (l : List ℕ). set l 0 ((get_or l 0 0 + 1) % 2 ^ 64)) r.words in
      let up : (r.high % 2 ^ 64 + 1) % 2 ^ 64 ≡ (r.high + 1) % 2 ^ 64 = omega arith in
      let count : places_of k.stage ≡ 0 = ap places_of idle in
      let low_high : r.low ≤ r.high = let p = r.places in omega arith in (
        Live k',
        keeps,
        tt,
        moved s r id k k' at' [] r.low (r.high + 1) ws s.homes (refl, refl, refl) tt
            (words₀ ∙ (λ i. up i ∷ r.low % 2 ^ 64 ∷ length (nothing i) ∷ []))
            record {
              caller = fits.caller;
              setting = fits.setting;
              begins = begins_more r.all k.seen [] fits.begins;
              can = fits.can;
              own_all = ap (calls_by id) (sym nothing) ∙ fits.own_all;
              own_seen = fits.own_seen;
              turn = (low_high, omega arith);
              noted_begin = fits.noted_begin;
              plain = fits.plain;
            }
            (λ j v n there t. higher r.low r.high r.all (r.all ++ []) (stage_of v) nothing t)
            (λ p has j v n there h. above s r j v there (subst (HasPlace (stage_of v)) (sym has) h))
            (λ p from below. dite (ℕ_discrete r.high p) (λ (e : r.high ≡ p). inl e) (λ (n : r.high ≢ p). inr (from, omega arith, λ h. subst (λ (st : Stage O R). HasPlace st p) idle h)))
            (omega arith)
            (same_slot s id k k' r.all (r.all ++ []) ws at' (λ o. subst IsOut idle o) (λ o. o) nothing r.slot)
            (inl (refl, refl)),
        (r.high, ap (λ (v : View O R Z). (staged (Waits r.high) v, me.1)) (sym is), sym (ap (λ (l : List ℕ). get_or l 0 0) r.words)),
      )

  unmoved : (s : St) (r : Rule s) (i id : ℕ) (cs : List (ℕ × Option M)) (v : View O R Z) → get_elem? s.views id ≡ some v → Rule (stepped s i (get_or s.words i 0) id cs v keeps)
  unmoved s r i id cs v at = subst (λ (x : List ℕ × List (View O R Z)). Rule record { words = x.0; homes = s.homes; views = x.1 }) (λ j. (sym (set-get_or s.words i 0) j, sym (set_again s.views id v at) j)) r

  out_place : (s : St) (r : Rule s) (j : ℕ) (v : View O R Z) → get_elem? s.views j ≡ some v → IsOut (stage_of v) → HasPlace (stage_of v) r.low
  out_place s r j Spent there o = absurd o
  out_place s r j (Live k) there o = out_has_place r.low r.high r.all k.stage o (r.each j (Live k) there).turn

  -- of the callers that have joined, as caller 0 knows them
  pub ended_known : (s : St) (r : Rule s) (id : ℕ) (k : Known O R Z) → get_elem? s.views id ≡ some (Live k) → (i : ℕ) (y : Joined O R) → get_elem? k.ended i ≡ some y
      → (y.caller ≢ id) × (calls_by y.caller r.all ≡ y.own) × (calls_by y.caller k.seen ≡ y.own)
  ended_known s r id k at i y there = dite (ℕ_discrete id 0)
      (λ (e : id ≡ 0). let o = r.root in let is : o.0 ≡ k = live_is o.0 k (some-injective (Live o.0) (Live k) (sym o.1 ∙ (ap (λ (j : ℕ). get_elem? s.views j) (sym e) ∙ at))) in
      let there' : get_elem? r.ended i ≡ some y = ap (λ (l : List (Joined O R)). get_elem? l i) (sym o.2.ended_is ∙ ap (λ (x : Known O R Z). x.ended) is) ∙ there in
      let known = r.ended_spent i y there' in
      (apart_from s r id y.caller k at known.0, known.1, ap (λ (x : Known O R Z). calls_by y.caller x.seen) (sym is) ∙ o.2.ended_calls i y there'))
      (λ (n : id ≢ 0). absurd (some-ne-none y (sym there ∙ ap (λ (l : List (Joined O R)). get_elem? l i) ((fits_at s r id k at).plain n))))

  pub finds : (slots id : ℕ) (me : Me (Option M) (View O R Z)) (k : Known O R Z) (p : ℕ) → me.0 ≡ Live k → k.stage ≡ Waits p
      → Allows Rule slots id me 1 (λ n. n) (found entries setting (step slots 1 0 0 none) me)
  finds slots id me k p is waits s r _ at _ =
      let at' : get_elem? s.views id ≡ some (Live k) = at ∙ ap some is in
      let fits = fits_at s r id k at' in
      let place : stage_place (stage_of me.0) ≡ p = ap (λ (v : View O R Z). stage_place (stage_of v)) is ∙ ap stage_place waits in
      let word : get_or s.words 1 0 ≡ r.low % 2 ^ 64 = ap (λ (l : List ℕ). get_or l 1 0) r.words in
      let turn : (r.low ≤ p) × (p < r.high) = subst (InTurn r.low r.high r.all) waits fits.turn in
      let has : HasPlace k.stage p = subst (λ (st : Stage O R). HasPlace st p) (sym waits) refl in
      let nothing : r.all ≡ r.all ++ [] = sym (append-nil r.all) in
      let count : places_of k.stage ≡ 1 = ap places_of waits in
      dite (ℕ_discrete (get_or s.words 1 0) (stage_place (stage_of me.0) % 2 ^ 64))
      (λ hit. let here : r.low ≡ p = served s r p turn.0 turn.1 (sym word ∙ (hit ∙ ap (λ (n : ℕ). n % 2 ^ 64) place)) in ⊎_elim
      (λ (h : AtHome entries setting z r.all s). let x : M = h.0 in let k' : Known O R Z = record k { stage = Has p (entries x) } in (
        Live k',
        takes 0 (Some x),
        ap (λ (l : List (maybe.Option (Option M))). get_elem? l 0) h.1,
        moved s r id k k' at' [] r.low r.high (set s.words 1 (get_or s.words 1 0)) (set s.homes 0 none) (refl, refl, refl) tt
            (set-get_or s.words 1 0 ∙ (r.words ∙ (λ i. r.high % 2 ^ 64 ∷ r.low % 2 ^ 64 ∷ length (nothing i) ∷ [])))
            record {
              caller = fits.caller;
              setting = fits.setting;
              begins = begins_more r.all k.seen [] fits.begins;
              can = fits.can;
              own_all = ap (calls_by id) (sym nothing) ∙ fits.own_all;
              own_seen = fits.own_seen;
              turn = (sym here, turn.1, h.2 ∙ nothing);
              noted_begin = fits.noted_begin;
              plain = fits.plain;
            }
            (λ j v n there t. same_turn r.low r.high r.all (r.all ++ []) (stage_of v) nothing t)
            (λ q same j v n there other. alone_at s r id p k at' has j v n there (subst (HasPlace (stage_of v)) (sym same) other))
            (λ q from below. dite (ℕ_discrete p q) (λ (e : p ≡ q). inl e) (λ (n : p ≢ q). inr (from, below, λ h. n (subst (λ (st : Stage O R). HasPlace st q) waits h))))
            (omega arith)
            (inr (ap (λ (l : List (maybe.Option (Option M))). set l 0 none) h.1, id, Live k', set_here s.views id (Live k') (at_below s.views id (Live k) at'), tt))
            (inl (refl, refl)),
        (
          (λ _. (
            x,
            (λ i. (staged (Has (sym place i) (entries x)) (sym is i), (0, Some x) ∷ me.1)),
            subst (λ (v : View O R Z). Knows entries setting v x) (sym is) (
              ap (λ (y : Z). y ∷ []) h.3 ∙ sym fits.setting,
              (fits.begins.0, h.2 ∙ fits.begins.1),
              ap (calls_by k.caller) h.2 ∙ (ap (λ (c : ℕ). calls_by c r.all) fits.caller ∙ fits.own_all),
              (λ i y there. let e = ended_known s r id k at' i y there in ((λ same. e.0 (same ∙ fits.caller)), ap (calls_by y.caller) h.2 ∙ e.1)),
            ),
          )),
          (λ miss. absurd (miss hit)),
        ),
      ))
      (λ (h : WithSomeone s). let there : HasPlace (stage_of h.2) p = subst (HasPlace (stage_of h.2)) here (out_place s r h.1 h.2 h.3 h.4) in
      let same : h.1 ≡ id = r.apart h.1 id p h.2 (Live k) h.3 at' there has in
      let is' : h.2 ≡ Live k = some-injective h.2 (Live k) (sym h.3 ∙ (ap (λ (i : ℕ). get_elem? s.views i) same ∙ at')) in
      absurd (subst IsOut (ap stage_of is' ∙ waits) h.4))
      r.slot)
      (λ miss. (me.0, keeps, tt, unmoved s r 1 id me.1 me.0 at, ((λ hit. absurd (miss hit)), (λ _. refl))))

  not_served : (low high : ℕ) (all all' : List (Entry O R)) (st : Stage O R) → (HasPlace st low → ⊥) → InTurn low high all st → InTurn low high all' st
  not_served low high all all' Idle f t = tt
  not_served low high all all' (Waits p) f t = t
  not_served low high all all' (Has p n) f t = absurd (f t.0)
  not_served low high all all' (Done p) f t = t

  later : (low high : ℕ) (all all' : List (Entry O R)) (st : Stage O R) → (HasPlace st low → ⊥) → InTurn low high all st → InTurn (low + 1) high all' st
  later low high all all' Idle f t = tt
  later low high all all' (Waits p) f t = (dite (ℕ_discrete p low) (λ (e : p ≡ low). absurd (f e)) (λ (n : p ≢ low). let a = t.0 in omega arith), t.1)
  later low high all all' (Has p n) f t = absurd (f t.0)
  later low high all all' (Done p) f t = absurd (f t.0)

  pub notes : (slots id : ℕ) (me : Me (Option M) (View O R Z)) (k : Known O R Z) (p n : ℕ) (es suffix : List (Entry O R)) (x : M)
      → me ≡ (Live k, (0, Some x) ∷ []) → k.stage ≡ Has p es → entries x ≡ es ++ suffix → mine k.caller suffix → setting x ∷ [] ≡ k.setting → n ≡ length (entries x) → CanMake (setting x) (entries x)
      → Allows Rule slots id me 2 (λ _. n) (noted entries (step slots 2 n 0 none) me)
  notes slots id me k p n es suffix x is stage grown own set_is long can s r _ at _ =
      let at' : get_elem? s.views id ≡ some (Live k) = at ∙ ap (λ (m : Me (Option M) (View O R Z)). some m.0) is in
      let fits = fits_at s r id k at' in
      let turn : (p ≡ r.low) × (p < r.high) × (es ≡ r.all) = subst (InTurn r.low r.high r.all) stage fits.turn in
      let has : HasPlace k.stage r.low = subst (λ (st : Stage O R). HasPlace st r.low) (sym stage) turn.0 in
      let out : IsOut k.stage = subst IsOut (sym stage) tt in
      let count : places_of k.stage ≡ 1 = ap places_of stage in
      let place : stage_place k.stage ≡ p = ap stage_place stage in
      let all' : List (Entry O R) = r.all ++ suffix in
      let xs_is : entries x ≡ all' = grown ∙ ap (λ (l : List (Entry O R)). l ++ suffix) turn.2 in
      let added : drop (length (noted_of k.stage)) (entries x) ≡ suffix = (λ i. drop (length (noted_of (stage i))) (grown i)) ∙ drop-append_seam es suffix in
      let k' : Known O R Z = record k { stage = Done (stage_place k.stage); seen = entries x; own = k.own ++ drop (length (noted_of k.stage)) (entries x) } in
      let is_z : setting x ≡ z = one_is (setting x) z (set_is ∙ fits.setting) in
      let own' : mine id suffix = subst (λ (c : ℕ). mine c suffix) fits.caller own in
      let own_all : calls_by id all' ≡ k'.own = by_append id r.all suffix ∙ (λ i. fits.own_all i ++ (by_all id suffix own' ∙ sym added) i) in
      let further : BeginsWith (entries x) k.seen = (fits.begins.0 ++ suffix, xs_is ∙ (ap (λ (l : List (Entry O R)). l ++ suffix) fits.begins.1 ∙ append_assoc k.seen fits.begins.0 suffix)) in
      let hs : List (maybe.Option (Option M)) = put_back s.homes me.1 in
      let back : s.homes ≡ none ∷ [] → hs ≡ some (Some x) ∷ [] = λ e. ap (λ (m : Me (Option M) (View O R Z)). put_back s.homes m.1) is ∙ ap (λ (l : List (maybe.Option (Option M))). set l 0 (some (Some x))) e in
      let none_out : (j : ℕ) (v : View O R Z) → get_elem? (set s.views id (Live k')) j ≡ some v → IsOut (stage_of v) → ⊥ = λ j v there o. ⊎_elim
      (λ (t : (j ≡ id) × (Live k' ≡ v)). subst (λ (y : View O R Z). IsOut (stage_of y)) (sym t.1) o)
      (λ (t : (j ≢ id) × (get_elem? s.views j ≡ some v)). alone_at s r id r.low k at' has j v t.0 t.1 (out_place s r j v t.1 o))
      (at_set s.views id j (Live k') v there) in (
        Live k',
        gives,
        tt,
        moved s r id k k' at' suffix r.low r.high (set s.words 2 n) hs (refl, refl, refl) own'
            (ap (λ (l : List ℕ). set l 2 n) r.words ∙ (λ i. r.high % 2 ^ 64 ∷ r.low % 2 ^ 64 ∷ (long ∙ ap length xs_is) i ∷ []))
            record {
              caller = fits.caller;
              setting = fits.setting;
              begins = ([], sym xs_is ∙ sym (append-nil (entries x)));
              can = subst (λ (y : Z). CanMake y (entries x)) is_z can;
              own_all = own_all;
              own_seen = ap (calls_by id) xs_is ∙ own_all;
              turn = (place ∙ turn.0, let a = turn.1 in omega arith);
              noted_begin = Each-map (BeginsWith k.seen) (BeginsWith (entries x)) (λ l b. begins_trans (entries x) k.seen l further b) k.notes fits.noted_begin;
              plain = fits.plain;
            }
            (λ j v d there t. not_served r.low r.high r.all all' (stage_of v) (alone_at s r id r.low k at' has j v d there) t)
            (λ q same j v d there other. alone_at s r id r.low k at' has j v d there (subst (HasPlace (stage_of v)) (sym same ∙ (place ∙ turn.0)) other))
            (λ q from below. dite (ℕ_discrete p q) (λ (e : p ≡ q). inl (place ∙ e)) (λ (n : p ≢ q). inr (from, below, λ h. n (subst (λ (st : Stage O R). HasPlace st q) stage h))))
            (omega arith)
            (⊎_elim
            (λ (h : AtHome entries setting z r.all s). absurd (h.4 id (Live k) at' out))
            (λ (h : WithSomeone s). inl (x, back h.0, xs_is, is_z, none_out))
            r.slot)
            (inr xs_is),
        ap (λ (m : Me (Option M) (View O R Z)). (told (entries_in entries m.1) m.0, rest me.1)) (sym is),
      )

  pub turns_over : (slots id : ℕ) (me : Me (Option M) (View O R Z)) (k : Known O R Z) (p : ℕ) → me.0 ≡ Live k → k.stage ≡ Done p
      → Allows Rule slots id me 1 (λ n. (n + 1) % 2 ^ 64) (given (step slots 1 1 0 none) me)
  turns_over slots id me k p is stage s r _ at _ =
      let at' : get_elem? s.views id ≡ some (Live k) = at ∙ ap some is in
      let fits = fits_at s r id k at' in
      let turn : (p ≡ r.low) × (p < r.high) = subst (InTurn r.low r.high r.all) stage fits.turn in
      let has : HasPlace k.stage r.low = subst (λ (st : Stage O R). HasPlace st r.low) (sym stage) turn.0 in
      let count : places_of k.stage ≡ 1 = ap places_of stage in
      let k' : Known O R Z = record k { stage = Idle } in
      let nothing : r.all ≡ r.all ++ [] = sym (append-nil r.all) in
      let ws : List ℕ = set s.words 1 ((get_or s.words 1 0 + 1) % 2 ^ 64) in
      let up : (r.low % 2 ^ 64 + 1) % 2 ^ 64 ≡ (r.low + 1) % 2 ^ 64 = omega arith in (
        Live k',
        keeps,
        tt,
        moved s r id k k' at' [] (r.low + 1) r.high ws s.homes (refl, refl, refl) tt
            (ap (λ (l : List ℕ). set l 1 ((get_or l 1 0 + 1) % 2 ^ 64)) r.words ∙ (λ i. r.high % 2 ^ 64 ∷ up i ∷ length (nothing i) ∷ []))
            record {
              caller = fits.caller;
              setting = fits.setting;
              begins = begins_more r.all k.seen [] fits.begins;
              can = fits.can;
              own_all = ap (calls_by id) (sym nothing) ∙ fits.own_all;
              own_seen = fits.own_seen;
              turn = tt;
              noted_begin = fits.noted_begin;
              plain = fits.plain;
            }
            (λ j v d there t. later r.low r.high r.all (r.all ++ []) (stage_of v) (alone_at s r id r.low k at' has j v d there) t)
            (λ q same j v d there other. same)
            (λ q from below. inr (omega arith, below, λ h. let e : p ≡ q = subst (λ (st : Stage O R). HasPlace st q) stage h in let t = turn.0 in omega arith))
            (omega arith)
            (same_slot s id k k' r.all (r.all ++ []) ws at' (λ o. subst IsOut stage o) (λ o. o) nothing r.slot)
            (inl (refl, refl)),
        ap (λ (v : View O R Z). (staged Idle v, me.1)) (sym is),
      )

  abbrev first_known : Known O R Z
  first_known = record { caller = 0; setting = z ∷ []; stage = Idle; seen = []; own = []; notes = []; made = 1; out = 0; ended = [] }

  first_only : (P : ℕ → View O R Z → Type 0) → P 0 (Live first_known) → (j : ℕ) (v : View O R Z) → get_elem? (first_view z ∷ []) j ≡ some v → P j v
  first_only P here zero v e = subst (P 0) (some-injective (Live first_known) v e) here
  first_only P here (suc j) v e = absurd (some-ne-none v (sym e))

  pub opens : (m : M) → CanMake (setting m) (entries m) → entries m ≡ [] → setting m ≡ z → Rule (opening (0 ∷ 0 ∷ 0 ∷ []) (Some m ∷ []) (first_view z))
  opens m can none_yet is = record {
    all = [];
    low = 0;
    high = 0;
    made = 1;
    out = 0;
    ended = [];
    words = refl;
    each = first_only (Sound CanMake z [] 0 0 []) record { caller = refl; setting = refl; begins = ([], refl); can = subst (λ (y : Z). CanMake y []) is (subst (CanMake (setting m)) none_yet can); own_all = refl; own_seen = refl; turn = tt; noted_begin = tt; plain = λ _. refl };
    apart = λ i j p v w e d a b. absurd (first_only (λ j (x : View O R Z). HasPlace (stage_of x) p → ⊥) (λ h. h) i v e a);
    places = refl;
    taken = λ p from below. absurd (omega arith);
    slot = inl (m, refl, none_yet, is, first_only (λ j (x : View O R Z). IsOut (stage_of x) → ⊥) (λ h. h));
    longest = (0, first_known, refl, refl);
    made_is = refl;
    few = omega arith;
    out_is = refl;
    tally = refl;
    root = (first_known, refl, record { made_is = refl; out_is = refl; ended_is = refl; ended_calls = λ i x e. absurd (some-ne-none x (sym e)) });
    no_others = tt;
    ended_apart = λ i j x y e d same. absurd (some-ne-none x (sym e));
    ended_spent = λ i x e. absurd (some-ne-none x (sym e));
  }

module _ {O R Z : Type 0} where
  -- the seat after it drew the place p
  abbrev pub queued : Known O R Z → ℕ → View O R Z
  queued k p = Live record k { stage = Waits p }

module _ {M O R Z : Type 0} where
  queued_at : (m m1 m2 : Me (Option M) (View O R Z)) (k : Known O R Z) (p : ℕ) → m ≡ (Live k, []) → m1 ≡ (staged (Waits p) m.0, m.1) → m2 ≡ m1 → m2 ≡ (queued k p, [])
  queued_at m m1 m2 k p is drew same = same ∙ (drew ∙ ap (λ (x : Me (Option M) (View O R Z)). (staged (Waits p) x.0, x.1)) is)

  -- it waits there until the turn
  pub waiting : (m m1 m2 : Me (Option M) (View O R Z)) (k : Known O R Z) (p : ℕ) → m ≡ (Live k, []) → m1 ≡ (staged (Waits p) m.0, m.1) → m2 ≡ m1 → m2.0 ≡ queued k p
  waiting m m1 m2 k p is drew same = ap (λ (x : Me (Option M) (View O R Z)). x.0) (queued_at m m1 m2 k p is drew same)

module _ {M O R Z : Type 0} (entries : M → List (Entry O R)) (setting : M → Z) where
  -- the load found the caller's place, so it has the machine
  pub took : (m m1 m2 m3 : Me (Option M) (View O R Z)) (k : Known O R Z) (r p : ℕ) → m ≡ (Live k, []) → m1 ≡ (staged (Waits p) m.0, m.1) → m2 ≡ m1
      → (r ≡ stage_place (stage_of m2.0) % 2 ^ 64 → (x : M) × (m3 ≡ (staged (Has (stage_place (stage_of m2.0)) (entries x)) m2.0, (0, Some x) ∷ m2.1)) × Knows entries setting m2.0 x)
      → r ≡ p % 2 ^ 64
      → (x : M) × (m3 ≡ (staged (Has p (entries x)) m.0, (0, Some x) ∷ [])) × Knows entries setting m.0 x
  took m m1 m2 m3 k r p is drew same saw e =
      let now : m2 ≡ (queued k p, []) = queued_at m m1 m2 k p is drew same in
      let place : stage_place (stage_of m2.0) ≡ p = ap (λ (y : Me (Option M) (View O R Z)). stage_place (stage_of y.0)) now in
      let t = saw (e ∙ ap (λ (n : ℕ). n % 2 ^ 64) (sym place)) in (
        t.0,
        t.1 ∙ ((λ i. (staged (Has (place i) (entries t.0)) ((now i).0), (0, Some t.0) ∷ (now i).1)) ∙ ap (λ (y : Me (Option M) (View O R Z)). (staged (Has p (entries t.0)) y.0, (0, Some t.0) ∷ [])) (sym is)),
        subst (λ (y : Me (Option M) (View O R Z)). Knows entries setting y.0 t.0) (sym is) (subst (λ (y : Me (Option M) (View O R Z)). Knows entries setting y.0 t.0) now t.2),
      )

module _ {M O R Z : Type 0} where
  -- the machine is in the slot that the seat holds
  pub holding : (m m' : Me (Option M) (View O R Z)) (k : Known O R Z) (x : M) → m ≡ (Live k, (0, None) ∷ []) → m' ≡ (m.0, (0, Some x) ∷ rest m.1) → m' ≡ (Live k, (0, Some x) ∷ [])
  holding m m' k x is put = put ∙ ap (λ (y : Me (Option M) (View O R Z)). (y.0, (0, Some x) ∷ rest y.1)) is

module _ {M O R Z : Type 0} (entries : M → List (Entry O R)) where
  -- the slot is given back, and the seat has seen the machine's history
  pub noted_at : (m m' : Me (Option M) (View O R Z)) (k : Known O R Z) (x : M) → m ≡ (Live k, (0, Some x) ∷ []) → m' ≡ (told (entries_in entries m.1) m.0, rest m.1) → m'.0 ≡ told (entries x) (Live k)
  noted_at m m' k x is note = ap (λ (y : Me (Option M) (View O R Z)). y.0) note ∙ ap (λ (y : Me (Option M) (View O R Z)). told (entries_in entries y.1) y.0) is
