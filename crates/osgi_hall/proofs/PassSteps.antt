-- Splits, joins and the close keep the rule of the hall's table.
use Rattle.std.proofs.Common.{◌≡◌, ℕ, ◌+◌, ◌-◌, ◌%◌, ◌^◌, ◌<◌, ◌≤◌, ◌≢◌, ◌⊎◌, List, [], ◌∷◌, ◌++◌, length, map, get_or, set, sym, refl, ap, ◌∙◌, subst, inl, inr, ⊎_elim, arith, length-set, Option, Some}
use Rattle.std.proofs.lemmas.List.{append-nil, length-append}
use mathlib.Core.Logic.{dite}
use mathlib.Core.Option.{some, none, some-injective}
use mathlib.Core.Option as maybe
use native.Mathlib.Decide.{ℕ_discrete}
use lib.ListN.{get_elem?}
use Rattle.std.specs.List.{Contains}
use lib.Seq.{set-get_or}
use Rattle.atomic_table.specs.Table.{State, Me, keeps, step, Allows, Splits, Joins, Seen, Final}
use Rattle.atomic_table.proofs.Lists.{at_set, set_here, set_else, at_longer, at_last}
use Rattle.osgi_hall.specs.declared.entry.Entry.{Entry}
use Rattle.osgi_hall.specs.declared.board.Known.{Known}
use Rattle.osgi_hall.specs.declared.entry.Joined.{Joined}
use Rattle.osgi_hall.specs.declared.board.Stage.{Stage}
use Rattle.osgi_hall.specs.declared.board.Stage.TheVariants.{Idle}
use Rattle.osgi_hall.specs.declared.board.View.{View}
use Rattle.osgi_hall.specs.declared.board.View.TheVariants.{Live, Spent}
use Rattle.osgi_hall.specs.Histories.{BeginsWith, calls_by, longer}
use Rattle.osgi_hall.specs.Passes.{PassView, IsByKnownCallers}
use Rattle.osgi_hall.specs.computed.Lists.{total, Each}
use Rattle.osgi_hall.specs.computed.Stages.{HasPlace, places_of, IsOut, stage_of, held, live}
use Rattle.osgi_hall.specs.computed.Kept.{Sound, AtHome, WithSomeone, Kept}
use Rattle.osgi_hall.specs.computed.Steps.{Understands, unnoted, splitting, newcomer, ended_of, joining, looked}
use Rattle.atomic_table.specs.Seated.{TableId}
use Rattle.osgi_hall.specs.computed.Shown.{pass_view}
use Rattle.osgi_hall.proofs.Tallies.{all_at, all_each, contains_at, total_set, total_two, total_snoc, at_below, at_some, snoc_at, Each-begin, Each-map, begins_more, begins_shorter, by_fresh, by_between, begins_both, longer_is}
use Rattle.osgi_hall.proofs.CallSteps.{live_is, moved, fits_at, alone_at, same_slot, same_turn, ended_known, apart_from}

module _ {M O R Z : Type 0} (entries : M → List (Entry O R)) (setting : M → Z) (CanMake : Z → List (Entry O R) → Type 0) (z : Z) where
  abbrev St : Type 0
  St = State (Option M) (View O R Z)

  abbrev Rule : St → Type 0
  Rule = Kept entries setting CanMake z

  root_tally : (s : St) (r : Rule s) (id : ℕ) (k : Known O R Z) → get_elem? s.views id ≡ some (Live k) → k.caller ≡ 0 → k.made ≡ k.out + 1 + length k.ended
  root_tally s r id k at zero_is =
      let first : id ≡ 0 = sym (fits_at entries setting CanMake z s r id k at).caller ∙ zero_is in
      let o = r.root in
      let is : o.0 ≡ k = live_is o.0 k (some-injective (Live o.0) (Live k) (sym o.1 ∙ (ap (λ (j : ℕ). get_elem? s.views j) (sym first) ∙ at))) in
      subst (λ (x : Known O R Z). x.made ≡ x.out + 1 + length x.ended) is
      (o.2.made_is ∙ (r.tally ∙ (λ i. sym o.2.out_is i + 1 + length (sym o.2.ended_is i))))

  pub looks : (slots id : ℕ) (me : Me (Option M) (View O R Z)) (k : Known O R Z) → me.0 ≡ Live k → k.stage ≡ Idle
      → Allows Rule slots id me 0 (λ n. n) (looked CanMake (step slots 0 0 0 none) me)
  looks slots id me k is idle s r _ at _ =
      let at' : get_elem? s.views id ≡ some (Live k) = at ∙ ap some is in
      let fits = fits_at entries setting CanMake z s r id k at' in
      let nothing : r.all ≡ r.all ++ [] = sym (append-nil r.all) in
      let k' : Known O R Z = record k { notes = [] } in
      let ws : List ℕ = set s.words 0 (get_or s.words 0 0) in (
        Live k',
        keeps,
        tt,
        moved entries setting CanMake z s r id k k' at' [] r.low r.high ws s.homes (refl, refl, refl) tt
            (set-get_or s.words 0 0 ∙ (r.words ∙ (λ i. r.high % 2 ^ 64 ∷ r.low % 2 ^ 64 ∷ length (nothing i) ∷ [])))
            record {
              caller = fits.caller;
              setting = fits.setting;
              begins = begins_more r.all k.seen [] fits.begins;
              can = fits.can;
              own_all = ap (calls_by id) (sym nothing) ∙ fits.own_all;
              own_seen = fits.own_seen;
              turn = same_turn entries setting CanMake z r.low r.high r.all (r.all ++ []) k.stage nothing fits.turn;
              noted_begin = tt;
              plain = fits.plain;
            }
            (λ j v n there t. same_turn entries setting CanMake z r.low r.high r.all (r.all ++ []) (stage_of v) nothing t)
            (λ p has j v n there h. alone_at entries setting CanMake z s r id p k at' has j v n there h)
            (λ q from below. inr (from, below, λ h. subst (λ (st : Stage O R). HasPlace st q) idle h))
            (omega arith)
            (same_slot entries setting CanMake z s id k k' r.all (r.all ++ []) ws at' (λ o. subst IsOut idle o) (λ o. subst IsOut idle o) nothing r.slot)
            (inl (refl, refl)),
        (
          (λ i. (unnoted (sym is i), me.1)),
          subst (Understands CanMake) (sym is) (
            record {
              can = all_each (λ (y : Z). CanMake y k.seen) k.setting (subst (λ (l : List Z). Each (λ (y : Z). CanMake y k.seen) l) (sym fits.setting) (fits.can, tt));
              own_calls = ap (λ (c : ℕ). calls_by c k.seen) fits.caller ∙ fits.own_seen;
              ended_calls = all_at (λ (y : Joined O R). calls_by y.caller k.seen ≡ y.own) k.ended (λ i y there. (ended_known entries setting CanMake z s r id k at' i y there).2);
            },
            fits.noted_begin,
            (λ first. root_tally s r id k at' first),
          ),
        ),
      )

  pub splits : (id : ℕ) (k : Known O R Z) → k.caller ≡ 0 → k.made + 1 < 2 ^ 32 → Splits Rule id (Live k) (splitting (Live k)) (newcomer (Live k))
  splits id k zero_is few s r at =
      let fits = fits_at entries setting CanMake z s r id k at in
      let first : id ≡ 0 = sym fits.caller ∙ zero_is in
      let o = r.root in
      let is : o.0 ≡ k = live_is o.0 k (some-injective (Live o.0) (Live k) (sym o.1 ∙ (ap (λ (j : ℕ). get_elem? s.views j) (sym first) ∙ at))) in
      let k' : Known O R Z = record k { made = k.made + 1; out = k.out + 1 } in
      let n' : View O R Z = newcomer (Live k) in
      let front : List (View O R Z) = set s.views id (Live k') in
      let made_is : k.made ≡ r.made = ap (λ (x : Known O R Z). x.made) (sym is) ∙ o.2.made_is in
      let out_was : k.out ≡ r.out = ap (λ (x : Known O R Z). x.out) (sym is) ∙ o.2.out_is in
      let ended_was : k.ended ≡ r.ended = ap (λ (x : Known O R Z). x.ended) (sym is) ∙ o.2.ended_is in
      let len : length front ≡ r.made = length-set s.views id (Live k') ∙ r.made_is in
      let here : get_elem? front id ≡ some (Live k') = set_here s.views id (Live k') (at_below s.views id (Live k) at) in
      let stay : (j : ℕ) (v : View O R Z) → j ≢ id → get_elem? s.views j ≡ some v → get_elem? (front ++ n' ∷ []) j ≡ some v = λ j v n there. at_longer front (n' ∷ []) j v (set_else s.views id j (Live k') n ∙ there) in
      let was : (j : ℕ) (v : View O R Z) → get_elem? (front ++ n' ∷ []) j ≡ some v → ((y : View O R Z) × (get_elem? s.views j ≡ some y) × (stage_of y ≡ stage_of v)) ⊎ (stage_of v ≡ Idle) = λ j v there. ⊎_elim
      (λ (t : get_elem? front j ≡ some v). ⊎_elim
      (λ (u : (j ≡ id) × (Live k' ≡ v)). inl (Live k, ap (λ (i : ℕ). get_elem? s.views i) u.0 ∙ at, ap stage_of u.1))
      (λ (u : (j ≢ id) × (get_elem? s.views j ≡ some v)). inl (v, u.1, refl))
      (at_set s.views id j (Live k') v t))
      (λ (t : (j ≡ length front) × (n' ≡ v)). inr (ap stage_of (sym t.1)))
      (snoc_at front n' v j there) in
      let fresh : calls_by k.made r.all ≡ [] = by_fresh k.made r.made (omega arith) r.all r.no_others in
      let fresh_seen : calls_by k.made k.seen ≡ [] = by_fresh k.made r.made (omega arith) k.seen (Each-begin (λ (e : Entry O R). e.tag.caller < r.made) k.seen fits.begins.0 (subst (Each (λ (e : Entry O R). e.tag.caller < r.made)) fits.begins.1 r.no_others)) in
      record {
        all = r.all;
        low = r.low;
        high = r.high;
        made = r.made + 1;
        out = r.out + 1;
        ended = r.ended;
        words = r.words;
        each = λ j v there. ⊎_elim
            (λ (t : get_elem? front j ≡ some v). ⊎_elim
            (λ (u : (j ≡ id) × (Live k' ≡ v)). subst (λ (x : ℕ × View O R Z). Sound CanMake z r.all r.low r.high r.ended x.0 x.1) (λ i. (sym u.0 i, u.1 i)) record {
              caller = fits.caller;
              setting = fits.setting;
              begins = fits.begins;
              can = fits.can;
              own_all = fits.own_all;
              own_seen = fits.own_seen;
              turn = fits.turn;
              noted_begin = fits.noted_begin;
              plain = fits.plain;
            })
            (λ (u : (j ≢ id) × (get_elem? s.views j ≡ some v)). r.each j v u.1)
            (at_set s.views id j (Live k') v t))
            (λ (t : (j ≡ length front) × (n' ≡ v)). let new : k.made ≡ j = made_is ∙ (sym len ∙ sym t.0) in subst (Sound CanMake z r.all r.low r.high r.ended j) t.1 record {
              caller = new;
              setting = fits.setting;
              begins = fits.begins;
              can = fits.can;
              own_all = ap (λ (c : ℕ). calls_by c r.all) (sym new) ∙ fresh;
              own_seen = ap (λ (c : ℕ). calls_by c k.seen) (sym new) ∙ fresh_seen;
              turn = tt;
              noted_begin = tt;
              plain = λ _. refl;
            })
            (snoc_at front n' v j there);
        apart = λ i j p v w e d a b. ⊎_elim
            (λ (t : (y : View O R Z) × (get_elem? s.views i ≡ some y) × (stage_of y ≡ stage_of v)). ⊎_elim
            (λ (u : (y : View O R Z) × (get_elem? s.views j ≡ some y) × (stage_of y ≡ stage_of w)). r.apart i j p t.0 u.0 t.1 u.1 (subst (λ (st : Stage O R). HasPlace st p) (sym t.2) a) (subst (λ (st : Stage O R). HasPlace st p) (sym u.2) b))
            (λ (u : stage_of w ≡ Idle). absurd (subst (λ (st : Stage O R). HasPlace st p) u b))
            (was j w d))
            (λ (t : stage_of v ≡ Idle). absurd (subst (λ (st : Stage O R). HasPlace st p) t a))
            (was i v e);
        places = let a : total held front + places_of k.stage ≡ total held s.views + places_of k.stage = total_set held s.views id (Live k) (Live k') at in let b : total held (front ++ n' ∷ []) ≡ total held front + 0 = total_snoc held front n' in let c = r.places in omega arith;
        taken = λ p from below. let h = r.taken p from below in dite (ℕ_discrete h.0 id)
            (λ (e : h.0 ≡ id). let v_is : h.1 ≡ Live k = some-injective h.1 (Live k) (sym h.2 ∙ (ap (λ (i : ℕ). get_elem? s.views i) e ∙ at)) in (id, Live k', at_longer front (n' ∷ []) id (Live k') here, subst (λ (x : View O R Z). HasPlace (stage_of x) p) v_is h.3))
            (λ (n : h.0 ≢ id). (h.0, h.1, stay h.0 h.1 n h.2, h.3));
        slot = ⊎_elim
            (λ (h : AtHome entries setting z r.all s). inl (
              h.0,
              h.1,
              h.2,
              h.3,
              λ j v there out. ⊎_elim
                  (λ (t : (y : View O R Z) × (get_elem? s.views j ≡ some y) × (stage_of y ≡ stage_of v)). h.4 j t.0 t.1 (subst IsOut (sym t.2) out))
                  (λ (t : stage_of v ≡ Idle). subst IsOut t out)
                  (was j v there),
            ))
            (λ (h : WithSomeone s). inr (dite (ℕ_discrete h.1 id)
            (λ (e : h.1 ≡ id). let v_is : h.2 ≡ Live k = some-injective h.2 (Live k) (sym h.3 ∙ (ap (λ (i : ℕ). get_elem? s.views i) e ∙ at)) in (h.0, id, Live k', at_longer front (n' ∷ []) id (Live k') here, subst (λ (x : View O R Z). IsOut (stage_of x)) v_is h.4))
            (λ (n : h.1 ≢ id). (h.0, h.1, h.2, stay h.1 h.2 n h.3, h.4))))
            r.slot;
        longest = let l = r.longest in dite (ℕ_discrete l.0 id)
            (λ (e : l.0 ≡ id). let l_is : l.1 ≡ k = live_is l.1 k (some-injective (Live l.1) (Live k) (sym l.2 ∙ (ap (λ (i : ℕ). get_elem? s.views i) e ∙ at))) in (id, k', at_longer front (n' ∷ []) id (Live k') here, ap (λ (x : Known O R Z). x.seen) (sym l_is) ∙ l.3))
            (λ (n : l.0 ≢ id). (l.0, l.1, stay l.0 (Live l.1) n l.2, l.3));
        made_is = let a = length-append front (n' ∷ []) in omega arith;
        few = omega arith;
        out_is = let a : total live front + 1 ≡ total live s.views + 1 = total_set live s.views id (Live k) (Live k') at in let b : total live (front ++ n' ∷ []) ≡ total live front + 1 = total_snoc live front n' in let c = r.out_is in omega arith;
        tally = let a = r.tally in omega arith;
        root = (
          k',
          at_longer front (n' ∷ []) 0 (Live k') (ap (get_elem? front) (sym first) ∙ here),
          record {
            made_is = ap (λ (n : ℕ). n + 1) made_is;
            out_is = ap (λ (n : ℕ). n + 1) out_was;
            ended_is = ended_was;
            ended_calls = λ i x there. ap (λ (y : Known O R Z). calls_by x.caller y.seen) (sym is) ∙ o.2.ended_calls i x there;
          },
        );
        no_others = Each-map (λ (e : Entry O R). e.tag.caller < r.made) (λ (e : Entry O R). e.tag.caller < r.made + 1) (λ e h. omega arith) r.all r.no_others;
        ended_apart = r.ended_apart;
        ended_spent = λ i x there. let e = r.ended_spent i x there in (stay x.caller Spent (apart_from entries setting CanMake z s r id x.caller k at e.0) e.0, e.1);
      }

  pub joins : (id : ℕ) (k : Known O R Z) (other : ℕ) (e : Known O R Z) → k.caller ≡ 0 → e.stage ≡ Idle → Joins Rule id (Live k) other (Live e) (joining (Live k) (Live e)) Spent
  joins id k other e zero_is idle s r at apart there =
      let fits = fits_at entries setting CanMake z s r id k at in
      let first : id ≡ 0 = sym fits.caller ∙ zero_is in
      let L : List (Entry O R) = longer k.seen e.seen in
      let x : Joined O R = ended_of e in
      let k' : Known O R Z = record k { seen = L; notes = k.seen ∷ e.seen ∷ []; out = k.out - 1; ended = k.ended ++ x ∷ [] } in
      let front : List (View O R Z) = set s.views id (Live k') in
      let at_other : get_elem? s.views other ≡ some (Live e) = sym (set_else s.views id other (Live k') apart) ∙ there in
      let fits_e = fits_at entries setting CanMake z s r other e at_other in
      let o = r.root in
      let is : o.0 ≡ k = live_is o.0 k (some-injective (Live o.0) (Live k) (sym o.1 ∙ (ap (λ (j : ℕ). get_elem? s.views j) (sym first) ∙ at))) in
      let made_is : k.made ≡ r.made = ap (λ (y : Known O R Z). y.made) (sym is) ∙ o.2.made_is in
      let out_was : k.out ≡ r.out = ap (λ (y : Known O R Z). y.out) (sym is) ∙ o.2.out_is in
      let ended_was : k.ended ≡ r.ended = ap (λ (y : Known O R Z). y.ended) (sym is) ∙ o.2.ended_is in
      let ended' : List (Joined O R) = r.ended ++ x ∷ [] in
      let two : 2 ≤ total live s.views = total_two live s.views id other (Live k) (Live e) (λ (h : id ≡ other). apart (sym h)) at at_other in
      let inside : id < length s.views = at_below s.views id (Live k) at in
      let inside_other : other < length front = at_below front other (Live e) there in
      let here : get_elem? (set front other Spent) id ≡ some (Live k') = set_else front other id Spent (λ (h : id ≡ other). apart (sym h)) ∙ set_here s.views id (Live k') inside in
      let gone : get_elem? (set front other Spent) other ≡ some Spent = set_here front other Spent inside_other in
      let stay : (j : ℕ) (v : View O R Z) → j ≢ id → j ≢ other → get_elem? s.views j ≡ some v → get_elem? (set front other Spent) j ≡ some v =
      λ j v n m h. set_else front other j Spent m ∙ (set_else s.views id j (Live k') n ∙ h) in
      let was : (j : ℕ) (v : View O R Z) → get_elem? (set front other Spent) j ≡ some v → ((j ≡ other) × (Spent ≡ v)) ⊎ (((j ≡ id) × (Live k' ≡ v)) ⊎ ((j ≢ id) × (j ≢ other) × (get_elem? s.views j ≡ some v))) = λ j v h. ⊎_elim
      (λ (t : (j ≡ other) × (Spent ≡ v)). inl t)
      (λ (t : (j ≢ other) × (get_elem? front j ≡ some v)). inr (⊎_elim
      (λ (u : (j ≡ id) × (Live k' ≡ v)). inl u)
      (λ (u : (j ≢ id) × (get_elem? s.views j ≡ some v)). inr (u.0, t.0, u.1))
      (at_set s.views id j (Live k') v t.1)))
      (at_set front other j Spent v h) in
      let old : (j p : ℕ) (v : View O R Z) → get_elem? (set front other Spent) j ≡ some v → HasPlace (stage_of v) p → (y : View O R Z) × (get_elem? s.views j ≡ some y) × HasPlace (stage_of y) p = λ j p v h has. ⊎_elim
      (λ (t : (j ≡ other) × (Spent ≡ v)). absurd (subst (λ (y : View O R Z). HasPlace (stage_of y) p) (sym t.1) has))
      (λ t. ⊎_elim
      (λ (u : (j ≡ id) × (Live k' ≡ v)). (Live k, ap (λ (i : ℕ). get_elem? s.views i) u.0 ∙ at, subst (λ (y : View O R Z). HasPlace (stage_of y) p) (sym u.1) has))
      (λ (u : (j ≢ id) × (j ≢ other) × (get_elem? s.views j ≡ some v)). (v, u.2, has))
      t)
      (was j v h) in
      let which = longer_is k.seen e.seen in
      let L_begins : BeginsWith r.all L = ⊎_elim
      (λ (t : (length k.seen ≤ length e.seen) × (L ≡ e.seen)). subst (BeginsWith r.all) (sym t.1) fits_e.begins)
      (λ (t : (length e.seen ≤ length k.seen) × (L ≡ k.seen)). subst (BeginsWith r.all) (sym t.1) fits.begins) which in
      let L_can : CanMake z L = ⊎_elim
      (λ (t : (length k.seen ≤ length e.seen) × (L ≡ e.seen)). subst (CanMake z) (sym t.1) fits_e.can)
      (λ (t : (length e.seen ≤ length k.seen) × (L ≡ k.seen)). subst (CanMake z) (sym t.1) fits.can) which in
      let L_k : BeginsWith L k.seen = ⊎_elim
      (λ (t : (length k.seen ≤ length e.seen) × (L ≡ e.seen)). subst (λ (l : List (Entry O R)). BeginsWith l k.seen) (sym t.1) (begins_shorter r.all e.seen k.seen fits_e.begins fits.begins t.0))
      (λ (t : (length e.seen ≤ length k.seen) × (L ≡ k.seen)). ([], t.1 ∙ sym (append-nil k.seen))) which in
      let L_e : BeginsWith L e.seen = ⊎_elim
      (λ (t : (length k.seen ≤ length e.seen) × (L ≡ e.seen)). ([], t.1 ∙ sym (append-nil e.seen)))
      (λ (t : (length e.seen ≤ length k.seen) × (L ≡ k.seen)). subst (λ (l : List (Entry O R)). BeginsWith l e.seen) (sym t.1) (begins_shorter r.all k.seen e.seen fits.begins fits_e.begins t.0)) which in
      record {
        all = r.all;
        low = r.low;
        high = r.high;
        made = r.made;
        out = r.out - 1;
        ended = ended';
        words = r.words;
        each = λ j v h. ⊎_elim
            (λ (t : (j ≡ other) × (Spent ≡ v)). subst (Sound CanMake z r.all r.low r.high ended' j) t.1 (length r.ended, x, at_last r.ended x (length r.ended) refl, fits_e.caller ∙ sym t.0))
            (λ t. ⊎_elim
            (λ (u : (j ≡ id) × (Live k' ≡ v)). subst (λ (y : ℕ × View O R Z). Sound CanMake z r.all r.low r.high ended' y.0 y.1) (λ i. (sym u.0 i, u.1 i)) record {
              caller = fits.caller;
              setting = fits.setting;
              begins = L_begins;
              can = L_can;
              own_all = fits.own_all;
              own_seen = by_between id k.seen L r.all k.own L_begins L_k fits.own_seen fits.own_all;
              turn = fits.turn;
              noted_begin = (L_k, (L_e, tt));
              plain = λ n. absurd (n first);
            })
            (λ (u : (j ≢ id) × (j ≢ other) × (get_elem? s.views j ≡ some v)). still j v (r.each j v u.2))
            t)
            (was j v h);
        apart = λ i j p v w a b c d. let y = old i p v a c in let w' = old j p w b d in r.apart i j p y.0 w'.0 y.1 w'.1 y.2 w'.2;
        places = let a : total held front + places_of k.stage ≡ total held s.views + places_of k.stage = total_set held s.views id (Live k) (Live k') at in
            let b : total held (set front other Spent) + places_of e.stage ≡ total held front + 0 = total_set held front other (Live e) Spent there in
            let c : places_of e.stage ≡ 0 = ap places_of idle in let d = r.places in omega arith;
        taken = λ p from below. let h = r.taken p from below in dite (ℕ_discrete h.0 id)
            (λ (q : h.0 ≡ id). let v_is : h.1 ≡ Live k = some-injective h.1 (Live k) (sym h.2 ∙ (ap (λ (i : ℕ). get_elem? s.views i) q ∙ at)) in (id, Live k', here, subst (λ (y : View O R Z). HasPlace (stage_of y) p) v_is h.3))
            (λ (n : h.0 ≢ id). (
              h.0,
              h.1,
              stay h.0 h.1 n (λ (q : h.0 ≡ other). let v_is : h.1 ≡ Live e = some-injective h.1 (Live e) (sym h.2 ∙ (ap (λ (i : ℕ). get_elem? s.views i) q ∙ at_other)) in
                  subst (λ (st : Stage O R). HasPlace st p) idle (subst (λ (y : View O R Z). HasPlace (stage_of y) p) v_is h.3)) h.2,
              h.3,
            ));
        slot = ⊎_elim
            (λ (h : AtHome entries setting z r.all s). inl (
              h.0,
              h.1,
              h.2,
              h.3,
              λ j v t out. ⊎_elim
                  (λ (u : (j ≡ other) × (Spent ≡ v)). subst (λ (y : View O R Z). IsOut (stage_of y)) (sym u.1) out)
                  (λ u. ⊎_elim
                  (λ (q : (j ≡ id) × (Live k' ≡ v)). h.4 id (Live k) at (subst (λ (y : View O R Z). IsOut (stage_of y)) (sym q.1) out))
                  (λ (q : (j ≢ id) × (j ≢ other) × (get_elem? s.views j ≡ some v)). h.4 j v q.2 out) u)
                  (was j v t),
            ))
            (λ (h : WithSomeone s). inr (dite (ℕ_discrete h.1 id)
            (λ (q : h.1 ≡ id). let v_is : h.2 ≡ Live k = some-injective h.2 (Live k) (sym h.3 ∙ (ap (λ (i : ℕ). get_elem? s.views i) q ∙ at)) in (h.0, id, Live k', here, subst (λ (y : View O R Z). IsOut (stage_of y)) v_is h.4))
            (λ (n : h.1 ≢ id). (
              h.0,
              h.1,
              h.2,
              stay h.1 h.2 n (λ (q : h.1 ≡ other). let v_is : h.2 ≡ Live e = some-injective h.2 (Live e) (sym h.3 ∙ (ap (λ (i : ℕ). get_elem? s.views i) q ∙ at_other)) in
                  subst IsOut idle (subst (λ (y : View O R Z). IsOut (stage_of y)) v_is h.4)) h.3,
              h.4,
            ))))
            r.slot;
        longest = let l = r.longest in dite (ℕ_discrete l.0 id)
            (λ (q : l.0 ≡ id). let l_is : l.1 ≡ k = live_is l.1 k (some-injective (Live l.1) (Live k) (sym l.2 ∙ (ap (λ (i : ℕ). get_elem? s.views i) q ∙ at))) in
            (id, k', here, begins_both L r.all (subst (BeginsWith L) (ap (λ (y : Known O R Z). y.seen) (sym l_is) ∙ l.3) L_k) L_begins))
            (λ (n : l.0 ≢ id). dite (ℕ_discrete l.0 other)
            (λ (q : l.0 ≡ other). let l_is : l.1 ≡ e = live_is l.1 e (some-injective (Live l.1) (Live e) (sym l.2 ∙ (ap (λ (i : ℕ). get_elem? s.views i) q ∙ at_other))) in
            (id, k', here, begins_both L r.all (subst (BeginsWith L) (ap (λ (y : Known O R Z). y.seen) (sym l_is) ∙ l.3) L_e) L_begins))
            (λ (m : l.0 ≢ other). (l.0, l.1, stay l.0 (Live l.1) n m l.2, l.3)));
        made_is = length-set front other Spent ∙ (length-set s.views id (Live k') ∙ r.made_is);
        few = r.few;
        out_is = let a : total live front + 1 ≡ total live s.views + 1 = total_set live s.views id (Live k) (Live k') at in let b : total live (set front other Spent) + 1 ≡ total live front + 0 = total_set live front other (Live e) Spent there in let c = r.out_is in omega arith;
        tally = let a = r.tally in let b = r.out_is in let c = length-append r.ended (x ∷ []) in omega arith;
        root = (
          k',
          ap (get_elem? (set front other Spent)) (sym first) ∙ here,
          record {
            made_is = made_is;
            out_is = ap (λ (n : ℕ). n - 1) out_was;
            ended_is = ap (λ (l : List (Joined O R)). l ++ x ∷ []) ended_was;
            ended_calls = λ i y h. ⊎_elim
                (λ (t : get_elem? r.ended i ≡ some y). let known = ended_known entries setting CanMake z s r id k at i y (ap (λ (l : List (Joined O R)). get_elem? l i) ended_was ∙ t) in by_between y.caller k.seen L r.all y.own L_begins L_k known.2 known.1)
                (λ (t : (i ≡ length r.ended) × (x ≡ y)). subst (λ (w : Joined O R). calls_by w.caller L ≡ w.own) t.1
                (by_between e.caller e.seen L r.all e.own L_begins L_e (ap (λ (c : ℕ). calls_by c e.seen) fits_e.caller ∙ fits_e.own_seen) (ap (λ (c : ℕ). calls_by c r.all) fits_e.caller ∙ fits_e.own_all)))
                (snoc_at r.ended x y i h);
          },
        );
        no_others = r.no_others;
        ended_apart = λ i j y w a b same. ⊎_elim
            (λ (t : get_elem? r.ended i ≡ some y). ⊎_elim
            (λ (u : get_elem? r.ended j ≡ some w). r.ended_apart i j y w t u same)
            (λ (u : (j ≡ length r.ended) × (x ≡ w)). absurd (apart_from entries setting CanMake z s r other y.caller e at_other (r.ended_spent i y t).0 (same ∙ (ap (λ (q : Joined O R). q.caller) (sym u.1) ∙ fits_e.caller))))
            (snoc_at r.ended x w j b))
            (λ (t : (i ≡ length r.ended) × (x ≡ y)). ⊎_elim
            (λ (u : get_elem? r.ended j ≡ some w). absurd (apart_from entries setting CanMake z s r other w.caller e at_other (r.ended_spent j w u).0 (sym same ∙ (ap (λ (q : Joined O R). q.caller) (sym t.1) ∙ fits_e.caller))))
            (λ (u : (j ≡ length r.ended) × (x ≡ w)). t.0 ∙ sym u.0)
            (snoc_at r.ended x w j b))
            (snoc_at r.ended x y i a);
        ended_spent = λ i y h. ⊎_elim
            (λ (t : get_elem? r.ended i ≡ some y). let known = r.ended_spent i y t in
            (stay y.caller Spent (apart_from entries setting CanMake z s r id y.caller k at known.0) (apart_from entries setting CanMake z s r other y.caller e at_other known.0) known.0, known.1))
            (λ (t : (i ≡ length r.ended) × (x ≡ y)). subst (λ (w : Joined O R). (get_elem? (set front other Spent) w.caller ≡ some Spent) × (calls_by w.caller r.all ≡ w.own)) t.1
            (ap (get_elem? (set front other Spent)) fits_e.caller ∙ gone, ap (λ (c : ℕ). calls_by c r.all) fits_e.caller ∙ fits_e.own_all))
            (snoc_at r.ended x y i h);
      }
    where
      still : (j : ℕ) (v : View O R Z) → Sound CanMake z r.all r.low r.high r.ended j v → Sound CanMake z r.all r.low r.high (r.ended ++ ended_of e ∷ []) j v
      still j Spent t = (t.0, t.1, at_longer r.ended (ended_of e ∷ []) t.0 t.1 t.2, t.3)
      still j (Live n) t = t

  abbrev IsKnownCaller : List (Joined O R) → ℕ → Type 0
  IsKnownCaller ended c = (c ≡ 0) ⊎ Contains (map (λ (known : Joined O R). known.caller) ended) c

  known_caller : (s : St) (r : Rule s) (id : ℕ) (k : Known O R Z) → get_elem? s.views id ≡ some (Live k) → k.caller ≡ 0 → k.out ≡ 0 → (c : ℕ) → c < r.made → IsKnownCaller k.ended c
  known_caller s r id k at zero_is none_out c below =
      let fits = fits_at entries setting CanMake z s r id k at in
      let first : id ≡ 0 = sym fits.caller ∙ zero_is in
      let o = r.root in
      let is : o.0 ≡ k = live_is o.0 k (some-injective (Live o.0) (Live k) (sym o.1 ∙ (ap (λ (j : ℕ). get_elem? s.views j) (sym first) ∙ at))) in
      let out_was : k.out ≡ r.out = ap (λ (y : Known O R Z). y.out) (sym is) ∙ o.2.out_is in
      let ended_was : k.ended ≡ r.ended = ap (λ (y : Known O R Z). y.ended) (sym is) ∙ o.2.ended_is in
      let v = at_some s.views c (let a = r.made_is in omega arith) in
      by_case v.0 v.1 first ended_was out_was
    where
      by_case : (v : View O R Z) → get_elem? s.views c ≡ some v → id ≡ 0 → k.ended ≡ r.ended → k.out ≡ r.out → IsKnownCaller k.ended c
      by_case Spent there first ended_was out_was = let t = r.each c Spent there in inr (subst (Contains (map (λ (known : Joined O R). known.caller) k.ended)) t.3 (contains_at k.ended t.0 t.1 (ap (λ (l : List (Joined O R)). get_elem? l t.0) ended_was ∙ t.2)))
      by_case (Live e) there first ended_was out_was = dite (ℕ_discrete c id)
          (λ (q : c ≡ id). inl (q ∙ first))
          (λ (n : c ≢ id). let two : 2 ≤ total live s.views = total_two live s.views c id (Live e) (Live k) n there at in let a = r.out_is in absurd (omega arith))

  -- where no other pass is out, the machine is at home with what the closing pass has seen
  pub closes : (s : St) (id : ℕ) (k : Known O R Z) → Seen Rule id (Live k) s → k.caller ≡ 0 → k.out ≡ 0 → k.stage ≡ Idle
      → (m : M) × (s.homes ≡ some (Some m) ∷ []) × (entries m ≡ k.seen) × (setting m ≡ z) × IsByKnownCallers k.ended k.seen
  closes s id k seen zero_is none_out idle =
      let r : Rule s = seen.0 in let at : get_elem? s.views id ≡ some (Live k) = seen.1 in
      let fits = fits_at entries setting CanMake z s r id k at in
      let first : id ≡ 0 = sym fits.caller ∙ zero_is in
      let o = r.root in
      let is : o.0 ≡ k = live_is o.0 k (some-injective (Live o.0) (Live k) (sym o.1 ∙ (ap (λ (j : ℕ). get_elem? s.views j) (sym first) ∙ at))) in
      let out_was : k.out ≡ r.out = ap (λ (y : Known O R Z). y.out) (sym is) ∙ o.2.out_is in
      let only : (j : ℕ) (e : Known O R Z) → get_elem? s.views j ≡ some (Live e) → j ≡ id = λ j e there. dite (ℕ_discrete j id) (λ (q : j ≡ id). q)
      (λ (n : j ≢ id). let two : 2 ≤ total live s.views = total_two live s.views j id (Live e) (Live k) n there at in let a = r.out_is in absurd (omega arith)) in
      let l = r.longest in
      let l_is : l.1 ≡ k = live_is l.1 k (some-injective (Live l.1) (Live k) (sym l.2 ∙ (ap (λ (i : ℕ). get_elem? s.views i) (only l.0 l.1 l.2) ∙ at))) in
      let all_is : r.all ≡ k.seen = sym l.3 ∙ ap (λ (x : Known O R Z). x.seen) l_is in
      ⊎_elim
      (λ (h : AtHome entries setting z r.all s). (
        h.0,
        h.1,
        h.2 ∙ all_is,
        h.3,
        subst (IsByKnownCallers k.ended) all_is
            (all_each (λ (e : Entry O R). IsKnownCaller k.ended e.tag.caller) r.all (Each-map (λ (e : Entry O R). e.tag.caller < r.made) (λ (e : Entry O R). IsKnownCaller k.ended e.tag.caller) (λ e below. known_caller s r id k at zero_is none_out e.tag.caller below) r.all r.no_others)),
      ))
      (λ (h : WithSomeone s). absurd (taken s id k at idle only h.1 h.2 h.3 h.4))
      r.slot
    where
      taken : (s : St) (id : ℕ) (k : Known O R Z) → get_elem? s.views id ≡ some (Live k) → k.stage ≡ Idle → ((j : ℕ) (e : Known O R Z) → get_elem? s.views j ≡ some (Live e) → j ≡ id) → (j : ℕ) (v : View O R Z) → get_elem? s.views j ≡ some v → IsOut (stage_of v) → ⊥
      taken s id k at idle only j Spent there out = out
      taken s id k at idle only j (Live e) there out = let v_is : e ≡ k = live_is e k (some-injective (Live e) (Live k) (sym there ∙ (ap (λ (i : ℕ). get_elem? s.views i) (only j e there) ∙ at))) in
          subst IsOut idle (subst (λ (x : Known O R Z). IsOut x.stage) v_is out)

  pub splits_at : (id : ℕ) (v : View O R Z) (k : Known O R Z) → v ≡ Live k → k.caller ≡ 0 → k.made + 1 < 2 ^ 32 → Splits Rule id v (splitting v) (newcomer v)
  splits_at id v k is zero_is few = subst (λ (y : View O R Z). Splits Rule id y (splitting y) (newcomer y)) (sym is) (splits id k zero_is few)

  pub joins_at : (id other : ℕ) (v w : View O R Z) (k e : Known O R Z) → v ≡ Live k → w ≡ Live e → k.caller ≡ 0 → e.stage ≡ Idle → Joins Rule id v other w (joining v w) Spent
  joins_at id other v w k e is is' zero_is idle = subst (λ (y : View O R Z × View O R Z). Joins Rule id y.0 other y.1 (joining y.0 y.1) Spent) (λ i. (sym is i, sym is' i)) (joins id k other e zero_is idle)

  -- the value of the slot after the close
  finals : (id : ℕ) (v : View O R Z) (k : Known O R Z) → v ≡ Live k → k.caller ≡ 0 → k.out ≡ 0 → k.stage ≡ Idle → (ws : List ℕ) (xs : List (Option M)) → Final (Seen Rule id v) ws xs → (y : Option M) → get_elem? xs 0 ≡ some y
      → (m : M) × (y ≡ Some m) × (entries m ≡ k.seen) × (setting m ≡ z) × IsByKnownCallers k.ended k.seen
  finals id v k is zero_is none_out idle ws xs f y there =
      let c = closes f.0 id k (f.1.0, f.1.1 ∙ ap some is) zero_is none_out idle in
      let home : get_elem? xs 0 ≡ some (Some c.0) = f.4 0 (Some c.0) (ap (λ (l : List (maybe.Option (Option M))). get_elem? l 0) c.1) in
      (c.0, some-injective y (Some c.0) (sym there ∙ home), c.2, c.3, c.4)

  -- the same, in the words of what contracts see of the pass
  pub closing : (id : ℕ) (t : TableId) (me : Me (Option M) (View O R Z)) (k : Known O R Z) (p : PassView O R Z) → pass_view t me.0 ≡ p → me ≡ (Live k, []) → k.stage ≡ Idle → p.caller ≡ 0 → p.out ≡ 0
      → (ws : List ℕ) (xs : List (Option M)) → Final (Seen Rule id me.0) ws xs → (y : Option M) → get_elem? xs 0 ≡ some y
      → (m : M) × (y ≡ Some m) × (entries m ≡ p.seen) × (setting m ≡ z) × IsByKnownCallers p.ended p.seen
  closing id t me k p view_is is idle zero_is none_out ws xs f y there =
      let k_is : pass_view t (Live k) ≡ p = ap (λ (m : Me (Option M) (View O R Z)). pass_view t m.0) (sym is) ∙ view_is in
      let zero : k.caller ≡ 0 = ap (λ (q : PassView O R Z). q.caller) k_is ∙ zero_is in
      let none : k.out ≡ 0 = ap (λ (q : PassView O R Z). q.out) k_is ∙ none_out in
      let c = finals id me.0 k (ap (λ (m : Me (Option M) (View O R Z)). m.0) is) zero none idle ws xs f y there in
      (c.0, c.1, c.2 ∙ ap (λ (q : PassView O R Z). q.seen) k_is, c.3, subst (λ (q : PassView O R Z). IsByKnownCallers q.ended q.seen) k_is c.4)
