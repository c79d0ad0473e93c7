-- A bundle that is starting or stopping has exactly one open bracket for it, of the tag of its last begin; any other has none.
use Rattle.std.proofs.Common.{◌≡◌, ◌⊎◌, inl, inr, ℕ, List, [], ◌∷◌, ◌++◌, Bool, true, false, refl, sym, ap, ◌∙◌, subst}
use Rattle.std.specs.Prelude.{◌==◌, ◌&&◌, cond, filter, IsSomeAnd, Option, None, Some, unwrap_or}
use Rattle.std.proofs.lemmas.Bool.{eqb-true, eq-eqb, false_from_ne_true, true_from_ne_false}
use Rattle.osgi_base.specs.declared.ids.BundleId.{BundleId}
use Rattle.osgi_base.specs.declared.ids.Tag.{Tag}
use Rattle.osgi_ops.specs.Brackets.{Bracket, bracket, brackets, Cause, closes, ends, handing, job, making, opens, starting, stopping}
use Rattle.osgi_ops.specs.OwnBrackets.{is_end, turned}
use Rattle.osgi_ops.specs.Bundles as bundles
use Rattle.osgi_ops.specs.Bundles.{active, begun_by, idle, is_active, is_changing, is_live, last_begin, phase, Phase, put_into, running}
use Rattle.osgi_legal.specs.Legal.{AreAllowed, IsAllowed}
use Rattle.osgi_ops.specs.Bundles.{row_of}
use Rattle.osgi_ops.specs.Conditions.{is_level_too_high, state_change, state_of}
use Rattle.osgi_legal.specs.Operations.{IsReply, IsRow}
use Rattle.osgi_legal.specs.laws.Stages.{row-of}
use Rattle.osgi_ops.specs.Bundles.{system}
use Rattle.osgi_ops.specs.Replies.{is_accepted, took_effect}
use Rattle.osgi_ops.specs.Settings.{Setting}
use Rattle.osgi_ops.specs.Resolved.{is_resolved}
use Rattle.osgi_ops.specs.Moments.{moment, entries_in, Moment, Told}
use Rattle.osgi_ops.specs.declared.entry.Entry.{Entry}
use Rattle.osgi_ops.specs.declared.op.Op.{Op}
use Rattle.osgi_ops.specs.declared.op.Op.TheVariants as op
use Rattle.osgi_ops.specs.declared.target.Target.{Target}
use Rattle.osgi_ops.specs.declared.refusal.Refusal.{Refusal}
use Rattle.osgi_ops.specs.declared.refusal.Refusal.TheVariants as no
use Rattle.osgi_ops.specs.declared.reply.Reply.{Reply}
use Rattle.osgi_ops.specs.declared.reply.Reply.TheVariants as answer
use Rattle.osgi_legal.proofs.Owned.{ends-open-none}
use Rattle.osgi_ops.specs.laws.Along.{holds, latest-quiet, latest-set}
use Rattle.osgi_ops.specs.laws.Brackets.{brackets-last}
use Rattle.osgi_legal.proofs.Innermost.{AreFew, closed-one, left-alone, opened-one}
use Rattle.osgi_legal.proofs.Listening.{effective-closes, has-ended}
use Rattle.osgi_legal.proofs.Owned.{closes-not, ended-by, entries-last, of}

-- the bracket is for a start or a stop of this bundle
abbrev pub is_for : BundleId → Cause → Bool
is_for b (starting n) = n.0 == b.0
is_for b (stopping n) = n.0 == b.0
is_for b cause = false

abbrev pub is_bracket_for : BundleId → Bracket → Bool
is_bracket_for b x = is_for b x.cause

abbrev pub brackets_for : BundleId → List Bracket → List Bracket
brackets_for b opened = filter (is_bracket_for b) opened

-- what the phase of a bundle says of its last begin and of the brackets for it
abbrev pub Fits : BundleId → Phase → Option Tag → List Bracket → Type 0
Fits b idle last opened = opened ≡ []
Fits b active last opened = opened ≡ []
Fits b bundles.starting last opened = (tag : Tag) × (last ≡ Some tag) × (opened ≡ bracket tag (starting b) ∷ [])
Fits b bundles.stopping last opened = (tag : Tag) × (last ≡ Some tag) × (opened ≡ bracket tag (stopping b) ∷ [])

abbrev pub IsFit : BundleId → List Entry → Type 0
IsFit b history = Fits b (phase b history) (last_begin b history) (brackets_for b (brackets history))

pub same-id : (n b : BundleId) → (n.0 == b.0) ≡ true → n ≡ b
same-id n b e = let q : n.0 ≡ b.0 = eqb-true n.0 b.0 e in λ i. record { 0 = q i }

-- ---- what an operation with its reply does to the brackets for a bundle

-- the operation is an end for this bundle
abbrev pub ends_for : BundleId → Op → Bool
ends_for b (op.EndStart n bad) = n.0 == b.0
ends_for b (op.EndStop n bad) = n.0 == b.0
ends_for b o = false

-- what an operation ends is for the bundle where the operation is
for-ended : (b : BundleId) (o : Op) (cause : Cause) → ends o cause ≡ true → is_for b cause ≡ ends_for b o
for-ended b (op.EndHand l) (handing h) e = refl
for-ended b (op.EndHand l) job e = absurd (cc e)
for-ended b (op.EndHand l) (starting n) e = absurd (cc e)
for-ended b (op.EndHand l) (stopping n) e = absurd (cc e)
for-ended b op.EndJob (handing h) e = absurd (cc e)
for-ended b op.EndJob job e = refl
for-ended b op.EndJob (starting n) e = absurd (cc e)
for-ended b op.EndJob (stopping n) e = absurd (cc e)
for-ended b (op.EndStart n bad) (handing h) e = absurd (cc e)
for-ended b (op.EndStart n bad) job e = absurd (cc e)
for-ended b (op.EndStart n bad) (starting m) e = ap (λ k. k == b.0) (sym (eqb-true n.0 m.0 e))
for-ended b (op.EndStart n bad) (stopping m) e = absurd (cc e)
for-ended b (op.EndStop n bad) (handing h) e = absurd (cc e)
for-ended b (op.EndStop n bad) job e = absurd (cc e)
for-ended b (op.EndStop n bad) (starting m) e = absurd (cc e)
for-ended b (op.EndStop n bad) (stopping m) e = ap (λ k. k == b.0) (sym (eqb-true n.0 m.0 e))
for-ended b (op.EndHand l) (making t) e = absurd (cc e)
for-ended b op.EndJob (making t) e = absurd (cc e)
for-ended b (op.EndStart n bad) (making t) e = absurd (cc e)
for-ended b (op.EndStop n bad) (making t) e = absurd (cc e)
for-ended b (op.EndMake bad) (making t) e = refl
for-ended b o cause e = absurd (cc e)

pub data Turn (b : BundleId) (o : Op) (reply : Reply) : Type 0 where
  starts : opens o reply ≡ Some (starting b) → put_into b o reply ≡ Some bundles.starting → (transient : Bool) → (row : ℕ) → (begun : BundleId) → o ≡ op.BeginStart b transient → reply ≡ answer.Begun begun row → Turn b o reply
  stops : opens o reply ≡ Some (stopping b) → put_into b o reply ≡ Some bundles.stopping → (target : Target) → (transient : Bool) → (row : ℕ) → o ≡ op.BeginStop target transient → reply ≡ answer.Begun b row → Turn b o reply
  ends_it : is_end o ≡ true → ends_for b o ≡ true → took_effect reply ≡ true → (p : Phase) → put_into b o reply ≡ Some p → (p ≡ idle) ⊎ (p ≡ active) → Turn b o reply
  leaves : put_into b o reply ≡ None → ((cause : Cause) → opens o reply ≡ Some cause → is_for b cause ≡ false) → (is_end o ≡ true → took_effect reply ≡ true → ends_for b o ≡ false) → Turn b o reply

quiet-cause : (b : BundleId) (given cause : Cause) → Some given ≡ Some cause → is_for b given ≡ false → is_for b cause ≡ false
quiet-cause b given cause e f = let same : given ≡ cause = cc e in subst (λ c. is_for b c ≡ false) same f

never : (b : BundleId) (cause : Cause) → None ≡ Some cause → is_for b cause ≡ false
never b cause e = absurd (cc e)

start-turn : (b n begun : BundleId) (transient : Bool) (row : ℕ) (k : Bool) → (n.0 == b.0) ≡ k → Turn b (op.BeginStart n transient) (answer.Begun begun row)
start-turn b n begun transient row true e =
    let q = same-id n b e in
    subst (λ x. Turn b (op.BeginStart x transient) (answer.Begun begun row)) (sym q)
    (starts refl (ap (λ k. cond k (Some bundles.starting) None) (sym (ap (λ (x : BundleId). x.0 == b.0) q) ∙ e)) transient row begun refl refl)
start-turn b n begun transient row false e = leaves (ap (λ k. cond k (Some bundles.starting) None) e) (λ cause q. quiet-cause b (starting n) cause q e) (λ q f. absurd (cc q))

stop-turn : (b n : BundleId) (target : Target) (transient : Bool) (row : ℕ) (k : Bool) → (n.0 == b.0) ≡ k → Turn b (op.BeginStop target transient) (answer.Begun n row)
stop-turn b n target transient row true e =
    let q = same-id n b e in
    subst (λ x. Turn b (op.BeginStop target transient) (answer.Begun x row)) (sym q)
    (stops refl (ap (λ k. cond k (Some bundles.stopping) None) (sym (ap (λ (x : BundleId). x.0 == b.0) q) ∙ e)) target transient row refl refl)
stop-turn b n target transient row false e = leaves (ap (λ k. cond k (Some bundles.stopping) None) e) (λ cause q. quiet-cause b (stopping n) cause q e) (λ q f. absurd (cc q))

rests : (k : Bool) → (cond k active idle ≡ idle) ⊎ (cond k active idle ≡ active)
rests true = inr refl
rests false = inl refl

end-start-turn : (b n : BundleId) (bad : Bool) (reply : Reply) (eff same : Bool) → took_effect reply ≡ eff → (n.0 == b.0) ≡ same → Turn b (op.EndStart n bad) reply
end-start-turn b n bad reply true true e f =
    ends_it refl f e (cond (is_accepted reply) active idle) (λ i. cond (e i && f i) (Some (cond (is_accepted reply) active idle)) None) (rests (is_accepted reply))
end-start-turn b n bad reply true false e f =
    leaves (λ i. cond (e i && f i) (Some (cond (is_accepted reply) active idle)) None) (λ cause q. never b cause q) (λ q g. f)
end-start-turn b n bad reply false same e f =
    leaves (λ i. cond (e i && f i) (Some (cond (is_accepted reply) active idle)) None) (λ cause q. never b cause q) (λ q g. absurd (let c : true ≡ false = sym g ∙ e in cc c))

end-stop-turn : (b n : BundleId) (bad : Bool) (reply : Reply) (eff same : Bool) → took_effect reply ≡ eff → (n.0 == b.0) ≡ same → Turn b (op.EndStop n bad) reply
end-stop-turn b n bad reply true true e f = ends_it refl f e idle (λ i. cond (e i && f i) (Some idle) None) (inl refl)
end-stop-turn b n bad reply true false e f = leaves (λ i. cond (e i && f i) (Some idle) None) (λ cause q. never b cause q) (λ q g. f)
end-stop-turn b n bad reply false same e f =
    leaves (λ i. cond (e i && f i) (Some idle) None) (λ cause q. never b cause q) (λ q g. absurd (let c : true ≡ false = sym g ∙ e in cc c))

pub turn-of : (b : BundleId) (o : Op) (reply : Reply) → Turn b o reply
turn-of b (op.BeginStart n transient) (answer.Begun begun row) = start-turn b n begun transient row (n.0 == b.0) refl
turn-of b (op.BeginStop target transient) (answer.Begun n row) = stop-turn b n target transient row (n.0 == b.0) refl
turn-of b (op.EndStart n bad) reply = end-start-turn b n bad reply (took_effect reply) (n.0 == b.0) refl refl
turn-of b (op.EndStop n bad) reply = end-stop-turn b n bad reply (took_effect reply) (n.0 == b.0) refl refl
turn-of b op.Hand (answer.Handed listener kind owner row name event) = leaves refl (λ cause q. quiet-cause b (handing listener) cause q refl) (λ q f. absurd (cc q))
turn-of b op.TakeJob (answer.Job owner row name) = leaves refl (λ cause q. quiet-cause b job cause q refl) (λ q f. absurd (cc q))
turn-of b (op.EndHand listener) reply = leaves refl (λ cause q. never b cause q) (λ q f. refl)
turn-of b op.EndJob reply = leaves refl (λ cause q. never b cause q) (λ q f. refl)
turn-of b (op.Get user service) (answer.Make owner row name) =
    leaves refl (λ cause q. quiet-cause b (making (record { user = user; service = service; asked_own = false; owner = owner })) cause q refl) (λ q f. absurd (cc q))
turn-of b (op.GetOwn user service) (answer.Make owner row name) =
    leaves refl (λ cause q. quiet-cause b (making (record { user = user; service = service; asked_own = true; owner = owner })) cause q refl) (λ q f. absurd (cc q))
turn-of b (op.EndMake bad) reply = leaves refl (λ cause q. never b cause q) (λ q f. refl)
turn-of b o reply = leaves refl (λ cause q. never b cause q) (λ q f. absurd (cc q))

-- ---- what a legal begin finds

start-by : (m : Moment) (b begun : BundleId) (transient : Bool) (row : ℕ) → IsRow m (op.BeginStart b transient) (answer.Begun begun row) →
    (is_live b m.before ≡ true) × ((f : Refusal) → state_change is_changing m b f → ⊥) × (is_active (state_of m b) ≡ false)
start-by m b begun transient row (inl r) = absurd (cc (r.2))
start-by m b begun transient row (inr (n1, inl r)) = absurd (cc (r.2))
start-by m b begun transient row (inr (n1, inr (n2, inl r))) = absurd (cc (r.2))
start-by m b begun transient row (inr (n1, inr (n2, inr (n3, inl r)))) = absurd (cc (r.2))
start-by m b begun transient row (inr (n1, inr (n2, inr (n3, inr (n4, inl r))))) = absurd (cc (r.2))
start-by m b begun transient row (inr (n1, inr (n2, inr (n3, inr (n4, inr (n5, inl r)))))) = absurd (cc (r.2))
start-by m b begun transient row (inr (n1, inr (n2, inr (n3, inr (n4, inr (n5, inr (n6, a))))))) =
    (true_from_ne_false _ (λ e. n1 no.NoSuchBundle (refl, e)), n4, false_from_ne_true _ (λ e. go e))
  where
    go : is_active (state_of m b) ≡ true → ⊥
    go e = let q : answer.Begun begun row ≡ answer.Active b = a ∙ ap (λ k. cond k (answer.Active b) (cond (is_level_too_high m b) (answer.Kept b) (answer.Begun b (row_of m.setting.depot m.before b)))) e in cc q

pub start-row : (m : Moment) (b begun : BundleId) (transient : Bool) (row : ℕ) → IsReply m (op.BeginStart b transient) (answer.Begun begun row) →
    (is_live b m.before ≡ true) × ((f : Refusal) → state_change is_changing m b f → ⊥) × (is_active (state_of m b) ≡ false)
start-row m b begun transient row r = start-by m b begun transient row (row-of m (op.BeginStart b transient) (answer.Begun begun row) r refl)

-- a state that is neither the system bundle's nor that of a bundle that is gone is that of its phase
pub state-by : (m : Moment) (b : BundleId) (k l : Bool) → (b.0 == 0) ≡ k → is_live b m.before ≡ l →
    state_of m b ≡ cond k bundles.Active (cond l (running (phase b m.before) (is_resolved m.world b)) bundles.Uninstalled)
state-by m b k l e f = λ i. cond (e i) bundles.Active (cond (f i) (running (phase b m.before) (is_resolved m.world b)) bundles.Uninstalled)

not-changing : (m : Moment) (b begun : BundleId) (transient : Bool) (row : ℕ) → IsReply m (op.BeginStart b transient) (answer.Begun begun row) →
    (p : Phase) → phase b m.before ≡ p → is_changing (running p (is_resolved m.world b)) ≡ true → (tag : Tag) → last_begin b m.before ≡ Some tag → ⊥
not-changing m b begun transient row r p e c tag t = go (start-row m b begun transient row r) (b.0 == 0) refl
  where
    go : (is_live b m.before ≡ true) × ((f : Refusal) → state_change is_changing m b f → ⊥) × (is_active (state_of m b) ≡ false) → (k : Bool) → (b.0 == 0) ≡ k → ⊥
    go s true q = let bad : true ≡ false = sym (ap is_active (state-by m b true true q s.0)) ∙ s.2 in cc bad
    go s false q = s.1 (no.StateChange tag) (
      ap is_changing (state-by m b false true q s.0) ∙ ap (λ x. is_changing (running x (is_resolved m.world b))) e ∙ c,
      subst (λ o. IsSomeAnd o (λ by. no.StateChange tag ≡ no.StateChange by)) (sym t) refl,
    )

-- before an accepted start no bracket for the bundle is open
start-free : (m : Moment) (b begun : BundleId) (transient : Bool) (row : ℕ) → IsReply m (op.BeginStart b transient) (answer.Begun begun row) → IsFit b m.before → brackets_for b (brackets m.before) ≡ []
start-free m b begun transient row r fit = go (phase b m.before) refl fit
  where
    go : (p : Phase) → phase b m.before ≡ p → Fits b p (last_begin b m.before) (brackets_for b (brackets m.before)) → brackets_for b (brackets m.before) ≡ []
    go idle e f = f
    go active e f = f
    go bundles.starting e f = absurd (not-changing m b begun transient row r bundles.starting e refl f.0 f.1)
    go bundles.stopping e f = absurd (not-changing m b begun transient row r bundles.stopping e refl f.0 f.1)

stop-by : (m : Moment) (target : Target) (transient : Bool) (n : BundleId) (row : ℕ) → IsRow m (op.BeginStop target transient) (answer.Begun n row) →
    (is_active (state_of m n) ≡ true) × (n ≡ system → ⊥)
stop-by m target transient n row (inl r) = absurd (cc (r.2))
stop-by m target transient n row (inr (n1, inl r)) = absurd (cc (r.2))
stop-by m target transient n row (inr (n1, inr (n2, inl r))) = absurd (cc (r.2))
stop-by m target transient n row (inr (n1, inr (n2, inr (n3, inl r)))) = absurd (cc (r.2))
stop-by m target transient n row (inr (n1, inr (n2, inr (n3, inr (n4, inl r))))) = absurd (cc (r.2))
stop-by m target transient n row (inr (n1, inr (n2, inr (n3, inr (n4, inr (n5, a)))))) = go (is_active (state_of m a.0)) refl a.2
  where
    go : (k : Bool) → is_active (state_of m a.0) ≡ k → answer.Begun n row ≡ cond k (answer.Begun a.0 (row_of m.setting.depot m.before a.0)) (answer.Idle a.0) → (is_active (state_of m n) ≡ true) × (n ≡ system → ⊥)
    go true e q =
        let same : n ≡ a.0 = cc q in
        (ap (λ x. is_active (state_of m x)) same ∙ e, (λ s. n2 no.InvalidOperation (a.0, a.1, (refl, sym same ∙ s))))
    go false e q = absurd (cc q)

pub stop-row : (m : Moment) (target : Target) (transient : Bool) (n : BundleId) (row : ℕ) → IsReply m (op.BeginStop target transient) (answer.Begun n row) →
    (is_active (state_of m n) ≡ true) × (n ≡ system → ⊥)
stop-row m target transient n row r = stop-by m target transient n row (row-of m (op.BeginStop target transient) (answer.Begun n row) r refl)

stop-free : (m : Moment) (target : Target) (transient : Bool) (n : BundleId) (row : ℕ) → IsReply m (op.BeginStop target transient) (answer.Begun n row) → IsFit n m.before → brackets_for n (brackets m.before) ≡ []
stop-free m target transient n row r fit = go (stop-row m target transient n row r) (n.0 == 0) (is_live n m.before) refl refl (phase n m.before) refl fit
  where
    go : (is_active (state_of m n) ≡ true) × (n ≡ system → ⊥) → (k l : Bool) → (n.0 == 0) ≡ k → is_live n m.before ≡ l → (p : Phase) → phase n m.before ≡ p →
        Fits n p (last_begin n m.before) (brackets_for n (brackets m.before)) → brackets_for n (brackets m.before) ≡ []
    go s true l e f p q t = absurd (s.1 (same-id n system e))
    go s false false e f p q t = absurd (let bad : true ≡ false = sym s.0 ∙ ap is_active (state-by m n false false e f) in cc bad)
    go s false true e f idle q t = t
    go s false true e f active q t = t
    go s false true e f bundles.starting q t =
        absurd (let bad : true ≡ false = sym s.0 ∙ ap is_active (state-by m n false true e f) ∙ ap (λ x. is_active (running x (is_resolved m.world n))) q in cc bad)
    go s false true e f bundles.stopping q t =
        absurd (let bad : true ≡ false = sym s.0 ∙ ap is_active (state-by m n false true e f) ∙ ap (λ x. is_active (running x (is_resolved m.world n))) q in cc bad)

-- the innermost bracket of a legal end is for a bundle where the end is
pub innermost-for : (b : BundleId) (tag : Tag) (o : Op) (opened : List Bracket) → closes tag o opened ≡ true →
    (x : Bracket) × (outer : List Bracket) × (of tag.caller opened ≡ x ∷ outer) × (is_bracket_for b x ≡ ends_for b o)
innermost-for b tag o opened e = let h = has-ended tag o opened e in (h.bracket, h.outer, h.is, for-ended b o h.bracket.cause h.ended)

-- ---- one more entry

made-fit : (b : BundleId) (history : List Entry) (p : Phase) (last : Option Tag) (opened : List Bracket) → phase b history ≡ p → last_begin b history ≡ last → brackets_for b (brackets history) ≡ opened →
    Fits b p last opened → IsFit b history
made-fit b history p last opened e f g fits = subst (λ x. Fits b x (last_begin b history) (brackets_for b (brackets history))) (sym e)
    (subst (λ x. Fits b p x (brackets_for b (brackets history))) (sym f) (subst (λ x. Fits b p last x) (sym g) fits))

abbrev pub puts : BundleId → Entry → Option Phase
puts b e = put_into b e.op e.reply

pub phase-set : (b : BundleId) (h : List Entry) (e : Entry) (p : Phase) → puts b e ≡ Some p → phase b (h ++ e ∷ []) ≡ p
phase-set b h e p q = ap (λ o. unwrap_or o idle) (latest-set (puts b) h e p q)

pub phase-quiet : (b : BundleId) (h : List Entry) (e : Entry) → puts b e ≡ None → phase b (h ++ e ∷ []) ≡ phase b h
phase-quiet b h e q = ap (λ o. unwrap_or o idle) (latest-quiet (puts b) h e q)

few-of : (b : BundleId) (p : Phase) (last : Option Tag) (opened : List Bracket) → Fits b p last opened → AreFew opened
few-of b idle last opened f = inl f
few-of b active last opened f = inl f
few-of b bundles.starting last opened f = inr (bracket f.0 (starting b), f.2)
few-of b bundles.stopping last opened f = inr (bracket f.0 (stopping b), f.2)

fits-rest : (b : BundleId) (p : Phase) (last : Option Tag) → (p ≡ idle) ⊎ (p ≡ active) → Fits b p last []
fits-rest b p last (inl e) = subst (λ x. Fits b x last []) (sym e) refl
fits-rest b p last (inr e) = subst (λ x. Fits b x last []) (sym e) refl

pub own-id : (b : BundleId) → (b.0 == b.0) ≡ true
own-id b = eq-eqb b.0 b.0 refl

pub begun-set : (b : BundleId) (h : List Entry) (e : Entry) (u : Option Phase) → puts b e ≡ u → (elim u [ Some bundles.starting ↦ Some e.tag | Some bundles.stopping ↦ Some e.tag | _ ↦ None ]) ≡ Some e.tag →
    last_begin b (h ++ e ∷ []) ≡ Some e.tag
begun-set b h e u q f = latest-set (begun_by b) h e e.tag (subst (λ (v : Option Phase). (elim v [ Some bundles.starting ↦ Some e.tag | Some bundles.stopping ↦ Some e.tag | _ ↦ None ]) ≡ Some e.tag) (sym q) f)

fit-step : (setting : Setting) (b : BundleId) (front : List Told) (x : Told) → IsAllowed setting front x → IsFit b (entries_in front) → IsFit b (entries_in front ++ x.entry ∷ [])
fit-step setting b front x a fit = go (turn-of b x.entry.op x.entry.reply)
  where
    m : Moment
    m = moment setting front x.entry.tag

    h : List Entry
    h = entries_in front

    is : brackets (h ++ x.entry ∷ []) ≡ turned x.entry.tag (opens x.entry.op x.entry.reply) (closes x.entry.tag x.entry.op (brackets h)) (brackets h)
    is = brackets-last h x.entry

    ends-other : (o : Op) (y : Reply) → IsReply m o y → closes x.entry.tag o (brackets h) ≡ true → (took_effect y ≡ true → ends_for b o ≡ false) → ends_for b o ≡ false
    ends-other (op.EndMake bad) y r c g = refl
    ends-other o y r c g = g (ended-by m o y r refl c)

    go : Turn b x.entry.op x.entry.reply → IsFit b (h ++ x.entry ∷ [])
    go (starts o p transient row begun so sr) =
        let free : brackets_for b (brackets h) ≡ [] =
        start-free m b begun transient row (subst (λ y. IsReply m (op.BeginStart b transient) y) sr (subst (λ y. IsReply m y x.entry.reply) so a.replied)) fit in
        made-fit b (h ++ x.entry ∷ []) bundles.starting (Some x.entry.tag) _ (phase-set b h x.entry bundles.starting p) (begun-set b h x.entry (Some bundles.starting) p refl)
        (ap (brackets_for b) is ∙ opened-one (is_bracket_for b) x.entry.tag (opens x.entry.op x.entry.reply) (closes x.entry.tag x.entry.op (brackets h)) (brackets h) (starting b) o (own-id b) free)
        (x.entry.tag, refl, refl)
    go (stops o p target transient row so sr) =
        let free : brackets_for b (brackets h) ≡ [] =
        stop-free m target transient b row (subst (λ y. IsReply m (op.BeginStop target transient) y) sr (subst (λ y. IsReply m y x.entry.reply) so a.replied)) fit in
        made-fit b (h ++ x.entry ∷ []) bundles.stopping (Some x.entry.tag) _ (phase-set b h x.entry bundles.stopping p) (begun-set b h x.entry (Some bundles.stopping) p refl)
        (ap (brackets_for b) is ∙ opened-one (is_bracket_for b) x.entry.tag (opens x.entry.op x.entry.reply) (closes x.entry.tag x.entry.op (brackets h)) (brackets h) (stopping b) o (own-id b) free)
        (x.entry.tag, refl, refl)
    go (ends_it e f g p q r) =
        let closed = effective-closes m x.entry.op x.entry.reply a.replied e g in
        let i = innermost-for b x.entry.tag x.entry.op (brackets h) closed in
        made-fit b (h ++ x.entry ∷ []) p (last_begin b (h ++ x.entry ∷ [])) [] (phase-set b h x.entry p q) refl
        (ap (brackets_for b) is ∙ closed-one (is_bracket_for b) x.entry.tag (opens x.entry.op x.entry.reply) (closes x.entry.tag x.entry.op (brackets h)) (brackets h) i.0 i.1
        (ends-open-none x.entry.op x.entry.reply e) closed i.2 (i.3 ∙ f)
        (few-of b (phase b h) (last_begin b h) (brackets_for b (brackets h)) fit))
        (fits-rest b p (last_begin b (h ++ x.entry ∷ [])) r)
    go (leaves q f g) =
        made-fit b (h ++ x.entry ∷ []) (phase b h) (last_begin b h) (brackets_for b (brackets h)) (phase-quiet b h x.entry q)
        (latest-quiet (begun_by b) h x.entry (subst (λ (v : Option Phase). (elim v [ Some bundles.starting ↦ Some x.entry.tag | Some bundles.stopping ↦ Some x.entry.tag | _ ↦ None ]) ≡ None) (sym q) refl))
        (ap (brackets_for b) is ∙ left-alone (is_bracket_for b) x.entry.tag (opens x.entry.op x.entry.reply) (closes x.entry.tag x.entry.op (brackets h)) (brackets h) f (λ c.
        (let i = innermost-for b x.entry.tag x.entry.op (brackets h) c in
        let e : is_end x.entry.op ≡ true = true_from_ne_false _ (λ n. (let bad : true ≡ false = sym c ∙ closes-not x.entry.tag x.entry.op (brackets h) n in cc bad)) in
        (i.0, i.1, i.2, i.3 ∙ ends-other x.entry.op x.entry.reply a.replied c (g e)))))
        fit

-- of every legal history: so a bundle is starting or stopping for one caller at a time
pub phases-fit : (setting : Setting) (told : List Told) → AreAllowed setting told → (b : BundleId) → IsFit b (entries_in told)
phases-fit setting told legal b =
    holds (IsAllowed setting) (λ l. IsFit b (entries_in l)) refl (λ front x before fit a. subst (IsFit b) (sym (entries-last front x)) (fit-step setting b front x a fit)) told legal
