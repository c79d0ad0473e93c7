-- Where a line was cut, and memory was not wanting, the session is at one of its limits.
use Rattle.std.proofs.Common.{◌≡◌, ◌≤◌, ◌⊎◌, ◌+◌, inl, inr, ℕ, List, [], ◌∷◌, ◌++◌, length, length-append, map, Bool, true, false, ap, sym, subst, ◌∙◌, refl, append_assoc, arith}
use Rattle.std.specs.Prelude.{◌==◌, count_by, filter}
use Rattle.std.specs.List.{list_any}
use Rattle.std.proofs.lemmas.Bool.{eqb-true, or_left, or_right}
use Rattle.std.proofs.lemmas.List.Elements.{filter-append}
use Rattle.osgi_legal.proofs.Handings as legal
use Rattle.osgi_stage.proofs.Handings as stage
use Rattle.osgi_legal.proofs.Legal.{split-map}
use Rattle.osgi_legal.specs.Legal.{AreAllowed, IsAllowed, Legal}
use Rattle.osgi_ops.specs.Listening.{handings, is_handed}
use Rattle.osgi_ops.specs.Moments.{entries_in, Moment, moment, Told}
use Rattle.osgi_legal.specs.Operations.{IsReply, IsRow}
use Rattle.osgi_ops.specs.Settings.{Setting}
use Rattle.osgi_ops.specs.declared.entry.Entry.{Entry}
use Rattle.osgi_ops.specs.declared.op.Op.{Op}
use Rattle.osgi_ops.specs.declared.op.Op.TheVariants.{Hand}
use Rattle.osgi_ops.specs.declared.refusal.Refusal.TheVariants.{HandingsSpent, TooDeep}
use Rattle.osgi_ops.specs.declared.reply.Reply.{Reply}
use Rattle.osgi_ops.specs.declared.reply.Reply.TheVariants.{Handed, Refused}
use Rattle.osgi_ops.specs.laws.Along.{AllAlong-split}
use Rattle.osgi_legal.specs.laws.Stages.{hand-here, here-row}
use Rattle.osgi_program.specs.Outcome.{is_handing, is_spent}
use Rattle.osgi_program.specs.computed.Ended.{hands}
use Rattle.osgi_program.specs.computed.Running.{IsSpentOrFull}
use Rattle.osgi_session.specs.Runs.{Call, call, Sections}
use Rattle.osgi_session.specs.Sessions.{call_of, cut, IsCutRunOf, Lane, over, ran}
use Rattle.osgi_session.specs.declared.line.Line.{Line}

-- ---- the last entry

-- it is a Hand that was refused since enough was handed
pub record EndsSpent (history : List Entry) : Type 0 where
  pub front : List Entry
  pub last : Entry
  pub is : history ≡ front ++ last ∷ []
  pub hand : last.op ≡ Hand
  pub refused : last.reply ≡ Refused HandingsSpent

spent_entry : (entries front rest : List Entry) → entries ≡ front ++ rest → map call_of rest ≡ call Hand (Refused HandingsSpent) ∷ [] → EndsSpent entries
spent_entry entries front [] is same = absurd (cc same)
spent_entry entries front (e ∷ []) is same =
    let here : call_of e ≡ call Hand (Refused HandingsSpent) = cc same in
    record { front = front; last = e; is = is; hand = ap (λ (c : Call). c.op) here; refused = ap (λ (c : Call). c.reply) here }
spent_entry entries front (e ∷ (f ∷ rest)) is same = absurd (cc same)

spent_run : {script : Sections} {line : Line} (entries : List Entry) → IsCutRunOf script 0 line true entries → EndsSpent entries
spent_run entries k = let s = split-map call_of entries k.cut.0 (call Hand (Refused HandingsSpent) ∷ []) k.cut.3 in spent_entry entries s.0 s.1 s.2 s.4

spent_after : (earlier entries : List Entry) → EndsSpent entries → EndsSpent (earlier ++ entries)
spent_after earlier entries ends = record {
  front = earlier ++ ends.front;
  last = ends.last;
  is = ap (λ l. earlier ++ l) ends.is ∙ sym (append_assoc earlier ends.front (ends.last ∷ []));
  hand = ends.hand;
  refused = ends.refused;
}

-- of lines whose last run was cut: the history is full, or they end so
pub lane_end : {script : Sections} {limit : ℕ} (history : List Entry) {was_cut : Bool} {lines : List Line} {made : List Entry} → Lane script (IsSpentOrFull (length history == limit)) 0 was_cut lines made → was_cut ≡ true →
    (length history ≡ limit) ⊎ EndsSpent made
lane_end history over e = absurd (cc e)
lane_end history (ran {entries = entries} {rest = rest} r x) e = elim (lane_end history x e) [ inl full ↦ inl full | inr ends ↦ inr (spent_after entries rest ends) ]
lane_end {script} history (cut {spent = spent} {line = line} {entries = entries} k (inl is)) e = inr (spent_run entries (subst (λ b. IsCutRunOf script 0 line b entries) is k))
lane_end {limit = limit} history (cut k (inr full)) e = inl (eqb-true (length history) limit full)

-- ---- how many were handed

-- a Hand is refused so only where as many were handed as may be
hand_spent : (now : Moment) → IsReply now Hand (Refused HandingsSpent) → now.setting.bounds.handings ≤ handings now.before
hand_spent now r = by (here-row now Hand (Refused HandingsSpent) hand-here r)
  where
    by : IsRow now Hand (Refused HandingsSpent) → now.setting.bounds.handings ≤ handings now.before
    by (inl deep) =
        let is : HandingsSpent ≡ deep.0 = cc deep.2 in
        absurd (let bad : HandingsSpent ≡ TooDeep = is ∙ deep.1.0 in cc bad)
    by (inr (not_deep, inl spent)) = spent.1.1.1
    by (inr (not_deep, inr (not_spent, answered))) = absurd answered

handings-grow : (front rest : List Entry) → handings front ≤ handings (front ++ rest)
handings-grow front rest =
    let is : handings (front ++ rest) ≡ handings front + handings rest
    = ap (λ (l : List Entry). length l) (filter-append (λ (e : Entry). is_handed e.op e.reply) front rest)
    ∙ length-append (filter (λ (e : Entry). is_handed e.op e.reply) front) (filter (λ (e : Entry). is_handed e.op e.reply) rest) in omega (arith, is)

reached : (setting : Setting) (told front rest : List Told) (last : Entry) → AreAllowed setting told → told ≡ front ++ rest → map (λ (x : Told). x.entry) rest ≡ last ∷ [] → last.op ≡ Hand →
    last.reply ≡ Refused HandingsSpent → setting.bounds.handings ≤ handings (entries_in front)
reached setting told front [] last legal is same hand refused = absurd (cc same)
reached setting told front (x ∷ rest) last legal is same hand refused =
    let here : x.entry ≡ last = cc same in
    let parts = AllAlong-split (IsAllowed setting) [] front (x ∷ rest) (subst (AreAllowed setting) is legal) in
    let now : Moment = moment setting front x.entry.tag in
    hand_spent now
    (subst (λ y. IsReply now Hand y) (ap (λ (e : Entry). e.reply) here ∙ refused)
    (subst (λ o. IsReply now o x.entry.reply) (ap (λ (e : Entry). e.op) here ∙ hand) parts.1.0.replied))

same_test : (y : Reply) → is_handing y ≡ stage.is_handing y
same_test (Handed listener kind owner row name event) = refl
same_test y = refl

counted : (history : List Entry) → count_by (λ (e : Entry). is_handing e.reply) history ≡ count_by (λ (e : Entry). stage.is_handing e.reply) history
counted history = λ i. count_by (λ (e : Entry). same_test e.reply i) history

pub hands_are : (history : List Entry) → count_by hands history ≡ count_by (λ (e : Entry). is_handing e.reply) history
unfolding hands
hands_are history = refl

-- of a legal history that ends so: as many were handed as may be
pub handed_all : (setting : Setting) (history : List Entry) → Legal setting history → EndsSpent history → count_by (λ (e : Entry). is_handing e.reply) history ≡ setting.bounds.handings
handed_all setting history l ends =
    let told : List Told = l.1.told in
    let tells : entries_in told ≡ history = l.1.tells in
    let s = split-map (λ (x : Told). x.entry) told ends.front (ends.last ∷ []) (tells ∙ ends.is) in
    let count : count_by (λ (e : Entry). is_handing e.reply) history ≡ handings (entries_in told)
    = counted history ∙ ap (λ (h : List Entry). count_by (λ (e : Entry). stage.is_handing e.reply) h) (sym tells) ∙ stage.handings-told setting told l.1.allowed in
    let within : handings (entries_in told) ≤ setting.bounds.handings = legal.handings-within setting told l.1.allowed in
    let least : setting.bounds.handings ≤ handings ends.front
    = subst (λ (h : List Entry). setting.bounds.handings ≤ handings h) s.3 (reached setting told s.0 s.1 ends.last l.1.allowed s.2 s.4 ends.hand ends.refused) in
    let grown : handings ends.front ≤ handings (entries_in told)
    = subst (λ (h : List Entry). handings ends.front ≤ handings h) (sym (tells ∙ ends.is)) (handings-grow ends.front (ends.last ∷ [])) in
    omega (arith, count, within, least, grown)

any-last : (test : Entry → Bool) (front : List Entry) (last : Entry) → test last ≡ true → list_any test (front ++ last ∷ []) ≡ true
any-last test [] last e = or_left (test last) false e
any-last test (x ∷ front) last e = or_right (test x) (list_any test (front ++ last ∷ [])) (any-last test front last e)

-- and a Hand was refused for that
pub some_spent : (history : List Entry) → EndsSpent history → list_any (λ (e : Entry). is_spent e.op e.reply) history ≡ true
some_spent history ends =
    let here : is_spent ends.last.op ends.last.reply ≡ true = ap (λ (o : Op). is_spent o ends.last.reply) ends.hand ∙ ap (is_spent Hand) ends.refused in
    ap (list_any (λ (e : Entry). is_spent e.op e.reply)) ends.is ∙ any-last (λ (e : Entry). is_spent e.op e.reply) ends.front ends.last here
