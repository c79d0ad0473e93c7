-- The calls of a command, one after another.
use Rattle.std.proofs.Common.{◌≡◌, ◌≢◌, ◌≤◌, ◌<◌, ◌+◌, inl, inr, ℕ, List, [], ◌∷◌, ◌++◌, Bool, true, false, refl, sym, ap, ◌∙◌, subst, map, append_assoc, arith, length, length-append, ◌-◌}
use Rattle.std.specs.Prelude.{All}
use Rattle.std.proofs.lemmas.List.{append-nil, map-append}
use Rattle.std.proofs.lemmas.List.Elements.{All-cons, All-map, All-nil}
use Rattle.osgi_base.specs.declared.ids.Tag.{Tag}
use Rattle.osgi_ops.specs.declared.entry.Entry.{Entry}
use Rattle.osgi_ops.specs.declared.op.Op.{Op}
use Rattle.osgi_ops.specs.declared.op.Op.TheVariants.{Hand}
use Rattle.osgi_ops.specs.declared.refusal.Refusal.TheVariants.{HandingsSpent, HistoryFull}
use Rattle.osgi_ops.specs.declared.reply.Reply.{Reply}
use Rattle.osgi_ops.specs.declared.reply.Reply.TheVariants.{Refused}
use Rattle.osgi_runner.specs.Calls.{Adds, IsAnswered, IsCutShort, says_cut, says_full, says_spent}
use Rattle.osgi_runner.specs.computed.Ends.{Ends, entry_by, Made}
use Rattle.osgi_runner.specs.declared.lines.Ended.{Ended}
use Rattle.osgi_runner.specs.declared.lines.Ended.TheVariants as ended
use Rattle.osgi_session.specs.Runs.{Call, call, Follows, IsCutOf, IsSpentOf, Sections}
use Rattle.osgi_session.specs.Sessions.{call_of, IsCutRunOf, IsRunOf}
use Rattle.osgi_session.specs.declared.command.Command.{Command}
use Rattle.osgi_session.specs.declared.line.Content.TheVariants as content
use Rattle.osgi_session.specs.declared.line.Line.{Line}

no-call : (c : Call) (more : List Call) → c ∷ more ≡ [] → ⊥
no-call c more e = cc e

-- these calls were made, and with what is left of the runner they are a run
pub record IsOnTheWay (IsRun : List Call → Type 0) (tag : Tag) (before made : List Entry) (IsLeft : List Call → Type 0) : Type 0 where
  pub since : List Call
  pub is : made ≡ before ++ map (entry_by tag) since
  pub left : (calls : List Call) → IsLeft calls → IsRun (since ++ calls)

pub at-first : (IsRun : List Call → Type 0) (tag : Tag) (before : List Entry) → IsOnTheWay IsRun tag before before IsRun
at-first IsRun tag before = record { since = []; is = sym (append-nil before); left = λ calls x. x }

-- where some calls are left, they are the beginning of one
pub cut : {IsRun IsLeft : List Call → Type 0} {tag : Tag} {before made : List Entry} → IsOnTheWay IsRun tag before made IsLeft → (calls : List Call) × (calls ≢ []) × IsLeft calls → Made (IsCutOf IsRun) tag before made
cut w x = (w.since, w.is, (x.0, x.1, w.left x.0 x.2))

-- one call more, which was recorded
added : (tag : Tag) (before made after : List Entry) (since : List Call) (o : Op) (y : Reply) → made ≡ before ++ map (entry_by tag) since → after ≡ made ++ record { tag = tag; op = o; reply = y } ∷ [] →
    after ≡ before ++ map (entry_by tag) (since ++ call o y ∷ [])
added tag before made after since o y is e =
    e ∙ ap (λ (l : List Entry). l ++ record { tag = tag; op = o; reply = y } ∷ []) is ∙ append_assoc before (map (entry_by tag) since) (entry_by tag (call o y) ∷ [])
    ∙ ap (λ (l : List Entry). before ++ l) (sym (map-append (entry_by tag) since (call o y ∷ [])))

pub next-way : {IsRun IsLeft IsNext : List Call → Type 0} {tag : Tag} {before made after : List Entry} (o : Op) (y : Reply) → IsOnTheWay IsRun tag before made IsLeft →
    after ≡ made ++ record { tag = tag; op = o; reply = y } ∷ [] → ((calls : List Call) → IsNext calls → IsLeft (call o y ∷ calls)) → IsOnTheWay IsRun tag before after IsNext
next-way {IsRun} {tag = tag} {before = before} {made = made} {after = after} o y w e on = record {
  since = w.since ++ call o y ∷ [];
  is = added tag before made after w.since o y w.is e;
  left = λ calls rest. subst IsRun (sym (append_assoc w.since (call o y ∷ []) calls)) (w.left (call o y ∷ calls) (on calls rest));
}

is-spent : (y : Reply) → says_spent y ≡ true → y ≡ Refused HandingsSpent
is-spent (Refused HandingsSpent) e = refl
is-spent y e = absurd (cc e)

-- a Hand more, which was refused since enough was handed; any other reply leaves some calls
pub spent : {IsRun IsLeft : List Call → Type 0} {tag : Tag} {before made after : List Entry} (o : Op) (y : Reply) → IsOnTheWay IsRun tag before made IsLeft →
    after ≡ made ++ record { tag = tag; op = o; reply = y } ∷ [] → o ≡ Hand → says_spent y ≡ true → (reply : Reply) × (missing : List Call) × IsLeft (call o reply ∷ missing) →
    Made (IsSpentOf IsRun) tag before after
spent {IsRun} {IsLeft} {tag} {before} {made} {after} o y w e hand is x =
    let first = w.since in
    let ends : first ++ call o y ∷ [] ≡ first ++ call Hand (Refused HandingsSpent) ∷ [] = ap (λ c. first ++ c ∷ []) (ap (λ k. call k y) hand ∙ ap (call Hand) (is-spent y is)) in
    (first ++ call o y ∷ [], added tag before made after first o y w.is e, (first, x.0, x.1, ends, w.left (call Hand x.0 ∷ x.1) (subst (λ k. IsLeft (call k x.0 ∷ x.1)) hand x.2)))

-- ---- one call of a loop

full-or-spent : (y : Reply) → says_cut y ≡ true → says_full y ≡ false → says_spent y ≡ true
full-or-spent (Refused HistoryFull) c f = absurd (cc f)
full-or-spent (Refused HandingsSpent) c f = refl
full-or-spent y c f = absurd (cc c)

not-full : (y : Reply) → says_cut y ≡ false → says_full y ≡ false
not-full (Refused HistoryFull) c = absurd (cc c)
not-full y c = refl

pub not-spent : (y : Reply) → says_cut y ≡ false → says_spent y ≡ false
not-spent (Refused HandingsSpent) c = absurd (cc c)
not-spent y c = refl

-- a call that was recorded
pub recorded : (limit : ℕ) (tag : Tag) (o : Op) (y : Reply) (full : Bool) (before after : List Entry) → IsAnswered (says_full y) limit tag o y full before after → says_cut y ≡ false →
    (after ≡ before ++ record { tag = tag; op = o; reply = y } ∷ []) × (length after ≤ limit)
recorded limit tag o y full before after answered c = let a = subst (λ b. IsAnswered b limit tag o y full before after) (not-full y c) answered in (a.0, a.1)

-- where a reply of some kind leaves a run, what was made before it is cut
pub starved : {IsRun IsLeft : List Call → Type 0} {tag : Tag} {before made : List Entry} (after : List Entry) (o : Op) → IsOnTheWay IsRun tag before made IsLeft → after ≡ made →
    (reply : Reply) × (missing : List Call) × IsLeft (call o reply ∷ missing) → Made (IsCutOf IsRun) tag before after
starved {IsRun} {tag = tag} {before = before} after o w same x =
    subst (λ l. Made (IsCutOf IsRun) tag before l) (sym same) (cut w (call o x.0 ∷ x.1, (λ e. no-call (call o x.0) x.1 e), x.2))

by-full : {IsRun IsLeft : List Call → Type 0} {tag : Tag} {before made : List Entry} (limit : ℕ) (after : List Entry) (full : Bool) (o : Op) (y : Reply) (b : Bool) → says_full y ≡ b →
    IsOnTheWay IsRun tag before made IsLeft → IsAnswered b limit tag o y full made after → says_cut y ≡ true →
    (reply : Reply) × (missing : List Call) × IsLeft (call o reply ∷ missing) → Ends IsRun ended.Cut tag full before after
by-full limit after full o y true e w answered c x = inr (answered.0, starved after o w answered.1 x)
by-full limit after full o y false e w answered c x = let is = full-or-spent y c e in inl (spent o y w answered.0 (answered.2 is) is x)

pub cut-short : {IsRun IsLeft : List Call → Type 0} {tag : Tag} {before made : List Entry} (limit : ℕ) (after : List Entry) (full : Bool) (o : Op) (y : Reply) →
    IsOnTheWay IsRun tag before made IsLeft → IsAnswered (says_full y) limit tag o y full made after → says_cut y ≡ true →
    (reply : Reply) × (missing : List Call) × IsLeft (call o reply ∷ missing) → Ends IsRun ended.Cut tag full before after
cut-short limit after full o y w answered c x = by-full limit after full o y (says_full y) refl w answered c x

-- ---- a call, as the loop makes it: the caller's number is the one at the start, and nothing was made since the last call

abbrev pub tag_of : ℕ → ℕ → Tag
tag_of caller line = record { caller = caller; command = line }

pub one-call : {IsRun IsLeft IsNext : List Call → Type 0} (limit line caller same : ℕ) (first made here after : List Entry) (full : Bool) (o : Op) (y : Reply) → same ≡ caller → here ≡ made →
    IsOnTheWay IsRun (tag_of caller line) first made IsLeft → IsAnswered (says_full y) limit (tag_of same line) o y full here after → says_cut y ≡ false →
    ((calls : List Call) → IsNext calls → IsLeft (call o y ∷ calls)) → IsOnTheWay IsRun (tag_of caller line) first after IsNext
one-call {IsRun} limit line caller same first made here after full o y e f w answered c on =
    let r = recorded limit (tag_of same line) o y full here after answered c in
    let is : after ≡ made ++ record { tag = tag_of caller line; op = o; reply = y } ∷ [] =
    r.0 ∙ ap (λ (l : List Entry). l ++ record { tag = tag_of same line; op = o; reply = y } ∷ []) f ∙ ap (λ n. made ++ record { tag = tag_of n line; op = o; reply = y } ∷ []) e in
    next-way o y w is on

pub one-cut : {IsRun IsLeft : List Call → Type 0} (limit line caller same : ℕ) (first made here after : List Entry) (full : Bool) (o : Op) (y : Reply) → same ≡ caller → here ≡ made →
    IsOnTheWay IsRun (tag_of caller line) first made IsLeft → IsAnswered (says_full y) limit (tag_of same line) o y full here after → says_cut y ≡ true →
    (reply : Reply) × (missing : List Call) × IsLeft (call o reply ∷ missing) → Ends IsRun ended.Cut (tag_of caller line) full first after
one-cut {IsRun} {IsLeft} limit line caller same first made here after full o y e f w answered c x =
    let w' = subst (λ l. IsOnTheWay IsRun (tag_of caller line) first l IsLeft) (sym f) w in
    let answered' = subst (λ n. IsAnswered (says_full y) limit (tag_of n line) o y full here after) e answered in
    cut-short limit after full o y w' answered' c x

falls : (limit before after : ℕ) → after ≡ before + 1 → after ≤ limit → limit - after < limit - before
falls limit before after e le = omega arith

pub call-falls : (limit : ℕ) (tag : Tag) (before after : List Entry) (full : Bool) (o : Op) (y : Reply) → IsAnswered (says_full y) limit tag o y full before after → says_cut y ≡ false →
    limit - length after < limit - length before
call-falls limit tag before after full o y answered c =
    let r = recorded limit tag o y full before after answered c in
    falls limit (length before) (length after) (ap length r.0 ∙ length-append before (record { tag = tag; op = o; reply = y } ∷ [])) r.1

-- ---- runs of one kind are runs of another

made-so : (P Q : List Call → Type 0) (tag : Tag) (before after : List Entry) → ((calls : List Call) → P calls → Q calls) → Made P tag before after → Made Q tag before after
made-so P Q tag before after f m = (m.0, m.1, f m.0 m.2)

pub cut-so : (P Q : List Call → Type 0) (tag : Tag) (before after : List Entry) → ((calls : List Call) → P calls → Q calls) → Made (IsCutOf P) tag before after → Made (IsCutOf Q) tag before after
cut-so P Q tag before after f m = let c = m.2 in (m.0, m.1, (c.0, c.1, f (m.0 ++ c.0) c.2))

spent-so : (P Q : List Call → Type 0) (tag : Tag) (before after : List Entry) → ((calls : List Call) → P calls → Q calls) → Made (IsSpentOf P) tag before after → Made (IsSpentOf Q) tag before after
spent-so P Q tag before after f m = let c = m.2 in (m.0, m.1, (c.0, c.1, c.2, c.3, f (c.0 ++ call Hand c.1 ∷ c.2) c.4))

pub ends-so : (P Q : List Call → Type 0) (tag : Tag) (full : Bool) (before after : List Entry) (how : Ended) → ((calls : List Call) → P calls → Q calls) → Ends P how tag full before after →
    Ends Q how tag full before after
ends-so P Q tag full before after ended.Done f m = made-so P Q tag before after f m
ends-so P Q tag full before after ended.Cut f (inl m) = inl (spent-so P Q tag before after f m)
ends-so P Q tag full before after ended.Cut f (inr m) = inr (m.0, cut-so P Q tag before after f m.1)

pub one-falls : (new here old : ℕ) (tag : Tag) (made mid after : List Entry) (full : Bool) (o : Op) (y : Reply) → new ≡ here → here ≡ old → mid ≡ made →
    IsAnswered (says_full y) here tag o y full mid after → says_cut y ≡ false → new - length after < old - length made
one-falls new here old tag made mid after full o y e f same answered c =
    subst (λ n. n - length after < old - length made) (sym e)
    (subst (λ n. here - length after < n - length made) f (subst (λ (l : List Entry). here - length after < here - length l) same (call-falls here tag mid after full o y answered c)))

-- ---- the entries of a line

pub calls-of : (tag : Tag) (calls : List Call) → map call_of (map (entry_by tag) calls) ≡ calls
calls-of tag [] = refl
calls-of tag (c ∷ calls) = ap (λ (l : List Call). c ∷ l) (calls-of tag calls)

each : (tag : Tag) (calls : List Call) → All (λ (c : Call). tag ≡ tag) calls
each tag [] = All-nil (λ (c : Call). tag ≡ tag)
each tag (c ∷ calls) = All-cons (λ (c : Call). tag ≡ tag) c calls refl (each tag calls)

pub tagged : (tag : Tag) (calls : List Call) → All (λ (e : Entry). e.tag ≡ tag) (map (entry_by tag) calls)
tagged tag calls = All-map (λ (e : Entry). e.tag ≡ tag) (entry_by tag) calls (each tag calls)

pub run-of : (script : Sections) (caller : ℕ) (before after : List Entry) (line : Line) (c : Command) → line.content ≡ content.Run c →
    Made (Follows script c) (tag_of caller line.number) before after → Adds (IsRunOf script caller line) before after
run-of script caller before after line c says m = (
  map (entry_by (tag_of caller line.number)) m.0,
  m.1,
  record { command = c; says = says; tagged = tagged (tag_of caller line.number) m.0; follows = subst (λ (l : List Call). Follows script c l) (sym (calls-of (tag_of caller line.number) m.0)) m.2 },
)

pub cut-of : (script : Sections) (caller : ℕ) (before after : List Entry) (line : Line) (c : Command) → line.content ≡ content.Run c →
    Made (IsCutOf (Follows script c)) (tag_of caller line.number) before after → Adds (IsCutRunOf script caller line false) before after
cut-of script caller before after line c says m = (
  map (entry_by (tag_of caller line.number)) m.0,
  m.1,
  record { command = c; says = says; tagged = tagged (tag_of caller line.number) m.0; cut = subst (λ (l : List Call). IsCutOf (Follows script c) l) (sym (calls-of (tag_of caller line.number) m.0)) m.2 },
)

spent-of : (script : Sections) (caller : ℕ) (before after : List Entry) (line : Line) (c : Command) → line.content ≡ content.Run c →
    Made (IsSpentOf (Follows script c)) (tag_of caller line.number) before after → Adds (IsCutRunOf script caller line true) before after
spent-of script caller before after line c says m = (
  map (entry_by (tag_of caller line.number)) m.0,
  m.1,
  record { command = c; says = says; tagged = tagged (tag_of caller line.number) m.0; cut = subst (λ (l : List Call). IsSpentOf (Follows script c) l) (sym (calls-of (tag_of caller line.number) m.0)) m.2 },
)

pub done-of : (script : Sections) (caller : ℕ) (full : Bool) (before after : List Entry) (line : Line) (c : Command) → line.content ≡ content.Run c → (how : Ended) →
    Ends (Follows script c) how (tag_of caller line.number) full before after → how ≡ ended.Done → Adds (IsRunOf script caller line) before after
done-of script caller full before after line c says ended.Done m e = run-of script caller before after line c says m
done-of script caller full before after line c says ended.Cut m e = absurd (cc e)

pub short-of : (script : Sections) (caller : ℕ) (full : Bool) (before after : List Entry) (line : Line) (c : Command) → line.content ≡ content.Run c → (how : Ended) →
    Ends (Follows script c) how (tag_of caller line.number) full before after → how ≡ ended.Cut → IsCutShort script caller line full before after
short-of script caller full before after line c says ended.Done m e = absurd (cc e)
short-of script caller full before after line c says ended.Cut (inl m) e = inl (spent-of script caller before after line c says m)
short-of script caller full before after line c says ended.Cut (inr m) e = inr (m.0, cut-of script caller before after line c says m.1)
