-- `full` is written for exactly the lines whose run was cut, in a legal history that lines of lane 0 made.
use Rattle.std.proofs.Common.{◌≡◌, ◌≢◌, ◌⊎◌, inl, inr, ◌≤◌, ◌<◌, ◌+◌, ℕ, List, [], ◌∷◌, ◌++◌, append_assoc, append-nil, Bool, true, false, refl, sym, ap, ◌∙◌, subst, arith}
use Rattle.std.specs.Prelude.{◌&&◌, ◌||◌, not, cond, All, ⊤}
use Rattle.std.specs.List.{list_any}
use Rattle.std.proofs.lemmas.Bool.{and_from, and_right, eq-eqb, ne_eqb, not_from_false, not_from_true, or_from, or_left, or_right}
use Rattle.std.proofs.lemmas.List.Elements.{All-append, All-cons, All-head, All-nil, All-tail, All-weaker, filter-append}
use Rattle.osgi_base.specs.declared.ids.Tag.{Tag}
use Rattle.osgi_ops.specs.Brackets.{Bracket, brackets_of}
use Rattle.osgi_ops.specs.Callers.{by}
use Rattle.osgi_legal.specs.Legal.{Legal}
use Rattle.osgi_ops.specs.Moments.{entries_in}
use Rattle.osgi_ops.specs.Settings.{Setting}
use Rattle.osgi_ops.specs.declared.entry.Entry.{Entry}
use Rattle.osgi_session.specs.Lines.{entries_of, has_command, is_of}
use Rattle.osgi_session.specs.Rendering.{ends_without_job, is_full, IsFullWhereCut}
use Rattle.osgi_session.specs.Runs.{Sections}
use Rattle.osgi_session.specs.Sessions.{AreTagged, cut, IsRunOf, IsWhole, Lane, Never, over, ran}
use Rattle.osgi_session.specs.declared.line.Line.{Line}
use Rattle.osgi_runs.proofs.Due.{AreDue, owned}
use Rattle.osgi_runs.proofs.Ended.{cut-run-not-ended, cut-run-not-whole, nothing-not-whole, run-ended}
use Rattle.osgi_runs.proofs.Plain.{blocks-plain, makes-lane}
use Rattle.osgi_runs.specs.Plain.{AreNumberedFrom, commands_in, IsPlain}
use Rattle.osgi_runs.proofs.Sessions.{all-by, HasTag, IsBy, run-closed}

-- ---- numbers of lines

abbrev runs : Line → Bool
runs line = has_command line.content

-- rising, from this number on
abbrev pub AreRisingFrom : ℕ → List Line → Type 0
AreRisingFrom number [] = ⊤
AreRisingFrom number (line ∷ lines) = (number ≤ line.number) × AreRisingFrom (line.number + 1) lines

rising-weaker : (first second : ℕ) (lines : List Line) → first ≤ second → AreRisingFrom second lines → AreRisingFrom first lines
rising-weaker first second [] less r = tt
rising-weaker first second (line ∷ lines) less r = (omega (arith, less, r.0), r.1)

pub numbered-rising : (number : ℕ) (lines : List Line) → AreNumberedFrom number lines → AreRisingFrom number (commands_in lines)
numbered-rising number [] n = tt
numbered-rising number (line ∷ lines) n = go (runs line) (numbered-rising (number + 1) lines n.1)
  where
    go : (k : Bool) → AreRisingFrom (number + 1) (commands_in lines) → AreRisingFrom number (cond k (line ∷ commands_in lines) (commands_in lines))
    go true r = (omega (arith, n.0), rising-weaker (line.number + 1) (number + 1) (commands_in lines) (omega (arith, n.0)) r)
    go false r = rising-weaker number (number + 1) (commands_in lines) (omega arith) r

abbrev IsFrom : ℕ → Entry → Type 0
IsFrom number e = number ≤ e.tag.command

abbrev IsBefore : ℕ → Entry → Type 0
IsBefore number e = e.tag.command < number

tagged-number : (caller : ℕ) (line : Line) (e : Entry) → HasTag caller line e → e.tag.command ≡ line.number
tagged-number caller line e t = ap (λ (g : Tag). g.command) t

lane-from : {script : Sections} {lawful : Bool → Type 0} {was_cut : Bool} {lines : List Line} {history : List Entry} → Lane script lawful 0 was_cut lines history →
    (number : ℕ) → AreRisingFrom number lines → All (IsFrom number) history
lane-from over number r = All-nil (IsFrom number)
lane-from (ran {line = line} {lines = lines} {entries = entries} {rest = rest} x y) number r =
    All-append (IsFrom number) entries rest (All-weaker (HasTag 0 line) (IsFrom number) (λ e t. (let same = tagged-number 0 line e t in omega (arith, same, r.0))) entries x.tagged)
    (lane-from y number (rising-weaker number (line.number + 1) lines (omega (arith, r.0)) r.1))
lane-from (cut {line = line} {entries = entries} k l) number r =
    All-weaker (HasTag 0 line) (IsFrom number) (λ e t. (let same = tagged-number 0 line e t in omega (arith, same, r.0))) entries k.tagged

-- ---- the entries of a line

of-all : (line : Line) (entries : List Entry) → AreTagged 0 line entries → entries_of line entries ≡ entries
of-all line [] t = refl
of-all line (e ∷ rest) t =
    ap (λ k. cond k (e ∷ entries_of line rest) (entries_of line rest)) (eq-eqb e.tag.command line.number (tagged-number 0 line e (All-head (HasTag 0 line) e rest t)))
    ∙ ap (λ l. e ∷ l) (of-all line rest (All-tail (HasTag 0 line) e rest t))

abbrev IsOther : Line → Entry → Type 0
IsOther line e = e.tag.command ≢ line.number

of-none : (line : Line) (entries : List Entry) → All (IsOther line) entries → entries_of line entries ≡ []
of-none line [] a = refl
of-none line (e ∷ rest) a =
    ap (λ k. cond k (e ∷ entries_of line rest) (entries_of line rest)) (ne_eqb e.tag.command line.number (All-head (IsOther line) e rest a))
    ∙ of-none line rest (All-tail (IsOther line) e rest a)

of-before : (line : Line) (entries : List Entry) → All (IsBefore line.number) entries → entries_of line entries ≡ []
of-before line entries a = of-none line entries (All-weaker (IsBefore line.number) (IsOther line) (λ e b q. absurd (omega (arith, b, q))) entries a)

of-after : (line : Line) (entries : List Entry) → All (IsFrom (line.number + 1)) entries → entries_of line entries ≡ []
of-after line entries a = of-none line entries (All-weaker (IsFrom (line.number + 1)) (IsOther line) (λ e b q. absurd (omega (arith, b, q))) entries a)

-- what lies between is the line's
of-between : (line : Line) (front entries rest : List Entry) → All (IsBefore line.number) front → AreTagged 0 line entries → All (IsFrom (line.number + 1)) rest →
    entries_of line (front ++ (entries ++ rest)) ≡ entries
of-between line front entries rest a t b =
    filter-append (is_of line.number) front (entries ++ rest)
    ∙ ap (λ l. l ++ entries_of line (entries ++ rest)) (of-before line front a)
    ∙ filter-append (is_of line.number) entries rest
    ∙ ap (λ l. entries_of line entries ++ l) (of-after line rest b)
    ∙ append-nil (entries_of line entries)
    ∙ of-all line entries t

-- ---- what a history tells of a line

-- its entries are its whole run, and they end without a job
abbrev pub IsRun : Sections → List Entry → Line → Type 0
IsRun script history line = IsRunOf script 0 line (entries_of line history) × (ends_without_job (entries_of line history) ≡ true)

-- they are a whole run of no caller, and do not end so
abbrev pub IsNoRun : Sections → List Entry → Line → Type 0
IsNoRun script history line = ((caller : ℕ) → IsRunOf script caller line (entries_of line history) → ⊥) × (ends_without_job (entries_of line history) ≡ false)

abbrev pub IsToldOf : Sections → List Entry → Line → Type 0
IsToldOf script history line = IsRun script history line ⊎ IsNoRun script history line

none-left : {script : Sections} (line : Line) (history : List Entry) → entries_of line history ≡ [] → IsNoRun script history line
none-left {script} line history e =
    subst (λ l. ((caller : ℕ) → IsRunOf script caller line l → ⊥) × (ends_without_job l ≡ false)) (sym e) ((λ caller r. nothing-not-whole r.follows), refl)

never-begun : {script : Sections} (number : ℕ) (lines : List Line) (history : List Entry) → AreRisingFrom number lines → All (IsBefore number) history → All (IsToldOf script history) lines
never-begun {script} number [] history r a = All-nil (IsToldOf script history)
never-begun {script} number (line ∷ lines) history r a =
    let more : (bound : ℕ) → number ≤ bound → All (IsBefore bound) history = λ bound less. All-weaker (IsBefore number) (IsBefore bound) (λ e b. omega (arith, b, less)) history a in
    All-cons (IsToldOf script history) line lines (inr (none-left line history (of-before line history (more line.number r.0))))
    (never-begun (line.number + 1) lines history r.1 (more (line.number + 1) (omega (arith, r.0))))

front-more : (line : Line) (front entries : List Entry) → All (IsBefore line.number) front → AreTagged 0 line entries → All (IsBefore (line.number + 1)) (front ++ entries)
front-more line front entries a t =
    All-append (IsBefore (line.number + 1)) front entries
    (All-weaker (IsBefore line.number) (IsBefore (line.number + 1)) (λ e b. omega (arith, b)) front a)
    (All-weaker (HasTag 0 line) (IsBefore (line.number + 1)) (λ e t. (let same = tagged-number 0 line e t in omega (arith, same))) entries t)

front-weaker : (number : ℕ) (line : Line) (front : List Entry) → number ≤ line.number → All (IsBefore number) front → All (IsBefore line.number) front
front-weaker number line front less a = All-weaker (IsBefore number) (IsBefore line.number) (λ e b. omega (arith, b, less)) front a

told-of : {script : Sections} {lawful : Bool → Type 0} {was_cut : Bool} {lines : List Line} {made : List Entry} (after : List Bracket → Type 0) → Lane script lawful 0 was_cut lines made →
    (number : ℕ) (front : List Entry) → AreRisingFrom number lines → All (IsBefore number) front → AreDue after [] made → All (IsToldOf script (front ++ made)) lines
told-of {script} after over number front r a d = All-nil (IsToldOf script (front ++ []))
told-of {script} after (ran {line = line} {lines = lines} {entries = entries} {rest = rest} x y) number front r a d =
    let history = front ++ (entries ++ rest) in
    let before = front-weaker number line front r.0 a in
    let own : entries_of line history ≡ entries = of-between line front entries rest before x.tagged (lane-from y (line.number + 1) r.1) in
    let here : IsRun script history line = subst (λ l. IsRunOf script 0 line l × (ends_without_job l ≡ true)) (sym own) (x, run-ended after entries rest x d) in
    let more = told-of after y (line.number + 1) (front ++ entries) r.1 (front-more line front entries before x.tagged) (run-closed after entries rest x d) in
    All-cons (IsToldOf script history) line lines (inl here) (subst (λ h. All (IsToldOf script h) lines) (append_assoc front entries rest) more)
told-of {script} after (cut {spent = spent} {line = line} {lines = lines} {entries = entries} k l) number front r a d =
    let history = front ++ entries in
    let before = front-weaker number line front r.0 a in
    let own : entries_of line history ≡ entries =
    ap (λ l. entries_of line (front ++ l)) (sym (append-nil entries)) ∙ of-between line front entries [] before k.tagged (All-nil (IsFrom (line.number + 1))) in
    let here : IsNoRun script history line =
    subst (λ l. ((caller : ℕ) → IsRunOf script caller line l → ⊥) × (ends_without_job l ≡ false)) (sym own)
    ((λ caller r. cut-run-not-whole spent entries k r), cut-run-not-ended spent entries k) in
    All-cons (IsToldOf script history) line lines (inr here) (never-begun (line.number + 1) lines history r.1 (front-more line front entries before k.tagged))

-- so `full` tells whether it is whole
full-of : {script : Sections} (history : List Entry) (line : Line) → IsToldOf script history line → IsFullWhereCut script history line
full-of history line (inl told) has = ((λ e. (0, told.0)), (λ r. and_right (has_command line.content) _ (not_from_true _ told.1)))
full-of history line (inr told) has =
    ((λ e. absurd (let bad : true ≡ false = sym (and_from (has_command line.content) _ has (not_from_false _ told.1)) ∙ e in cc bad)), (λ r. absurd (told.0 r.0 r.1)))

-- ---- lines without a command

idle-full : {script : Sections} (history : List Entry) (line : Line) → has_command line.content ≡ false → IsFullWhereCut script history line
idle-full history line none has = absurd (let bad : true ≡ false = sym has ∙ none in cc bad)

all-full : {script : Sections} (history : List Entry) (lines : List Line) → All (IsFullWhereCut script history) (commands_in lines) → All (IsFullWhereCut script history) lines
all-full {script} history [] a = All-nil (IsFullWhereCut script history)
all-full {script} history (line ∷ lines) a = go (runs line) refl a (all-full history lines)
  where
    Full : Line → Type 0
    Full = IsFullWhereCut script history

    go : (k : Bool) → runs line ≡ k → All Full (cond k (line ∷ commands_in lines) (commands_in lines)) → (All Full (commands_in lines) → All Full lines) → All Full (line ∷ lines)
    go true e b ih = All-cons Full line lines (All-head Full line (commands_in lines) b) (ih (All-tail Full line (commands_in lines) b))
    go false e b ih = All-cons Full line lines (idle-full history line e) (ih b)

-- ---- the session

lane-by : {script : Sections} {lawful : Bool → Type 0} {was_cut : Bool} {lines : List Line} {made : List Entry} → Lane script lawful 0 was_cut lines made → All (IsBy 0) made
lane-by over = All-nil (IsBy 0)
lane-by (ran {line = line} {entries = entries} {rest = rest} x y) =
    All-append (IsBy 0) entries rest (All-weaker (HasTag 0 line) (IsBy 0) (λ e t. ap (λ (g : Tag). g.caller) t) entries x.tagged) (lane-by y)
lane-by (cut {line = line} {entries = entries} k l) = All-weaker (HasTag 0 line) (IsBy 0) (λ e t. ap (λ (g : Tag). g.caller) t) entries k.tagged

-- a legal history of caller 0 alone is due to it
due-of : (setting : Setting) (history : List Entry) → Legal setting history → All (IsBy 0) history → (after : List Bracket → Type 0) × AreDue after [] history
due-of setting history legal all =
    let told = legal.1.told in
    let is : entries_in told ≡ history = legal.1.tells in
    let due = owned setting 0 [] told legal.1.allowed in
    ((λ own. own ≡ brackets_of 0 (entries_in told)), subst (AreDue (λ own. own ≡ brackets_of 0 (entries_in told)) []) (ap (by 0) is ∙ all-by 0 history all) due)

-- Of lines that are numbered from 1 and are all of lane 0, in a legal history that they made: a line with a command is not full exactly
-- where its entries are its whole run.
pub full-where-cut : (setting : Setting) (script : Sections) (limit status : ℕ) (lines : List Line) (history : List Entry) → Legal setting history → AreNumberedFrom 1 lines → All IsPlain lines →
    IsWhole script limit status lines history → All (IsFullWhereCut script history) lines
full-where-cut setting script limit status lines history legal numbered flat whole =
    let lane = makes-lane whole (commands_in lines) (blocks-plain lines flat) in
    let due = due-of setting history legal (lane-by lane.1) in
    let told = told-of due.0 lane.1 1 [] (numbered-rising 1 lines numbered) (All-nil (IsBefore 1)) due.1 in
    all-full history lines (All-weaker (IsToldOf script history) (IsFullWhereCut script history) (full-of history) (commands_in lines) told)

-- ---- which lines are full

commands-full : (history : List Entry) (lines : List Line) → list_any (is_full history) lines ≡ list_any (is_full history) (commands_in lines)
commands-full history [] = refl
commands-full history (line ∷ lines) = go (runs line) refl (commands-full history lines)
  where
    go : (k : Bool) → runs line ≡ k → list_any (is_full history) lines ≡ list_any (is_full history) (commands_in lines) →
        (is_full history line || list_any (is_full history) lines) ≡ list_any (is_full history) (cond k (line ∷ commands_in lines) (commands_in lines))
    go true e ih = ap (λ k. is_full history line || k) ih
    go false e ih = ap (λ k. (k && not (ends_without_job (entries_of line history))) || list_any (is_full history) lines) e ∙ ih

none-full-of : {script : Sections} {was_cut : Bool} {lines : List Line} {made : List Entry} (after : List Bracket → Type 0) → Lane script Never 0 was_cut lines made →
    (number : ℕ) (front : List Entry) → AreRisingFrom number lines → All (IsBefore number) front → AreDue after [] made → list_any (is_full (front ++ made)) lines ≡ false
none-full-of after over number front r a d = refl
none-full-of after (ran {line = line} {lines = lines} {entries = entries} {rest = rest} x y) number front r a d =
    let history = front ++ (entries ++ rest) in
    let before = front-weaker number line front r.0 a in
    let own : entries_of line history ≡ entries = of-between line front entries rest before x.tagged (lane-from y (line.number + 1) r.1) in
    let here : is_full history line ≡ false = and_right (has_command line.content) _ (not_from_true _ (ap ends_without_job own ∙ run-ended after entries rest x d)) in
    let more = none-full-of after y (line.number + 1) (front ++ entries) r.1 (front-more line front entries before x.tagged) (run-closed after entries rest x d) in
    or_from (is_full history line) (list_any (is_full history) lines) here (subst (λ h. list_any (is_full h) lines ≡ false) (append_assoc front entries rest) more)
none-full-of after (cut k never) number front r a d = absurd never

-- where no run was cut no line is full
pub none-full : (setting : Setting) (script : Sections) (lines : List Line) (history : List Entry) → Legal setting history → AreNumberedFrom 1 lines →
    Lane script Never 0 false (commands_in lines) history → list_any (is_full history) lines ≡ false
none-full setting script lines history legal numbered lane =
    let due = due-of setting history legal (lane-by lane) in
    commands-full history lines ∙ none-full-of due.0 lane 1 [] (numbered-rising 1 lines numbered) (All-nil (IsBefore 1)) due.1

some-full-of : {script : Sections} {lawful : Bool → Type 0} {was_cut : Bool} {lines : List Line} {made : List Entry} → Lane script lawful 0 was_cut lines made → was_cut ≡ true →
    (number : ℕ) (front : List Entry) → AreRisingFrom number lines → All (IsBefore number) front → list_any (is_full (front ++ made)) lines ≡ true
some-full-of over c number front r a = absurd (cc c)
some-full-of (ran {line = line} {lines = lines} {entries = entries} {rest = rest} x y) c number front r a =
    let history = front ++ (entries ++ rest) in
    let before = front-weaker number line front r.0 a in
    let more = some-full-of y c (line.number + 1) (front ++ entries) r.1 (front-more line front entries before x.tagged) in
    or_right (is_full history line) (list_any (is_full history) lines) (subst (λ h. list_any (is_full h) lines ≡ true) (append_assoc front entries rest) more)
some-full-of (cut {spent = spent} {line = line} {lines = lines} {entries = entries} k l) c number front r a =
    let history = front ++ entries in
    let before = front-weaker number line front r.0 a in
    let own : entries_of line history ≡ entries =
    ap (λ l. entries_of line (front ++ l)) (sym (append-nil entries)) ∙ of-between line front entries [] before k.tagged (All-nil (IsFrom (line.number + 1))) in
    let has : has_command line.content ≡ true = ap has_command k.says in
    or_left (is_full history line) (list_any (is_full history) lines) (and_from (has_command line.content) _ has (not_from_false _ (ap ends_without_job own ∙ cut-run-not-ended spent entries k)))

-- where a run was cut some line is full
pub some-full : (script : Sections) (lawful : Bool → Type 0) (lines : List Line) (history : List Entry) → AreNumberedFrom 1 lines →
    Lane script lawful 0 true (commands_in lines) history → list_any (is_full history) lines ≡ true
some-full script lawful lines history numbered lane =
    commands-full history lines ∙ some-full-of lane refl 1 [] (numbered-rising 1 lines numbered) (All-nil (IsBefore 1))
