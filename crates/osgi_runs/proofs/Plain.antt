-- Sessions whose lines are all of lane 0: their lines run one after another, as one lane of caller 0.
use Rattle.std.proofs.Common.{◌≡◌, ℕ, List, [], ◌∷◌, ◌++◌, map, append_assoc, append-nil, Bool, true, false, refl, sym, ap, ◌∙◌, subst}
use Rattle.std.specs.Prelude.{◌==◌, not, cond, All}
use Rattle.std.proofs.lemmas.Bool.{eq-eqb}
use Rattle.std.proofs.lemmas.List.Elements.{All-head, All-tail, filter-append}
use Rattle.osgi_ops.specs.declared.entry.Entry.{Entry}
use Rattle.osgi_runs.specs.Plain.{commands_in, IsPlain}
use Rattle.osgi_session.specs.Lines.{has_command}
use Rattle.osgi_session.specs.Runs.{Sections}
use Rattle.osgi_session.specs.Sessions.{Block, blocks, blocks_after, cut, IsCutRunOf, is_join, IsRunOf, Lane, lanes, lanes_cut, Makes, Never, over, plain, ran}
use Rattle.osgi_session.specs.declared.command.Command.{Command}
use Rattle.osgi_session.specs.declared.line.Content.{Content}
use Rattle.osgi_session.specs.declared.line.Content.TheVariants as content
use Rattle.osgi_session.specs.declared.line.Line.{Line}

abbrev runs : Line → Bool
runs line = has_command line.content

block-of : (number lane : ℕ) (says : Content) (is_zero : Bool) → is_zero ≡ true → (rest more : List Block) (others : List Line) → rest ≡ map plain others →
    cond (is_join (record { number = number; lane = lane; content = says })) rest
    (cond (not (has_command says)) rest (cond is_zero (plain (record { number = number; lane = lane; content = says }) ∷ rest) more))
    ≡ map plain (cond (has_command says) (record { number = number; lane = lane; content = says } ∷ others) others)
block-of number lane content.Empty is_zero z rest more others e = e
block-of number lane content.Join is_zero z rest more others e = e
block-of number lane content.Bad is_zero z rest more others e = e
block-of number lane (content.Run c) true z rest more others e = ap (λ l. plain (record { number = number; lane = lane; content = content.Run c }) ∷ l) e
block-of number lane (content.Run c) false z rest more others e = absurd (cc z)

-- each line with a command is a block of its own
pub blocks-plain : (lines : List Line) → All IsPlain lines → blocks lines ≡ map plain (commands_in lines)
blocks-plain [] all = refl
blocks-plain (line ∷ rest) all =
    block-of line.number line.lane line.content (line.lane == 0) (eq-eqb line.lane 0 (All-head IsPlain line rest all)) (blocks rest) (blocks_after (line ∷ []) rest) (commands_in rest)
    (blocks-plain rest (All-tail IsPlain line rest all))

-- what the lines of lane 0 make is what one lane of caller 0 makes of them
pub lane-makes : {script : Sections} {lawful : Bool → Type 0} {was_cut : Bool} {lines : List Line} {history : List Entry} (next : ℕ) → Lane script lawful 0 was_cut lines history →
    Makes script lawful next (map plain lines) history
lane-makes next over = over
lane-makes next (ran r x) = ran r (lane-makes next x)
lane-makes next (cut c l) = cut c l

pub makes-lane : {script : Sections} {lawful : Bool → Type 0} {next : ℕ} {more : List Block} {history : List Entry} → Makes script lawful next more history →
    (lines : List Line) → more ≡ map plain lines → (was_cut : Bool) × Lane script lawful 0 was_cut lines history
makes-lane over [] e = (false, over)
makes-lane over (line ∷ lines) e = absurd (cc e)
makes-lane (ran r x) [] e = absurd (cc e)
makes-lane {script} {lawful} (ran {line = l} {entries = entries} {rest = rest} r x) (line ∷ lines) e =
    let same : l ≡ line = cc e in
    let y = makes-lane x lines (cc e) in
    (y.0, ran (subst (λ k. IsRunOf script 0 k entries) same r) y.1)
makes-lane (cut c l) [] e = absurd (cc e)
makes-lane {script} {lawful} {history = history} (cut {line = l} c allowed) (line ∷ lines) e =
    let same : l ≡ line = cc e in
    (true, subst (λ k. Lane script lawful 0 true (k ∷ lines) history) same (cut c allowed))
makes-lane (lanes each part from a none x) [] e = absurd (cc e)
makes-lane (lanes each part from a none x) (line ∷ lines) e = absurd (cc e)
makes-lane (lanes_cut each part from a some) [] e = absurd (cc e)
makes-lane (lanes_cut each part from a some) (line ∷ lines) e = absurd (cc e)

-- lines without a cut, and lines after them
pub lane-append : {script : Sections} {lawful : Bool → Type 0} {caller : ℕ} {first_cut was_cut : Bool} {first more : List Line} {made rest : List Entry} →
    Lane script Never caller first_cut first made → Lane script lawful caller was_cut more rest → Lane script lawful caller was_cut (first ++ more) (made ++ rest)
lane-append over y = y
lane-append {script} {lawful} {caller} {was_cut = b} {more = more} {rest = last} (ran {line = line} {lines = lines} {entries = entries} {rest = rest} r x) y =
    subst (λ l. Lane script lawful caller b (line ∷ (lines ++ more)) l) (sym (append_assoc entries rest last)) (ran r (lane-append x y))
lane-append (cut c never) y = absurd never

pub lane-weaker : {script : Sections} (first second : Bool → Type 0) {caller : ℕ} {was_cut : Bool} {lines : List Line} {made : List Entry} → ((spent : Bool) → first spent → second spent) →
    Lane script first caller was_cut lines made → Lane script second caller was_cut lines made
lane-weaker first second weaker over = over
lane-weaker first second weaker (ran r x) = ran r (lane-weaker first second weaker x)
lane-weaker first second weaker (cut {spent = spent} c allowed) = cut c (weaker spent allowed)

-- ---- one line after another

-- a line that has a command is the next of them, and any other counts for nothing
pub next-command : (front : List Line) (line : Line) → has_command line.content ≡ true → commands_in (front ++ line ∷ []) ≡ commands_in front ++ line ∷ []
next-command front line has = filter-append runs front (line ∷ []) ∙ ap (λ k. commands_in front ++ cond k (line ∷ []) []) has

pub no-command : (front : List Line) (line : Line) → has_command line.content ≡ false → commands_in (front ++ line ∷ []) ≡ commands_in front
no-command front line none = filter-append runs front (line ∷ []) ∙ ap (λ k. commands_in front ++ cond k (line ∷ []) []) none ∙ append-nil (commands_in front)

pub command-runs : (line : Line) (c : Command) → line.content ≡ content.Run c → has_command line.content ≡ true
command-runs line c e = ap has_command e

-- the lines so far ran, and one more: they make the history so far
pub ran-more : {script : Sections} (front : List Line) (line : Line) (made entries : List Entry) → Lane script Never 0 false (commands_in front) made → IsRunOf script 0 line entries →
    Lane script Never 0 false (commands_in (front ++ line ∷ [])) (made ++ entries)
ran-more {script} front line made entries x r =
    let one : Lane script Never 0 false (line ∷ []) entries = subst (Lane script Never 0 false (line ∷ [])) (append-nil entries) (ran r over) in
    subst (λ l. Lane script Never 0 false l (made ++ entries)) (sym (next-command front line (command-runs line r.command r.says))) (lane-append x one)

pub idle-more : {script : Sections} (front : List Line) (line : Line) (made : List Entry) → Lane script Never 0 false (commands_in front) made → has_command line.content ≡ false →
    Lane script Never 0 false (commands_in (front ++ line ∷ [])) made
idle-more {script} front line made x none = subst (λ l. Lane script Never 0 false l made) (sym (no-command front line none)) x

-- the run of a line was cut, where that may be: no later line counts
pub cut-there : {script : Sections} {lawful : Bool → Type 0} (front : List Line) (line : Line) (rest : List Line) (spent : Bool) (made entries : List Entry) →
    Lane script Never 0 false (commands_in front) made → IsCutRunOf script 0 line spent entries → lawful spent → Lane script lawful 0 true (commands_in (front ++ line ∷ rest)) (made ++ entries)
cut-there {script} {lawful} front line rest spent made entries x k allowed =
    let has : has_command line.content ≡ true = command-runs line k.command k.says in
    let split : commands_in (front ++ line ∷ rest) ≡ commands_in front ++ line ∷ commands_in rest =
    filter-append runs front (line ∷ rest) ∙ ap (λ b. commands_in front ++ cond b (line ∷ commands_in rest) (commands_in rest)) has in
    subst (λ l. Lane script lawful 0 true l (made ++ entries)) (sym split) (lane-append x (cut k allowed))

-- in the end they make the whole history, block by block
pub lane-whole : {script : Sections} {lawful : Bool → Type 0} {was_cut : Bool} (lines : List Line) (history : List Entry) → All IsPlain lines → Lane script lawful 0 was_cut (commands_in lines) history →
    Makes script lawful 1 (blocks lines) history
lane-whole {script} {lawful} lines history flat x = subst (λ b. Makes script lawful 1 b history) (sym (blocks-plain lines flat)) (lane-makes 1 x)
