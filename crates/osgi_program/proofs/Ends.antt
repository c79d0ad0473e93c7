-- How a run ends, by how its lines ran.
use Rattle.std.proofs.Common.{◌≡◌, ◌≤◌, ◌+◌, ◌⊎◌, ℕ, inl, inr, List, [], ◌∷◌, ◌++◌, length, ap, sym, subst, ◌∙◌, refl, arith, append-nil}
use Rattle.std.specs.Prelude.{◌==◌, Bool, true, false, All, Option, None, Some, IfSome, IsSomeAnd, cond, count_by}
use Rattle.std.specs.Io.KnownBytes.{Consumes, IsAtEnd}
use Rattle.std.proofs.lemmas.Bool.{cond-false, cond-true, eqb-true}
use Rattle.std.proofs.lemmas.List.Elements.{All-cons, All-nil}
use Rattle.std.specs.Str.Lines.{lines}
use Rattle.osgi_console.specs.Console.{AreLinesFrom, in_lane, in_no_lane, LineReads}
use Rattle.osgi_legal.specs.Legal.{AreAllowed, Legal}
use Rattle.osgi_ops.specs.Moments.{entries_in, Told}
use Rattle.osgi_ops.specs.Settings.{Bounds, Setting}
use Rattle.osgi_ops.specs.declared.entry.Entry.{Entry}
use Rattle.osgi_runs.proofs.Full.{full-where-cut, none-full, some-full}
use Rattle.osgi_runs.proofs.Handed.{lane-handed}
use Rattle.osgi_runs.proofs.Plain.{lane-weaker, lane-whole}
use Rattle.osgi_runs.specs.Handed.{AllHanded}
use Rattle.osgi_runs.specs.Plain.{AreNumberedFrom, commands_in, IsPlain}
use Rattle.osgi_session.specs.Rendering.{render}
use Rattle.osgi_session.specs.Runs.{Sections}
use Rattle.osgi_session.specs.Scripts.{sections_of}
use Rattle.osgi_session.specs.Sessions.{IsWhole, Lane, MayBeCut, Never}
use Rattle.osgi_session.specs.declared.line.Content.{Content}
use Rattle.osgi_session.specs.declared.line.Content.TheVariants as content
use Rattle.osgi_session.specs.declared.line.Line.{Line}
use Rattle.osgi_program.proofs.Limits.{handed_all, hands_are, lane_end, some_spent}
use Rattle.osgi_program.specs.computed.Ended.{IsRun, status_by}
use Rattle.osgi_program.specs.Outcome.{is_handing, is_troubled, IsAtLimit, IsDoneStatus, IsPartlyWritten, IsSession, IsUncut, IsWritten, IsWrittenStatus, Shelved, status_of, text_of}
use Rattle.osgi_program.specs.Words.{replies, Request}
use Rattle.osgi_program.specs.declared.session.TheConstants.{CUT, DONE, MAX_INPUT, NO_MEMORY, TROUBLED, WRITE_FAILED}
use Rattle.osgi_program.specs.computed.Running.{IsSpentOrFull, RunsLines, Unspent}
use Rattle.osgi_program.specs.declared.lines.Ran.{Ran}
use Rattle.osgi_program.specs.declared.lines.Ran.TheVariants as ran
use Rattle.osgi_program.specs.declared.session.Session.{Session}

-- what was taken of told bytes, up to their end, is all of them
pub all_taken : (before after : Option (List ℕ)) (bytes : List ℕ) → Consumes before after bytes → IsAtEnd after → IfSome before (λ all. bytes ≡ all)
all_taken None after bytes taken end = tt
all_taken (Some all) None bytes taken end = absurd taken
all_taken (Some all) (Some left) bytes taken end = sym (taken ∙ ap (λ l. bytes ++ l) end ∙ append-nil bytes)

-- a run may be cut where enough was handed, where the history is full, or where memory was wanting
end_law : (limit status : ℕ) (history : List Entry) (spent : Bool) → IsSpentOrFull (length history == limit) spent → MayBeCut limit status history spent
end_law limit status history spent (inl is) = inl is
end_law limit status history spent (inr full) = inr (inl (eqb-true (length history) limit full))

starved_law : (limit status : ℕ) (history : List Entry) → status ≡ 5 → (spent : Bool) → Unspent spent → MayBeCut limit status history spent
starved_law limit status history starved spent unspent = inr (inr starved)

whole_by : {was_cut : Bool} (first : Bool → Type 0) (script : Sections) (limit status : ℕ) (lines : List Line) (history made : List Entry) → All IsPlain lines → history ≡ made →
    ((spent : Bool) → first spent → MayBeCut limit status history spent) → Lane script first 0 was_cut (commands_in lines) made → IsWhole script limit status lines history
whole_by {was_cut} first script limit status lines history made flat is weaker lane =
    lane-whole lines history flat (lane-weaker first (MayBeCut limit status history) weaker (subst (λ (h : List Entry). Lane script first 0 was_cut (commands_in lines) h) (sym is) lane))

runs_whole : (how : Ran) (script : Sections) (limit status : ℕ) (lines : List Line) (history : List Entry) → All IsPlain lines → (how ≡ ran.Starved → status ≡ 5) →
    RunsLines how script (length history == limit) lines [] history → IsWhole script limit status lines history
runs_whole ran.All script limit status lines history flat starved (made, is, lane) = whole_by Never script limit status lines history made flat is (λ spent never. absurd never) lane
runs_whole ran.Cut script limit status lines history flat starved (made, is, lane) = whole_by (IsSpentOrFull (length history == limit)) script limit status lines history made flat is (end_law limit status history) lane
runs_whole ran.Starved script limit status lines history flat starved (made, is, lane) = whole_by Unspent script limit status lines history made flat is (starved_law limit status history (starved refl)) lane

numbered_from : (number : ℕ) (texts : List (List ℕ)) (all : List Line) → AreLinesFrom 0 number texts all → AreNumberedFrom number all
numbered_from number [] [] read = tt
numbered_from number [] (line ∷ rest) read = absurd read
numbered_from number (text ∷ texts) [] read = absurd read
numbered_from number (text ∷ texts) (line ∷ rest) read = (read.0, numbered_from (number + 1) texts rest read.2)

-- where there are no lanes, no line names one
of_no_lane : (text : List ℕ) (lane : ℕ) (content : Content) → LineReads 0 text lane content → lane ≡ 0
of_no_lane text lane content.Empty read = read.0
of_no_lane text lane content.Join read = read.0
of_no_lane text lane content.Bad read = read.0
of_no_lane text lane (content.Run command) (in_no_lane says) = refl
of_no_lane text lane (content.Run command) (in_lane is separated) = absurd (omega (arith, is.some, is.fits))

all_plain : (number : ℕ) (texts : List (List ℕ)) (all : List Line) → AreLinesFrom 0 number texts all → All IsPlain all
all_plain number [] [] read = All-nil IsPlain
all_plain number [] (line ∷ rest) read = absurd read
all_plain number (text ∷ texts) [] read = absurd read
all_plain number (text ∷ texts) (line ∷ rest) read = All-cons IsPlain line rest (of_no_lane text line.lane line.content read.1) (all_plain (number + 1) texts rest read.2)

-- ---- where no line was cut

done_written : (status : ℕ) → IsDoneStatus status → IsWrittenStatus status
done_written status (inl e) = inl e
done_written status (inr e) = inr (inl e)

not_done : (status : ℕ) → 5 ≤ status → IsDoneStatus status → ⊥
not_done status other (inl e) = omega (arith, other, e)
not_done status other (inr e) = omega (arith, other, e)

all_handed : (how : Ran) (setting : Setting) (session : Session) (status : ℕ) (told : List Told) → AreAllowed setting told → entries_in told ≡ session.entries → (how ≡ ran.Starved → status ≡ 5) →
    (IsWrittenStatus status → status ≡ status_by how session) → RunsLines how (sections_of session.scripts) (length session.entries == setting.bounds.entries) session.lines [] session.entries → IsDoneStatus status → AllHanded told
all_handed ran.All setting session status told legal tells starved is (made, added, lane) done =
    let script = sections_of session.scripts in
    let here : made ≡ entries_in told = sym added ∙ sym tells in
    lane-handed setting script 0 false (commands_in session.lines) told legal (subst (λ (h : List Entry). Lane script Never 0 false (commands_in session.lines) h) here lane)
all_handed ran.Cut setting session status told legal tells starved is runs done =
    absurd (not_done status (let e : status ≡ 7 = is (done_written status done) in omega (arith, e)) done)
all_handed ran.Starved setting session status told legal tells starved is runs done = absurd (not_done status (let e : status ≡ 5 = starved refl in omega (arith, e)) done)

session_by : (bounds : Bounds) (input : List ℕ) (shelf : Shelved) (how : Ran) (session : Session) (status : ℕ) (left : Option (List ℕ)) → IsRun bounds input shelf how session → IfSome left (λ all. input ≡ all) → length input ≤ MAX_INPUT →
    (how ≡ ran.Starved → status ≡ 5) → (IsWrittenStatus status → status ≡ status_by how session) → IsSession (replies bounds) status left shelf session
session_by bounds input shelf how session status left run all within starved is =
    let script = sections_of session.scripts in
    let setting : Setting = record { bounds = bounds; depot = session.depot.rows } in
    let flat = all_plain 1 (lines input) session.lines run.lines in
    let whole = runs_whole how script bounds.entries status session.lines session.entries flat starved run.runs in
    record {
      input = input;
      all = all;
      within = within;
      lines = run.lines;
      depot = run.depot;
      told = run.legal.1.told;
      tells = run.legal.1.tells;
      legal = run.legal.1.allowed;
      sound = run.sound;
      handed = all_handed how setting session status run.legal.1.told run.legal.1.allowed run.legal.1.tells starved is run.runs;
      whole = whole;
      full = full-where-cut setting script bounds.entries status session.lines session.entries run.legal (numbered_from 1 (lines input) session.lines run.lines) flat whole;
      handings = run.handings ∙ hands_are session.entries;
      peeks = run.peeks;
    }

pub session_from : (asked : Request) (bounds : Bounds) (input : List ℕ) (shelf : Shelved) (how : Ran) (session : Session) (status : ℕ) (left : Option (List ℕ)) → replies bounds ≡ asked → IsRun bounds input shelf how session →
    IfSome left (λ all. input ≡ all) → length input ≤ MAX_INPUT → (how ≡ ran.Starved → status ≡ 5) → (IsWrittenStatus status → status ≡ status_by how session) → IsSession asked status left shelf session
session_from asked bounds input shelf how session status left same run all within starved is =
    subst (λ (a : Request). IsSession a status left shelf session) same (session_by bounds input shelf how session status left run all within starved is)

-- ---- the text

-- a session's lines as they are rendered are the text of what was asked for
pub part_for : (before after : Option (List ℕ)) (session : Session) (bounds : Bounds) (asked : Request) → replies bounds ≡ asked →
    IsPartlyWritten before after (render session.lines session.entries session.peeks) → IsPartlyWritten before after (text_of asked session)
part_for before after session bounds asked same part = subst (λ (a : Request). IsPartlyWritten before after (text_of a session)) same part

pub whole_for : (before after flushed : Option (List ℕ)) (session : Session) (bounds : Bounds) (asked : Request) → replies bounds ≡ asked →
    IsWritten before after flushed (render session.lines session.entries session.peeks) → IsWritten before after flushed (text_of asked session)
whole_for before after flushed session bounds asked same whole = subst (λ (a : Request). IsWritten before after flushed (text_of a session)) same whole

-- ---- the status

-- the status by how the lines ran is the status by what they made
status_by_runs : (how : Ran) (setting : Setting) (session : Session) → Legal setting session.entries → AreNumberedFrom 1 session.lines → (how ≡ ran.Starved → ⊥) →
    RunsLines how (sections_of session.scripts) (length session.entries == setting.bounds.entries) session.lines [] session.entries → status_by how session ≡ status_of session
status_by_runs ran.All setting session legal numbered fed (made, is, lane) =
    let script = sections_of session.scripts in
    let here = subst (λ (h : List Entry). Lane script Never 0 false (commands_in session.lines) h) (sym is) lane in
    sym (cond-false _ _ _ (none-full setting script session.lines session.entries legal numbered here))
status_by_runs ran.Cut setting session legal numbered fed (made, is, lane) =
    let script = sections_of session.scripts in
    let lawful = IsSpentOrFull (length session.entries == setting.bounds.entries) in
    let here = subst (λ (h : List Entry). Lane script lawful 0 true (commands_in session.lines) h) (sym is) lane in
    sym (cond-true _ _ _ (some-full script lawful session.lines session.entries numbered here))
status_by_runs ran.Starved setting session legal numbered fed runs = absurd (fed refl)

not_starved : (how : Ran) (status : ℕ) → (how ≡ ran.Starved → status ≡ 5) → IsWrittenStatus status → how ≡ ran.Starved → ⊥
not_starved how status starved (inl e) is = omega (arith, starved is, e)
not_starved how status starved (inr (inl e)) is = omega (arith, starved is, e)
not_starved how status starved (inr (inr e)) is = omega (arith, starved is, e)

pub status_from : (bounds : Bounds) (input : List ℕ) (shelf : Shelved) (how : Ran) (session : Session) (status : ℕ) → IsRun bounds input shelf how session → (how ≡ ran.Starved → status ≡ 5) → IsWrittenStatus status →
    status ≡ status_by how session → status ≡ status_of session
status_from bounds input shelf how session status run starved written is =
    is ∙ status_by_runs how (record { bounds = bounds; depot = session.depot.rows }) session run.legal (numbered_from 1 (lines input) session.lines run.lines) (not_starved how status starved written) run.runs

-- ---- why a line was cut

not_cut : (b : Bool) → cond b TROUBLED DONE ≡ CUT → ⊥
not_cut true e = cc e
not_cut false e = cc e

-- where no line was cut, the status does not say so
pub not_cut_by : (session : Session) (status : ℕ) → IsUncut session → status ≡ status_of session → status ≡ CUT → ⊥
not_cut_by session status uncut is cut = not_cut (is_troubled session.lines session.entries) (sym (cond-false _ _ _ uncut) ∙ sym is ∙ cut)

limit_by : (how : Ran) (setting : Setting) (session : Session) → Legal setting session.entries → session.handings ≡ count_by (λ (e : Entry). is_handing e.reply) session.entries → (how ≡ ran.Starved → ⊥) →
    RunsLines how (sections_of session.scripts) (length session.entries == setting.bounds.entries) session.lines [] session.entries → CUT ≡ status_by how session → IsAtLimit setting.bounds session
limit_by ran.All setting session legal counted fed runs is = absurd (not_cut (is_troubled session.lines session.entries) (sym is))
limit_by ran.Cut setting session legal counted fed (made, added, lane) is =
    let lawful = IsSpentOrFull (length session.entries == setting.bounds.entries) in
    let here = subst (λ (h : List Entry). Lane (sections_of session.scripts) lawful 0 true (commands_in session.lines) h) (sym added) lane in
    elim (lane_end {limit = setting.bounds.entries} session.entries here refl) [ inl full ↦ inl full | inr ends ↦ inr (some_spent session.entries ends, counted ∙ handed_all setting session.entries legal ends) ]
limit_by ran.Starved setting session legal counted fed runs is = absurd (fed refl)

pub limit_from : (bounds : Bounds) (input : List ℕ) (shelf : Shelved) (how : Ran) (session : Session) (status : ℕ) → IsRun bounds input shelf how session → (how ≡ ran.Starved → status ≡ 5) →
    (IsWrittenStatus status → status ≡ status_by how session) → status ≡ CUT → IsAtLimit bounds session
limit_from bounds input shelf how session status run starved is cut =
    let written : IsWrittenStatus status = inr (inr cut) in
    limit_by how (record { bounds = bounds; depot = session.depot.rows }) session run.legal (run.handings ∙ hands_are session.entries) (not_starved how status starved written) run.runs (sym cut ∙ is written)

-- ---- the other statuses

-- a status that is not of a failed write, nor of a line that was cut
pub completed : (status : ℕ) → IsWrittenStatus status ⊎ (status ≡ WRITE_FAILED) ⊎ (status ≡ NO_MEMORY) → (status ≡ WRITE_FAILED → ⊥) → (status ≡ CUT → ⊥) →
    (status ≡ DONE) ⊎ (status ≡ TROUBLED) ⊎ (status ≡ NO_MEMORY)
completed status (inl (inl done)) unfailed uncut = inl done
completed status (inl (inr (inl troubled))) unfailed uncut = inr (inl troubled)
completed status (inl (inr (inr cut))) unfailed uncut = absurd (uncut cut)
completed status (inr (inl failed)) unfailed uncut = absurd (unfailed failed)
completed status (inr (inr starved)) unfailed uncut = inr (inr starved)

-- words that were not read as limits ask for none
pub not_asked : {A : Type 0} (P : A → Type 0) (read : Option A) → ((a : A) → read ≡ Some a → ⊥) → IsSomeAnd read P → ⊥
not_asked P None other asked = asked
not_asked P (Some a) other asked = other a refl
