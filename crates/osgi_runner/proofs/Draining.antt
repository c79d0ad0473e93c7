-- A drain that is called by itself.
use Rattle.std.proofs.Common.{◌≡◌, inl, inr, ℕ, List, [], Bool, true, false, map, sym, subst}
use Rattle.osgi_base.specs.declared.ids.Tag.{Tag}
use Rattle.osgi_ops.specs.declared.entry.Entry.{Entry}
use Rattle.osgi_ops.specs.declared.op.Op.TheVariants.{Hand}
use Rattle.osgi_runner.proofs.Loops.{calls-of, cut-so, ends-so, tag_of, tagged}
use Rattle.osgi_runner.specs.Calls.{Adds, IsCutDrainOf, IsDrainCutShort, IsDrainOf}
use Rattle.osgi_runner.specs.computed.Ends.{Ends, entry_by, Made}
use Rattle.osgi_runner.specs.computed.States.{After, frames_of}
use Rattle.osgi_runner.specs.declared.frames.Frame.{Frame}
use Rattle.osgi_runner.specs.declared.frames.Step.TheVariants as step
use Rattle.osgi_runner.specs.declared.frames.Wait.TheVariants as wait
use Rattle.osgi_runner.specs.declared.lines.Ended.{Ended}
use Rattle.osgi_runner.specs.declared.lines.Ended.TheVariants as ended
use Rattle.osgi_runs.proofs.Runs.{back}
use Rattle.osgi_runs.specs.Courses.{Ahead}
use Rattle.osgi_session.specs.Plans.{End, done}
use Rattle.osgi_session.specs.Runs.{Call, drained, IsCutOf, IsDrain, IsSpentOf, Reads, Sections}
use Rattle.osgi_session.specs.declared.line.Line.{Line}

-- what is ahead of a drain, with nothing to come back to, is one
alone : (script : Sections) (calls : List Call) → Ahead script (drained true) [] calls → IsDrain script calls
alone script calls a =
    let b = back a.reads in
    subst (λ (l : List Call). Reads script (drained true) done calls l) a.left
    (subst (λ (e : End). Reads script (drained true) e calls a.mid) (sym b.3) a.reads)

drain-run : (script : Sections) (stack : List Frame) (calls : List Call) → stack ≡ [] → After script (step.Ask Hand wait.Drain) (frames_of stack) calls → IsDrain script calls
drain-run script stack calls none a = alone script calls (subst (λ (l : List Frame). Ahead script (drained true) (frames_of l) calls) none a)

-- ---- its calls are the entries of the line

whole-drain : (script : Sections) (caller : ℕ) (before after : List Entry) (line : Line) → Made (IsDrain script) (tag_of caller line.number) before after → Adds (IsDrainOf script caller line) before after
whole-drain script caller before after line m =
    let tag = tag_of caller line.number in
    (map (entry_by tag) m.0, m.1, record { tagged = tagged tag m.0; drain = subst (λ (l : List Call). IsDrain script l) (sym (calls-of tag m.0)) m.2 })

cut-drain : (script : Sections) (caller : ℕ) (before after : List Entry) (line : Line) → Made (IsCutOf (IsDrain script)) (tag_of caller line.number) before after →
    Adds (IsCutDrainOf script caller line false) before after
cut-drain script caller before after line m =
    let tag = tag_of caller line.number in
    (map (entry_by tag) m.0, m.1, record { tagged = tagged tag m.0; cut = subst (λ (l : List Call). IsCutOf (IsDrain script) l) (sym (calls-of tag m.0)) m.2 })

spent-drain : (script : Sections) (caller : ℕ) (before after : List Entry) (line : Line) → Made (IsSpentOf (IsDrain script)) (tag_of caller line.number) before after →
    Adds (IsCutDrainOf script caller line true) before after
spent-drain script caller before after line m =
    let tag = tag_of caller line.number in
    (map (entry_by tag) m.0, m.1, record { tagged = tagged tag m.0; cut = subst (λ (l : List Call). IsSpentOf (IsDrain script) l) (sym (calls-of tag m.0)) m.2 })

-- ---- how it ends, from its first step on

-- what is left of a runner that begins a drain
abbrev pub IsAhead : Sections → List Frame → List Call → Type 0
IsAhead script stack calls = After script (step.Ask Hand wait.Drain) (frames_of stack) calls

ends-as-drain : (script : Sections) (stack : List Frame) (tag : Tag) (full : Bool) (before after : List Entry) (how : Ended) → stack ≡ [] → Ends (IsAhead script stack) how tag full before after →
    Ends (IsDrain script) how tag full before after
ends-as-drain script stack tag full before after how none m =
    ends-so (IsAhead script stack) (IsDrain script) tag full before after how (λ calls x. drain-run script stack calls none x) m

done-of : (script : Sections) (caller : ℕ) (full : Bool) (before after : List Entry) (line : Line) (how : Ended) → Ends (IsDrain script) how (tag_of caller line.number) full before after →
    how ≡ ended.Done → Adds (IsDrainOf script caller line) before after
done-of script caller full before after line ended.Done m e = whole-drain script caller before after line m
done-of script caller full before after line ended.Cut m e = absurd (cc e)

short-of : (script : Sections) (caller : ℕ) (full : Bool) (before after : List Entry) (line : Line) (how : Ended) → Ends (IsDrain script) how (tag_of caller line.number) full before after →
    how ≡ ended.Cut → IsDrainCutShort script caller line full before after
short-of script caller full before after line ended.Done m e = absurd (cc e)
short-of script caller full before after line ended.Cut (inl m) e = inl (spent-drain script caller before after line m)
short-of script caller full before after line ended.Cut (inr m) e = inr (m.0, cut-drain script caller before after line m.1)

pub drain-done : (script : Sections) (caller : ℕ) (full : Bool) (before after : List Entry) (line : Line) (stack : List Frame) (how : Ended) → stack ≡ [] →
    Ends (IsAhead script stack) how (tag_of caller line.number) full before after → how ≡ ended.Done → Adds (IsDrainOf script caller line) before after
drain-done script caller full before after line stack how none m e =
    done-of script caller full before after line how (ends-as-drain script stack (tag_of caller line.number) full before after how none m) e

pub drain-short : (script : Sections) (caller : ℕ) (full : Bool) (before after : List Entry) (line : Line) (stack : List Frame) (how : Ended) → stack ≡ [] →
    Ends (IsAhead script stack) how (tag_of caller line.number) full before after → how ≡ ended.Cut → IsDrainCutShort script caller line full before after
drain-short script caller full before after line stack how none m e =
    short-of script caller full before after line how (ends-as-drain script stack (tag_of caller line.number) full before after how none m) e

pub drain-starved : (script : Sections) (caller : ℕ) (before after : List Entry) (line : Line) (stack : List Frame) → stack ≡ [] →
    Made (IsCutOf (IsAhead script stack)) (tag_of caller line.number) before after → Adds (IsCutDrainOf script caller line false) before after
drain-starved script caller before after line stack none m =
    cut-drain script caller before after line
    (cut-so (IsAhead script stack) (IsDrain script) (tag_of caller line.number) before after (λ calls x. drain-run script stack calls none x) m)
