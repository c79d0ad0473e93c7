-- What a bracket is, as a history has it.
use Rattle.std.specs.Prelude.{ℕ}
use Rattle.osgi_ops.specs.Brackets.{Bracket, bracket, Cause, handing, starting, stopping, job, making}
use Rattle.osgi_brackets.specs.declared.bracket.BracketKind.{BracketKind}
use Rattle.osgi_brackets.specs.declared.bracket.BracketKind.TheVariants.{Hand, Start, Stop, Job, Make}
use Rattle.osgi_brackets.specs.declared.bracket.OpenBracket.{OpenBracket}

abbrev pub cause_of : BracketKind → Cause
cause_of (Hand listener) = handing listener
cause_of (Start bundle) = starting bundle
cause_of (Stop bundle) = stopping bundle
cause_of Job = job
cause_of (Make m) = making (record { user = m.user; service = m.service; asked_own = m.asked_own; owner = m.owner })

-- the bracket, as one of this caller
abbrev pub bracket_of : ℕ → OpenBracket → Bracket
bracket_of caller opened = bracket (record { caller = caller; command = opened.command }) (cause_of opened.kind)
