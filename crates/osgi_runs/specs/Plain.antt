-- Lines that run one after another: those of lane 0.
use Rattle.std.specs.Prelude.{ℕ, ◌≡◌, ◌+◌, List, [], ◌∷◌, filter, ⊤}
use Rattle.osgi_session.specs.Lines.{has_command}
use Rattle.osgi_session.specs.declared.line.Line.{Line}

abbrev pub IsPlain : Line → Type 0
IsPlain line = line.lane ≡ 0

-- numbered from this number on
abbrev pub AreNumberedFrom : ℕ → List Line → Type 0
AreNumberedFrom number [] = ⊤
AreNumberedFrom number (line ∷ lines) = (line.number ≡ number) × AreNumberedFrom (number + 1) lines

-- the lines that have a command
abbrev pub commands_in : List Line → List Line
commands_in lines = filter (λ (line : Line). has_command line.content) lines
