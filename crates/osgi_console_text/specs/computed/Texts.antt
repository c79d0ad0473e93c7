-- What the peeks and the entries of each line write, by the numbers of the lines.
use Rattle.std.specs.Prelude.{ℕ, ◌≡◌, ◌++◌, if◌then◌else◌, Bool, false, List, [], Option, codes, filter}
use Rattle.std.specs.BTreeMap.{BTreeMap, get}
use Rattle.std.specs.Option.{option_map_or}
use Rattle.std.specs.Ordering.{nat_cmp}
use Rattle.osgi_session.specs.Lines.{is_of}
use Rattle.osgi_session.specs.Rendering.{ends_without_job, entries_text, peeks_text, with_line_end}
use Rattle.osgi_ops.specs.declared.entry.Entry.{Entry}
use Rattle.osgi_ops.specs.declared.peek.Peek.{Peek}
use Rattle.osgi_session.specs.declared.line.Content.{Content}
use Rattle.osgi_session.specs.declared.line.Content.TheVariants.{Empty, Join, Bad, Run}
use Rattle.osgi_console_text.specs.declared.rendering.LineText.{LineText}

abbrev pub Texts : Type 0
Texts = BTreeMap ℕ LineText

abbrev pub text_at : Texts → ℕ → Option LineText
text_at texts number = get nat_cmp texts number

-- what a line's peeks and entries write; nothing where it has none
abbrev pub written : Option LineText → List ℕ
written line = option_map_or (λ line. line.text.items) line []

-- the last of the entries found no job
abbrev pub has_ended : Option LineText → Bool
has_ended line = option_map_or (λ line. line.has_ended) line false

-- a line has this text there, and its entries end so
pub record Holds (whole : List ℕ) (ends : Bool) (line : Option LineText) : Type 0 where
  pub text : written line ≡ whole
  pub ended : has_ended line ≡ ends

-- what the peeks of a line write, and then its entries
abbrev pub text_under : List Entry → List Peek → ℕ → List ℕ
text_under history peeks number = peeks_text number peeks ++ entries_text number history

-- the entries of a line end with one that found no job
abbrev pub ends_so : List Entry → ℕ → Bool
ends_so history number = ends_without_job (filter (is_of number) history)

-- each line has its text there
abbrev pub AreTextsOf : List Entry → List Peek → Texts → Type 0
AreTextsOf history peeks texts = (number : ℕ) → Holds (text_under history peeks number) (ends_so history number) (text_at texts number)

-- what a line with a command writes, by what its peeks and entries write
abbrev pub run_text : List ℕ → Bool → List ℕ
run_text text ended = text ++ (if ended then [] else with_line_end (codes "full"))

-- what a line writes, by what its peeks and entries write
abbrev pub line_text_by : Content → Option LineText → List ℕ
line_text_by Empty line = []
line_text_by Join line = []
line_text_by Bad line = with_line_end (codes "syntax")
line_text_by (Run command) line = run_text (written line) (has_ended line)
