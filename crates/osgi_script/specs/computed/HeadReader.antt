-- What the reader computes of lines that are heads of sections: it is proved to give the readings of the grammar.
use Rattle.std.specs.Prelude.{ℕ, ◌-◌, if◌then◌else◌, List, [], ◌∷◌, length, take, drop, codes, Option, None, Some, option_and_then, find}
use Rattle.std.specs.Option.{option_map}
use Rattle.std.specs.Str.{bytes_eq}
use Rattle.osgi_ops.specs.declared.section.Section.{Section}
use Rattle.osgi_ops.specs.declared.section.Section.TheVariants as section
use Rattle.osgi_script.specs.declared.heads.HeadWord.{HeadWord}
use Rattle.osgi_script.specs.declared.heads.HeadWord.TheVariants as head
use Rattle.osgi_script.specs.computed.StatementReader.{only_of}
use Rattle.osgi_syntax.specs.Splitting.{after_word, first_word, words_of}
use Rattle.osgi_syntax.specs.WordReader.{name_of}

-- the first word of a head
abbrev pub head_word : HeadWord → List ℕ
head_word head.Start = codes "start:"
head_word head.Stop = codes "stop:"
head_word head.On = codes "on"
head_word head.Job = codes "job"

abbrev pub heads : List HeadWord
heads = head.Start ∷ head.Stop ∷ head.On ∷ head.Job ∷ []

abbrev pub head_named : List ℕ → Option HeadWord
head_named word = find (λ head. bytes_eq (head_word head) word) heads

-- the name before a `:` at the end of a word
abbrev pub section_name_of : List ℕ → Option (List ℕ)
section_name_of word = if bytes_eq (drop (length word - 1) word) (codes ":") then name_of (take (length word - 1) word) else None

abbrev pub named_head_of : List (List ℕ) → Option (List ℕ)
named_head_of words = only_of section_name_of words

-- the section of a head of one word
abbrev pub alone : Section → List (List ℕ) → Option Section
alone section [] = Some section
alone section _ = None

-- the section by the words after the first one of its head
abbrev pub head_by : HeadWord → List (List ℕ) → Option Section
head_by head.Start words = alone section.Start words
head_by head.Stop words = alone section.Stop words
head_by head.On words = option_map section.On (named_head_of words)
head_by head.Job words = option_map section.Job (named_head_of words)

abbrev pub head_of : List ℕ → Option Section
head_of line = option_and_then (λ head. head_by head (words_of (after_word line))) (head_named (first_word line))
