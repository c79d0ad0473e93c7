-- What the reader computes of commands and of lines. No public promise speaks of this: it is proved to give the
-- readings of the grammar.
use Rattle.std.specs.Prelude.{ℕ, ◌+◌, ◌==◌, ◌||◌, nat_lt, if◌then◌else◌, List, [], ◌∷◌, length, codes, Option, None, Some, option_and_then, find}
use Rattle.std.specs.Option.{option_map}
use Rattle.std.specs.Str.{bytes_eq}
use Rattle.osgi_base.specs.declared.ids.ServiceId.{ServiceId}
use Rattle.osgi_ops.specs.declared.target.Target.TheVariants.{Id}
use Rattle.osgi_session.specs.declared.command.Command.{Command}
use Rattle.osgi_session.specs.declared.command.Command.TheVariants as command
use Rattle.osgi_session.specs.declared.line.Content.{Content}
use Rattle.osgi_session.specs.declared.line.Content.TheVariants.{Empty, Join, Bad, Run}
use Rattle.osgi_session.specs.declared.line.Line.{Line}
use Rattle.osgi_console.specs.declared.commands.Verb.{Verb}
use Rattle.osgi_console.specs.declared.commands.Verb.TheVariants as verb
use Rattle.osgi_console.specs.declared.input_lines.InLane.{InLane}
use Rattle.osgi_console.specs.computed.ArgumentReader.{aim_of, bundle_ids_of, location_of, only_bundle_of, only_id_of, only_level_of, search_of}
use Rattle.osgi_syntax.specs.LineReader.{is_silent}
use Rattle.osgi_syntax.specs.Splitting.{after_spaces, after_word, first_word, only_word_of, words_of}
use Rattle.osgi_base.specs.QuoteReader.{quoted_of}
use Rattle.osgi_syntax.specs.WordReader.{bundle_id_of, class_of, classes_of, service_id_of}
use Rattle.osgi_syntax.specs.PropertyReader.{properties_of}

-- ---- commands

-- the first word of a command
abbrev pub verb_name : Verb → List ℕ
verb_name verb.Register = codes "register"
verb_name verb.Modify = codes "modify"
verb_name verb.Unregister = codes "unregister"
verb_name verb.Find = codes "find"
verb_name verb.FindAll = codes "findall"
verb_name verb.Get = codes "get"
verb_name verb.Unget = codes "unget"
verb_name verb.Start = codes "start"
verb_name verb.Stop = codes "stop"
verb_name verb.Load = codes "load"
verb_name verb.Install = codes "install"
verb_name verb.Update = codes "update"
verb_name verb.Uninstall = codes "uninstall"
verb_name verb.Resolve = codes "resolve"
verb_name verb.Refresh = codes "refresh"
verb_name verb.Wires = codes "wires"
verb_name verb.Level = codes "level"
verb_name verb.BundleLevel = codes "blevel"
verb_name verb.Bundles = codes "bundles"
verb_name verb.Services = codes "services"

abbrev pub verbs : List Verb
verbs =
    verb.Register ∷ verb.Modify ∷ verb.Unregister ∷ verb.Find ∷ verb.FindAll ∷ verb.Get ∷ verb.Unget ∷ verb.Start ∷ verb.Stop
    ∷ verb.Load ∷ verb.Install ∷ verb.Update ∷ verb.Uninstall ∷ verb.Resolve ∷ verb.Refresh ∷ verb.Wires ∷ verb.Level
    ∷ verb.BundleLevel ∷ verb.Bundles ∷ verb.Services ∷ []

abbrev pub verb_of : List ℕ → Option Verb
verb_of word = find (λ verb. bytes_eq (verb_name verb) word) verbs

abbrev pub register_of : List (List ℕ) → Option Command
register_of (names ∷ quoted ∷ words) =
    option_and_then (λ classes. option_and_then (λ object. option_map (λ properties. command.Register classes object properties) (properties_of words)) (quoted_of quoted)) (classes_of names)
register_of _ = None

abbrev pub modify_of : List (List ℕ) → Option Command
modify_of [] = None
modify_of (id ∷ words) = option_and_then (λ service. option_map (λ properties. command.Modify service properties) (properties_of words)) (service_id_of id)

-- a command without arguments
abbrev pub alone : Command → List (List ℕ) → Option Command
alone c arguments = if length arguments == 0 then Some c else None

abbrev pub start_of : List (List ℕ) → Option Command
start_of arguments = option_map (λ aim. command.Start (Id aim.bundle) aim.transient) (aim_of arguments)

abbrev pub stop_of : List (List ℕ) → Option Command
stop_of arguments = option_map (λ aim. command.Stop (Id aim.bundle) aim.transient) (aim_of arguments)

abbrev pub load_of : List (List ℕ) → Option Command
load_of [] = None
load_of (id ∷ words) = option_and_then (λ bundle. option_map (λ class. command.Load bundle class) (option_and_then class_of (only_word_of words))) (bundle_id_of id)

-- quotes mean nothing in the location
abbrev pub update_of : List ℕ → Option Command
update_of text = option_and_then (λ bundle. option_map (λ location. command.Update bundle location) (location_of (after_word text))) (bundle_id_of (first_word text))

abbrev pub refresh_of : List (List ℕ) → Option Command
refresh_of arguments = option_map command.Refresh (bundle_ids_of arguments)

abbrev pub bundle_level_of : List (List ℕ) → Option Command
bundle_level_of [] = None
bundle_level_of (id ∷ words) = option_and_then (λ bundle. option_map (λ level. command.BundleLevel bundle level) (only_level_of words)) (bundle_id_of id)

-- the command by what follows its first word
abbrev pub command_by : Verb → List ℕ → Option Command
command_by verb.Register text = register_of (words_of text)
command_by verb.Modify text = modify_of (words_of text)
command_by verb.Unregister text = option_map command.Unregister (only_id_of (words_of text))
command_by verb.Find text = option_map (λ wanted. command.Find wanted.class wanted.filter) (search_of text)
command_by verb.FindAll text = option_map (λ wanted. command.FindAll wanted.class wanted.filter) (search_of text)
command_by verb.Get text = option_map command.Get (only_id_of (words_of text))
command_by verb.Unget text = option_map command.Unget (only_id_of (words_of text))
command_by verb.Start text = start_of (words_of text)
command_by verb.Stop text = stop_of (words_of text)
command_by verb.Load text = load_of (words_of text)
command_by verb.Install text = option_map command.Install (location_of text)
command_by verb.Update text = update_of text
command_by verb.Uninstall text = option_map command.Uninstall (only_bundle_of (words_of text))
command_by verb.Resolve text = option_map command.Resolve (only_bundle_of (words_of text))
command_by verb.Refresh text = refresh_of (words_of text)
command_by verb.Wires text = option_map command.Wires (only_bundle_of (words_of text))
command_by verb.Level text = option_map command.Level (only_level_of (words_of text))
command_by verb.BundleLevel text = bundle_level_of (words_of text)
command_by verb.Bundles text = alone command.Bundles (words_of text)
command_by verb.Services text = alone command.Services (words_of text)

abbrev pub command_of : List ℕ → Option Command
command_of text = option_and_then (λ verb. command_by verb (after_word text)) (verb_of (first_word text))

-- ---- lanes

-- the lane with this number, where there is one of so many
abbrev pub lane_by : ℕ → Option ServiceId → Option ℕ
lane_by lanes None = None
lane_by lanes (Some number) = if nat_lt number.0 1 || nat_lt lanes number.0 then None else Some number.0

abbrev pub lane_of : ℕ → List ℕ → Option ℕ
lane_of lanes word = lane_by lanes (service_id_of word)

-- ---- lines

-- what a line says that names no lane
abbrev pub unlaned : Content → InLane
unlaned content = record { lane = 0; content = content }

-- a command in this lane, if there is one
abbrev pub run_in : ℕ → Option Command → InLane
run_in lane None = unlaned Bad
run_in lane (Some command) = record { lane = lane; content = Run command }

-- what a text says in this lane, if there is one
abbrev pub said_in : Option ℕ → List ℕ → InLane
said_in None text = unlaned Bad
said_in (Some lane) text = run_in lane (command_of text)

-- what follows `lane`
abbrev pub laned : ℕ → List ℕ → InLane
laned lanes text = said_in (lane_of lanes (first_word text)) (after_word text)

-- what follows `join`
abbrev pub joined : List (List ℕ) → Content
joined words = if length words == 0 then Join else Bad

-- a line by its first word
abbrev pub said_by : ℕ → List ℕ → InLane
said_by lanes text =
    if bytes_eq (first_word text) (codes "join") then unlaned (joined (words_of (after_word text)))
    else (if bytes_eq (first_word text) (codes "lane") then laned lanes (after_word text) else run_in 0 (command_of text))

abbrev pub said_of : ℕ → List ℕ → InLane
said_of lanes text = if is_silent (after_spaces text) then unlaned Empty else said_by lanes text

abbrev pub line_of : ℕ → ℕ → List ℕ → Line
line_of lanes number text = record { number = number; lane = (said_of lanes text).lane; content = (said_of lanes text).content }

-- the lines of these texts, numbered from here on
abbrev pub numbered : ℕ → ℕ → List (List ℕ) → List Line
numbered lanes number [] = []
numbered lanes number (text ∷ texts) = line_of lanes number text ∷ numbered lanes (number + 1) texts
