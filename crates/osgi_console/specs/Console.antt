-- The text of the console: which lines the input has, and what each of them says.
use Rattle.std.specs.Prelude.{ℕ, ◌≡◌, ◌<◌, ◌≤◌, ◌^◌, ◌+◌, ◌==◌, true, false, not, List, [], ◌∷◌, length, codes, Option}
use Rattle.std.specs.Str.Parse.{IsNumeral, digits_value}
use Rattle.std.specs.Str.Lines.{lines}
use Rattle.osgi_base.specs.declared.ids.BundleId.{BundleId}
use Rattle.osgi_base.specs.declared.ids.ServiceId.{ServiceId}
use Rattle.osgi_model.specs.declared.filter.Filter.{Filter}
use Rattle.osgi_model.specs.declared.value.Attribute.{Attribute}
use Rattle.osgi_ops.specs.declared.target.Target.TheVariants.{Id}
use Rattle.osgi_session.specs.declared.command.Command.{Command}
use Rattle.osgi_session.specs.declared.command.Command.TheVariants as command
use Rattle.osgi_session.specs.declared.line.Content.{Content}
use Rattle.osgi_session.specs.declared.line.Content.TheVariants.{Empty, Join, Bad, Run}
use Rattle.osgi_session.specs.declared.line.Line.{Line}
use Rattle.osgi_syntax.specs.Lines.{IsFilterEnd, SaysNothing}
use Rattle.osgi_syntax.specs.Properties.{AreProperties}
use Rattle.osgi_base.specs.Quotes.{IsQuoted}
use Rattle.osgi_syntax.specs.Words.{AreClasses, AreSpaces, IsBundleId, IsClass, IsId, IsSeparated, IsSomeOf}

-- a location: one or more bytes other than a space
abbrev pub IsLocation : List ℕ → Type 0
IsLocation word = IsSomeOf (λ b. not (b == 32)) word

-- a start level: one to ten decimal digits of a number below 2^8
pub record IsLevel (word : List ℕ) (level : ℕ) : Type 0 where
  pub numeral : IsNumeral 10 word
  pub short : length word ≤ 10
  pub fits : digits_value 10 word < 2 ^ 8
  pub number : level ≡ digits_value 10 word

-- each of the words is the id of the bundle at its place
abbrev pub AreBundleIds : List (List ℕ) → List BundleId → Type 0
AreBundleIds [] [] = Unit {0}
AreBundleIds (word ∷ words) (bundle ∷ bundles) = IsBundleId word bundle × AreBundleIds words bundles
AreBundleIds _ _ = ⊥

-- the words of a command that is words alone
pub data AreCommandWords : List (List ℕ) → Command → Type 0 where
  -- `register CLASS[,CLASS].. "TEXT" [PROP]..`
  register : {names quoted : List ℕ} {words classes : List (List ℕ)} {object : List ℕ} {properties : List Attribute} →
      AreClasses names classes → IsQuoted quoted object → AreProperties words properties →
      AreCommandWords (codes "register" ∷ names ∷ quoted ∷ words) (command.Register classes object properties)
  -- `modify ID [PROP]..`
  modify : {id : List ℕ} {words : List (List ℕ)} {service : ServiceId} {properties : List Attribute} →
      IsId id service → AreProperties words properties → AreCommandWords (codes "modify" ∷ id ∷ words) (command.Modify service properties)
  -- `unregister ID`
  unregister : {id : List ℕ} {service : ServiceId} → IsId id service → AreCommandWords (codes "unregister" ∷ id ∷ []) (command.Unregister service)
  -- `get ID`
  get : {id : List ℕ} {service : ServiceId} → IsId id service → AreCommandWords (codes "get" ∷ id ∷ []) (command.Get service)
  -- `unget ID`
  unget : {id : List ℕ} {service : ServiceId} → IsId id service → AreCommandWords (codes "unget" ∷ id ∷ []) (command.Unget service)
  -- `start ID`
  start : {id : List ℕ} {bundle : BundleId} → IsBundleId id bundle → AreCommandWords (codes "start" ∷ id ∷ []) (command.Start (Id bundle) false)
  -- `start -t ID`
  start_transient : {id : List ℕ} {bundle : BundleId} → IsBundleId id bundle → AreCommandWords (codes "start" ∷ codes "-t" ∷ id ∷ []) (command.Start (Id bundle) true)
  -- `stop ID`
  stop : {id : List ℕ} {bundle : BundleId} → IsBundleId id bundle → AreCommandWords (codes "stop" ∷ id ∷ []) (command.Stop (Id bundle) false)
  -- `stop -t ID`
  stop_transient : {id : List ℕ} {bundle : BundleId} → IsBundleId id bundle → AreCommandWords (codes "stop" ∷ codes "-t" ∷ id ∷ []) (command.Stop (Id bundle) true)
  -- `load ID CLASS`
  load : {id class : List ℕ} {bundle : BundleId} → IsBundleId id bundle → IsClass class → AreCommandWords (codes "load" ∷ id ∷ class ∷ []) (command.Load bundle class)
  -- `install LOCATION`
  install : {location : List ℕ} → IsLocation location → AreCommandWords (codes "install" ∷ location ∷ []) (command.Install location)
  -- `update ID LOCATION`
  update : {id location : List ℕ} {bundle : BundleId} → IsBundleId id bundle → IsLocation location → AreCommandWords (codes "update" ∷ id ∷ location ∷ []) (command.Update bundle location)
  -- `uninstall ID`
  uninstall : {id : List ℕ} {bundle : BundleId} → IsBundleId id bundle → AreCommandWords (codes "uninstall" ∷ id ∷ []) (command.Uninstall bundle)
  -- `resolve ID`
  resolve : {id : List ℕ} {bundle : BundleId} → IsBundleId id bundle → AreCommandWords (codes "resolve" ∷ id ∷ []) (command.Resolve bundle)
  -- `refresh [ID]..`
  refresh : {ids : List (List ℕ)} {bundles : List BundleId} → AreBundleIds ids bundles → AreCommandWords (codes "refresh" ∷ ids) (command.Refresh bundles)
  -- `wires ID`
  wires : {id : List ℕ} {bundle : BundleId} → IsBundleId id bundle → AreCommandWords (codes "wires" ∷ id ∷ []) (command.Wires bundle)
  -- `level N`
  level : {word : List ℕ} {level : ℕ} → IsLevel word level → AreCommandWords (codes "level" ∷ word ∷ []) (command.Level level)
  -- `blevel ID N`
  blevel : {id word : List ℕ} {bundle : BundleId} {level : ℕ} → IsBundleId id bundle → IsLevel word level → AreCommandWords (codes "blevel" ∷ id ∷ word ∷ []) (command.BundleLevel bundle level)
  -- `bundles`
  bundles : AreCommandWords (codes "bundles" ∷ []) command.Bundles
  -- `services`
  services : AreCommandWords (codes "services" ∷ []) command.Services

-- the line says this command: it is the command's words, with spaces at both ends too, and may end with a filter where the
-- command has one. One or more spaces stand before each word. Before the first word of a line there may be none, so one
-- space is put before the line
pub data Says (line : List ℕ) : Command → Type 0 where
  in_words : {words : List (List ℕ)} {c : Command} → AreCommandWords words c → IsSeparated AreSpaces words (32 ∷ line) → Says line c
  -- `find CLASS [FILTER]`
  find : {class : List ℕ} {filter : Option Filter} → IsClass class →
      IsSeparated (IsFilterEnd filter) (codes "find" ∷ class ∷ []) (32 ∷ line) → Says line (command.Find class filter)
  -- `findall CLASS [FILTER]`
  findall : {class : List ℕ} {filter : Option Filter} → IsClass class →
      IsSeparated (IsFilterEnd filter) (codes "findall" ∷ class ∷ []) (32 ∷ line) → Says line (command.FindAll class filter)

-- ---- lanes

-- the number of a lane, of which there are so many: one to ten decimal digits of a number from 1 to that
pub record IsLane (lanes : ℕ) (word : List ℕ) (lane : ℕ) : Type 0 where
  pub numeral : IsNumeral 10 word
  pub short : length word ≤ 10
  pub some : 1 ≤ digits_value 10 word
  pub fits : digits_value 10 word ≤ lanes
  pub number : lane ≡ digits_value 10 word

-- a command behind other words, after one or more spaces
pub record IsCommandEnd (c : Command) (end : List ℕ) : Type 0 where
  pub line : List ℕ
  pub is : end ≡ 32 ∷ line
  pub says : Says line c

-- the line says this command, and in which of so many lanes; the lane is 0 where it names none
pub data SaysIn (lanes : ℕ) (line : List ℕ) : ℕ → Command → Type 0 where
  in_no_lane : {c : Command} → Says line c → SaysIn lanes line 0 c
  -- `lane K COMMAND`
  in_lane : {word : List ℕ} {lane : ℕ} {c : Command} → IsLane lanes word lane →
      IsSeparated (IsCommandEnd c) (codes "lane" ∷ word ∷ []) (32 ∷ line) → SaysIn lanes line lane c

-- `join`
abbrev pub SaysJoin : List ℕ → Type 0
SaysJoin line = IsSeparated AreSpaces (codes "join" ∷ []) (32 ∷ line)

-- ---- lines

-- what a line is read as where there are so many lanes, and in which lane: it is bad where it says neither nothing, nor `join`,
-- nor a command
abbrev pub LineReads : ℕ → List ℕ → ℕ → Content → Type 0
LineReads lanes line lane Empty = (lane ≡ 0) × SaysNothing line
LineReads lanes line lane Join = (lane ≡ 0) × SaysJoin line
LineReads lanes line lane Bad =
    (lane ≡ 0) × (¬ SaysNothing line) × (¬ SaysJoin line) × ((k : ℕ) (command : Command) → ¬ SaysIn lanes line k command)
LineReads lanes line lane (Run command) = SaysIn lanes line lane command

-- the lines of these texts, numbered from here on
abbrev pub AreLinesFrom : ℕ → ℕ → List (List ℕ) → List Line → Type 0
AreLinesFrom lanes number [] [] = Unit {0}
AreLinesFrom lanes number (text ∷ texts) (line ∷ rest) =
    (line.number ≡ number) × LineReads lanes text line.lane line.content × AreLinesFrom lanes (number + 1) texts rest
AreLinesFrom lanes number _ _ = ⊥

-- the lines of an input, where there are so many lanes; with none, no line names one. A line ends by LF or CRLF, which the last
-- one need not have; lines are numbered from 1
abbrev pub AreLinesOf : ℕ → List ℕ → List Line → Type 0
AreLinesOf lanes bytes all = AreLinesFrom lanes 1 (lines bytes) all
