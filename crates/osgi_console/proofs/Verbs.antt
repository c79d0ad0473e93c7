-- Lines are read as the command that they say, and only as that.
use Rattle.std.proofs.Common.{◌≡◌, ℕ, ◌<◌, List, [], ◌∷◌, length, ap, sym, ◌∙◌, refl, arith, subst, length-take}
use Rattle.std.specs.Prelude.{◌==◌, Bool, Option, None, Some, option_and_then, codes}
use Rattle.std.specs.Option.{option_map}
use Rattle.std.specs.Str.{bytes_eq}
use Rattle.std.proofs.lemmas.Bool.{cond-false, ne_eqb}
use Rattle.std.proofs.lemmas.Option.{option_and_then_some}
use Rattle.osgi_base.specs.declared.ids.BundleId.{BundleId}
use Rattle.osgi_base.specs.declared.ids.ServiceId.{ServiceId}
use Rattle.osgi_model.specs.declared.filter.Filter.{Filter}
use Rattle.osgi_ops.specs.declared.target.Target.TheVariants.{Id}
use Rattle.osgi_session.specs.declared.command.Command.{Command}
use Rattle.osgi_session.specs.declared.command.Command.TheVariants as command
use Rattle.osgi_console.specs.declared.arguments.Aim.{Aim}
use Rattle.osgi_console.specs.declared.arguments.Search.{Search}
use Rattle.osgi_base.specs.declared.parts.QuoteState.TheVariants.{Bare}
use Rattle.osgi_console.specs.declared.commands.Verb.{Verb}
use Rattle.osgi_console.specs.declared.commands.Verb.TheVariants as verb
use Rattle.osgi_model.specs.laws.Made.{mapped, passes_found, same_text}
use Rattle.osgi_syntax.specs.laws.Attributes.{properties_read, properties_sound, whole_properties}
use Rattle.osgi_syntax.specs.laws.Names.{class_read, class_sound, classes_read, classes_sound, whole_class, whole_classes}
use Rattle.osgi_console.proofs.ArgumentReading.{aim_read, aim_sound, for_good, ids_read, ids_sound, IsAim, level_read, level_sound, only, this_time, whole_aim, whole_ids, whole_level}
use Rattle.osgi_console.proofs.Filters.{filter_ends, wanted_read, wanted_sound}
use Rattle.osgi_console.proofs.Locations.{location_read, location_sound}
use Rattle.osgi_syntax.specs.laws.Ids.{bundle_id_read, bundle_id_sound, id_read, id_sound, whole_bundle_id, whole_id}
use Rattle.osgi_syntax.specs.laws.Separating.{first_separates, words_separate}
use Rattle.osgi_base.specs.laws.Quoting.{quoted_read, quoted_sound}
use Rattle.osgi_syntax.specs.laws.Spaces.{EndsWord, with_nothing, with_space}
use Rattle.osgi_syntax.specs.laws.Splitting.{begins, after_word-ends}
use Rattle.osgi_syntax.specs.laws.Whole.{ends_all, first_separated, HasFirstWord, separated_words, whole_quoted}
use Rattle.osgi_console.specs.Console as says
use Rattle.osgi_console.specs.computed.ArgumentReader.{aim_of, bundle_ids_of, level_of, location_of, search_of}
use Rattle.osgi_console.specs.computed.LineReader.{alone, bundle_level_of, command_by, command_of, load_of, modify_of, refresh_of, register_of, update_of, verb_name, verb_of, verbs}
use Rattle.osgi_syntax.specs.PropertyReader.{properties_of}
use Rattle.osgi_base.specs.Parts.{part_len}
use Rattle.osgi_syntax.specs.Splitting.{after_spaces, after_word, first_word, only_word_of, words_of}
use Rattle.osgi_base.specs.QuoteReader.{quoted_of}
use Rattle.osgi_syntax.specs.WordReader.{bundle_id_of, class_of, classes_of, service_id_of}
use Rattle.osgi_syntax.specs.Lines.{IsFilterEnd}
use Rattle.osgi_syntax.specs.LineWords.{IsLineWord}
use Rattle.osgi_syntax.specs.Words.{AreSpaces, IsBundleId, IsClass, IsId, IsSeparated}

-- ---- the first word

verb_sound : (word : List ℕ) (v : Verb) → verb_of word ≡ Some v → verb_name v ≡ word
verb_sound word v e = same_text (verb_name v) word (passes_found (λ v. bytes_eq (verb_name v) word) verbs v e)

whole_name : (v : Verb) → IsLineWord (verb_name v)
whole_name verb.Register = record { some = omega arith; scanned = refl }
whole_name verb.Modify = record { some = omega arith; scanned = refl }
whole_name verb.Unregister = record { some = omega arith; scanned = refl }
whole_name verb.Find = record { some = omega arith; scanned = refl }
whole_name verb.FindAll = record { some = omega arith; scanned = refl }
whole_name verb.Get = record { some = omega arith; scanned = refl }
whole_name verb.Unget = record { some = omega arith; scanned = refl }
whole_name verb.Start = record { some = omega arith; scanned = refl }
whole_name verb.Stop = record { some = omega arith; scanned = refl }
whole_name verb.Load = record { some = omega arith; scanned = refl }
whole_name verb.Install = record { some = omega arith; scanned = refl }
whole_name verb.Update = record { some = omega arith; scanned = refl }
whole_name verb.Uninstall = record { some = omega arith; scanned = refl }
whole_name verb.Resolve = record { some = omega arith; scanned = refl }
whole_name verb.Refresh = record { some = omega arith; scanned = refl }
whole_name verb.Wires = record { some = omega arith; scanned = refl }
whole_name verb.Level = record { some = omega arith; scanned = refl }
whole_name verb.BundleLevel = record { some = omega arith; scanned = refl }
whole_name verb.Bundles = record { some = omega arith; scanned = refl }
whole_name verb.Services = record { some = omega arith; scanned = refl }

-- a line with such a first word has one
has_word : (v : Verb) (line : List ℕ) → verb_name v ≡ first_word line → 0 < length (after_spaces line)
has_word v line named =
    omega (arith, (whole_name v).some, ap length named, length-take (part_len 32 Bare (after_spaces line)) (after_spaces line))

-- where a verb's name and other words part a line, it is the line's first word
named_front : (IsEnd : List ℕ → Type 0) (v : Verb) (words : List (List ℕ)) (line : List ℕ) → ((end : List ℕ) → IsEnd end → EndsWord end) →
    (separated : IsSeparated IsEnd (verb_name v ∷ words) (32 ∷ line)) → HasFirstWord line (verb_name v) separated.1
named_front IsEnd v words line end separated =
    let prefix = first_separated IsEnd (verb_name v) words (32 ∷ line) end (whole_name v) separated in
    record { some = prefix.some; first = prefix.first; remainder = prefix.remainder }

-- ---- the arguments

-- a command that is made from one word
only_command : {A : Type 0} (read_as : List ℕ → Option A) (Is : List ℕ → A → Type 0) → ((word : List ℕ) (it : A) → read_as word ≡ Some it → Is word it) →
    (name : List ℕ) (make : A → Command) (arguments : List (List ℕ)) (c : Command) → option_map make (option_and_then read_as (only_word_of arguments)) ≡ Some c →
    ((word : List ℕ) (it : A) → Is word it → says.AreCommandWords (name ∷ word ∷ []) (make it)) → says.AreCommandWords (name ∷ arguments) c
only_command read_as Is sound name make arguments c e said =
    let read = mapped make (option_and_then read_as (only_word_of arguments)) c e in
    let alone = only read_as Is sound arguments read.value read.was in
    subst (λ l. says.AreCommandWords (name ∷ l) c) (sym alone.is)
    (subst (says.AreCommandWords (name ∷ alone.word ∷ [])) read.is (said alone.word read.value alone.says))

id_command : (name : List ℕ) (make : ServiceId → Command) (arguments : List (List ℕ)) (c : Command) → option_map make (option_and_then service_id_of (only_word_of arguments)) ≡ Some c →
    ((word : List ℕ) (service : ServiceId) → IsId word service → says.AreCommandWords (name ∷ word ∷ []) (make service)) → says.AreCommandWords (name ∷ arguments) c
id_command = only_command service_id_of IsId id_sound

bundle_command : (name : List ℕ) (make : BundleId → Command) (arguments : List (List ℕ)) (c : Command) → option_map make (option_and_then bundle_id_of (only_word_of arguments)) ≡ Some c →
    ((word : List ℕ) (bundle : BundleId) → IsBundleId word bundle → says.AreCommandWords (name ∷ word ∷ []) (make bundle)) → says.AreCommandWords (name ∷ arguments) c
bundle_command = only_command bundle_id_of IsBundleId bundle_id_sound

-- ---- what is read says the command

register_sound : (arguments : List (List ℕ)) (c : Command) → register_of arguments ≡ Some c → says.AreCommandWords (codes "register" ∷ arguments) c
register_sound [] c e = absurd (cc e)
register_sound (names ∷ []) c e = absurd (cc e)
register_sound (names ∷ quoted ∷ words) c e =
    option_and_then_some (λ classes. option_and_then (λ object. option_map (command.Register classes object) (properties_of words)) (quoted_of quoted)) (classes_of names) c e
    (λ classes are behind_classes.
    option_and_then_some (λ object. option_map (command.Register classes object) (properties_of words)) (quoted_of quoted) c behind_classes
    (λ object is behind_object.
    let read = mapped (command.Register classes object) (properties_of words) c behind_object in
    rw (← read.is)
    (says.register (classes_sound names classes are) (quoted_sound quoted object is) (properties_sound words read.value read.was))))

modify_sound : (arguments : List (List ℕ)) (c : Command) → modify_of arguments ≡ Some c → says.AreCommandWords (codes "modify" ∷ arguments) c
modify_sound [] c e = absurd (cc e)
modify_sound (id ∷ words) c e =
    option_and_then_some (λ service. option_map (command.Modify service) (properties_of words)) (service_id_of id) c e
    (λ service is behind_id.
    let read = mapped (command.Modify service) (properties_of words) c behind_id in
    rw (← read.is) (says.modify (id_sound id service is) (properties_sound words read.value read.was)))

-- a command of a bundle, for good or for this time
aimed_command : (name : List ℕ) (make : BundleId → Bool → Command) (arguments : List (List ℕ)) (c : Command) → option_map (λ (a : Aim). make a.bundle a.transient) (aim_of arguments) ≡ Some c →
    ((words : List (List ℕ)) (a : Aim) → IsAim words a → says.AreCommandWords (name ∷ words) (make a.bundle a.transient)) → says.AreCommandWords (name ∷ arguments) c
aimed_command name make arguments c e said =
    let read = mapped (λ (a : Aim). make a.bundle a.transient) (aim_of arguments) c e in
    subst (says.AreCommandWords (name ∷ arguments)) read.is (said arguments read.value (aim_sound arguments read.value read.was))

start_said : (words : List (List ℕ)) (a : Aim) → IsAim words a → says.AreCommandWords (codes "start" ∷ words) (command.Start (Id a.bundle) a.transient)
start_said words a (for_good is) = says.start is
start_said words a (this_time is) = says.start_transient is

stop_said : (words : List (List ℕ)) (a : Aim) → IsAim words a → says.AreCommandWords (codes "stop" ∷ words) (command.Stop (Id a.bundle) a.transient)
stop_said words a (for_good is) = says.stop is
stop_said words a (this_time is) = says.stop_transient is

-- a command of a bundle and of one more word
pair_sound : {A : Type 0} (name : List ℕ) (make : BundleId → A → Command) (read_as : List ℕ → Option A) (Is : List ℕ → A → Type 0) → ((word : List ℕ) (it : A) → read_as word ≡ Some it → Is word it) →
    (id : List ℕ) (words : List (List ℕ)) (c : Command) → option_and_then (λ bundle. option_map (make bundle) (option_and_then read_as (only_word_of words))) (bundle_id_of id) ≡ Some c →
    ((word : List ℕ) (bundle : BundleId) (it : A) → IsBundleId id bundle → Is word it → says.AreCommandWords (name ∷ id ∷ word ∷ []) (make bundle it)) → says.AreCommandWords (name ∷ id ∷ words) c
pair_sound name make read_as Is sound id words c e said =
    option_and_then_some (λ bundle. option_map (make bundle) (option_and_then read_as (only_word_of words))) (bundle_id_of id) c e
    (λ bundle is behind.
    let read = mapped (make bundle) (option_and_then read_as (only_word_of words)) c behind in
    let alone = only read_as Is sound words read.value read.was in
    subst (λ l. says.AreCommandWords (name ∷ id ∷ l) c) (sym alone.is)
    (subst (says.AreCommandWords (name ∷ id ∷ alone.word ∷ [])) read.is (said alone.word bundle read.value (bundle_id_sound id bundle is) alone.says)))

load_sound : (arguments : List (List ℕ)) (c : Command) → load_of arguments ≡ Some c → says.AreCommandWords (codes "load" ∷ arguments) c
load_sound [] c e = absurd (cc e)
load_sound (id ∷ words) c e =
    pair_sound (codes "load") command.Load class_of (λ word class. IsClass class × (word ≡ class)) class_sound id words c e
    (λ word bundle class is named. subst (λ w. says.AreCommandWords (codes "load" ∷ id ∷ w ∷ []) (command.Load bundle class)) (sym named.1) (says.load is named.0))

bundle_level_sound : (arguments : List (List ℕ)) (c : Command) → bundle_level_of arguments ≡ Some c → says.AreCommandWords (codes "blevel" ∷ arguments) c
bundle_level_sound [] c e = absurd (cc e)
bundle_level_sound (id ∷ words) c e =
    pair_sound (codes "blevel") command.BundleLevel level_of says.IsLevel level_sound id words c e (λ word bundle level is of_level. says.blevel is of_level)

refresh_sound : (arguments : List (List ℕ)) (c : Command) → refresh_of arguments ≡ Some c → says.AreCommandWords (codes "refresh" ∷ arguments) c
refresh_sound arguments c e =
    let read = mapped command.Refresh (bundle_ids_of arguments) c e in
    subst (says.AreCommandWords (codes "refresh" ∷ arguments)) read.is (says.refresh (ids_sound arguments read.value read.was))

-- a command that is its name alone
alone_sound : (name : List ℕ) (of c : Command) (arguments : List (List ℕ)) → alone of arguments ≡ Some c → says.AreCommandWords (name ∷ []) of → says.AreCommandWords (name ∷ arguments) c
alone_sound name of c [] e said = subst (says.AreCommandWords (name ∷ [])) (cc e) said
alone_sound name of c (word ∷ rest) e said =
    absurd (cc (e, cond-false (length (word ∷ rest) == 0) (Some of) None (ne_eqb _ 0 (λ none. absurd (omega (arith, none))))))

-- a command in words alone
said_in_words : (v : Verb) (line : List ℕ) (c : Command) → verb_name v ≡ first_word line → says.AreCommandWords (verb_name v ∷ words_of (after_word line)) c → says.Says line c
said_in_words v line c named are =
    let some : 0 < length (after_spaces line) = has_word v line named in
    let words : words_of line ≡ verb_name v ∷ words_of (after_word line) = (begins line some).words ∙ ap (λ l. l ∷ words_of (after_word line)) (sym named) in
    says.in_words are (subst (λ l. IsSeparated AreSpaces l (32 ∷ line)) words (words_separate line))

-- a command with a class, and a filter or none
said_of_class : (v : Verb) (make : List ℕ → Option Filter → Command) (line : List ℕ) (c : Command) → verb_name v ≡ first_word line →
    option_map (λ w. make w.class w.filter) (search_of (after_word line)) ≡ Some c →
    ((class : List ℕ) (filter : Option Filter) → IsClass class → IsSeparated (IsFilterEnd filter) (verb_name v ∷ class ∷ []) (32 ∷ line) → says.Says line (make class filter)) → says.Says line c
said_of_class v make line c named e said =
    let read = mapped (λ (w : Search). make w.class w.filter) (search_of (after_word line)) c e in
    let wanted = wanted_sound (after_word line) read.value (after_word-ends line) read.was in
    let separated : IsSeparated (IsFilterEnd read.value.filter) (verb_name v ∷ read.value.class ∷ []) (32 ∷ line)
    = subst (λ l. IsSeparated (IsFilterEnd read.value.filter) (l ∷ read.value.class ∷ []) (32 ∷ line)) (sym named)
    (first_separates (IsFilterEnd read.value.filter) (read.value.class ∷ []) line wanted.separated) in
    subst (says.Says line) read.is (said read.value.class read.value.filter wanted.class separated)

-- a command of a location
said_of_location : (line : List ℕ) (c : Command) → verb_name verb.Install ≡ first_word line → option_map command.Install (location_of (after_word line)) ≡ Some c → says.Says line c
said_of_location line c named e =
    let read = mapped command.Install (location_of (after_word line)) c e in
    let alone = location_sound (after_word line) read.value (after_word-ends line) read.was in
    let separated : IsSeparated AreSpaces (codes "install" ∷ read.value ∷ []) (32 ∷ line)
    = subst (λ l. IsSeparated AreSpaces (l ∷ read.value ∷ []) (32 ∷ line)) (sym named) (first_separates AreSpaces (read.value ∷ []) line alone.separated) in
    subst (says.Says line) read.is (says.in_words (says.install alone.location) separated)

-- what a text of a bundle and a location says
record IsUpdate (text : List ℕ) (c : Command) : Type 0 where
  id : List ℕ
  location : List ℕ
  words : says.AreCommandWords (codes "update" ∷ id ∷ location ∷ []) c
  separated : IsSeparated AreSpaces (id ∷ location ∷ []) text

update_behind : (rest : List ℕ) (c : Command) → update_of rest ≡ Some c → IsUpdate (32 ∷ rest) c
update_behind rest c e =
    option_and_then_some (λ bundle. option_map (command.Update bundle) (location_of (after_word rest))) (bundle_id_of (first_word rest)) c e
    (λ bundle is behind.
    let read = mapped (command.Update bundle) (location_of (after_word rest)) c behind in
    let alone = location_sound (after_word rest) read.value (after_word-ends rest) read.was in
    record {
      id = first_word rest;
      location = read.value;
      words = subst (says.AreCommandWords (codes "update" ∷ first_word rest ∷ read.value ∷ [])) read.is (says.update (bundle_id_sound (first_word rest) bundle is) alone.location);
      separated = first_separates AreSpaces (read.value ∷ []) rest alone.separated;
    })

update_sound : (text : List ℕ) (c : Command) → EndsWord text → update_of text ≡ Some c → IsUpdate text c
update_sound [] c with_nothing e = absurd (cc e)
update_sound (b ∷ rest) c (with_space _ _ is) e = subst (λ x. IsUpdate (x ∷ rest) c) (sym is) (update_behind rest c (ap (λ x. update_of (x ∷ rest)) (sym is) ∙ e))

said_of_update : (line : List ℕ) (c : Command) → verb_name verb.Update ≡ first_word line → update_of (after_word line) ≡ Some c → says.Says line c
said_of_update line c named e =
    let update = update_sound (after_word line) c (after_word-ends line) e in
    says.in_words update.words
    (subst (λ l. IsSeparated AreSpaces (l ∷ update.id ∷ update.location ∷ []) (32 ∷ line)) (sym named) (first_separates AreSpaces (update.id ∷ update.location ∷ []) line update.separated))

says_by : (v : Verb) (line : List ℕ) (c : Command) → verb_name v ≡ first_word line → command_by v (after_word line) ≡ Some c → says.Says line c
says_by verb.Register line c named e = said_in_words verb.Register line c named (register_sound (words_of (after_word line)) c e)
says_by verb.Modify line c named e = said_in_words verb.Modify line c named (modify_sound (words_of (after_word line)) c e)
says_by verb.Unregister line c named e =
    said_in_words verb.Unregister line c named
    (id_command (codes "unregister") command.Unregister (words_of (after_word line)) c e (λ word service id. says.unregister id))
says_by verb.Find line c named e = said_of_class verb.Find command.Find line c named e (λ class filter is separated. says.find is separated)
says_by verb.FindAll line c named e = said_of_class verb.FindAll command.FindAll line c named e (λ class filter is separated. says.findall is separated)
says_by verb.Get line c named e =
    said_in_words verb.Get line c named (id_command (codes "get") command.Get (words_of (after_word line)) c e (λ word service id. says.get id))
says_by verb.Unget line c named e =
    said_in_words verb.Unget line c named (id_command (codes "unget") command.Unget (words_of (after_word line)) c e (λ word service id. says.unget id))
says_by verb.Start line c named e =
    said_in_words verb.Start line c named (aimed_command (codes "start") (λ bundle transient. command.Start (Id bundle) transient) (words_of (after_word line)) c e start_said)
says_by verb.Stop line c named e =
    said_in_words verb.Stop line c named (aimed_command (codes "stop") (λ bundle transient. command.Stop (Id bundle) transient) (words_of (after_word line)) c e stop_said)
says_by verb.Load line c named e = said_in_words verb.Load line c named (load_sound (words_of (after_word line)) c e)
says_by verb.Install line c named e = said_of_location line c named e
says_by verb.Update line c named e = said_of_update line c named e
says_by verb.Uninstall line c named e =
    said_in_words verb.Uninstall line c named
    (bundle_command (codes "uninstall") command.Uninstall (words_of (after_word line)) c e (λ word bundle id. says.uninstall id))
says_by verb.Resolve line c named e =
    said_in_words verb.Resolve line c named
    (bundle_command (codes "resolve") command.Resolve (words_of (after_word line)) c e (λ word bundle id. says.resolve id))
says_by verb.Refresh line c named e = said_in_words verb.Refresh line c named (refresh_sound (words_of (after_word line)) c e)
says_by verb.Wires line c named e =
    said_in_words verb.Wires line c named (bundle_command (codes "wires") command.Wires (words_of (after_word line)) c e (λ word bundle id. says.wires id))
says_by verb.Level line c named e =
    said_in_words verb.Level line c named
    (only_command level_of says.IsLevel level_sound (codes "level") command.Level (words_of (after_word line)) c e (λ word level is. says.level is))
says_by verb.BundleLevel line c named e = said_in_words verb.BundleLevel line c named (bundle_level_sound (words_of (after_word line)) c e)
says_by verb.Bundles line c named e =
    said_in_words verb.Bundles line c named (alone_sound (codes "bundles") command.Bundles c (words_of (after_word line)) e says.bundles)
says_by verb.Services line c named e =
    said_in_words verb.Services line c named (alone_sound (codes "services") command.Services c (words_of (after_word line)) e says.services)

pub command_sound : (line : List ℕ) (c : Command) → command_of line ≡ Some c → says.Says line c
command_sound line c e =
    option_and_then_some (λ v. command_by v (after_word line)) (verb_of (first_word line)) c e
    (λ v named by. says_by v line c (verb_sound (first_word line) v named) by)

-- ---- what says a command is read

verb_read : (v : Verb) → verb_of (verb_name v) ≡ Some v
verb_read verb.Register = refl
verb_read verb.Modify = refl
verb_read verb.Unregister = refl
verb_read verb.Find = refl
verb_read verb.FindAll = refl
verb_read verb.Get = refl
verb_read verb.Unget = refl
verb_read verb.Start = refl
verb_read verb.Stop = refl
verb_read verb.Load = refl
verb_read verb.Install = refl
verb_read verb.Update = refl
verb_read verb.Uninstall = refl
verb_read verb.Resolve = refl
verb_read verb.Refresh = refl
verb_read verb.Wires = refl
verb_read verb.Level = refl
verb_read verb.BundleLevel = refl
verb_read verb.Bundles = refl
verb_read verb.Services = refl

-- a line's first word is this one, and so the command is read from what follows it
read_by : (v : Verb) (line rest : List ℕ) (c : Command) → HasFirstWord line (verb_name v) rest → command_by v rest ≡ Some c → command_of line ≡ Some c
read_by v line rest c prefix by = rw (prefix.first, prefix.remainder, verb_read v) by

-- the one argument of a text of one word
only_word_read : (word text : List ℕ) → IsLineWord word → IsSeparated AreSpaces (word ∷ []) text → only_word_of (words_of text) ≡ Some word
only_word_read word text whole separated = ap only_word_of (separated_words (word ∷ []) text (whole, tt) separated)

only_id_read : (word : List ℕ) (service : ServiceId) (text : List ℕ) → IsId word service → IsSeparated AreSpaces (word ∷ []) text →
    option_and_then service_id_of (only_word_of (words_of text)) ≡ Some service
only_id_read word service text is separated = ap (option_and_then service_id_of) (only_word_read word text (whole_id word service is) separated) ∙ id_read word service is

only_bundle_read : (word : List ℕ) (bundle : BundleId) (text : List ℕ) → IsBundleId word bundle → IsSeparated AreSpaces (word ∷ []) text →
    option_and_then bundle_id_of (only_word_of (words_of text)) ≡ Some bundle
only_bundle_read word bundle text is separated =
    ap (option_and_then bundle_id_of) (only_word_read word text (whole_bundle_id word bundle is) separated) ∙ bundle_id_read word bundle is

-- an id and one more word
pair_read : (id word text : List ℕ) → IsLineWord id → IsLineWord word → IsSeparated AreSpaces (id ∷ word ∷ []) text → words_of text ≡ id ∷ word ∷ []
pair_read id word text whole other separated = separated_words (id ∷ word ∷ []) text (whole, (other, tt)) separated

update_read : (id location text : List ℕ) (bundle : BundleId) → IsBundleId id bundle → says.IsLocation location → IsSeparated AreSpaces (id ∷ location ∷ []) text →
    update_of text ≡ Some (command.Update bundle location)
update_read id location text bundle is of_location separated =
    let prefix = first_separated AreSpaces id (location ∷ []) text ends_all (whole_bundle_id id bundle is) separated in
    rw (prefix.first, prefix.remainder, bundle_id_read id bundle is) (ap (option_map (command.Update bundle)) (location_read location separated.1 of_location separated.5))

-- words of a command: the name, and arguments; where these part a text, the command is read from it
record HasVerb (words : List (List ℕ)) (c : Command) : Type 0 where
  verb : Verb
  arguments : List (List ℕ)
  is : words ≡ verb_name verb ∷ arguments
  read : (text : List ℕ) → IsSeparated AreSpaces arguments text → command_by verb text ≡ Some c

has_verb : (words : List (List ℕ)) (c : Command) → says.AreCommandWords words c → HasVerb words c
has_verb words c (says.register {names = names} {quoted = quoted} {words = rest} {classes = classes} {object = object} {properties = properties} are is own) = record {
  verb = verb.Register;
  arguments = names ∷ quoted ∷ rest;
  is = refl;
  read = λ text separated.
      ap register_of (separated_words (names ∷ quoted ∷ rest) text (whole_classes names classes are, (whole_quoted quoted object is, whole_properties rest properties own)) separated)
      ∙ rw (classes_read names classes are, quoted_read quoted object is, properties_read rest properties own) refl;
}
has_verb words c (says.modify {id = id} {words = rest} {service = service} {properties = properties} is own) = record {
  verb = verb.Modify;
  arguments = id ∷ rest;
  is = refl;
  read = λ text separated.
      ap modify_of (separated_words (id ∷ rest) text (whole_id id service is, whole_properties rest properties own) separated)
      ∙ rw (id_read id service is, properties_read rest properties own) refl;
}
has_verb words c (says.unregister {id = id} {service = service} is) = record {
  verb = verb.Unregister;
  arguments = id ∷ [];
  is = refl;
  read = λ text separated. ap (option_map command.Unregister) (only_id_read id service text is separated);
}
has_verb words c (says.get {id = id} {service = service} is) = record {
  verb = verb.Get;
  arguments = id ∷ [];
  is = refl;
  read = λ text separated. ap (option_map command.Get) (only_id_read id service text is separated);
}
has_verb words c (says.unget {id = id} {service = service} is) = record {
  verb = verb.Unget;
  arguments = id ∷ [];
  is = refl;
  read = λ text separated. ap (option_map command.Unget) (only_id_read id service text is separated);
}
has_verb words c (says.start {id = id} {bundle = bundle} is) = record {
  verb = verb.Start;
  arguments = id ∷ [];
  is = refl;
  read = λ text separated.
      ap (λ l. option_map (λ (a : Aim). command.Start (Id a.bundle) a.transient) (aim_of l)) (separated_words (id ∷ []) text (whole_aim (id ∷ []) _ (for_good is)) separated)
      ∙ ap (option_map (λ (a : Aim). command.Start (Id a.bundle) a.transient)) (aim_read (id ∷ []) _ (for_good is));
}
has_verb words c (says.start_transient {id = id} {bundle = bundle} is) = record {
  verb = verb.Start;
  arguments = codes "-t" ∷ id ∷ [];
  is = refl;
  read = λ text separated.
      ap (λ l. option_map (λ (a : Aim). command.Start (Id a.bundle) a.transient) (aim_of l)) (separated_words (codes "-t" ∷ id ∷ []) text (whole_aim (codes "-t" ∷ id ∷ []) _ (this_time is)) separated)
      ∙ ap (option_map (λ (a : Aim). command.Start (Id a.bundle) a.transient)) (aim_read (codes "-t" ∷ id ∷ []) _ (this_time is));
}
has_verb words c (says.stop {id = id} {bundle = bundle} is) = record {
  verb = verb.Stop;
  arguments = id ∷ [];
  is = refl;
  read = λ text separated.
      ap (λ l. option_map (λ (a : Aim). command.Stop (Id a.bundle) a.transient) (aim_of l)) (separated_words (id ∷ []) text (whole_aim (id ∷ []) _ (for_good is)) separated)
      ∙ ap (option_map (λ (a : Aim). command.Stop (Id a.bundle) a.transient)) (aim_read (id ∷ []) _ (for_good is));
}
has_verb words c (says.stop_transient {id = id} {bundle = bundle} is) = record {
  verb = verb.Stop;
  arguments = codes "-t" ∷ id ∷ [];
  is = refl;
  read = λ text separated.
      ap (λ l. option_map (λ (a : Aim). command.Stop (Id a.bundle) a.transient) (aim_of l)) (separated_words (codes "-t" ∷ id ∷ []) text (whole_aim (codes "-t" ∷ id ∷ []) _ (this_time is)) separated)
      ∙ ap (option_map (λ (a : Aim). command.Stop (Id a.bundle) a.transient)) (aim_read (codes "-t" ∷ id ∷ []) _ (this_time is));
}
has_verb words c (says.load {id = id} {class = class} {bundle = bundle} is named) = record {
  verb = verb.Load;
  arguments = id ∷ class ∷ [];
  is = refl;
  read = λ text separated.
      ap load_of (pair_read id class text (whole_bundle_id id bundle is) (whole_class class named) separated) ∙ rw (bundle_id_read id bundle is, class_read class named) refl;
}
has_verb words c (says.install {location = location} is) = record {
  verb = verb.Install;
  arguments = location ∷ [];
  is = refl;
  read = λ text separated. ap (option_map command.Install) (location_read location text is separated);
}
has_verb words c (says.update {id = id} {location = location} {bundle = bundle} is of_location) = record {
  verb = verb.Update;
  arguments = id ∷ location ∷ [];
  is = refl;
  read = λ text separated. update_read id location text bundle is of_location separated;
}
has_verb words c (says.uninstall {id = id} {bundle = bundle} is) = record {
  verb = verb.Uninstall;
  arguments = id ∷ [];
  is = refl;
  read = λ text separated. ap (option_map command.Uninstall) (only_bundle_read id bundle text is separated);
}
has_verb words c (says.resolve {id = id} {bundle = bundle} is) = record {
  verb = verb.Resolve;
  arguments = id ∷ [];
  is = refl;
  read = λ text separated. ap (option_map command.Resolve) (only_bundle_read id bundle text is separated);
}
has_verb words c (says.refresh {ids = ids} {bundles = bundles} are) = record {
  verb = verb.Refresh;
  arguments = ids;
  is = refl;
  read = λ text separated.
      ap (λ l. option_map command.Refresh (bundle_ids_of l)) (separated_words ids text (whole_ids ids bundles are) separated)
      ∙ ap (option_map command.Refresh) (ids_read ids bundles are);
}
has_verb words c (says.wires {id = id} {bundle = bundle} is) = record {
  verb = verb.Wires;
  arguments = id ∷ [];
  is = refl;
  read = λ text separated. ap (option_map command.Wires) (only_bundle_read id bundle text is separated);
}
has_verb words c (says.level {word = word} {level = level} is) = record {
  verb = verb.Level;
  arguments = word ∷ [];
  is = refl;
  read = λ text separated.
      ap (λ o. option_map command.Level (option_and_then level_of o)) (only_word_read word text (whole_level word level is) separated)
      ∙ ap (option_map command.Level) (level_read word level is);
}
has_verb words c (says.blevel {id = id} {word = word} {bundle = bundle} {level = level} is of_level) = record {
  verb = verb.BundleLevel;
  arguments = id ∷ word ∷ [];
  is = refl;
  read = λ text separated.
      ap bundle_level_of (pair_read id word text (whole_bundle_id id bundle is) (whole_level word level of_level) separated)
      ∙ rw (bundle_id_read id bundle is, level_read word level of_level) refl;
}
has_verb words c says.bundles = record {
  verb = verb.Bundles;
  arguments = [];
  is = refl;
  read = λ text separated. ap (alone command.Bundles) (separated_words [] text tt separated);
}
has_verb words c says.services = record {
  verb = verb.Services;
  arguments = [];
  is = refl;
  read = λ text separated. ap (alone command.Services) (separated_words [] text tt separated);
}

words_read : (words : List (List ℕ)) (line : List ℕ) (c : Command) → HasVerb words c → IsSeparated AreSpaces words (32 ∷ line) → command_of line ≡ Some c
words_read words line c has separated =
    let named : IsSeparated AreSpaces (verb_name has.verb ∷ has.arguments) (32 ∷ line) = subst (λ l. IsSeparated AreSpaces l (32 ∷ line)) has.is separated in
    read_by has.verb line named.1 c (named_front AreSpaces has.verb has.arguments line ends_all named) (has.read named.1 named.5)

pub command_read : (line : List ℕ) (c : Command) → says.Says line c → command_of line ≡ Some c
command_read line c (says.in_words {words = words} are separated) = words_read words line c (has_verb words c are) separated
command_read line c (says.find {class = class} {filter = filter} is separated) =
    read_by verb.Find line separated.1 c (named_front (IsFilterEnd filter) verb.Find (class ∷ []) line (filter_ends filter) separated)
    (ap (option_map (λ (w : Search). command.Find w.class w.filter)) (wanted_read class filter separated.1 is separated.5))
command_read line c (says.findall {class = class} {filter = filter} is separated) =
    read_by verb.FindAll line separated.1 c (named_front (IsFilterEnd filter) verb.FindAll (class ∷ []) line (filter_ends filter) separated)
    (ap (option_map (λ (w : Search). command.FindAll w.class w.filter)) (wanted_read class filter separated.1 is separated.5))
