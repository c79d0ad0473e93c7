-- What is read of the arguments of commands. No public promise speaks of this.
use Rattle.std.specs.Prelude.{ℕ, ◌^◌, ◌==◌, ◌&&◌, nat_lt, if◌then◌else◌, Bool, true, false, not, List, [], ◌∷◌, length, take, drop, codes, Option, None, Some, option_and_then}
use Rattle.std.specs.List.{position}
use Rattle.std.specs.Option.{option_map, unwrap_or}
use Rattle.std.specs.Str.{bytes_eq}
use Rattle.osgi_base.specs.declared.ids.BundleId.{BundleId}
use Rattle.osgi_base.specs.declared.ids.ServiceId.{ServiceId}
use Rattle.osgi_filter.specs.computed.Reader.{read_filter}
use Rattle.osgi_console.specs.declared.arguments.Aim.{Aim}
use Rattle.osgi_console.specs.declared.arguments.Search.{Search}
use Rattle.osgi_syntax.specs.Splitting.{after_spaces, after_word, first_word, only_word_of}
use Rattle.osgi_syntax.specs.WordReader.{bundle_id_of, class_of, service_id_of}

abbrev pub only_id_of : List (List ℕ) → Option ServiceId
only_id_of arguments = option_and_then service_id_of (only_word_of arguments)

abbrev pub only_bundle_of : List (List ℕ) → Option BundleId
only_bundle_of arguments = option_and_then bundle_id_of (only_word_of arguments)

-- the start level with the same number, where it is below 2^8
abbrev pub level_by : Option ServiceId → Option ℕ
level_by None = None
level_by (Some number) = if nat_lt number.0 (2 ^ 8) then Some number.0 else None

abbrev pub level_of : List ℕ → Option ℕ
level_of word = level_by (service_id_of word)

abbrev pub only_level_of : List (List ℕ) → Option ℕ
only_level_of arguments = option_and_then level_of (only_word_of arguments)

-- what the one bundle is for: `-t` says that it is for this time alone
abbrev pub aim_of : List (List ℕ) → Option Aim
aim_of [] = None
aim_of (word ∷ words) =
    if bytes_eq word (codes "-t") then option_map (λ bundle. record { bundle = bundle; transient = true }) (only_bundle_of words)
    else option_map (λ bundle. record { bundle = bundle; transient = false }) (only_bundle_of (word ∷ words))

abbrev pub bundle_ids_of : List (List ℕ) → Option (List BundleId)
bundle_ids_of [] = Some []
bundle_ids_of (word ∷ words) = option_and_then (λ bundle. option_map (λ bundles. bundle ∷ bundles) (bundle_ids_of words)) (bundle_id_of word)

-- a space (32)
abbrev pub is_space : ℕ → Bool
is_space b = b == 32

-- where the first space stands, or else the end
abbrev pub location_end : List ℕ → ℕ
location_end text = unwrap_or (position is_space text) (length text)

-- the bytes up to that place, if there are some and nothing but spaces follow
abbrev pub location_to : ℕ → List ℕ → Option (List ℕ)
location_to end text = if not (end == 0) && (length (after_spaces (drop end text)) == 0) then Some (take end text) else None

-- the one argument, where a quote is a byte as any other
abbrev pub location_of : List ℕ → Option (List ℕ)
location_of text = location_to (location_end (after_spaces text)) (after_spaces text)

-- what is wanted of a class, by what follows its name
abbrev pub search_from : List ℕ → List ℕ → Option Search
search_from class remainder =
    if length (after_spaces remainder) == 0 then Some (record { class = class; filter = None })
    else option_map (λ filter. record { class = class; filter = Some filter }) (read_filter remainder)

abbrev pub search_of : List ℕ → Option Search
search_of text = option_and_then (λ class. search_from class (after_word text)) (class_of (first_word text))
