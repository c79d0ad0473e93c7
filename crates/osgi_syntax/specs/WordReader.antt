-- What words that are names or ids are read as.
use Rattle.std.specs.Prelude.{ℕ, ◌==◌, ◌&&◌, ◌^◌, nat_le, nat_lt, if◌then◌else◌, Bool, false, List, [], ◌∷◌, length, Option, None, Some}
use Rattle.std.specs.List.{list_all, slice_split}
use Rattle.std.specs.Str.Parse.{digits_value}
use Rattle.osgi_base.specs.declared.ids.BundleId.{BundleId}
use Rattle.osgi_base.specs.declared.ids.ServiceId.{ServiceId}
use Rattle.osgi_model.specs.computed.LongReader.{is_numeral}
use Rattle.osgi_syntax.specs.Words.{begins_name, is_class_byte, is_name_byte, is_token_byte}

-- one or more bytes, each of which passes
abbrev pub is_some_of : (ℕ → Bool) → List ℕ → Bool
is_some_of passes text = if length text == 0 then false else list_all passes text

abbrev pub is_class : List ℕ → Bool
is_class name = is_some_of is_class_byte name

abbrev pub class_of : List ℕ → Option (List ℕ)
class_of word = if is_class word then Some word else None

-- `,` (44)
abbrev pub is_comma : ℕ → Bool
is_comma b = b == 44

-- the class names of a word, where it is a list of such
abbrev pub classes_of : List ℕ → Option (List (List ℕ))
classes_of word = if list_all is_class (slice_split is_comma word) then Some (slice_split is_comma word) else None

abbrev pub is_name : List ℕ → Bool
is_name [] = false
is_name (b ∷ rest) = begins_name b && list_all is_name_byte rest

abbrev pub name_of : List ℕ → Option (List ℕ)
name_of word = if is_name word then Some word else None

abbrev pub is_token : List ℕ → Bool
is_token token = is_some_of is_token_byte token

-- `.` (46)
abbrev pub is_dot : ℕ → Bool
is_dot b = b == 46

abbrev pub is_bundle_name : List ℕ → Bool
is_bundle_name name = list_all is_token (slice_split is_dot name)

abbrev pub bundle_name_of : List ℕ → Option (List ℕ)
bundle_name_of word = if is_bundle_name word then Some word else None

abbrev pub service_id_of : List ℕ → Option ServiceId
service_id_of word = if nat_le (length word) 10 && is_numeral word then Some (record { 0 = digits_value 10 word }) else None

-- the bundle with the same number, where it is below 2^32
abbrev pub bundle_by : Option ServiceId → Option BundleId
bundle_by None = None
bundle_by (Some number) = if nat_lt number.0 (2 ^ 32) then Some (record { 0 = number.0 }) else None

abbrev pub bundle_id_of : List ℕ → Option BundleId
bundle_id_of word = bundle_by (service_id_of word)
