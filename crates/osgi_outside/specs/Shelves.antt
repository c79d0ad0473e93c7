-- What a shelf answers, if it exposes its folders.
use Rattle.std.specs.Prelude.{ℕ, ◌≡◌, ◌-◌, ◌^◌, ◌==◌, ◌||◌, ⊤, Bool, true, false, List, length, min, find, sum_by, nat_lt, Option, IfSome, if◌then◌else◌}
use Rattle.std.specs.Option.{option_map, option_map_or}
use Rattle.std.specs.Cmp.Lexicographic.{pointwise, slice_cmp}
use Rattle.std.specs.List.Sorted.{IsSortedByKey}
use Rattle.std.specs.Ordering.{nat_cmp}
use Rattle.osgi_base.specs.declared.folder.Folder.{Folder}
use Rattle.osgi_outside.specs.declared.shelf.TheConstants.{MAX_BYTES, MAX_FILES}
use Rattle.osgi_outside.specs.declared.shelf.Found.{Found}
use Rattle.osgi_outside.specs.declared.shelf.Found.TheVariants as found
use Rattle.osgi_outside.specs.Causes.{Rose}
use Rattle.osgi_outside.specs.Scripted.{ScriptState}

-- a location and the folder that is found there
abbrev pub ShelfRow : Type 0
ShelfRow = List ℕ × Folder

-- the folder at a location: that of the first row that has it
abbrev pub folder_at : List ShelfRow → List ℕ → Option Folder
folder_at rows location = option_map (λ row. row.1) (find (λ row. pointwise ◌==◌ row.0 location) rows)

abbrev pub bytes_of : Folder → ℕ
bytes_of folder = sum_by (λ file. length file.bytes) folder.files

abbrev pub files_of : Folder → ℕ
files_of folder = length folder.files

-- whether so many bytes or so many files are more than a folder may have
abbrev pub is_too_large : ℕ → ℕ → Bool
is_too_large bytes files = nat_lt MAX_BYTES bytes || nat_lt MAX_FILES files

-- what a folder is answered as; the two numbers stand still at the greatest of their types
abbrev pub found_of : Folder → Found
found_of folder = if is_too_large (bytes_of folder) (files_of folder)
    then found.TooLarge (min (bytes_of folder) (2 ^ 64 - 1)) (min (files_of folder) (2 ^ 32 - 1))
    else found.Folder folder

-- what a read of a location is answered, if it does not fail
abbrev pub found_at : List ShelfRow → List ℕ → Found
found_at rows location = option_map_or found_of (folder_at rows location) found.NoFolder

-- an answer other than `Failed` is that of the told rows
abbrev pub IsAsTold : Option (List ShelfRow) → List ℕ → Found → Type 0
IsAsTold told location found.Failed = ⊤
IsAsTold told location (found.Folder folder) = IfSome told (λ rows. found.Folder folder ≡ found_at rows location)
IsAsTold told location found.NoFolder = IfSome told (λ rows. found.NoFolder ≡ found_at rows location)
IsAsTold told location (found.TooLarge bytes files) = IfSome told (λ rows. found.TooLarge bytes files ≡ found_at rows location)

-- a folder that is answered is not too large, and one that is said to be too large is
abbrev pub KeepsLimits : Found → Type 0
KeepsLimits (found.Folder folder) = is_too_large (bytes_of folder) (files_of folder) ≡ false
KeepsLimits (found.TooLarge bytes files) = is_too_large bytes files ≡ true
KeepsLimits found.NoFolder = ⊤
KeepsLimits found.Failed = ⊤

-- the files of a folder that is answered stand by rising bytes of their paths
abbrev pub IsInOrder : Found → Type 0
IsInOrder (found.Folder folder) = IsSortedByKey (λ file. file.path) (slice_cmp nat_cmp) folder.files
IsInOrder found.NoFolder = ⊤
IsInOrder (found.TooLarge bytes files) = ⊤
IsInOrder found.Failed = ⊤

-- the count of faults rose where the answer is `Failed`
abbrev pub RoseWhereFailed : ℕ → ℕ → Found → Type 0
RoseWhereFailed before now found.Failed = Rose before now
RoseWhereFailed before now (found.Folder folder) = ⊤
RoseWhereFailed before now found.NoFolder = ⊤
RoseWhereFailed before now (found.TooLarge bytes files) = ⊤

-- a shelf in memory
pub record ShelfState : Type 0 where
  pub rows : List ShelfRow
  pub script : ScriptState
