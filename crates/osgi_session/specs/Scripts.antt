-- What the sections of the scripts say.
use Rattle.std.specs.Prelude.{Bool, true, false, [], find, slice_get}
use Rattle.std.specs.Option.{option_map_or}
use Rattle.std.specs.Str.{bytes_eq}
use Rattle.osgi_ops.specs.declared.section.Section.{Section}
use Rattle.osgi_ops.specs.declared.section.Section.TheVariants as section
use Rattle.osgi_session.specs.Runs.{Sections}
use Rattle.osgi_session.specs.declared.script.Part.{Part}
use Rattle.osgi_session.specs.declared.script.Script.{Script}
use Rattle.osgi_session.specs.declared.scripts.Scripts.{Scripts}

-- both are the same section
abbrev pub is_section : Section → Section → Bool
is_section section.Start section.Start = true
is_section section.Stop section.Stop = true
is_section (section.On name) (section.On other) = bytes_eq name other
is_section (section.Job name) (section.Job other) = bytes_eq name other
is_section (section.Make name) (section.Make other) = bytes_eq name other
is_section _ _ = false

-- the statements of a section of the row's script: none where the script does not have it, or the row has no script
abbrev pub sections_of : Scripts → Sections
sections_of scripts row which =
    option_map_or (λ (part : Part). part.statements)
    (find (λ (part : Part). is_section which part.section) (option_map_or (λ (script : Script). script.sections) (slice_get scripts.rows row) [])) []
