-- What is computed of the parts of a revision. No public promise speaks of this.
use Rattle.std.specs.Prelude.{ℕ, ◌≡◌, ◌++◌, if◌then◌else◌, Bool, is_some, List, [], ◌∷◌, map, None}
use Rattle.osgi_base.specs.declared.folder.File.{File}
use Rattle.osgi_base.specs.declared.folder.Folder.{Folder}
use Rattle.osgi_world.specs.declared.capability.Capability.{Capability}
use Rattle.osgi_world.specs.declared.revision.Revision.{Revision}
use Rattle.osgi_clause.specs.Members.{bundle_namespace}
use Rattle.osgi_manifest.specs.declared.said.Said.{Said}

-- the bundle itself
abbrev pub own_of : List ℕ → Capability
own_of name = record { namespace = bundle_namespace; name = name; attributes = []; uses = []; mandatory = [] }

-- the bundle itself, unless it is a fragment
abbrev pub itself_of : Bool → List ℕ → List Capability
itself_of is_fragment name = if is_fragment then [] else own_of name ∷ []

-- what a manifest says of a revision
pub record IsMadeOf (folder : Folder) (said : Said) (revision : Revision) : Type 0 where
  pub name : revision.name ≡ said.naming.name
  pub version : revision.version ≡ said.version
  pub singleton : revision.singleton ≡ said.naming.singleton
  pub attach : revision.attach ≡ said.naming.attach
  pub host : revision.host ≡ said.host
  pub activator : revision.activator ≡ said.activator
  pub capabilities : revision.capabilities ≡ itself_of (is_some said.host) said.naming.name ++ (said.members.exports ++ said.members.provided)
  pub requirements : revision.requirements ≡ said.members.bundles ++ (said.members.imports ++ said.members.required)
  pub dynamics : revision.dynamics ≡ []
  pub lazy : revision.lazy ≡ None
  pub files : revision.files ≡ map (λ (f : File). f.path) folder.files
