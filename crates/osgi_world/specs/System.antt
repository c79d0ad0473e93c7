-- The system bundle: what it is called, what it offers, and that it needs nothing.
use Rattle.std.specs.Prelude.{ℕ, List, [], ◌∷◌, true, false, None, codes}
use Rattle.std.proofs.Common.{lit≤}
use Rattle.osgi_version.specs.VersionValues.{version_numbered}
use Rattle.osgi_version.specs.declared.version.Version.{Version}
use Rattle.osgi_world.specs.declared.capability.Capability.{Capability}
use Rattle.osgi_world.specs.declared.revision.Revision.{Revision}
use Rattle.osgi_model.specs.declared.value.Attribute.{Attribute}
use Rattle.osgi_model.specs.declared.value.Value.{Value}
use Rattle.osgi_model.specs.declared.value.Value.TheVariants as value
use Rattle.osgi_world.specs.declared.world.Known.{Known}

-- a capability that names no packages and asks for no attributes
abbrev pub plain_capability : List ℕ → List ℕ → List Attribute → Capability
plain_capability namespace name attributes = record { namespace = namespace; name = name; attributes = attributes; uses = []; mandatory = [] }

abbrev pub system_bundle : Capability
system_bundle = plain_capability (codes "osgi.wiring.bundle") (codes "system.bundle") []

abbrev pub version_1_0 : Version
version_1_0 = version_numbered 1 0 0 (lit≤ tt, lit≤ tt, lit≤ tt)

abbrev pub version_1_8 : Version
version_1_8 = version_numbered 1 8 0 (lit≤ tt, lit≤ tt, lit≤ tt)

abbrev pub version_1_10 : Version
version_1_10 = version_numbered 1 10 0 (lit≤ tt, lit≤ tt, lit≤ tt)

abbrev pub version_11 : Version
version_11 = version_numbered 11 0 0 (lit≤ tt, lit≤ tt, lit≤ tt)

abbrev pub version_17 : Version
version_17 = version_numbered 17 0 0 (lit≤ tt, lit≤ tt, lit≤ tt)

-- the package `org.osgi.framework` in version 1.10.0
abbrev pub framework_package : Capability
framework_package = plain_capability (codes "osgi.wiring.package") (codes "org.osgi.framework") (record { name = codes "version"; value = value.Version version_1_10 } ∷ [])

abbrev pub java_versions : Value
java_versions = value.List (value.Version version_1_8 ∷ value.Version version_11 ∷ value.Version version_17 ∷ [])

-- the execution environment JavaSE in versions 1.8, 11 and 17
abbrev pub java_environment : Capability
java_environment =
    plain_capability (codes "osgi.ee") (codes "osgi.ee")
    (record { name = codes "osgi.ee"; value = value.Text (codes "JavaSE") } ∷ record { name = codes "version"; value = java_versions } ∷ [])

abbrev pub system_capabilities : List Capability
system_capabilities = system_bundle ∷ framework_package ∷ java_environment ∷ []

-- version 1.0.0 of `system.bundle`: to it no fragment attaches
abbrev pub system_revision : Revision
system_revision = record {
  name = codes "system.bundle";
  version = version_1_0;
  singleton = false;
  attach = false;
  host = None;
  activator = None;
  capabilities = system_capabilities;
  requirements = [];
  dynamics = [];
  lazy = None;
  files = [];
  capabilities_fit = lit≤ tt;
  requirements_fit = lit≤ tt;
}

-- bundle 0 and revision 0
abbrev pub known_system : Known
known_system = record { id = record { 0 = 0 }; bundle = record { 0 = 0 }; current = true; revision = system_revision }
