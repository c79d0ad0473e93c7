-- A version whose qualifier stands in its text, as a version's parts. No public promise speaks of this.
use Rattle.osgi_version.specs.Versions.{Parts}
use Rattle.osgi_version.specs.declared.read.Found.{Found}

abbrev pub found_parts : Found → Parts
found_parts f = record { major = f.major; minor = f.minor; micro = f.micro; qualifier = f.qualifier.now }
