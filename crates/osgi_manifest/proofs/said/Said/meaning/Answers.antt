-- The revision has the parts that were made, and what else was said, and the script is the one that was read.
use Rattle.std.proofs.Common.{rules, refl}
use Rattle.osgi_manifest.proofs.said.Said.meaning.Goals as goal

pub returns : goal.returns
returns c = record {
  made = record {
    name = refl;
    version = refl;
    singleton = refl;
    attach = refl;
    host = refl;
    activator = refl;
    capabilities = search rules;
    requirements = c.in_ok-capabilities.ensures.requirements;
    dynamics = c.in_ok-dynamics.ensures.empty;
    lazy = refl;
    files = c.in_ok-files.ensures.paths;
  };
  script = refl;
}
