-- The history is legal, and is as long in a hall.
use Rattle.std.proofs.Common.{◌∙◌, sym, subst}
use Rattle.std.proofs.lemmas.List.{length-map}
use Rattle.osgi_framework.specs.Entries.{as_hall}
use Rattle.osgi_framework.specs.laws.Entries.{from-as}
use Rattle.osgi_legal.specs.Legal.{Legal}
use Rattle.osgi_core.proofs.in_hall.CoreMachine.length.Goals as goal

pub returns-clause-made : goal.returns-clause-made
returns-clause-made c = subst (Legal c.args.self.now.setting) (sym (from-as c.args.self.now.entries)) c.entries.ensures.legal
