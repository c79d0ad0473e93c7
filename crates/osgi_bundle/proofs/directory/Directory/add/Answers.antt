-- A bundle put under a location that has none, and taken out again where the name could not be put.
use Rattle.std.proofs.Common.{sym, subst, ◌∙◌}
use Rattle.std.specs.Prelude.{Some}
use Rattle.std.specs.BTreeMap.{Updates}
use Rattle.osgi_base.specs.computed.Texts.{text_cmp}
use Rattle.osgi_bundle.proofs.Indices.{adds_new, adds_none, nothing, undone}
use Rattle.osgi_bundle.proofs.Names.{name_total, text_total}
use Rattle.osgi_bundle.proofs.directory.Directory.add.Goals as goal

pub returns-then-contains_key-clause-locations : goal.returns-then-contains_key-clause-locations
returns-then-contains_key-clause-locations c = adds_none text_total c.args.self.now.locations c.args.location.now c.args.bundle (sym c.contains_key.ensures ∙ c.if-contains_key.true)

pub returns-then-contains_key-clause-names : goal.returns-then-contains_key-clause-names
returns-then-contains_key-clause-names c = adds_new name_total c.args.self.now.names c.insert.new.self c.args.name c.args.bundle c.requires.fresh c.in_ok-insert.ensures.updates

pub returns-in-Err-clause-same_locations : goal.returns-in-Err-clause-same_locations
returns-in-Err-clause-same_locations c =
    undone text_total c.args.self.now.locations c.insert-2.new.self c.remove.new.self c.args.location.now (Some c.args.bundle) (nothing _ (sym c.contains_key.ensures ∙ c.if-contains_key.false))
    (subst (λ key. Updates text_cmp c.args.self.now.locations c.insert-2.new.self key (Some c.args.bundle)) c.in_ok-copy.ensures.same c.in_ok-insert-2.ensures.updates) c.remove.ensures.updates

pub returns-clause-locations : goal.returns-clause-locations
returns-clause-locations c =
    adds_new text_total c.args.self.now.locations c.insert-2.new.self c.args.location.now c.args.bundle (nothing _ (sym c.contains_key.ensures ∙ c.if-contains_key.false))
    (subst (λ key. Updates text_cmp c.args.self.now.locations c.insert-2.new.self key (Some c.args.bundle)) c.in_ok-copy.ensures.same c.in_ok-insert-2.ensures.updates)

pub returns-clause-names : goal.returns-clause-names
returns-clause-names c = adds_new name_total c.args.self.now.names c.insert-3.new.self c.args.name c.args.bundle c.requires.fresh c.in_default.ensures.updates
