-- Four pushes, one after another.
use Rattle.osgi_registry_index.proofs.Pushes.{four_pushes}
use Rattle.osgi_registry_index.proofs.properties.FrameworkTexts.with_framework.Goals as goal

pub returns : goal.returns
returns c = record {
  all =
      rw (
        c.in_ok-add-4.ensures.added,
        c.in_ok-add-3.ensures.added,
        c.in_ok-add-2.ensures.added,
        c.in_ok-add.ensures.added,
        c.in_ok-text.ensures.same,
        c.args.self.now.classes_name,
        c.args.self.now.ids_name,
        c.args.self.now.owners_name,
        c.args.self.now.scopes_name,
        c.scope_text.ensures.text,
        c.id_value.ensures.value,
        c.id_value-2.ensures.value,
        c.in_ok-names.ensures.names,
        c.in_ok-all.ensures.others,
      )
      (four_pushes _ _ _ _ _);
}
