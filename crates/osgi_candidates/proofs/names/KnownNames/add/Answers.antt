-- The capabilities, their texts, the fragment and the name of the revision are added.
use Rattle.std.proofs.Common.{◌≡◌, ap, subst, ◌∙◌}
use Rattle.osgi_base.specs.computed.Texts.{text_cmp}
use Rattle.osgi_candidates.proofs.Naming.{adds_in}
use Rattle.osgi_space_rows.specs.computed.Groups.{Adds}
use Rattle.osgi_world.specs.declared.revision.Revision.{Revision}
use Rattle.osgi_candidates.proofs.names.KnownNames.add.Goals as goal

pub returns : goal.returns
returns c =
    let k = c.args.known.now in
    let name : c.in_ok-name.name ≡ k.revision.name = c.in_ok-name.ensures.same ∙ ap (λ (v : Revision). v.name) c.get.ensures.value in
    let adds = subst (λ n. Adds text_cmp c.args.self.now.revisions c.push.new.self n k.id) name c.in_ok-push.ensures.added in
    record {
      added = record {
        capabilities = c.in_ok-add_capabilities.ensures.added;
        texts = c.in_ok-add.ensures.added;
        fragments = c.in_ok-add_fragment.ensures.added;
        revisions = adds_in c.args.self.now.revisions c.push.new.self k.revision.name k.id adds;
      };
    }
