-- The table is asked for the name and the version of the revision.
use Rattle.std.proofs.Common.{◌+◌, ap, ◌∙◌}
use Rattle.std.specs.Prelude.{is_some}
use Rattle.osgi_base.specs.declared.ids.BundleId.{BundleId}
use Rattle.osgi_bundle.specs.Rows.{verdict_of}
use Rattle.osgi_world.specs.declared.revision.Revision.{Revision}
use Rattle.osgi_reply_resolving.proofs.Brought.{made_said}
use Rattle.osgi_reply_resolving.proofs.installing.make.Goals as goal

pub returns : goal.returns
returns c =
    let id : BundleId = record { 0 = c.args.bundles.now.issued + 1 } in
    let name = c.in_ok-name.ensures.same ∙ ap (λ (r : Revision). r.name) c.get.ensures.value in
    let version = c.in_ok-version.ensures.same ∙ ap (λ (r : Revision). r.version) c.get-2.ensures.value in
    let fragment = c.is_some-fragment.ensures ∙ ap (λ (r : Revision). is_some r.host) c.get-3.ensures.value in
    record { answer = made_said c.args.bundles.now.rows id c.args.row (verdict_of c.in_ok-made.made) _ _ _ _ _ _ _ _ c.in_ok-copy.ensures.same name version fragment c.in_ok-made.ensures.answer }
