-- The first of those that are searched.
use Rattle.std.proofs.Common.{◌≡◌, ◌∙◌, List, ℕ, ap, subst}
use Rattle.std.specs.Prelude.{find}
use Rattle.osgi_base.specs.declared.ids.RevisionId.{RevisionId}
use Rattle.osgi_ops.specs.Assignable.{package_of}
use Rattle.osgi_ops.specs.Loading.{all_with_fragments, AreSearched, has_file, path_of}
use Rattle.osgi_loader.proofs.loading.load.Goals as goal

pub returns : goal.returns
returns c =
    let world = c.args.wirings.now.world in
    let hosts = c.in_ok-hosts.hosts.items in
    let named : c.package_of.result.now ≡ package_of c.args.class.now = c.package_of.ensures.package ∙ ap package_of c.bytes.ensures.bytes in
    let path : c.as_slice.result.now ≡ path_of c.args.class.now = c.as_slice.ensures.value ∙ c.in_ok-path.ensures.path ∙ ap path_of c.bytes-2.ensures.bytes in
    record {
      loaded = (
        all_with_fragments world hosts,
        subst (λ (p : List ℕ). AreSearched world c.args.revision p (all_with_fragments world hosts)) named c.in_ok-hosts.ensures.searched,
        c.first_with.ensures.first
            ∙ ap (λ (q : List ℕ). find (has_file world q) (all_with_fragments world c.as_slice-2.result.now)) path
            ∙ ap (λ (l : List RevisionId). find (has_file world (path_of c.args.class.now)) (all_with_fragments world l)) c.as_slice-2.ensures.value,
      );
    }
