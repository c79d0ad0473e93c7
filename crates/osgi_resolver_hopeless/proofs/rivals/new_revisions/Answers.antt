-- The members, then the fragments of each.
use Rattle.std.proofs.Common.{◌∙◌, inl, inr, ℕ, List, subst, get_or}
use Rattle.osgi_base.specs.declared.ids.RevisionId.{RevisionId}
use Rattle.osgi_space_rules.proofs.Grow.{at_in}
use Rattle.osgi_space_rules.proofs.Items.{no_revision, there}
use Rattle.osgi_space_sources.specs.laws.Adding.{adds-from, adds-more, adds-start, adds-whole}
use Rattle.osgi_space_sources.specs.computed.Adds.{Adds}
use Rattle.osgi_resolver_hopeless.proofs.Present.{are-new}
use Rattle.osgi_resolver_path.specs.Standing.{made}
use Rattle.osgi_space_rows.specs.Agree.{id}
use Rattle.osgi_world.specs.DueDecisions.{fragments_of}
use Rattle.osgi_world.specs.Lists.{In}
use Rattle.osgi_resolver_hopeless.proofs.rivals.new_revisions.Goals as goal

pub loop-member-init : goal.loop-member-init
loop-member-init c = λ P L. adds-start (λ (m : RevisionId) (n : ℕ). In (id n) (fragments_of P (made P c.args.path.now) m)) c.members-members.result.now c.add_all.new.found

pub loop-member-preserved : goal.loop-member-preserved
loop-member-preserved c = λ P L.
    let members = c.members-members.result.now in
    let i = c.loop-member.member-index in
    let within = c.loop-member-test.true in
    let m = get_or members i no_revision in
    let at = there members i no_revision within in
    let are = c.as_slice.ensures.value ∙ c.in_ok-fragments.ensures.fragments P L (subst (In m) (c.members-members.ensures.members P L) (at_in members i m within at)) in
    let step = subst (λ (fs : List RevisionId). Adds (λ n. In (id n) fs) c.loop-member.new c.add_all-in-loop-member.new.found) are c.in_ok-add_all-2.ensures.added in
    adds-more (λ (r : RevisionId) (n : ℕ). In (id n) (fragments_of P (made P c.args.path.now) r)) members i m within at (c.loop-member.invariant P L) step

pub returns : goal.returns
returns c = record {
  new = λ P L n.
      let members = c.members-members.result.now in
      let Q = λ (m : RevisionId) (k : ℕ). In (id k) (fragments_of P (made P c.args.path.now) m) in
      let first = adds-from c.new-new.ensures.empty c.in_ok-add_all.ensures.added n in
      let all = (adds-whole Q members c.loop-member.member-index c.loop-member-test.false (c.loop-member.invariant P L)).exact n in
      let new = are-new P (made P c.args.path.now) members (c.members-members.ensures.members P L) n in
      let same : List RevisionId → Type 0 = λ ms. In (id n) ms in (
        λ at. new.0 (elim (all.0 at) [ inl f ↦ inl (first.0 f) | inr any ↦ inr any ]),
        λ is. all.1 (elim (new.1 is) [ inl i ↦ inl (first.1 i) | inr any ↦ inr any ]),
      );
}
