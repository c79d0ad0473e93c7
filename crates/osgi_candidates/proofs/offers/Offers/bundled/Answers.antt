-- One more revision, and all of them.
use Rattle.std.proofs.Common.{◌≡◌, List, ap, get_or, sym, subst, take, ◌∙◌}
use Rattle.std.proofs.lemmas.List.{take_all}
use Rattle.osgi_base.specs.declared.ids.RevisionId.{RevisionId}
use Rattle.osgi_candidates.specs.computed.Fragments.{AreBundled}
use Rattle.osgi_candidates.specs.declared.fragments.Bundled.{Bundled}
use Rattle.osgi_candidates.proofs.Attaching.{bundled_none, bundled_put, bundled_skip}
use Rattle.osgi_candidates.proofs.Tested.{not_by}
use Rattle.osgi_space_rules.proofs.Grow.{one_more}
use Rattle.osgi_space_rules.proofs.Items.{no_revision, there}
use Rattle.osgi_world.specs.Lookups.{bundle_of}
use Rattle.osgi_world.specs.declared.world.Known.{Known}
use Rattle.osgi_world.specs.declared.world.World.{World}
use Rattle.osgi_candidates.proofs.offers.Offers.bundled.Goals.{then-is_match+in_ok-insert, else-is_match}
use Rattle.osgi_candidates.proofs.offers.Offers.bundled.Goals as goal

pub loop-fragment-init : goal.loop-fragment-init
loop-fragment-init c = bundled_none c.args.self.now.known c.args.host.now c.new-bundled.result.keys c.new-bundled.ensures.empty

pub loop-fragment-preserved : goal.loop-fragment-preserved
loop-fragment-preserved c =
    let K = c.args.self.now.known in
    let among = c.args.among.now in
    let i = c.loop-fragment.fragment-index in
    let f = get_or among i no_revision in
    let within = c.loop-fragment-test.true in
    let more = one_more among i f within (there among i no_revision within) in
    let known : c.self.inside.known ≡ K = c.self.invariant.0 ∙ ap (λ (w : World). w.known) c.self.view_is in
    subst (λ (l : List RevisionId). AreBundled K c.args.host.now l c.if-is_match.bundled.keys) (sym more)
    (elim c.if-is_match.branch [
      | then-is_match+in_ok-insert w ↦ (
          let b : Bundled = record { bundle = w.bundle_of.result; fragment = f } in
          let bundle = w.bundle_of.ensures.bundle ∙ ap (λ (K : List Known). bundle_of K f) known in
          rw w.bundled-is (bundled_put K c.args.host.now (take i among) b c.loop-fragment.bundled.keys w.insert.new.self.keys c.loop-fragment.invariant (c.is_match.ensures.matches.0 w.if-is_match.true) bundle w.in_ok-insert.ensures.keys))
      | else-is_match w ↦ rw w.bundled-is (bundled_skip K c.args.host.now (take i among) f c.loop-fragment.bundled.keys c.loop-fragment.invariant (not_by c.is_match.result _ w.if-is_match.false c.is_match.ensures.matches))
    ])

pub returns : goal.returns
returns c = record {
  bundled = subst (λ (l : List RevisionId). AreBundled c.args.self.now.known c.args.host.now l c.loop-fragment.bundled.keys) (take_all c.loop-fragment.fragment-index c.args.among.now c.loop-fragment-test.false) c.loop-fragment.invariant;
}
