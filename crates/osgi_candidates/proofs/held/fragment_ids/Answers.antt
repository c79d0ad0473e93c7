-- One more fragment.
use Rattle.std.proofs.Common.{get_or}
use Rattle.std.proofs.lemmas.Cmp.{nat_cmp_total}
use Rattle.std.proofs.lemmas.Map.Lookups.{exact_unsigned}
use Rattle.osgi_candidates.proofs.Standing.{IsId, fragments_are}
use Rattle.osgi_space_rules.proofs.Exact.{inserted}
use Rattle.osgi_space_rules.proofs.Grow.{grow_done, grow_step}
use Rattle.osgi_space_rules.proofs.Items.{no_revision, there}
use Rattle.osgi_candidates.proofs.held.fragment_ids.Goals as goal

pub loop-fragment-preserved : goal.loop-fragment-preserved
loop-fragment-preserved c =
    let fragments = c.args.fragments.now in
    let i = c.loop-fragment.fragment-index in
    let within = c.loop-fragment-test.true in
    grow_step IsId _ _ _ fragments i (get_or fragments i no_revision) within (there fragments i no_revision within) c.loop-fragment.invariant
    (inserted nat_cmp_total exact_unsigned c.loop-fragment.ids c.insert.new.self _ c.in_ok-insert.ensures.updates)

pub returns : goal.returns
returns c = record { fragments = fragments_are c.args.fragments.now c.loop-fragment.ids (grow_done IsId _ _ c.args.fragments.now c.loop-fragment.fragment-index c.loop-fragment-test.false c.loop-fragment.invariant) }
