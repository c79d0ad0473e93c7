-- A fragment that is current, and what is none.
use Rattle.std.proofs.Common.{ap, sym, subst, ◌∙◌}
use Rattle.osgi_base.specs.computed.Texts.{text_cmp}
use Rattle.osgi_candidates.proofs.Naming.{no_fragment, no_host, one_fragment}
use Rattle.osgi_space_rows.specs.computed.Groups.{Adds}
use Rattle.osgi_world.specs.declared.revision.Revision.{Revision}
use Rattle.osgi_candidates.proofs.names.add_fragment.Goals as goal

pub returns-in_ok-push : goal.returns-in_ok-push
returns-in_ok-push c =
    let is = ap (λ (v : Revision). v.host) (sym c.get.ensures.value) ∙ c.in-Some.is in
    let adds = subst (λ n. Adds text_cmp c.args.fragments.now c.push.new.self n c.args.known.now.id) c.in_ok-copy.ensures.same c.in_ok-push.ensures.added in
    record { added = one_fragment c.args.known.now c.args.fragments.now c.push.new.self c.in-Some.host is adds }

pub returns-in_default : goal.returns-in_default
returns-in_default c = record { added = no_host c.args.known.now c.args.fragments.now (ap (λ (v : Revision). v.host) (sym c.get.ensures.value) ∙ c.in_default.is) }

pub returns-then-not-known : goal.returns-then-not-known
returns-then-not-known c = record { added = no_fragment c.args.known.now c.args.fragments.now (λ t. cc (sym c.if-not-known.true ∙ t)) }
