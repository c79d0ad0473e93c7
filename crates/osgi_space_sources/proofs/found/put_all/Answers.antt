-- One value more for each item.
use Rattle.std.proofs.Common.{inl, inr, sym}
use Rattle.osgi_space_sources.specs.laws.Adding.{contains-more}
use Rattle.osgi_space_sources.specs.laws.Sets.{set_put}
use Rattle.osgi_space_sources.proofs.found.put_all.Goals as goal

pub loop-item-preserved : goal.loop-item-preserved
loop-item-preserved g c = λ x.
    let before = c.loop-item.invariant x in
    let put = set_put g.T.Ord.cmp g.met.T.Node.exact c.loop-item.set c.insert.new.self c.item-item.result c.in_ok-insert.ensures.updates x in
    let more = contains-more c.args.list.now c.loop-item.item-index c.item-item.result c.loop-item-test.true c.item-item.is x in (
      λ t. elim (put.0 t) [
        | inl there ↦ elim (before.0 there) [ inl first ↦ inl first | inr listed ↦ inr (more.1 (inl listed)) ]
        | inr e ↦ inr (more.1 (inr (sym e)))
      ],
      λ either. elim either [
        | inl first ↦ put.1 (inl (before.1 (inl first)))
        | inr listed ↦ elim (more.0 listed) [ inl earlier ↦ put.1 (inl (before.1 (inr earlier))) | inr e ↦ put.1 (inr (sym e)) ]
      ],
    )
