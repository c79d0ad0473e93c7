-- The set has what the list has, and then the value.
use Rattle.std.proofs.Common.{inl, inr, Contains}
use Rattle.osgi_space_sources.specs.computed.Collected.{Has}
use Rattle.osgi_space_sources.specs.laws.Sets.{none_in, set_push}
use Rattle.osgi_space_sources.proofs.found.fill.Goals as goal

pub returns : goal.returns
returns g c =
    let cmp = g.T.Ord.cmp in
    let list = c.args.list.now in
    let same : Has cmp c.put_all.new.set (Contains list) = λ x.
    let put = c.in_ok-put_all.ensures.put x in (
      λ t. elim (put.0 t) [ inl old ↦ absurd (none_in cmp c.clear.new.self c.clear.ensures.empty x old) | inr listed ↦ listed ],
      λ listed. put.1 (inr listed),
    ) in
    record { filled = set_push cmp g.met.T.Node.exact c.put_all.new.set c.insert.new.self list c.args.node c.in_ok-insert.ensures.updates same }
