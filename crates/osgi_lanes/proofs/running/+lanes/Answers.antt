-- What the other lanes gave, and then what the last one gave; there is room for it.
use Rattle.std.proofs.Common.{◌≡◌, List, arith, sym, subst, ◌++◌, ◌∷◌, []}
use Rattle.std.proofs.lemmas.Slice.Zip.{all_zipped_more, AllZip-long}
use Rattle.std.specs.List.{AllZip}
use Rattle.osgi_lanes.proofs.running.+lanes.Goals as goal

-- all lanes are the others and the last one, and what they gave likewise
more : {L D : Type 0} (Gives : L → D → Type 0) (all lanes : List L) (last : L) (done given : List D) (one : D) → all ≡ lanes ++ last ∷ [] → done ≡ given ++ one ∷ [] →
    AllZip Gives lanes given → Gives last one → AllZip Gives all done
more {L} {D} Gives all lanes last done given one are gave before after =
    subst (λ l. AllZip Gives l done) (sym are) (subst (AllZip Gives (lanes ++ last ∷ [])) (sym gave) (all_zipped_more Gives lanes given last one before after))

pub push_reserved-requires : goal.push_reserved-requires
push_reserved-requires g t c =
    let others = c.join-one.ensures.second in
    let as_long = AllZip-long (g.W.Work.gives c.args.work.now) c.pop.new.self.items c.join-one.result.1.items others.0 in
    omega (arith, as_long, others.1, c.requires.room, c.in-Some.ensures.len, c.in-Some.ensures.capacity)

pub returns-clause-given : goal.returns-clause-given
returns-clause-given g t c =
    more (g.W.Work.gives c.args.work.now) c.args.lanes.items c.pop.new.self.items c.in-Some.last c.push_reserved.new.self.items c.join-one.result.1.items c.join-one.result.0
    c.in-Some.ensures.items c.push_reserved.ensures.items c.join-one.ensures.second.0 c.join-one.ensures.first
