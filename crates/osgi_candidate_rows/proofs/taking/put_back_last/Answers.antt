-- One item more is back.
use Rattle.std.proofs.Common.{◌≡◌, ◌∙◌, ◌<◌, length, drop, refl, ap, subst, sym, arith}
use Rattle.std.specs.Prelude.{slice_index_or}
use Rattle.osgi_links.specs.Held.{Held}
use Rattle.osgi_candidate_rows.specs.computed.Gone.{Tells}
use Rattle.osgi_candidate_rows.proofs.Numbers.{drop-step}
use Rattle.osgi_candidate_rows.proofs.Taken.{drop-one, some-left}
use Rattle.osgi_candidate_rows.proofs.taking.put_back_last.Goals as goal

pub loop-init : goal.loop-init
loop-init c = record { back = refl; gone = c.requires.gone }

pub relink-requires : goal.relink-requires
relink-requires c = record { one_out = subst (λ (h : Held). 0 < length h.removed) (sym c.loop.invariant.back) (some-left c.args.rows.now.removed c.loop.counter c.args.count c.loop-test.true c.requires.out) }

pub loop-preserved : goal.loop-preserved
loop-preserved c =
    let removed = c.loop.rows.removed in
    let out : 0 < length removed = subst (λ (h : Held). 0 < length h.removed) (sym c.loop.invariant.back) (some-left c.args.rows.now.removed c.loop.counter c.args.count c.loop-test.true c.requires.out) in
    record {
      back =
          c.relink.ensures.removed ∙ ap (λ (h : Held). record h { removed = drop 1 h.removed }) c.loop.invariant.back
          ∙ ap (λ xs. record c.args.rows.now { removed = xs }) (drop-one c.args.rows.now.removed c.loop.counter);
      gone = subst (λ (h : Held). Tells c.forget_last.new.self h.removed) (sym c.relink.ensures.removed)
          (c.forget_last.ensures.forgotten (slice_index_or removed 0 0) (drop 1 removed) (subst (Tells c.loop.gone) (drop-step removed 0 0 out) c.loop.invariant.gone));
    }

pub returns : goal.returns
returns c =
    let all : c.loop.counter ≡ c.args.count = (let h = c.loop.auto.counter-end in let t = c.loop-test.false in omega (arith, h, t)) in
    record { back = c.loop.invariant.back ∙ ap (λ n. record c.args.rows.now { removed = drop n c.args.rows.now.removed }) all; gone = c.loop.invariant.gone }
