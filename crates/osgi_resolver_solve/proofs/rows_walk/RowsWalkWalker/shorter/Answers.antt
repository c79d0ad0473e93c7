-- A layer less.
use Rattle.std.proofs.Common.{arith, ◌∙◌, ◌++◌, ap, sym}
use Rattle.std.specs.Option.{option_to_list}
use Rattle.osgi_resolver_path.specs.Standing.{Standing}
use Rattle.osgi_candidate_rows.specs.Listed.{Listed}
use Rattle.osgi_resolver_solve.specs.computed.Layers.{Place}
use Rattle.osgi_resolver_solve.proofs.Layers.{counts-some, in_rows-shorter, out-last, problem-eq}
use Rattle.osgi_resolver_solve.proofs.rows_walk.RowsWalkWalker.shorter.Goals as goal

pub unwrap-count-requires : goal.unwrap-count-requires
unwrap-count-requires c =
    let some = counts-some c.self.inside.path c.shorter.new.self c.self.inside.rows c.self.inside.taken.items c.in_ok-value.value c.self.invariant c.in_ok-value.ensures.word in
    c.pop.ensures.variant.1 (omega (arith, some))

pub put_back-requires : goal.put_back-requires
put_back-requires c = record {
  out = out-last c.self.inside.path c.shorter.new.self c.self.inside.rows c.self.inside.taken.items c.pop.new.self.items c.in_ok-value.value c.unwrap-count.result c.self.invariant c.in_ok-value.ensures.word
      (c.pop.ensures.items ∙ ap (λ o. c.pop.new.self.items ++ option_to_list o) c.unwrap-count.ensures);
}

pub invariant_of-self-2 : goal.invariant_of-self-2
invariant_of-self-2 c =
    in_rows-shorter c.self.inside.path c.shorter.new.self c.self.inside.rows c.put_back.new.self c.self.inside.taken.items c.pop.new.self.items c.in_ok-value.value c.unwrap-count.result c.self.invariant c.in_ok-value.ensures.word
    (c.pop.ensures.items ∙ ap (λ o. c.pop.new.self.items ++ option_to_list o) c.unwrap-count.ensures) c.put_back.ensures.back

pub returns : goal.returns
returns c =
    let s = c.self.inside.path in
    let t = c.shorter.new.self in
    let l = c.self.inside.rows in
    let m = c.put_back.new.self in
    let e = c.in_ok-value.ensures.word in
    record {
      problem = problem-eq t s m l (sym (ap (λ (x : Standing). x.world) e)) (sym (ap (λ (x : Standing). x.root) e)) (ap (λ (x : Listed). x.choices) c.put_back.ensures.back) ∙ ap (λ (p : Place). p.problem) c.self.view_is;
      word = sym (ap (λ (p : Place). p.word) c.self.view_is) ∙ ap (λ (x : Standing). x.word) e;
    }
