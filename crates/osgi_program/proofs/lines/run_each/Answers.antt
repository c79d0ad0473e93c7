-- One line after another runs, up to one that could not.
use Rattle.std.proofs.Common.{◌≡◌, ◌+◌, ◌++◌, ◌∷◌, [], List, ap, sym, subst, ◌∙◌, append-nil, take, drop}
use Rattle.std.proofs.lemmas.List.{drop_more, take_more, take-append-drop}
use Rattle.osgi_runner.specs.laws.Passes.{grows, grows_further}
use Rattle.osgi_runner.specs.Passes.{calls_of, has_seen}
use Rattle.osgi_session.specs.Scripts.{sections_of}
use Rattle.osgi_session.specs.Sessions.{over}
use Rattle.osgi_session.specs.declared.line.Line.{Line}
use Rattle.osgi_program.proofs.Runs.{cut_line, one_more, SoFar}
use Rattle.osgi_program.proofs.lines.run_each.Goals as goal

pub loop-line-init : goal.loop-line-init
loop-line-init g c = record { so_far = record { made = []; is = sym (append-nil (calls_of c.args.pass.now)); lane = over }; grown = grows c.args.pass.now }

-- the pass is still that of caller 0 in the hall
pub run_line-requires-clause-hall : goal.run_line-requires-clause-hall
run_line-requires-clause-hall g c = λ κs lives. let same = c.loop-line.invariant.grown.same in (same.hall ∙ c.requires.hall.0, same.setting ∙ c.requires.hall.1)

pub run_line-requires-clause-first : goal.run_line-requires-clause-first
run_line-requires-clause-first g c = λ κs lives. c.loop-line.invariant.grown.same.caller ∙ c.requires.first

pub loop-line-preserved : goal.loop-line-preserved
loop-line-preserved g c =
    let lines : List Line = c.args.lines.now in
    let i = c.loop-line.line-index in
    let line = c.line-item.result in
    let more : take (i + 1) lines ≡ take i lines ++ line ∷ []
    = take_more lines i line c.loop-line-test.true ∙ ap (λ (x : Line). take i lines ++ x ∷ []) (sym c.line-item.is) in
    record {
      so_far = subst (λ (front : List Line). SoFar (sections_of c.args.runner.now.scripts.now) front (calls_of c.args.pass.now) (calls_of c.run_line.new.pass)) (sym more)
          (one_more (sections_of c.args.runner.now.scripts.now) (has_seen (g.M.Framework.runs_under c.args.runner.now.hall.now.setting).bounds.entries c.run_line.new.pass) (take i lines) line _ _ _ c.loop-line.invariant.so_far c.in-All.ensures.line);
      grown = grows_further c.args.pass.now c.loop-line.pass c.run_line.new.pass c.loop-line.invariant.grown c.run_line.ensures.grown;
    }

pub returns-in_default : goal.returns-in_default
returns-in_default g c =
    let lines : List Line = c.args.lines.now in
    let i = c.loop-line.line-index in
    let line = c.line-item.result in
    let rest : drop i lines ≡ line ∷ drop (i + 1) lines
    = drop_more lines i line c.loop-line-test.true ∙ ap (λ (x : Line). x ∷ drop (i + 1) lines) (sym c.line-item.is) in
    let split : lines ≡ take i lines ++ line ∷ drop (i + 1) lines
    = sym (take-append-drop i lines) ∙ ap (λ (l : List Line). take i lines ++ l) rest in
    record {
      grown = grows_further c.args.pass.now c.loop-line.pass c.run_line.new.pass c.loop-line.invariant.grown c.run_line.ensures.grown;
      lines = cut_line c.run_line.result (sections_of c.args.runner.now.scripts.now) (has_seen (g.M.Framework.runs_under c.args.runner.now.hall.now.setting).bounds.entries c.run_line.new.pass) lines (take i lines) line (drop (i + 1) lines) _ _ _ split c.loop-line.invariant.so_far
          c.in_default.not-All c.run_line.ensures.line;
    }
