-- Each of the two is asked for a source that the other lacks.
use Rattle.std.proofs.Common.{◌≡◌, ◌↔◌, Bool, List, subst, IsTrue}
use Rattle.std.proofs.lemmas.Bool.{false≢true}
use Rattle.osgi_space_sources.specs.computed.Clashes.{Lacks}
use Rattle.osgi_space_sources.specs.declared.given.Given.{Given}
use Rattle.osgi_space_sources.proofs.Clashing.{clash-made, clash-ours, clash-theirs}
use Rattle.osgi_space_sources.proofs.clash.lists_clash.Goals as goal

-- an answer about equal lists
of-lists : (answer : Bool) (outer inner outer' inner' : List Given) → outer ≡ outer' → inner ≡ inner' → IsTrue answer ↔ Lacks outer inner → IsTrue answer ↔ Lacks outer' inner'
of-lists answer outer inner outer' inner' e f is = subst (λ xs. IsTrue answer ↔ Lacks xs inner') e (subst (λ xs. IsTrue answer ↔ Lacks outer xs) f is)

pub returns-then-not-branch : goal.returns-then-not-branch
returns-then-not-branch c =
    let ours = c.in_ok-ours.ours.items in
    let theirs = c.in_ok-theirs.theirs.items in
    let first = of-lists c.in_ok-lacks.field-0 c.as_slice.result.now c.as_slice-2.result.now theirs ours c.as_slice.ensures.value c.as_slice-2.ensures.value c.in_ok-lacks.ensures.lacks in
    record {
      clash = (
        λ t. absurd (false≢true t),
        λ clash. let yes = first.1 (clash-ours c.args.rows.now c.args.revision c.args.pair.source c.args.pair.package ours theirs c.in_ok-ours.ensures.sources c.in_ok-theirs.ensures.sources clash) in
            let no = c.if-not-branch.true in cc,
      );
    }

pub returns : goal.returns
returns c =
    let ours = c.in_ok-ours.ours.items in
    let theirs = c.in_ok-theirs.theirs.items in
    let R = c.args.rows.now in
    let r = c.args.revision in
    let e = c.args.pair.source in
    let u = c.args.pair.package in
    let first = of-lists c.in_ok-lacks.field-0 c.as_slice.result.now c.as_slice-2.result.now theirs ours c.as_slice.ensures.value c.as_slice-2.ensures.value c.in_ok-lacks.ensures.lacks in
    let second = of-lists c.in_ok-lacks-2.field-0 c.as_slice-3.result.now c.as_slice-4.result.now ours theirs c.as_slice-3.ensures.value c.as_slice-4.ensures.value c.in_ok-lacks-2.ensures.lacks in
    record {
      clash = (
        λ t. clash-made R r e u ours theirs c.in_ok-ours.ensures.sources c.in_ok-theirs.ensures.sources (first.0 c.if-not-branch.false) (second.0 t),
        λ clash. second.1 (clash-theirs R r e u ours theirs c.in_ok-ours.ensures.sources c.in_ok-theirs.ensures.sources clash),
      );
    }
