-- The exports of an end that is new are noted before it is.
use Rattle.std.proofs.Common.{inl, inr, refl, sym, subst}
use Rattle.osgi_space_sources.specs.computed.Disputes.{IsNotedEnd, IsNoted}
use Rattle.osgi_space_sources.specs.computed.RowSources.{HasExport}
use Rattle.osgi_space_sources.specs.laws.Noted.{extends-ends, extends-same}
use Rattle.osgi_space_sources.proofs.disputed.note_end.Goals as goal

pub returns-then-has_end : goal.returns-then-has_end
returns-then-has_end c = record {
  noted = c.has_end.ensures.has.0 c.if-has_end.true;
  extends = extends-same c.args.rows.now c.args.possible.now;
}

pub returns-in_err-note_exports-clause-extends : goal.returns-in_err-note_exports-clause-extends
returns-in_err-note_exports-clause-extends c = extends-ends c.args.rows.now c.args.possible.now c.note_exports.new.possible c.note_exports.ensures.nothing_lost c.note_exports.ensures.ends

pub returns : goal.returns
returns c =
    let R = c.args.rows.now in
    let old = c.args.possible.now in
    let noted = c.note_exports.new.possible in
    let same = c.note_exports.ensures.ends in
    let put = c.in_ok-insert.ensures.put in
    record {
      noted = (put c.args.revision).1 (inr refl);
      extends = record {
        sources = c.note_exports.ensures.nothing_lost;
        ends = λ x end. (put x).1 (inl (subst (λ set. IsNotedEnd (record old.disputed { ends = set }) x) (sym same) end));
        exports = λ x end. elim ((put x).0 end) [
          | inl before ↦ inl (subst (λ set. IsNotedEnd (record old.disputed { ends = set }) x) same before)
          | inr e ↦ inr (subst (λ y. (p : _) → HasExport R y p → IsNoted noted p y) e c.in_ok-note_exports.ensures.noted)
        ];
      };
    }

-- a set that stays as it was loses and gains no end
pub returns-in_err-insert-clause-extends : goal.returns-in_err-insert-clause-extends
returns-in_err-insert-clause-extends c =
    let old = c.args.possible.now in
    let noted = c.note_exports.new.possible in
    let same = c.note_exports.ensures.ends in
    let still = c.in_err-insert.ensures.unchanged in
    record {
      sources = c.note_exports.ensures.nothing_lost;
      ends = λ x end. (still x).1 (subst (λ set. IsNotedEnd (record old.disputed { ends = set }) x) (sym same) end);
      exports = λ x end. inl (subst (λ set. IsNotedEnd (record old.disputed { ends = set }) x) same ((still x).0 end));
    }
