-- A clause that is read is added to those before it, or is the first faulty one.
use Rattle.std.proofs.Common.{ℕ, ◌+◌, List, [], ◌∷◌, sym, refl, subst, take}
use Rattle.std.specs.Prelude.{filter}
use Rattle.osgi_header.specs.declared.clause.Clause.{Clause}
use Rattle.osgi_package.specs.Only.{IsOnly}
use Rattle.osgi_clause.specs.ClauseFaults.{clauses_of}
use Rattle.osgi_clause.specs.computed.Answers.{IsAdded}
use Rattle.osgi_clause.specs.Members.{AreMade}
use Rattle.osgi_clause.proofs.Made.{along, filter_only, none_only}
use Rattle.osgi_clause.proofs.Walks.{clauses_push, faulty_at, fine_next, fine_none}
use Rattle.osgi_clause.proofs.members.members.Goals as goal

pub loop-item-init : goal.loop-item-init
loop-item-init g c = record {
  fine = fine_none (λ (before : List Clause). g.R.ClauseReader.faults);
  made = subst (IsOnly (AreMade g.R.ClauseReader.makes [])) (sym c.in_ok-items.ensures.empty) (none_only g.R.ClauseReader.makes);
}

pub returns-in-Some : goal.returns-in-Some
returns-in-Some g c =
    let reader = g.R.ClauseReader in
    let clause = c.item-item.result.clause in
    let faulty = subst (IsAdded (reader.faults clause) (AreMade reader.makes (filter reader.takes (clause ∷ []))) c.loop-item.items c.add_clause.new.items) c.in-Some.is c.in_ok-kind.ensures.added in
    record {
      walked = faulty_at (λ (before : List Clause). reader.faults) c.args.clauses.now c.loop-item.item-index c.item-item.result _ c.loop-item-test.true c.item-item.is
          c.loop-item.invariant.fine faulty refl;
    }

pub loop-item-preserved : goal.loop-item-preserved
loop-item-preserved g c =
    let reader = g.R.ClauseReader in
    let i : ℕ = c.loop-item.item-index in
    let items = c.args.clauses.now in
    let item = c.item-item.result in
    let added = subst (IsAdded (reader.faults item.clause) (AreMade reader.makes (filter reader.takes (item.clause ∷ []))) c.loop-item.items c.add_clause.new.items) c.in_default.is c.in_ok-kind.ensures.added in
    let faults = λ (before : List Clause). reader.faults in
    record {
      fine = fine_next faults items i item c.loop-item-test.true c.item-item.is c.loop-item.invariant.fine added.0;
      made = subst (IsOnly (AreMade reader.makes (filter reader.takes (clauses_of (take (i + 1) items))))) (sym added.1.1)
          (along (λ l. AreMade reader.makes (filter reader.takes l)) _ _ _ (sym (clauses_push faults items i item c.loop-item-test.true c.item-item.is))
          (filter_only reader.makes reader.takes (clauses_of (take i items)) (item.clause ∷ []) c.loop-item.items added.1.0 c.loop-item.invariant.made added.1.2));
    }
