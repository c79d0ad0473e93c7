-- Nothing is added where nothing can be used, nor of a source from which no constraints may come.
use Rattle.osgi_space_sources.specs.laws.Adding.{adds-nothing, adds-same}
use Rattle.osgi_space_sources.proofs.Using.{use-may}
use Rattle.osgi_space_sources.proofs.constraints.add_uses_among.Goals as goal

pub returns-then-not-may_use : goal.returns-then-not-may_use
returns-then-not-may_use c = record {
  added =
      adds-nothing _ c.args.found.now (λ g both. let yes = c.may_use.ensures.uses.1 (use-may c.args.rows.now c.args.given.source c.args.given.package g both.1) in let no = c.if-not-may_use.true in cc);
}

pub returns-then-not-has : goal.returns-then-not-has
returns-then-not-has c = record {
  added =
      adds-nothing _ c.args.found.now (λ g both. let yes = c.has.ensures.among.1 both.0 in let no = c.if-not-has.true in cc);
}

pub returns : goal.returns
returns c = record { added = adds-same (λ g. (λ uses. (c.has.ensures.among.0 c.if-not-has.false, uses), λ both. both.1)) c.in_ok-add_uses.ensures.added }
