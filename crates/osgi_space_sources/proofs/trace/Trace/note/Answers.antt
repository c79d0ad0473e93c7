-- One lead more.
use Rattle.std.proofs.Common.{[], inl, inr, refl, sym, append-nil}
use Rattle.osgi_space_sources.proofs.trace.Trace.note.Goals as goal

pub returns-clause-kept : goal.returns-clause-kept
returns-clause-kept c = record {
  exports = ([], sym (append-nil c.args.self.now.exports));
  users = λ h k u. u;
  leads = λ l at. (c.in_ok-add.ensures.added.exact l).1 (inl at);
}

pub returns-clause-noted : goal.returns-clause-noted
returns-clause-noted c = λ disputed. (c.in_ok-add.ensures.added.exact (record { export = c.args.export; source = c.args.source })).1 (inr refl)
