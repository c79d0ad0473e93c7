-- The item goes out.
use Rattle.std.proofs.Common.{inr, subst, sym}
use Rattle.osgi_links.specs.Held.{Held}
use Rattle.osgi_candidate_rows.specs.computed.Gone.{Tells}
use Rattle.osgi_candidate_rows.proofs.taking.take_out_item.Goals as goal

pub unlink-requires : goal.unlink-requires
unlink-requires c = record { item = c.requires.live (c.is_left.ensures.left c.args.rows.now.removed c.requires.gone c.if-not-is_left.false) }

pub returns : goal.returns
returns c = record {
  taken = inr (c.in-Some.ensures.1, c.unlink.ensures.removed);
  gone = subst (λ (h : Held). Tells c.note.new.self h.removed) (sym c.unlink.ensures.removed)
      (c.in-Ok.ensures.noted c.args.rows.now.removed c.requires.gone (c.is_left.ensures.left c.args.rows.now.removed c.requires.gone c.if-not-is_left.false));
}
