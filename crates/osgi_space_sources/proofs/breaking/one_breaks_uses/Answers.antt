-- One of the revisions breaks a constraint if one of those does that may.
use Rattle.std.proofs.Common.{◌↔◌, ℕ, List, subst, Any, IsTrue}
use Rattle.osgi_space_sources.specs.computed.Amongst.{IsAmong}
use Rattle.osgi_space_sources.specs.computed.Clashes.{BreaksUses}
use Rattle.osgi_space_sources.specs.laws.Adding.{any-in, any-of}
use Rattle.osgi_space_sources.proofs.breaking.one_breaks_uses.Goals as goal

pub returns : goal.returns
returns c =
    let P : ℕ → Type 0 = BreaksUses c.args.rows.now (IsAmong c.args.among) in
    let revisions = c.args.revisions.now in
    let asked = c.in_ok-asked.asked.items in
    let answer = c.in_ok-one_breaks_together.field-0 in
    let breaks : IsTrue answer ↔ Any P asked = subst (λ (xs : List ℕ). IsTrue answer ↔ Any P xs) c.as_slice.ensures.value c.in_ok-one_breaks_together.ensures.breaks in
    record {
      breaks = (
        λ t. let any = breaks.0 t in any-of P revisions any.1 (c.in_ok-asked.ensures.those any.1 (any-in P asked any)) any.4,
        λ any. breaks.1 (any-of P asked any.1 (c.in_ok-asked.ensures.all any.1 (any-in P revisions any) any.4) any.4),
      );
    }
