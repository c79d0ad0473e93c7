-- The current revisions of both.
use Rattle.std.proofs.Common.{◌≡◌, ◌∙◌, subst, sym}
use Rattle.std.specs.Prelude.{Some}
use Rattle.osgi_ops.specs.Assignable.{AreAssignable, package_of}
use Rattle.osgi_world.specs.declared.world.Known.{Known}
use Rattle.osgi_loader.proofs.assigning.is_assignable.Goals as goal

pub returns : goal.returns
returns c =
    let r : Known = c.in-Some.ours.now in
    let s : Known = c.in-Some-current.theirs.now in
    let p = package_of c.args.class.now in
    record {
      assignable = (
        λ t. record { r = r; s = s; has = sym c.in-Some.ensures.current; asks = sym c.in-Some-current.ensures.current; are = c.in_ok-assignable.ensures.assignable.0 t },
        λ is.
            let first : Some is.r ≡ Some r = sym is.has ∙ sym c.in-Some.ensures.current in
            let second : Some is.s ≡ Some s = sym is.asks ∙ sym c.in-Some-current.ensures.current in
            let same_r : is.r ≡ r = cc first in
            let same_s : is.s ≡ s = cc second in
            c.in_ok-assignable.ensures.assignable.1 (subst (λ (k : Known). AreAssignable c.args.wirings.now.world k.id s.id p) same_r (subst (λ (k : Known). AreAssignable c.args.wirings.now.world is.r.id k.id p) same_s is.are)),
      );
    }
